use Rattle.std.proofs.Common.{◌≡◌, true, length}
use Rattle.std.specs.Option.{IfSome}
use Rattle.hx_book.specs.Book.{has_key, KeysDiffer}
use Rattle.hx_levels.specs.LevelBook.{line}
use Rattle.hx_levels.proofs.Lines.{from_next, IsBounded}
use Rattle.hx_levels.proofs.level_book.LevelBook.most_in_line.Given as goal

-- the orders before the next have no more shares than the most so far
abbrev pub invariant-line : goal.invariant-line
invariant-line l =
    let queued = line l.at l.shown l.self.orders in
    record {
      keys : KeysDiffer queued;
      next : IfSome l.next (λ key. has_key key queued ≡ true);
      bounded : IsBounded l.most l.next queued;
    }

abbrev pub decreases-line : goal.decreases-line
decreases-line l = length (from_next l.next (line l.at l.shown l.self.orders))
