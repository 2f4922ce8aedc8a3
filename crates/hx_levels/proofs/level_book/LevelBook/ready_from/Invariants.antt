use Rattle.std.proofs.Common.{◌≡◌, length}
use Rattle.std.specs.List.{find}
use Rattle.std.specs.Option.{IfSome}
use Rattle.hx_book.specs.Book.{IsRanked, ranked, rest_after}
use Rattle.hx_levels.specs.LevelBook.{number_in, unconditional}
use Rattle.hx_levels.specs.Walks.{is_from}
use Rattle.hx_levels.proofs.level_book.LevelBook.ready_from.Given as goal

-- the next that passes comes after the last that was tried
abbrev pub invariant-walk : goal.invariant-walk
invariant-walk l =
    let line = ranked l.terms (unconditional l.self.orders) in
    let test = is_from (number_in l.self.linked_orders) l.from l.least in
    record {
      ahead : find test (rest_after l.last line) ≡ find test (rest_after l.fn.start line);
      live : IfSome l.last (λ key. IsRanked l.terms key.0 (unconditional l.self.orders));
    }

abbrev pub decreases-walk : goal.decreases-walk
decreases-walk l = length (rest_after l.last (ranked l.terms (unconditional l.self.orders)))
