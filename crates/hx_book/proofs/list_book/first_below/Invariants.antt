use Rattle.std.proofs.Common.{◌≡◌, ◌≤◌, length, drop}
use Rattle.std.specs.Option.{option_copied}
use Rattle.hx_book.specs.Rank.{first_of}
use Rattle.hx_book.specs.Book.{is_ahead, is_candidate}
use Rattle.hx_book.proofs.list_book.first_below.Given as goal

abbrev pub invariant-loop-i : goal.invariant-loop-i
invariant-loop-i l = record {
  within : l.i ≤ length l.entries;
  best : option_copied l.best ≡ first_of (is_ahead l.terms.side) (is_candidate l.terms (option_copied l.than)) (drop l.i l.entries);
}

abbrev pub decreases-loop-i : goal.decreases-loop-i
decreases-loop-i l = l.i
