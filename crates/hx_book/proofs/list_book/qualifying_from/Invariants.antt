use Rattle.std.proofs.Common.{◌≡◌, length}
use Rattle.std.specs.Option.{IfSome}
use Rattle.hx_book.specs.Book.{IsRanked, ranked, rest_after, next_qualifying}
use Rattle.hx_book.proofs.list_book.qualifying_from.Given as goal

-- the next that qualifies comes after the last that was tried
abbrev pub invariant-walk : goal.invariant-walk
invariant-walk l = record {
  ahead : next_qualifying l.terms l.last l.left l.minimum l.entries ≡ next_qualifying l.terms l.fn.after l.left l.minimum l.entries;
  live : IfSome l.last (λ key. IsRanked l.terms key.0 l.entries);
}

abbrev pub decreases-walk : goal.decreases-walk
decreases-walk l = length (rest_after l.last (ranked l.terms l.entries))
