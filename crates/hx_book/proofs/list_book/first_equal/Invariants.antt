use Rattle.std.proofs.Common.{◌≡◌, drop}
use Rattle.std.specs.List.{find}
use Rattle.hx_book.specs.Book.{is_equal}
use Rattle.hx_book.proofs.list_book.first_equal.Given as goal

abbrev pub invariant-loop-live : goal.invariant-loop-live
invariant-loop-live l = find (is_equal l.terms l.with) (drop l.live-index l.entries) ≡ find (is_equal l.terms l.with) l.entries
