use Rattle.std.proofs.Common.{◌≡◌, [], map, length, replicate}
use Rattle.hx_desk.specs.Rows.{row_texts}
use Rattle.hx_desk.proofs.rows.empty_rows.Given as goal

abbrev pub invariant-loop-number : goal.invariant-loop-number
invariant-loop-number l = (length l.rows.items ≡ l._number) × (map row_texts l.rows.items ≡ replicate l._number [])
