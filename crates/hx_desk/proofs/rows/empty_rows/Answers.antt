use Rattle.std.proofs.Common.{◌≡◌, ℕ, List, [], replicate, ap, ◌∙◌, arith}
use Rattle.hx_desk.proofs.rows.empty_rows.Goals as goal

pub returns-clause-rows : goal.returns-clause-rows
returns-clause-rows c = c.loop-number.invariant.1 ∙ ap (λ (k : ℕ). replicate {A = List (List ℕ)} k []) (let e : c.loop-number._number ≡ 4096 = omega arith in e)
