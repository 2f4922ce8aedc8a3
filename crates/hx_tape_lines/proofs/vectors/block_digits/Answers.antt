use Rattle.std.proofs.Common.{List, ℕ, ◌++◌, ap, ◌∙◌, refl, arith}
use Rattle.hx_tape_lines.proofs.Lanes.{both_written}
use Rattle.hx_tape_lines.proofs.vectors.block_digits.Goals as goal

pub returns : goal.returns
returns c =
    both_written c.copy_from_slice.new.self c.copy_from_slice-2.new.self _ (omega (arith, c.copy_from_slice.ensures.len)) refl
    ∙ ap (λ (l : List ℕ). l ++ c.copy_from_slice-2.new.self) c.copy_from_slice.ensures.after ∙ ap (λ (l : List ℕ). c.digits.result.0 ++ l) c.copy_from_slice-2.ensures.after ∙ c.digits.ensures
