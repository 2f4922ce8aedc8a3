use Rattle.std.proofs.Common.{List, ℕ, ◌++◌, map, ap, ◌∙◌}
use Rattle.hx_tape_lines.proofs.Lanes.{in_turn, high, digits_in_turn}
use Rattle.hx_tape_lines.proofs.vectors.digits.Goals as goal

pub returns : goal.returns
returns c = ap (λ (l : List ℕ). in_turn 16 0 (l ++ c.low_digits.result)) c.high_digits.ensures ∙ ap (λ (l : List ℕ). in_turn 16 0 (map high c.args.bytes ++ l)) c.low_digits.ensures ∙ digits_in_turn c.args.bytes c.fits-bytes.0
