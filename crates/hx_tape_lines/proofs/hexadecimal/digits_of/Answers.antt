use Rattle.std.proofs.Common.{List, ℕ, take, ap, ◌∙◌}
use Rattle.std.proofs.lemmas.List.{length-take-le}
use Rattle.hex.specs.Hex.{encode_lower}
use Rattle.hx_tape_lines.proofs.Blocks.{front_digits}
use Rattle.hx_tape_lines.proofs.hexadecimal.digits_of.Goals as goal

pub returns : goal.returns
returns g c =
    c.array_at.ensures ∙ ap (λ (l : List ℕ). take g.row.M l) c.block_digits.ensures
    ∙ front_digits c.copy_from_slice.new.self _ g.row.N g.row.M (c.copy_from_slice.ensures.len ∙ length-take-le g.row.N _ c.requires.0) c.requires.1 ∙ ap encode_lower c.copy_from_slice.ensures.after
