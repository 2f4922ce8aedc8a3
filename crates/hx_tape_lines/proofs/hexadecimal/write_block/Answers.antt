use Rattle.std.proofs.Common.{refl, ap, ◌∙◌, arith}
use Rattle.hex.specs.Hex.{encode_lower}
use Rattle.hx_tape_lines.proofs.Blocks.{block_written}
use Rattle.hx_tape_lines.proofs.hexadecimal.write_block.Goals as goal

pub returns : goal.returns
returns g c = λ later written.
    block_written c.args.bytes.now c.args.text.now later _ c.args.start c.args.index g.row.N _ _ c.requires.within c.requires.room refl (omega arith)
    (c.copy_from_slice.ensures.after ∙ c.digits_of.ensures ∙ ap encode_lower c.array_at.ensures) written
