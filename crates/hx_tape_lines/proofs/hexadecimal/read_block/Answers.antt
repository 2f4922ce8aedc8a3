use Rattle.std.proofs.Common.{◌+◌, ◌-◌, sym, ap, subst, ◌∙◌, arith}
use Rattle.hex.specs.Hex.{encode_lower, IsBytes}
use Rattle.hx_tape_lines.proofs.Blocks.{block_read, block_none}
use Rattle.hx_tape_lines.proofs.hexadecimal.read_block.Goals as goal

pub returns-in_default-clause-no : goal.returns-in_default-clause-no
returns-in_default-clause-no c _ = block_none c.args.text.now c.args.index (λ bytes fits is. c.in_default.ensures.none bytes fits (c.array_at.ensures ∙ is))

pub returns-clause-yes : goal.returns-clause-yes
returns-clause-yes c _ later =
    let after = c.copy_from_slice.ensures.after in
    let index = c.args.index in
    block_read c.args.text.now c.args.bytes.now c.copy_from_slice.new.self index (index + 16 - index) (omega arith) c.requires.within
    (sym c.array_at.ensures ∙ c.in-Some.ensures.some.0 ∙ ap encode_lower (sym after)) (subst IsBytes (sym after) c.in-Some.ensures.some.1) later
