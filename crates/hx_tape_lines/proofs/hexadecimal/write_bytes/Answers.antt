use Rattle.std.proofs.Common.{◌≡◌, ◌+◌, ◌-◌, ◌*◌, ◌++◌, drop, length, ap, ◌∙◌, arith}
use Rattle.hex.specs.Hex.{encode_lower}
use Rattle.hx_tape_lines.proofs.Blocks.{written_later, all_written}
use Rattle.hx_tape_lines.proofs.hexadecimal.write_bytes.Goals as goal

pub returns-then-write_blocks-gt0-clause-written : goal.returns-then-write_blocks-gt0-clause-written
returns-then-write_blocks-gt0-clause-written c =
    let bytes = c.args.bytes.now in
    let start = c.args.end - 2 * length bytes in
    let end : start + 2 * length bytes ≡ c.args.end = omega (arith, c.requires.0) in
    let later = drop (start + 2 * length bytes) c.args.text.now in
    let blocks = written_later bytes c.write_blocks-2.new.text later start c.write_blocks-2.result 16 (omega (arith, c.write_blocks-2.ensures.few.0)) (omega arith) c.write_blocks-2.ensures.written in
    all_written bytes c.write_block.new.text later start 0 (omega arith) (c.write_block.ensures later blocks)
    ∙ ap (λ n. encode_lower bytes ++ drop n c.args.text.now) end
