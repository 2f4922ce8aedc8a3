use Rattle.std.proofs.Common.{◌≡◌, sym, subst, arith, length, rules}
use Rattle.std.proofs.lemmas.Grind.{common_steps}
use Rattle.hx_journal.specs.Lines.{IsLine}
use Rattle.hx_journal.specs.Marks.{mark_of}
use Rattle.hx_journal.proofs.Spelling.{line-mark}
use Rattle.hx_journal.proofs.mark.spell_mark.Goals as goal

pub returns-clause-is_line : goal.returns-clause-is_line
returns-clause-is_line c =
    let line : c.extend_from_slice-4.new.self.items ≡ mark_of c.args.first_number (length c.args.lines.now) c.args.previous c.crc32-sum.result = grind (arith, common_steps) in
    subst IsLine (sym line) (line-mark c.args.first_number (length c.args.lines.now) c.args.previous c.crc32-sum.result
    (search rules) (search rules) (omega (arith, c.ranges.previous.fits)) (omega (arith, c.crc32-sum.type_inv)))
