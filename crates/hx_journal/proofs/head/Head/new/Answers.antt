use Rattle.std.proofs.Common.{◌≡◌, sym, ap, subst, arith, rules}
use Rattle.std.proofs.lemmas.Grind.{common_steps}
use Rattle.hx_journal.specs.Lines.{IsLine}
use Rattle.hx_journal.specs.Records.{is_mark}
use Rattle.hx_journal.specs.Heads.{head_of}
use Rattle.hx_journal.proofs.Spelling.{line-head}
use Rattle.hx_journal.proofs.head.Head.new.Goals as goal

pub invariant_of-result : goal.invariant_of-result
invariant_of-result c =
    let line : c.extend_from_slice-5.new.self.items ≡ head_of c.args.session.now c.args.day.now c.args.setup.now = grind (arith, common_steps) in (
      subst IsLine (sym line) (line-head c.args.session.now c.args.day.now c.args.setup.now (search rules) (search rules) (search rules)),
      ap is_mark line,
    )
