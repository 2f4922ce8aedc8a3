use Rattle.std.proofs.Common.{◌∙◌, rules}
use Rattle.std.specs.Prelude.{IsTrue}
use Rattle.hx_fenced_log.proofs.Standing.{durable_ok}
use Rattle.hx_fenced_log.proofs.log.writer.LogWriter.keep.Goals as goal

pub returns-in-Ok-clause-ok : goal.returns-in-Ok-clause-ok
returns-in-Ok-clause-ok g c =
    let yes : IsTrue c.is_active.result = search rules in
    durable_ok c.append.result (g.L.Log.committed c.args.log.now) (g.L.Log.committed c.append.new.log) c.args.self.now c.append.new.self c.in-Ok.next c.args.text.items c.append.ensures.grows (c.is_active.ensures.0 yes)
    (c.in-Ok.ensures.head ∙ c.in-Some.ensures.1) c.in-Ok.ensures.of_log.lines c.in-Ok.ensures.lines c.append.ensures.ok c.append.ensures.stands
