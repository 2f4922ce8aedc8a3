use Rattle.std.proofs.Common.{◌∙◌, sym}
use Rattle.hx_fenced_log.proofs.Standing.{took_over_ok}
use Rattle.hx_fenced_log.proofs.log.writer.LogWriter.take_over.Goals as goal

pub returns-in-Ok-clause-ok : goal.returns-in-Ok-clause-ok
returns-in-Ok-clause-ok g c =
    took_over_ok c.append.result (g.L.Log.committed c.args.log.now) (g.L.Log.committed c.append.new.log) c.args.self.now c.append.new.self c.in-Ok.first c.append.ensures.grows (c.in-Ok.ensures.head ∙ c.in-Some.ensures.1)
    c.append.ensures.who (sym c.new.ensures.items ∙ c.in-Ok.ensures.lines) c.append.ensures.ok c.append.ensures.stands
