use Rattle.hx_fenced_log.proofs.Copies.{taken}
use Rattle.hx_fenced_log.proofs.terms.copy.read_records.Goals as goal

pub returns-clause-only : goal.returns-clause-only
returns-clause-only c = taken c.read_all.result c.args.text.now c.read_all.ensures.ok c.read_all.ensures.fault
