use Rattle.hx_fenced_log.proofs.Spelling.{read_as}
use Rattle.hx_fenced_log.proofs.terms.text.read_record.Goals as goal

pub returns-clause-only : goal.returns-clause-only
returns-clause-only c = read_as c.read.result c.args.text.now c.read.ensures.ok c.read.ensures.fault
