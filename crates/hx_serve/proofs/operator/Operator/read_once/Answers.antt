use Rattle.std.proofs.Common.{[]}
use Rattle.hx_serve.proofs.Conducting.{conducts_none, conducts_still, durable_none}
use Rattle.hx_serve.proofs.operator.Operator.read_once.Goals as goal

pub returns-then-eq-clause-ok : goal.returns-then-eq-clause-ok
returns-then-eq-clause-ok g c = ([], durable_none _ _ c.in-Err.ensures.bytes, conducts_still _ _)

pub returns-else-is_empty-clause-err : goal.returns-else-is_empty-clause-err
returns-else-is_empty-clause-err g c = (_, c.in-Ok-eq0.ensures.bytes.0, _, conducts_none _ _)

pub returns-else-eq-clause-err : goal.returns-else-eq-clause-err
returns-else-eq-clause-err g c = ([], durable_none _ _ c.in-Err.ensures.bytes, _, conducts_none _ _)
