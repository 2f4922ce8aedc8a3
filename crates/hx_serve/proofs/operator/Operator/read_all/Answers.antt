use Rattle.std.proofs.Common.{[]}
use Rattle.std.proofs.KnownBytes.{Consumes-nil}
use Rattle.hx_serve.proofs.Conducting.{conducts_none, goes_on, some_more}
use Rattle.hx_serve.proofs.operator.Operator.read_all.Goals as goal

pub loop-init : goal.loop-init
loop-init g c = ([], Consumes-nil _, rw (c.requires) (conducts_none [] _))

pub returns-in-Err-clause-err : goal.returns-in-Err-clause-err
returns-in-Err-clause-err g c =
    let k = c.in-Err.ensures.err in
    let h = some_more _ _ _ _ k.2 _ _ _ c.loop.invariant (k.0, k.1, k.3) in
    (h.0, h.1, k.2, h.2)

pub loop-preserved : goal.loop-preserved
loop-preserved g c = some_more _ _ _ _ _ _ _ _ c.loop.invariant (goes_on _ _ _ _ _ _ _ c.in-Ok-true.field-0-test c.in-Ok-true.ensures.ok)

pub returns-then-is_some-clause-err : goal.returns-then-is_some-clause-err
returns-then-is_some-clause-err g c =
    let h = some_more _ _ _ _ _ _ _ _ c.loop.invariant (goes_on _ _ _ _ _ _ _ c.in-Ok-true.field-0-test c.in-Ok-true.ensures.ok) in
    (h.0, h.1, _, h.2)
