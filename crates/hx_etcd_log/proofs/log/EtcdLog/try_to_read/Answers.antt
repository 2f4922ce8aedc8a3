use Rattle.std.proofs.Common.{refl, ◌∙◌}
use Rattle.hx_etcd_log.proofs.Since.{one_of, answered, missed}
use Rattle.hx_etcd_log.proofs.log.EtcdLog.try_to_read.Goals as goal

pub returns-in-Some-clause-ok : goal.returns-in-Some-clause-ok
returns-in-Some-clause-ok g c =
    one_of _ _ _ c.in-Ok.ensures.noted (record { asked = refl; answer = c.in-Ok.answer; gave = refl; says = c.in-Some.ensures })

pub returns-in_default-clause-err : goal.returns-in_default-clause-err
returns-in_default-clause-err g c =
    one_of _ _ _ (c.turn.ensures.asks ∙ c.in-Ok.ensures.noted) (answered c.in-Ok.answer.status c.in-Ok.answer.body.items)

pub returns-in-Err-clause-err : goal.returns-in-Err-clause-err
returns-in-Err-clause-err g c =
    missed _ _ _ _ c.in-Err.error (c.turn-in-Err.ensures.asks ∙ c.in-Err.ensures.noted)
