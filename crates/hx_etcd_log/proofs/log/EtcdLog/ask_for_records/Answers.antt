use Rattle.std.proofs.Common.{Bool, sym, ◌∙◌, subst}
use Rattle.hx_etcd_log.specs.EtcdLogs.{asks_of}
use Rattle.hx_etcd_log.specs.Reads.{asking_from}
use Rattle.hx_etcd_log.proofs.Since.{Tried, asked_as, tried_reported, tried_missed}
use Rattle.hx_etcd_log.proofs.log.EtcdLog.ask_for_records.Goals as goal

pub returns-in-Ok-clause-ok : goal.returns-in-Ok-clause-ok
returns-in-Ok-clause-ok g c =
    asked_as _ (asking_from c.args.from) _ _ (c.deref.ensures.value ∙ c.in_ok-request.ensures)
    (tried_reported _ _ _ _ c.loop.invariant.tried c.in-Ok.ensures.ok)

pub loop-preserved : goal.loop-preserved
loop-preserved g c = record {
  known = c.try_to_read.ensures.known ∙ c.loop.invariant.known;
  tried = subst (λ (b : Bool). Tried b (asks_of c.args.self.now) (asks_of c.try_to_read.new.self)) (sym c.lost_after-is_lost.ensures) (tried_missed _ _ _ _ _ c.loop.invariant.tried c.in-Err.ensures.err);
}
