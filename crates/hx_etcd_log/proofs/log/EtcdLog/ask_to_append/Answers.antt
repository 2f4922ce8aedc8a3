use Rattle.std.proofs.Common.{ℕ, Bool, ap, sym, ◌∙◌, subst}
use Rattle.hx_fenced_log.specs.declared.terms.head.Head.{Head}
use Rattle.hx_etcd.specs.Answers.{IsAppended}
use Rattle.hx_etcd_log.specs.Asks.{OneSince, Tells}
use Rattle.hx_etcd_log.specs.EtcdLogs.{asks_of}
use Rattle.hx_etcd_log.specs.Appends.{appending}
use Rattle.hx_etcd_log.proofs.Since.{Tried, asked_as, tried_reported, tried_missed}
use Rattle.hx_etcd_log.proofs.log.EtcdLog.ask_to_append.Goals as goal

pub returns-in-Ok-clause-ok : goal.returns-in-Ok-clause-ok
returns-in-Ok-clause-ok g c =
    subst (λ (n : ℕ). OneSince (Tells (appending c.args.next.now) (λ answer. IsAppended n answer c.in-Ok.said)) (asks_of c.args.self.now) (asks_of c.try_to_append.new.self))
    (ap (λ (h : Head). h.number) c.head-number.ensures.head)
    (asked_as _ (appending c.args.next.now) _ _ (c.deref.ensures.value ∙ c.in_ok-request.ensures)
    (tried_reported _ _ _ _ c.loop.invariant.tried c.in-Ok.ensures.ok))

pub loop-preserved : goal.loop-preserved
loop-preserved g c = record {
  known = c.try_to_append.ensures.known ∙ c.loop.invariant.known;
  tried = subst (λ (b : Bool). Tried b (asks_of c.args.self.now) (asks_of c.try_to_append.new.self)) (sym c.lost_after-is_lost.ensures) (tried_missed _ _ _ _ _ c.loop.invariant.tried c.in-Err.ensures.err);
}
