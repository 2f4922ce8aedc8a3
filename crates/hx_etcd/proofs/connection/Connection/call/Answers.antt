use Rattle.std.proofs.Common.{◌≡◌, ◌&&◌, not, Bool, length, rules, refl, sym, ap, ◌∙◌}
use Rattle.std.specs.Prelude.{◌==◌}
use Rattle.hx_etcd.specs.Connections.{IsCallFault}
use Rattle.hx_etcd.proofs.Calls.{head_fails, body_fails, answer_comes}
use Rattle.hx_etcd.proofs.connection.Connection.call.Goals.{then-head, else-head}
use Rattle.hx_etcd.proofs.connection.Connection.call.Goals as goal

pub returns-in_err-head-clause-fault : goal.returns-in_err-head-clause-fault
returns-in_err-head-clause-fault g c goes_on =
    let fault : IsCallFault (g.R.Read.remaining c.args.self.now.inlet.reader) (g.R.Read.remaining c.next_head.new.self.reader) c.args.self.now.inlet.unread.items c.in_err-head.field-0.0 =
    head_fails _ _ _ c.in_err-head.field-0.0 c.in_err-head.ensures.err in
    search (rules, fault)

pub returns-in_err-body-clause-fault : goal.returns-in_err-body-clause-fault
returns-in_err-body-clause-fault g c goes_on =
    let fault : IsCallFault (g.R.Read.remaining c.args.self.now.inlet.reader) (g.R.Read.remaining c.next_body.new.self.reader) c.args.self.now.inlet.unread.items c.in_err-body.field-0.0 =
    body_fails _ _ _ _ _ c.in_ok-head.head c.in_ok-head.ensures.ok c.in_err-body.field-0.0 c.in_err-body.ensures.err in
    search (rules, fault)

pub returns-clause-read : goal.returns-clause-read
returns-clause-read g c =
    let both : c.if-head.self ≡ (c.in_ok-head.head.is_persistent && (length c.next_body.new.self.unread.items == 0)) =
    elim c.if-head.branch [
      | then-head w ↦ w.self-is ∙ w.is_clear.ensures ∙ ap (λ (t : Bool). t && (length c.next_body.new.self.unread.items == 0)) (sym w.if-head.true)
      | else-head w ↦ w.self-is ∙ w.if-head.false ∙ ap (λ (t : Bool). t && (length c.next_body.new.self.unread.items == 0)) (sym w.if-head.false)
    ] in
    answer_comes _ _ _ _ _ c.in_ok-head.head c.in_ok-head.ensures.ok _ (record { status = c.in_ok-head.head.status; body = c.in_ok-body.body }) _ c.in_ok-body.ensures.ok refl (ap not both)
