use Rattle.std.proofs.Common.{◌≡◌, ◌∙◌, take, ap, sym}
use Rattle.hx_desk.specs.Desks.{DeskState}
use Rattle.hx_engine.proofs.PassLaws.{still_sent, audited}
use Rattle.hx_engine.proofs.exchange.Exchange.audit.Goals as goal

pub invariant_of-pass : goal.invariant_of-pass
invariant_of-pass g c =
    let i = c.pass.invariant in
    let r = c.renew.ensures in (
      i.0,
      i.1,
      ap (λ t. t.log) r.receipt ∙ (ap (λ (d : DeskState). d.log) c.inform.ensures.same ∙ c.deref_mut-held.result.now.named),
      i.3,
      i.4,
      i.5,
      still_sent c.pass.inside.number (take c.pass.inside.published_end c.pass.inside.sent.items) c.pass.inside.knows.known c.inform.new.self.published c.renew.new.receipt.known r.begins (ap (λ t. t.known) r.receipt) i.6,
      i.7,
    )

pub invariant_of-pass-2 : goal.invariant_of-pass-2
invariant_of-pass-2 g c =
    let i = c.pass.invariant in
    let r = c.renew.ensures in (
      i.0,
      i.1,
      ap (λ t. t.log) r.receipt ∙ (ap (λ (d : DeskState). d.log) c.inform.ensures.same ∙ c.deref_mut-held.result.now.named),
      i.3,
      i.4,
      i.5,
      still_sent c.pass.inside.number (take c.pass.inside.published_end c.pass.inside.sent.items) c.pass.inside.knows.known c.inform.new.self.published c.renew.new.receipt.known r.begins (ap (λ t. t.known) r.receipt) i.6,
      i.7,
    )

pub returns-clause-ok : goal.returns-clause-ok
returns-clause-ok g c =
    let i = c.pass.invariant in
    let r = c.renew.ensures in
    let desk = c.renew.new.self in
    let held = c.deref_mut-held.result.now in
    let same : desk ≡ held.desk = r.same ∙ c.inform.ensures.same in
    audited g.V.Venue.setup desk c.in_ok-history.history.items c.inform.new.reader _ c.stands.ensures.standing c.stands.ensures.secret (ap (λ (d : DeskState). d.setup) same ∙ held.of_setup)
    c.in_ok-history.ensures
    (c.inform.ensures.known ∙ ap (λ (d : DeskState). d.published) (sym same))
    (ap (λ t. t.known) r.receipt ∙ ap (λ (d : DeskState). d.published) (sym r.same))
    (still_sent c.pass.inside.number (take c.pass.inside.published_end c.pass.inside.sent.items) c.pass.inside.knows.known c.inform.new.self.published c.renew.new.receipt.known r.begins (ap (λ t. t.known) r.receipt) i.6)
