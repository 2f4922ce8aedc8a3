use Rattle.std.proofs.Common.{◌≡◌, ◌∙◌, ◌+◌, List, length, take, ap, sym, subst, arith}
use mathlib.Core.List.{IsPrefix}
use Rattle.std.proofs.lemmas.List.{length-take-le}
use Rattle.hx_blog.specs.Feed.{Entries}
use Rattle.hx_blog.specs.Ends.{ReceiptState}
use Rattle.hx_rules.specs.declared.event.Event.{Event}
use Rattle.hx_desk.specs.declared.entry.Entry.{Entry}
use Rattle.hx_desk.specs.Desks.{DeskState}
use Rattle.hx_engine.proofs.PassLaws.{enters}
use Rattle.hx_engine.specs.declared.entered.Entered.{Entered}
use Rattle.hx_engine.specs.Exchanges.{AreAdmittedUpTo, Enters}
use Rattle.hx_engine.proofs.Refusing.{at_most, refused_at}
use Rattle.hx_engine.proofs.exchange.Exchange.enter.Goals as goal

pub returns-clause-entered : goal.returns-clause-entered
returns-clause-entered g c = λ some.
    let held = c.deref_mut-held.result.now in
    let before : DeskState = c.confirm.new.self in
    let after : DeskState = c.enter_all-made.new.self.desk in
    let known = c.args.knows.now.known in
    let made = c.enter_all-made.ensures in
    let events : List Event = c.args.events.now in
    let count = c.enter_all-made.result.count in
    let knew : IsPrefix known before.published =
    subst (λ (k : Entries Entry). IsPrefix k before.published) (ap (λ (r : ReceiptState Entry). r.known) c.again-known.ensures.receipt)
    (subst (λ (d : DeskState). IsPrefix c.again-known.result.known d.published) (sym c.confirm.ensures.same) c.confirm.ensures.begins) in
    let long : length (take count events) ≡ count = length-take-le count events (at_most g.V.Venue.setup events count c.enter_all-made.result.refused made.outright) in
    subst (λ (r : ReceiptState Entry). Enters g.V.Venue.setup c.args.number (take count events) known r.known c.enter_all-made.result.last) (sym c.publish_at_once.ensures.same.1)
    (enters g.V.Venue.setup before after c.args.number (take count events) known c.note.new.entered.known c.enter_all-made.result.last c.stands.ensures.standing (ap (λ (d : DeskState). d.setup) c.confirm.ensures.same ∙ held.of_setup)
    made.history (made.place some ∙ ap (λ n. length before.history + n) (sym long)) made.last knew (ap (λ (r : ReceiptState Entry). r.known) c.note.ensures.entered))

pub returns-then-is_some-clause-outright : goal.returns-then-is_some-clause-outright
returns-then-is_some-clause-outright g c =
    let events : List Event = c.args.events.now in
    subst (λ (e : Entered). AreAdmittedUpTo g.V.Venue.setup events e.count e.refused) (sym c.none.ensures)
    (refused_at g.V.Venue.setup events 0 c.index-events-0.result c.refuse.result (omega (arith, c.requires.some)) c.index-events-0.is tt c.refuse.ensures.outright)
