use Rattle.std.proofs.Common.{◌≡◌, ◌∙◌, List, length, take, ap, sym, subst}
use Rattle.hx_desk.specs.declared.entry.Entry.{Entry}
use Rattle.hx_desk.specs.Desks.{DeskState, published_of}
use Rattle.hx_engine.specs.Journals.{unspoken}
use Rattle.hx_desk.specs.Entries.{restored}
use mathlib.Core.List.{IsPrefix}
use Rattle.hx_engine.proofs.HeldLaws.{begins_before}
use Rattle.hx_engine.proofs.PassLaws.{history_known, knows_whole}
use Rattle.hx_engine.proofs.exchange.Exchange.vouch.Goals as goal

pub returns-clause-durable : goal.returns-clause-durable
returns-clause-durable g c =
    let held = c.deref_mut-held.result.now in
    let desk = c.inform.new.self in
    let knows : c.inform.new.reader.known ≡ desk.published = c.inform.ensures.known ∙ ap (λ (d : DeskState). d.published) (sym c.inform.ensures.same) in
    c.again.ensures.receipt ∙ held.covered
    ∙ ap (λ (h : List Entry). record { log = g.V.Venue.durable; known = unspoken h })
    (ap published_of (sym c.inform.ensures.same) ∙ sym (history_known desk c.inform.new.reader.known c.stands.ensures.standing knows))

pub returns-clause-whole : goal.returns-clause-whole
returns-clause-whole g c =
    let held = c.deref_mut-held.result.now in
    let desk = c.inform.new.self in
    let knows : c.inform.new.reader.known ≡ desk.published = c.inform.ensures.known ∙ ap (λ (d : DeskState). d.published) (sym c.inform.ensures.same) in
    knows_whole g.V.Venue.setup desk c.inform.new.reader.known c.stands.ensures.standing (ap (λ (d : DeskState). d.setup) c.inform.ensures.same ∙ held.of_setup) knows

pub returns-clause-before : goal.returns-clause-before
returns-clause-before g c =
    let held = c.deref_mut-held.result.now in
    let desk = c.inform.new.self in
    let before = g.V.Venue.before in
    let knows : c.inform.new.reader.known ≡ desk.published = c.inform.ensures.known ∙ ap (λ (d : DeskState). d.published) (sym c.inform.ensures.same) in
    let began : take (length before) (published_of desk) ≡ restored before = ap (λ (d : DeskState). take (length before) (published_of d)) c.inform.ensures.same ∙ held.began in
    subst (λ (h : List Entry). IsPrefix (restored before) h) (sym (history_known desk c.inform.new.reader.known c.stands.ensures.standing knows)) (begins_before before (published_of desk) began)
