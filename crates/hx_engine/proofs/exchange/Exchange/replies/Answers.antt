use Rattle.std.proofs.Common.{◌≡◌, ◌∙◌, ◌<◌, ◌^◌, ap, sym, subst, length, List, ℕ}
use Rattle.std.specs.Prelude.{IfErr}
use Rattle.std.proofs.lemmas.Result.{IfOk-weaker}
use Rattle.hx_members.specs.Setups.{Setup}
use Rattle.hx_desk.specs.declared.entry.Entry.{Entry}
use Rattle.hx_units.specs.Fields.{texts}
use Rattle.hx_desk.specs.Rows.{from_number}
use Rattle.hx_desk.specs.Entries.{events_of}
use Rattle.hx_desk.specs.Secrecy.{AreRepliesWithoutTrace}
use Rattle.hx_desk.specs.Desks.{DeskState}
use Rattle.hx_engine.specs.Exchanges.{AreKnownReplies}
use Rattle.hx_engine.proofs.PassLaws.{knows_whole, history_known, row_known}
use Rattle.hx_engine.proofs.exchange.Exchange.replies.Goals as goal

pub returns-clause-replies : goal.returns-clause-replies
returns-clause-replies g c =
    let desk = c.inform.new.self in
    let held = c.deref_mut-held.result.now in
    let of_setup : desk.setup ≡ g.V.Venue.setup = ap (λ (d : DeskState). d.setup) c.inform.ensures.same ∙ held.of_setup in
    let knows : c.inform.new.reader.known ≡ desk.published = c.inform.ensures.known ∙ ap (λ (d : DeskState). d.published) (sym c.inform.ensures.same) in
    let history = history_known desk c.inform.new.reader.known c.stands.ensures.standing knows in
    IfOk-weaker c.replies_from.result _ _
    (λ replies h.
    subst (λ (x : Setup). AreKnownReplies x c.args.member c.inform.new.reader.known (from_number c.args.from) (texts replies.items)) of_setup
    (subst (λ (l : List Entry). AreRepliesWithoutTrace desk.setup (events_of l) c.args.member (from_number c.args.from) (texts replies.items)) (sym history) h))
    c.replies_from.ensures.replies

pub returns-clause-few : goal.returns-clause-few
returns-clause-few g c =
    let desk = c.inform.new.self in
    let held = c.deref_mut-held.result.now in
    subst (λ (rows : List (List ℕ)). length rows < 2 ^ 63)
    (row_known g.V.Venue.setup desk c.inform.new.reader.known c.args.member c.stands.ensures.standing (ap (λ (d : DeskState). d.setup) c.inform.ensures.same ∙ held.of_setup)
    (c.inform.ensures.known ∙ ap (λ (d : DeskState). d.published) (sym c.inform.ensures.same)) c.replies_from.ensures.range)
    c.replies_from.ensures.few

pub returns-clause-memory : goal.returns-clause-memory
returns-clause-memory g c =
    let desk = c.inform.new.self in
    let held = c.deref_mut-held.result.now in
    subst (λ (rows : List (List ℕ)). IfErr c.replies_from.result (λ _. 0 < length (from_number c.args.from rows)))
    (row_known g.V.Venue.setup desk c.inform.new.reader.known c.args.member c.stands.ensures.standing (ap (λ (d : DeskState). d.setup) c.inform.ensures.same ∙ held.of_setup)
    (c.inform.ensures.known ∙ ap (λ (d : DeskState). d.published) (sym c.inform.ensures.same)) c.replies_from.ensures.range)
    c.replies_from.ensures.memory

pub returns-clause-whole : goal.returns-clause-whole
returns-clause-whole g c =
    let desk = c.inform.new.self in
    let held = c.deref_mut-held.result.now in
    knows_whole g.V.Venue.setup desk c.inform.new.reader.known c.stands.ensures.standing (ap (λ (d : DeskState). d.setup) c.inform.ensures.same ∙ held.of_setup)
    (c.inform.ensures.known ∙ ap (λ (d : DeskState). d.published) (sym c.inform.ensures.same))
