use Rattle.std.proofs.Common.{◌≡◌, ◌∙◌, inr, ℕ, ◌+◌, List, length, take, refl, ap, sym, subst, arith}
use Rattle.std.proofs.lemmas.List.{length-take-le}
use Rattle.hx_desk.specs.declared.entry.Entry.{Entry}
use Rattle.hx_desk.specs.Entries.{ledger}
use Rattle.hx_engine.proofs.PassLaws.{published_by}
use Rattle.std.specs.List.{AllByRecursion}
use Rattle.std.proofs.lemmas.Option.{IfSome_then}
use Rattle.hx_desk.specs.Desks.{DeskState, published_of}
use Rattle.hx_engine.specs.Journals.{unspoken}
use Rattle.hx_engine.specs.Passes.{PassState}
use Rattle.hx_engine.specs.Finish.{AreAllOnce, sent_by_all, is_any_waiting, IsReturned}
use Rattle.hx_engine.proofs.AllBack.{all_given, all_published, finished}
use Rattle.hx_engine.proofs.exchange.Exchange.finish.Goals as goal

pub returns-clause-once : goal.returns-clause-once
returns-clause-once g c = subst (AreAllOnce g.V.Ledger.parts) c.deref.ensures.value (subst (λ (n : ℕ). AreAllOnce n c.deref.result.now) c.get.ensures.value c.in_default.ensures.none)

pub returns-clause-ok : goal.returns-clause-ok
returns-clause-ok g c =
    let held = c.into_inner-desk.result in
    let back = c.take_all_back.ensures in
    let desk : DeskState = c.take_all_back.new.desk in
    let passes : List PassState = c.args.passes.items in
    let once : AreAllOnce g.V.Ledger.parts passes = returns-clause-once g c in
    let returned : AllByRecursion (IsReturned g.V.Ledger.parts desk.published) passes =
    subst (λ (d : DeskState). AllByRecursion (IsReturned g.V.Ledger.parts d.published) passes) (sym back.same) back.returned in
    let given : length passes ≡ g.V.Ledger.parts = all_given g.V.Ledger.parts desk.published passes returned once in
    let parts : c.take_all_back.new.share.parts ≡ g.V.Ledger.parts = omega (arith, back.parts, held.no_parts, given) in
    let counted : length desk.history ≡ length g.V.Venue.before + sent_by_all passes =
    omega (arith, ap (λ (d : DeskState). length d.history) back.same, held.counted, c.audit.ensures.whole parts, back.amount, held.no_amount) in
    let began = ap (λ (d : DeskState). take (length g.V.Venue.before) (take d.published_end d.history)) back.same ∙ held.began in
    finished g.V.Venue.setup g.V.Venue.before desk g.V.Ledger.parts passes c.into_parts-history.result.0.items c.feed_count-feed.result c.stands.ensures.standing (ap (λ (d : DeskState). d.setup) back.same ∙ held.of_setup) returned once counted began
    c.into_parts-history.ensures.history c.feed_count-feed.ensures

pub returns-clause-durable : goal.returns-clause-durable
returns-clause-durable g c =
    let held = c.into_inner-desk.result in
    let back = c.take_all_back.ensures in
    let desk : DeskState = c.take_all_back.new.desk in
    let passes : List PassState = c.args.passes.items in
    let once : AreAllOnce g.V.Ledger.parts passes = returns-clause-once g c in
    let returned : AllByRecursion (IsReturned g.V.Ledger.parts desk.published) passes =
    subst (λ (d : DeskState). AllByRecursion (IsReturned g.V.Ledger.parts d.published) passes) (sym back.same) back.returned in
    let given : length passes ≡ g.V.Ledger.parts = all_given g.V.Ledger.parts desk.published passes returned once in
    let parts : c.take_all_back.new.share.parts ≡ g.V.Ledger.parts = omega (arith, back.parts, held.no_parts, given) in
    let counted : length desk.history ≡ length g.V.Venue.before + sent_by_all passes =
    omega (arith, ap (λ (d : DeskState). length d.history) back.same, held.counted, c.audit.ensures.whole parts, back.amount, held.no_amount) in
    let began = ap (λ (d : DeskState). take (length g.V.Venue.before) (take d.published_end d.history)) back.same ∙ held.began in
    let all = all_published g.V.Venue.setup g.V.Venue.before desk g.V.Ledger.parts passes c.stands.ensures.standing (ap (λ (d : DeskState). d.setup) back.same ∙ held.of_setup) returned once counted began in
    IfSome_then c.journal_of.result
    (c.journal_of.ensures c.into_parts-history.result.0.items (IfSome_then held.journal_writer held.home (λ k h. h.0 ∙ ap unspoken (ap published_of (sym back.same) ∙ all ∙ sym c.into_parts-history.ensures.history))))
    (λ j h. (h.0, h.1, h.2))

pub returns-clause-published : goal.returns-clause-published
returns-clause-published g c =
    let held = c.into_inner-desk.result in
    let back = c.take_all_back.ensures in
    let desk : DeskState = c.take_all_back.new.desk in
    let passes : List PassState = c.args.passes.items in
    let once : AreAllOnce g.V.Ledger.parts passes = returns-clause-once g c in
    let returned : AllByRecursion (IsReturned g.V.Ledger.parts desk.published) passes =
    subst (λ (d : DeskState). AllByRecursion (IsReturned g.V.Ledger.parts d.published) passes) (sym back.same) back.returned in
    let given : length passes ≡ g.V.Ledger.parts = all_given g.V.Ledger.parts desk.published passes returned once in
    let parts : c.take_all_back.new.share.parts ≡ g.V.Ledger.parts = omega (arith, back.parts, held.no_parts, given) in
    let counted : length desk.history ≡ length g.V.Venue.before + sent_by_all passes =
    omega (arith, ap (λ (d : DeskState). length d.history) back.same, held.counted, c.audit.ensures.whole parts, back.amount, held.no_amount) in
    let began = ap (λ (d : DeskState). take (length g.V.Venue.before) (take d.published_end d.history)) back.same ∙ held.began in
    let of_setup : desk.setup ≡ g.V.Venue.setup = ap (λ (d : DeskState). d.setup) back.same ∙ held.of_setup in
    let s = c.stands.ensures.standing in
    let all : published_of desk ≡ desk.history = all_published g.V.Venue.setup g.V.Venue.before desk g.V.Ledger.parts passes s of_setup returned once counted began in
    let log = c.into_parts-history.ensures.published.0 ∙ ap (λ (d : DeskState). d.log) back.same ∙ held.named in
    let published = c.into_parts-history.ensures.published.1 ∙ published_by g.V.Venue.setup desk s of_setup ∙ ap (ledger g.V.Venue.setup) (all ∙ sym c.into_parts-history.ensures.history) in
    let staged = c.into_parts-history.ensures.whole (sym (length-take-le desk.published_end desk.history (omega (arith, s.order, s.within))) ∙ ap (λ (h : List Entry). length h) all) in
    (c.args.self.named, (λ i. record { log = log i; published = published i; staged = staged i }))

pub returns-then-is_any_waiting-clause-err : goal.returns-then-is_any_waiting-clause-err
returns-then-is_any_waiting-clause-err g c =
    inr (
      subst (AreAllOnce g.V.Ledger.parts) c.deref.ensures.value (subst (λ (n : ℕ). AreAllOnce n c.deref.result.now) c.get.ensures.value c.in_default.ensures.none),
      ap is_any_waiting (sym c.deref-2.ensures.value) ∙ sym c.is_any_waiting.ensures ∙ c.if-is_any_waiting.true,
      refl,
    )
