use Rattle.std.proofs.Common.{◌≡◌, ◌∙◌, List, ℕ, length, take, refl, ap, sym, subst}
use Rattle.std.proofs.lemmas.Option.{IfSome_then}
use mathlib.Core.List.{IsPrefix}
use Rattle.hx_blog.specs.Feed.{Entries}
use Rattle.hx_blog.specs.Ends.{ReceiptState}
use Rattle.hx_desk.specs.declared.entry.Entry.{Entry}
use Rattle.hx_desk.specs.Entries.{restored}
use Rattle.hx_desk.specs.Known.{history_of}
use Rattle.hx_desk.specs.Desks.{DeskState, published_of}
use Rattle.hx_engine.specs.Journals.{lines}
use Rattle.hx_engine.proofs.PassLaws.{history_known, published_by, published_accepted}
use Rattle.hx_engine.proofs.HeldLaws.{known_lines, longer, begins_before}
use Rattle.hx_engine.proofs.exchange.Exchange.crashed.Goals as goal
use Rattle.hx_tape_lines.specs.Text.{record_of}
use Rattle.hx_units.proofs.Prefixes.{prefix_both}

pub returns-clause-begins : goal.returns-clause-begins
returns-clause-begins g c =
    let held = c.into_inner-desk.result in
    let d : DeskState = c.confirm.new.self in
    let known = c.args.reader.now.known in
    let begins : IsPrefix known d.published =
    subst (λ (k : Entries Entry). IsPrefix k d.published) (ap (λ (r : ReceiptState Entry). r.known) c.receipt-receipt.ensures.receipt)
    (subst (λ (x : DeskState). IsPrefix c.receipt-receipt.result.known x.published) (sym c.confirm.ensures.same) c.confirm.ensures.begins) in
    let published_end : published_of d ≡ published_of held.desk = ap published_of c.confirm.ensures.same in
    let less : IsPrefix (lines record_of (history_of known)) (lines record_of (published_of held.desk)) =
    known_lines record_of known d.published (published_of held.desk) begins (history_known d d.published c.stands.ensures.standing refl ∙ published_end) in
    IfSome_then c.journal_of.result (c.journal_of.ensures (published_of held.desk) (IfSome_then held.journal_writer held.home (λ k h. h.0)))
    (λ j h leaves l.
    longer _ _ _ less (subst (λ k. IsPrefix k leaves) (h.1 ∙ h.0) (h.3 leaves l).begins))

pub returns-clause-left : goal.returns-clause-left
returns-clause-left g c =
    let held = c.into_inner-desk.result in
    let d : DeskState = c.confirm.new.self in
    let known = c.args.reader.now.known in
    let begins : IsPrefix known d.published =
    subst (λ (k : Entries Entry). IsPrefix k d.published) (ap (λ (r : ReceiptState Entry). r.known) c.receipt-receipt.ensures.receipt)
    (subst (λ (x : DeskState). IsPrefix c.receipt-receipt.result.known x.published) (sym c.confirm.ensures.same) c.confirm.ensures.begins) in
    let of_setup : d.setup ≡ g.V.Venue.setup = ap (λ (x : DeskState). x.setup) c.confirm.ensures.same ∙ held.of_setup in
    let began : take (length g.V.Venue.before) (published_of d) ≡ restored g.V.Venue.before = ap (λ (x : DeskState). take (length g.V.Venue.before) (published_of x)) c.confirm.ensures.same ∙ held.began in
    let same : published_of held.desk ≡ published_of d = ap published_of (sym c.confirm.ensures.same) in
    IfSome_then c.journal_of.result (c.journal_of.ensures (published_of held.desk) (IfSome_then held.journal_writer held.home (λ k h. h.0)))
    (λ j h leaves l. record {
      history = published_of d;
      records = prefix_both _ _ (subst (λ (a : List (List ℕ)). IsPrefix leaves a) h.0 (h.3 leaves l).begun) (subst (λ (k : List (List ℕ)). IsPrefix k leaves) (h.1 ∙ h.0) (h.3 leaves l).begins) ∙ ap (lines record_of) same;
      accepted = published_accepted g.V.Venue.setup d c.stands.ensures.standing of_setup;
      begins = begins_before g.V.Venue.before (published_of d) began;
      knew = subst (λ (k : Entries Entry). IsPrefix known k) (published_by g.V.Venue.setup d c.stands.ensures.standing of_setup) begins;
    })
