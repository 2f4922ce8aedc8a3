use Rattle.std.proofs.Common.{◌∙◌, List, [], length, take, drop, ap, sym, arith}
use Rattle.hx_desk.specs.declared.entry.Entry.{Entry}
use Rattle.hx_engine.specs.Journals.{unspoken, lines}
use Rattle.hx_engine.proofs.HeldLaws.{still_begins}
use Rattle.hx_engine.proofs.locked.Held.tell.Goals as goal
use Rattle.hx_tape_lines.specs.Text.{record_of}

pub invariant_of-self-clause-began : goal.invariant_of-self-clause-began
invariant_of-self-clause-began g c =
    let held = c.args.self.now in
    let r = c.release.ensures.released in
    (λ i. take (length g.V.Venue.before) (take (r.published_end i) (r.history i)))
    ∙ still_begins g.V.Venue.before held.desk.history held.desk.published_end held.desk.sealed (omega (arith, c.stands.ensures.standing.order)) held.began

pub invariant_of-self-clause-covered : goal.invariant_of-self-clause-covered
invariant_of-self-clause-covered g c =
    let r = c.release.ensures.released in
    c.renew.ensures.receipt ∙ ap (λ k. record { log = g.V.Venue.durable; known = k }) (c.requires.keeps ∙ (λ i. unspoken (take (sym r.published_end i) (sym r.history i))))

pub invariant_of-self-clause-home : goal.invariant_of-self-clause-home
invariant_of-self-clause-home g c =
    let r = c.release.ensures.released in (
      c.renew.ensures.published ∙ c.requires.keeps ∙ (λ i. unspoken (take (sym r.published_end i) (sym r.history i))),
      r.sealed ∙ sym r.published_end,
    )

pub invariant_of-self-clause-registered : goal.invariant_of-self-clause-registered
invariant_of-self-clause-registered g c =
    c.args.self.now.registered ∙ ap (λ (h : List Entry). record { log = g.V.Venue.admitted; published = unspoken h; staged = [] }) (sym c.release.ensures.released.history)

pub invariant_of-self-clause-spelled : goal.invariant_of-self-clause-spelled
invariant_of-self-clause-spelled g c =
    let r = c.release.ensures.released in
    c.args.self.now.spelled ∙ (λ i. lines record_of (drop (sym r.sealed i) (sym r.history i)))
