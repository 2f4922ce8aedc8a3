use Rattle.std.proofs.Common.{◌∙◌, ◌++◌, ◌∷◌, [], List, length, take, ap, sym, arith}
use Rattle.std.proofs.lemmas.Option.{IfSome_then}
use Rattle.hx_blog.specs.Ends.{WriterState}
use Rattle.hx_desk.specs.declared.entry.Entry.{Entry}
use Rattle.hx_desk.specs.Entries.{entry_of}
use Rattle.hx_engine.specs.Journals.{unspoken}
use Rattle.hx_engine.proofs.HeldLaws.{published_stays, one_line, more_unspoken}
use Rattle.hx_engine.proofs.locked.Held.admit.Goals as goal
use Rattle.hx_tape_lines.specs.Text.{record_of}

pub invariant_of-self-2-clause-began : goal.invariant_of-self-2-clause-began
invariant_of-self-2-clause-began g c =
    let s = c.stands.ensures.standing in
    let held = c.args.self.now in
    ap (take (length g.V.Venue.before)) (published_stays held.desk c.admit.new.self _ _ c.in-Ok-admit.ensures.ok (omega (arith, s.order, s.within))) ∙ held.began

pub invariant_of-self-2-clause-registered : goal.invariant_of-self-2-clause-registered
invariant_of-self-2-clause-registered g c =
    let held = c.args.self.now in
    let entry : Entry = entry_of c.args.pass c.args.event.now in
    c.write_down.ensures
    ∙ ap (λ (r : WriterState Entry). record r { published = r.published ++ unspoken (entry ∷ []) }) held.registered
    ∙ ap (λ k. record { log = g.V.Venue.admitted; published = k; staged = [] }) (more_unspoken held.desk.history entry ∙ ap unspoken (sym c.in-Ok-admit.ensures.ok.history))

pub invariant_of-self-2-clause-covered : goal.invariant_of-self-2-clause-covered
invariant_of-self-2-clause-covered g c =
    let s = c.stands.ensures.standing in
    let held = c.args.self.now in
    held.covered ∙ ap (λ (h : List Entry). record { log = g.V.Venue.durable; known = unspoken h }) (sym (published_stays held.desk c.admit.new.self _ _ c.in-Ok-admit.ensures.ok (omega (arith, s.order, s.within))))

pub invariant_of-self-2-clause-spelled : goal.invariant_of-self-2-clause-spelled
invariant_of-self-2-clause-spelled g c =
    let s = c.stands.ensures.standing in
    let held = c.args.self.now in
    c.in-Ok.ensures.ok ∙ one_line record_of held.records c.args.written.now held.desk c.admit.new.self _ _ c.in-Ok-admit.ensures.ok (omega (arith, s.within)) held.spelled c.requires.written

pub invariant_of-self-2-clause-home : goal.invariant_of-self-2-clause-home
invariant_of-self-2-clause-home g c =
    let s = c.stands.ensures.standing in
    let held = c.args.self.now in
    let grows = c.in-Ok-admit.ensures.ok in
    IfSome_then held.journal_writer held.home
    (λ k h. (
      h.0 ∙ ap unspoken (sym (published_stays held.desk c.admit.new.self _ _ grows (omega (arith, s.order, s.within)))),
      grows.sealed ∙ h.1 ∙ sym grows.published_end,
    ))
