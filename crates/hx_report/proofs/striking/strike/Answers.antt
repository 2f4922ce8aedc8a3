use Rattle.std.proofs.Common.{List, [], ◌∷◌, ◌++◌, ℕ, ap, sym, ◌∙◌}
use Rattle.hx_audit.specs.Auditing.{choice_of}
use Rattle.hx_tape_lines.specs.Events.{event_of}
use Rattle.hx_report.specs.Marks.{mark_of}
use Rattle.hx_report.proofs.Cuts.{cut_line}
use Rattle.hx_report.proofs.Tapes.{begins, goes_on, all_done}
use Rattle.hx_report.proofs.Struck.{seen_so, StruckSoFar, after_is, marks_more}
use Rattle.hx_report.proofs.striking.strike.Goals as goal

pub loop-line-init : goal.loop-line-init
loop-line-init c market es known text marks =
    begins es c.args.text.now (StruckSoFar market c.args.whose.now c.in_ok-struck.struck c.args.marks.now es) text
    (record { has = c.in_ok-struck.ensures (choice_of c.args.whose.now market); marks = sym marks })

pub loop-line-preserved : goal.loop-line-preserved
loop-line-preserved c market es known text marks =
    let l = c.loop-line in
    let cut = c.in-Some.ensures.some in
    let line = c.in-Some.line.now in
    let others = c.in-Some.others.now in
    goes_on es l.rest.now line others (StruckSoFar market c.args.whose.now l.struck l.after.now es) (StruckSoFar market c.args.whose.now c.take.new.self c.next_mark.result.1.now es) known
    (l.invariant market es known text marks) cut.0 cut.1
    (λ done e left all k is before.
    let next = c.next_mark.ensures (mark_of market (event_of e)) (seen_so market left) (after_is market l.after.now es done e left all before.marks) in
    record {
      has = c.in_ok-take.ensures market done e (cut_line l.rest.now line others cut.0 ∙ ap (λ (x : List ℕ). x ++ 10 ∷ []) is) next.0 before.has;
      marks = marks_more market l.after.now c.next_mark.result.1.now es done e left all next.1;
    })

pub returns : goal.returns
returns c market es known text marks =
    let l = c.loop-line in
    (all_done es l.rest.now (StruckSoFar market c.args.whose.now l.struck l.after.now es) (l.invariant market es known text marks) c.in_default.ensures.none).has
