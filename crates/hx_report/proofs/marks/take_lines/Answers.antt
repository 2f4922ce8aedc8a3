use Rattle.std.proofs.Common.{◌∙◌}
use Rattle.hx_replay.specs.Run.{start}
use Rattle.hx_replay.proofs.StruckTapes.{all_known}
use Rattle.hx_report.specs.Marks.{HasTakenLines}
use Rattle.hx_report.proofs.Tapes.{goes_on, all_done}
use Rattle.hx_report.proofs.marks.take_lines.Goals as goal

pub loop-line-preserved : goal.loop-line-preserved
loop-line-preserved c =
    let l = c.loop-line in
    let cut = c.in-Some.ensures.some in
    record {
      setup = c.in_ok-take_line.ensures.setup ∙ l.invariant.setup;
      whose = c.in_ok-take_line.ensures.whose ∙ l.invariant.whose;
      taken = λ es are text.
          goes_on es l.rest.now c.in-Some.line.now c.in-Some.others.now (HasTakenLines l.taken) (HasTakenLines c.take_line.new.taken) (all_known (start c.args.setup.now) es are)
          (l.invariant.taken es are text) cut.0 cut.1 (λ done e left all k is h. c.in_ok-take_line.ensures.ok done e k is h);
    }

pub returns-clause-taken : goal.returns-clause-taken
returns-clause-taken c es are text =
    let l = c.loop-line in
    all_done es l.rest.now (HasTakenLines l.taken) (l.invariant.taken es are text) c.in_default.ensures.none
