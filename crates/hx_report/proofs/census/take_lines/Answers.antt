use Rattle.std.proofs.Common.{List, map}
use Rattle.hx_tape_lines.specs.Text.{Entry}
use Rattle.hx_tape_lines.specs.Events.{event_of}
use Rattle.hx_replay.specs.Run.{start}
use Rattle.hx_replay.proofs.StruckTapes.{all_known}
use Rattle.hx_report.specs.Noted.{HasNoted}
use Rattle.hx_report.proofs.Tapes.{goes_on, all_done}
use Rattle.hx_report.proofs.census.take_lines.Goals as goal

pub loop-line-preserved : goal.loop-line-preserved
loop-line-preserved c es are text =
    let l = c.loop-line in
    let setup = c.args.setup.now in
    let cut = c.in-Some.ensures.some in
    goes_on es l.rest.now c.in-Some.line.now c.in-Some.others.now (λ (done : List Entry). HasNoted l.notes setup (map event_of done)) (λ (done : List Entry). HasNoted c.take_line.new.notes setup (map event_of done))
    (all_known (start setup) es are) (l.invariant es are text) cut.0 cut.1 (λ done e left all k is h. c.in_ok-take_line.ensures setup done e k is h)

pub returns : goal.returns
returns c es are text =
    let l = c.loop-line in
    all_done es l.rest.now (λ (done : List Entry). HasNoted l.notes c.args.setup.now (map event_of done)) (l.invariant es are text) c.in_default.ensures.none
