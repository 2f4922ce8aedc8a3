use Rattle.std.proofs.Common.{subst, map}
use Rattle.hx_tape_lines.specs.Events.{event_of}
use Rattle.hx_report.specs.Noted.{HasNoted}
use Rattle.hx_report.proofs.Tapes.{event_is, events_more}
use Rattle.hx_report.proofs.census.take_line.Goals as goal

pub returns : goal.returns
returns c setup es e k is h =
    let x = c.in-Some.event in
    let its = rw c.in-Some.is at c.in_ok-event.ensures.some in
    subst (HasNoted c.take.new.self setup) (events_more es e x (event_is c.args.text.now x e its k is)) (c.in_ok-take.ensures setup (map event_of es) h)
