use Rattle.std.proofs.Common.{List, ◌++◌, ◌∷◌, [], ap, ◌∙◌}
use Rattle.hx_rules.specs.declared.event.Event.{Event}
use Rattle.hx_tape_lines.specs.Events.{IsLineOf}
use Rattle.hx_tape_lines.proofs.Lines.{some_of}
use Rattle.hx_replay_parallel.proofs.Reading.{takes_none, takes_more}
use Rattle.hx_replay_parallel.proofs.decoding.Ahead.take_lines.Goals as goal

pub loop-init : goal.loop-init
loop-init c = takes_none c.args.text.now c.args.self.now

pub loop-preserved : goal.loop-preserved
loop-preserved c =
    let event = c.in-Some-2.event in
    let line = c.in-Some.line.now in
    let others = c.in-Some.others.now in
    let one = some_of (IsLineOf line) c.in_ok-event.field-0 event c.in-Some-2.is c.in_ok-event.ensures.some in
    let grown = c.in_ok-push.ensures ∙ ap (λ (es : List Event). es ++ event ∷ []) c.in_ok-event.ensures.same in
    takes_more c.args.text.now c.args.self.now c.loop.self _ c.loop.rest.now line others event c.loop.invariant grown c.in-Some.ensures.some.0 one
