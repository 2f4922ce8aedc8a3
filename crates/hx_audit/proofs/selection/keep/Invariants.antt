use Rattle.std.proofs.Common.{◌≡◌, ◌++◌, drop}
use Rattle.hx_market.specs.QuietChains.{strike}
use Rattle.hx_audit.proofs.selection.keep.Given as goal

-- the messages retained, and those that will be retained of the rest
abbrev pub invariant-loop-event : goal.invariant-loop-event
invariant-loop-event g l =
    let chosen = g.S.Selection.chosen l.selection in
    l.retained.items ++ strike chosen (drop l.event-index l.events) ≡ strike chosen l.events
