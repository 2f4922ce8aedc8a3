use Rattle.std.proofs.Common.{◌≡◌, ◌++◌, drop, map}
use Rattle.hx_tape_lines.specs.Text.{record_of}
use Rattle.hx_engine.proofs.submitting.spell_all.Given as goal

-- the records so far, and those of the rest, are all
abbrev pub invariant-loop-event : goal.invariant-loop-event
invariant-loop-event l = l.written ++ map record_of (drop l.event-index l.events) ≡ map record_of l.events
