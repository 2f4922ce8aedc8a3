use Rattle.std.proofs.Common.{◌≡◌, ◌++◌, drop, map}
use Rattle.hx_tape_lines.specs.Text.{record_of}
use Rattle.hx_day_log.proofs.mirroring.append_records.Given as goal

-- what is appended so far, and the records of the rest, are all
abbrev pub invariant-loop-event : goal.invariant-loop-event
invariant-loop-event g l = g.M.Journal.appended l.mirror ++ map record_of (drop l.event-index l.events) ≡ g.M.Journal.appended l.fn.mirror ++ map record_of l.events
