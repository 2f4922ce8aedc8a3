use Rattle.std.proofs.Common.{◌≡◌, ◌++◌, length, map}
use Rattle.hx_journal.specs.Lines.{text_of}
use Rattle.hx_tape_lines.specs.Text.{record_of}
use Rattle.hx_recovery.proofs.going_on.read_events.Given as goal

abbrev pub decreases-loop-line : goal.decreases-loop-line
decreases-loop-line g l = length l.rest

-- the records of the events so far, and the rest, are the tape
abbrev pub invariant-loop-line : goal.invariant-loop-line
invariant-loop-line g l = l.tape ≡ text_of (map record_of l.events.items) ++ l.rest
