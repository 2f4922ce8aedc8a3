use Rattle.std.proofs.Common.{◌≡◌, ◌++◌, drop, map}
use Rattle.hx_tape_lines.specs.Text.{record_of}
use Rattle.hx_engine.specs.Journals.{record_texts}
use Rattle.hx_crash_tests.proofs.tests.resuming.journal_of.Given as goal

-- the records so far, and those of the rest, are all
abbrev pub invariant-loop-event : goal.invariant-loop-event
invariant-loop-event l = record_texts l.records.items ++ map record_of (drop l.event-index l.events) ≡ map record_of l.events
