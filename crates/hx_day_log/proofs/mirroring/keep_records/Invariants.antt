use Rattle.std.proofs.Common.{◌≡◌, ◌++◌, length, map, true}
use Rattle.hx_tape_lines.specs.Text.{record_of}
use Rattle.hx_day_log.proofs.mirroring.keep_records.Given as goal

abbrev pub decreases-loop-rest : goal.decreases-loop-rest
decreases-loop-rest g l = length l.rest

-- what is appended so far, and the records of the rest, are all
abbrev pub invariant-loop-rest : goal.invariant-loop-rest
invariant-loop-rest g l = record {
  all : g.M.Journal.appended l.mirror ++ map record_of l.rest ≡ g.M.Journal.appended l.fn.mirror ++ map record_of l.events;
  durable : g.M.Journal.durable l.mirror ≡ g.M.Journal.appended l.mirror;
  opened : g.M.Journal.is_open l.mirror ≡ true;
}
