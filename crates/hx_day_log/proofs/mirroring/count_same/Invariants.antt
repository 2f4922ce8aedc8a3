use Rattle.std.proofs.Common.{◌≡◌, take, map}
use Rattle.hx_tape_lines.specs.Text.{record_of}
use Rattle.hx_day_log.proofs.mirroring.count_same.Given as goal

-- the records of the events so far are the same
abbrev pub invariant-loop-index : goal.invariant-loop-index
invariant-loop-index l = map record_of (take l.index l.one) ≡ map record_of (take l.index l.other)
