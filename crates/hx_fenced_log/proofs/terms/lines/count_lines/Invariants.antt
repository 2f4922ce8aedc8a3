use Rattle.std.proofs.Common.{length}
use Rattle.hx_fenced_log.specs.Lines.{StandInFront}
use Rattle.hx_fenced_log.proofs.terms.lines.count_lines.Given as goal

abbrev pub decreases-loop-line : goal.decreases-loop-line
decreases-loop-line l = length l.rest

-- `count` lines stand in front of the rest
abbrev pub invariant-loop-line : goal.invariant-loop-line
invariant-loop-line l = StandInFront l.count l.text l.rest
