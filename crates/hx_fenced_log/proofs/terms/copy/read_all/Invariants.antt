use Rattle.std.proofs.Common.{length}
use Rattle.hx_fenced_log.specs.Copies.{AreWhole}
use Rattle.hx_fenced_log.proofs.terms.copy.read_all.Given as goal

abbrev pub decreases-loop-piece : goal.decreases-loop-piece
decreases-loop-piece l = length l.rest

-- these records are whole, and this is left
abbrev pub invariant-loop-piece : goal.invariant-loop-piece
invariant-loop-piece l = AreWhole l.text l.records.items l.rest
