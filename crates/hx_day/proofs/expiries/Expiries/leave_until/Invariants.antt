use Rattle.std.proofs.Common.{ℕ, List, length}
use Rattle.hx_day.proofs.Due.{IsWalked}
use Rattle.hx_day.proofs.expiries.Expiries.leave_until.Given as goal

abbrev pub invariant-loop-first : goal.invariant-loop-first
invariant-loop-first l = (indices : List ℕ) × IsWalked l.fn.self l.self-inside.entries.keys l.time indices

abbrev pub decreases-loop-first : goal.decreases-loop-first
decreases-loop-first l = length l.self-inside.entries.keys
