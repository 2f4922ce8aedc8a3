use Rattle.std.proofs.Common.{◌≡◌, ◌++◌, drop, map}
use Rattle.hx_market_core.proofs.prepare.counts.output_members.Given as goal

-- the members so far, and those of the rest, are all
abbrev pub invariant-loop-member : goal.invariant-loop-member
invariant-loop-member l = l.members.items ++ map (λ r. r.0) (drop l.member-index l.replies) ≡ map (λ r. r.0) l.replies
