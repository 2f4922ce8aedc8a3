use Rattle.std.proofs.Common.{◌≡◌, ◌++◌, drop}
use Rattle.hx_rules.specs.Hours.{to_all}
use Rattle.hx_market_core.proofs.decision.phase.tell_members.Given as goal

-- the replies so far, and the rest, are all
abbrev pub invariant-loop-member : goal.invariant-loop-member
invariant-loop-member l = l.replies.items ++ to_all (drop l.member-index l.members) l.time l.code ≡ l.fn.replies.items ++ to_all l.members l.time l.code
