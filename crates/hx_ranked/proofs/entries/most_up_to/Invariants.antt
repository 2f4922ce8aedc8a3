use Rattle.std.proofs.Common.{◌≡◌, drop, max}
use Rattle.hx_ranked.specs.Ranked.{most_shares}
use Rattle.hx_ranked.proofs.entries.most_up_to.Given as goal

-- the most so far and that of the rest are that of all
abbrev pub invariant-loop-entry : goal.invariant-loop-entry
invariant-loop-entry l = max l.most (most_shares (drop l.entry-index l.entries)) ≡ most_shares l.entries
