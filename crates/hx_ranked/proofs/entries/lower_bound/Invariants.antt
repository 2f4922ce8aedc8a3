use Rattle.std.proofs.Common.{◌<◌, ◌≤◌, ◌-◌, length, take, drop}
use Rattle.hx_ranked.specs.Ranked.{Every}
use Rattle.hx_ranked.proofs.entries.lower_bound.Given as goal

-- what stands before `low` ranks before the rank, and what stands from `high` on does not
abbrev pub invariant-loop-low : goal.invariant-loop-low
invariant-loop-low l = record {
  ordered : l.low ≤ l.high;
  inside : l.high ≤ length l.entries;
  before : Every (λ e. e.rank < l.rank) (take l.low l.entries);
  after : Every (λ e. l.rank ≤ e.rank) (drop l.high l.entries);
}

abbrev pub decreases-loop-low : goal.decreases-loop-low
decreases-loop-low l = l.high - l.low
