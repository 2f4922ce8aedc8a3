use Rattle.std.proofs.Common.{◌<◌, ◌≤◌, ◌-◌, length, take, drop}
use Rattle.hx_ranked.specs.Ranked.{Every, flat}
use Rattle.hx_ranked.proofs.blocks.locate.Given as goal

-- the entries before the block `low` rank before the rank, and those from the block `high` on after it
abbrev pub invariant-loop-high : goal.invariant-loop-high
invariant-loop-high l = record {
  ordered : l.low < l.high;
  inside : l.high ≤ length l.blocks;
  before : Every (λ e. e.rank < l.rank) (flat (take l.low l.blocks));
  after : Every (λ e. l.rank < e.rank) (flat (drop l.high l.blocks));
}

abbrev pub decreases-loop-high : goal.decreases-loop-high
decreases-loop-high l = l.high - l.low
