use Rattle.std.proofs.Common.{List, ◌++◌, None}
use Rattle.hx_reader.specs.declared.level.PriceLevel.{PriceLevel}
use Rattle.hx_market_view.specs.Depths.{AreBids}
use Rattle.hx_market_view.proofs.Depths.{room_below}
use Rattle.hx_market_view.proofs.depth.all_bids.Given as goal

-- with what stands below the limit, all is there
abbrev pub invariant-loop-level : goal.invariant-loop-level
invariant-loop-level l =
    (rest : List PriceLevel) → AreBids l.book l.locate l.limit rest
    → AreBids l.book l.locate None (l.levels.items ++ rest)

abbrev pub decreases-loop-level : goal.decreases-loop-level
decreases-loop-level l = room_below l.limit
