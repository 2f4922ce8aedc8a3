use Rattle.std.proofs.Common.{List, ◌++◌, None}
use Rattle.hx_reader.specs.declared.level.PriceLevel.{PriceLevel}
use Rattle.hx_market_view.specs.Depths.{AreOffers}
use Rattle.hx_market_view.proofs.Depths.{room_above}
use Rattle.hx_market_view.proofs.depth.all_offers.Given as goal

-- with what stands above the limit, all is there
abbrev pub invariant-loop-level : goal.invariant-loop-level
invariant-loop-level l =
    (rest : List PriceLevel) → AreOffers l.book l.locate l.limit rest
    → AreOffers l.book l.locate None (l.levels.items ++ rest)

abbrev pub decreases-loop-level : goal.decreases-loop-level
decreases-loop-level l = room_above l.limit
