use Rattle.std.proofs.Common.{rules, List, [], None}
use Rattle.std.proofs.lemmas.List.{append-nil}
use Rattle.hx_reader.specs.Prices.{prices, below, IsHighest}
use Rattle.hx_market_view.proofs.Depths.{falls}
use Rattle.hx_market_view.proofs.depth.all_bids.Goals as goal

pub loop-level-smaller : goal.loop-level-smaller
loop-level-smaller c =
    falls c.loop-level.limit c.in-Some.level.price (prices c.args.locate 66 c.args.book.now)
    c.in-Some.ensures.price.0 (search rules)

pub returns : goal.returns
returns c =
    let end : IsHighest (below c.loop-level.limit (prices c.args.locate 66 c.args.book.now)) None =
    search (rules, c.in_default.ensures.price) in
    rw (append-nil c.loop-level.levels.items) at (c.loop-level.invariant [] end)
