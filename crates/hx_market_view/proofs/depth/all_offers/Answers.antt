use Rattle.std.proofs.Common.{rules, List, [], None}
use Rattle.std.proofs.lemmas.List.{append-nil}
use Rattle.hx_reader.specs.Prices.{prices, above, IsLowest}
use Rattle.hx_market_view.proofs.Depths.{rises}
use Rattle.hx_market_view.proofs.depth.all_offers.Goals as goal

pub loop-level-smaller : goal.loop-level-smaller
loop-level-smaller c =
    rises c.loop-level.limit c.in-Some.level.price (prices c.args.locate 83 c.args.book.now)
    c.in-Some.ensures.price.0 (search rules)

pub returns : goal.returns
returns c =
    let end : IsLowest (above c.loop-level.limit (prices c.args.locate 83 c.args.book.now)) None =
    search (rules, c.in_default.ensures.price) in
    rw (append-nil c.loop-level.levels.items) at (c.loop-level.invariant [] end)
