use Rattle.std.proofs.Common.{◌≡◌, ◌++◌, drop, map}
use Rattle.hx_book.specs.Book.{lives}
use Rattle.hx_rules.specs.Hours.{all_deleted}
use Rattle.hx_rules.specs.Removal.{canceled}
use Rattle.hx_market_core.proofs.decision.end_orders.tell_ended.Given as goal

-- the output so far, and that of the rest, is all
abbrev pub invariant-loop-live : goal.invariant-loop-live
invariant-loop-live l =
    let rest = drop l.live-index l.orders in
    record {
      feed : l.out.feed.items ++ all_deleted l.time (lives rest) ≡ l.fn.out.feed.items ++ all_deleted l.time (lives l.orders);
      replies : l.out.replies.items ++ map (λ x. canceled l.time x.member x.token x.shares 84) (lives rest) ≡ l.fn.out.replies.items ++ map (λ x. canceled l.time x.member x.token x.shares 84) (lives l.orders);
    }
