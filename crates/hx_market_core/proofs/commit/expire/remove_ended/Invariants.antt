use Rattle.std.proofs.Common.{◌≡◌, drop, not}
use Rattle.std.specs.List.{filter}
use Rattle.hx_book.specs.Book.{KeysDiffer}
use Rattle.hx_members.specs.Tokens.{TokenList}
use Rattle.hx_market_core.specs.OrderKeys.{AreKeyed}
use Rattle.hx_market_core.specs.Effects.{is_due}
use Rattle.hx_market_core.proofs.commit.expire.remove_ended.Given as goal

-- the rest are the due ones of the orders that are still there, and the others are all there
abbrev pub invariant-loop-live : goal.invariant-loop-live
invariant-loop-live g l =
    let orders = g.B.Book.orders l.book in
    let before = g.B.Book.orders l.fn.book in
    record {
      rest : drop l.live-index l.effect.orders.items ≡ filter (λ x. is_due l.effect.due l.effect.time x.order) orders;
      differ : KeysDiffer orders;
      others : filter (λ x. not (is_due l.effect.due l.effect.time x.order)) orders ≡ filter (λ x. not (is_due l.effect.due l.effect.time x.order)) before;
      keyed : (t : TokenList) → AreKeyed t.tokens t.keys before → AreKeyed t.tokens t.keys orders;
    }
