use Rattle.std.proofs.Common.{◌≡◌, ◌++◌, ◌<◌, ◌^◌, List, map, not, refl, sym, ap, ◌∙◌, subst, arith}
use Rattle.std.specs.List.{AllByRecursion, filter}
use Rattle.hx_itch.specs.declared.message.Feed.{Feed}
use Rattle.hx_itch.specs.Message.{feed_time}
use Rattle.hx_book.specs.declared.order.Order.{Order}
use Rattle.hx_book.specs.Book.{lives}
use Rattle.hx_market_core.specs.Effects.{is_due}
use Rattle.hx_rules.specs.Hours.{all_deleted}
use Rattle.hx_rules.specs.Letters.{timeout}
use Rattle.hx_rules.specs.Removal.{canceled}
use Rattle.hx_rules.specs.Outputs.{Reply, Outcome}
use Rattle.hx_rules.specs.Markets.{Market}
use Rattle.hx_market_core.specs.MarketModel.{MarketState}
use Rattle.hx_market_core.proofs.RemovedOrders.{lives-filter}
use Rattle.hx_market_core.proofs.FeedTimes.{both_in, all_deleted_in}
use Rattle.hx_market_core.proofs.decision.end_orders.end_orders.Goals as goal

pub returns-clause-does : goal.returns-clause-does
returns-clause-does g c = λ counts.
    let a = c.args in
    let s : MarketState = a.state.now in
    let ended : List Order = filter (λ x. is_due a.due a.time x) s.market.live in
    let due : lives c.deref.result.now ≡ ended =
    ap lives (c.deref.ensures.value ∙ c.requires.due) ∙ lives-filter (λ x. is_due a.due a.time x) s.orders
    ∙ ap (λ (xs : List Order). filter (λ x. is_due a.due a.time x) xs) (sym (subst (λ (v : MarketState). v.market.live ≡ lives v.orders) c.state.view_is refl)) in
    let m : Market = record s.market { live = filter (λ x. not (is_due a.due a.time x)) s.market.live; phase = a.phase; recorded = counts } in
    let canceled_all : List Order → List Reply = λ l. map (λ x. canceled a.time x.member x.token x.shares timeout) l in
    let feed : a.first.feed.items ++ all_deleted a.time ended ≡ c.tell_ended.new.out.feed.items =
    ap (λ (l : List Order). a.first.feed.items ++ all_deleted a.time l) (sym due) ∙ sym c.in_ok-tell_ended.ensures.feed in
    let replies : a.first.replies.items ++ canceled_all ended ≡ c.tell_ended.new.out.replies.items =
    ap (λ (l : List Order). a.first.replies.items ++ canceled_all l) (sym due) ∙ sym c.in_ok-tell_ended.ensures.replies in
    ap (λ (l : List Feed). (let o : Outcome = record { market = m; output = record { feed = l; replies = a.first.replies.items ++ canceled_all ended } } in o)) feed
    ∙ ap (λ (l : List Reply). (let o : Outcome = record { market = m; output = record { feed = c.tell_ended.new.out.feed.items; replies = l } } in o)) replies

pub returns-clause-fit : goal.returns-clause-fit
returns-clause-fit g c = λ setup member.
    let l : c.args.time < 2 ^ 48 = let r = c.requires.time in omega arith in
    record {
      is_effect = subst (λ (fs : List Feed). AllByRecursion (λ f. feed_time f < 2 ^ 48) fs) (sym c.in_ok-tell_ended.ensures.feed)
          (both_in c.args.first.feed.items (all_deleted c.args.time (lives c.deref.result.now)) c.requires.times (all_deleted_in c.args.time (lives c.deref.result.now) l));
      sender = tt;
      suits = tt;
      about = record { due = c.requires.due; differ = c.requires.differ };
    }
