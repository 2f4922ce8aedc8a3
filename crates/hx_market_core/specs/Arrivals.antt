-- An order that arrives in a market: what it leaves, its output, and when it can.
use Rattle.std.specs.Prelude.{◌≡◌, ℕ, ◌+◌, ◌<◌, ◌≤◌, ◌^◌, Bool, true, false, List, [], ◌∷◌, ◌++◌, length, Some}
use Rattle.hx_book.specs.declared.order.Order.{Order}
use Rattle.hx_book.specs.Book.{lives, terms_of}
use Rattle.hx_match.specs.declared.fills.Fill.{Fill}
use Rattle.hx_match.specs.Executing.{done_by, left_by}
use Rattle.hx_match.specs.Matching.{Execution}
use Rattle.hx_match.specs.Rules.{AreFills}
use Rattle.hx_members.specs.Chains.{is_used, index_of, entered_of, IsEnteredAt}
use Rattle.hx_rules.specs.Markets.{Market}
use Rattle.hx_rules.specs.Outputs.{EventOutput}
use Rattle.hx_rules.specs.Executions.{Arrival, arrive, incoming_of, feed_of_execution, feed_of_executions, to_maker, to_taker, replies_of_executions, matches_of, chains_after}
use Rattle.hx_market_core.specs.declared.commit.execute.Arriving.{Arriving}
use Rattle.hx_market_core.specs.declared.effect.AcceptedEnter.{AcceptedEnter}
use Rattle.hx_market_core.specs.declared.effect.Replacement.{Replacement}
use Rattle.hx_market_core.specs.Effects.{order_of_enter, replacement_order}
use Rattle.hx_rules.specs.Orders.{is_immediate}
use Rattle.hx_day.specs.Bounds.{CanNote, CanNoteAll, chains_by, noted_if}
use Rattle.hx_market_core.specs.MarketModel.{MarketState}
use Rattle.hx_market_core.specs.OrderKeys.{AreBefore}

-- the output of an execution: the feed, the resting order's member, the arriving order's
abbrev pub output_of_execution : Arriving → (number : ℕ) → Execution → EventOutput
output_of_execution a number e =
    record {
      feed = feed_of_execution a.time a.stock number e ∷ [];
      replies = to_maker a.time number e
          ∷ to_taker a.time a.order.member a.order.token number e ∷ [];
    }

-- the output of these executions, the last match number before them given
abbrev pub output_of_executions : Arriving → (matches : ℕ) → List Execution → EventOutput
output_of_executions a matches es =
    record {
      feed = feed_of_executions a.time a.stock matches es;
      replies = replies_of_executions a.time a.order.member a.order.token matches es;
    }

-- the market once the fills of an order that arrives are carried out
abbrev pub filled : MarketState → Arriving → List Fill → Market
filled s a fills =
    let done = done_by fills s.orders in
    record s.market {
      live = lives (left_by fills s.orders);
      chains = chains_by s.market.tokens a.order.chain done s.market.chains;
      numbers = record s.market.numbers { matches = s.market.numbers.matches + length fills };
      executions = s.market.executions ++ matches_of a.order.member a.order.token done;
    }

-- the market once the order rests, last in time: its chain counts as displayed if it is shown
abbrev pub rested : Market → Order → Market
rested market x =
    record market {
      live = market.live ++ x ∷ [];
      chains = noted_if x.shown market.tokens x.chain market.chains;
    }

-- what the order's arrival leaves
abbrev pub arrive_in : Market → Arriving → Arrival
arrive_in market a = arrive a.time a.immediate a.order market

-- its output before the message that publishes what rests
abbrev pub output_of_arrival : Market → Arriving → EventOutput
output_of_arrival market a =
    let arrival = arrive_in market a in
    record {
      feed = feed_of_executions a.time a.stock market.numbers.matches arrival.executions;
      replies = arrival.replies;
    }

-- the order of an accepted message as it arrives, and the one that replaces another
abbrev pub entering : (chain reference : ℕ) → AcceptedEnter → Arriving
entering chain reference a =
    record {
      order = order_of_enter chain reference a;
      time = a.time;
      stock = a.enter.stock;
      immediate = is_immediate a.enter.time_in_force;
    }

abbrev pub replacing : (reference : ℕ) → Replacement → Arriving
replacing reference a =
    record {
      order = replacement_order reference a;
      time = a.time;
      stock = a.stock;
      immediate = is_immediate a.replace.time_in_force;
    }

-- the order can rest: its slot is reserved, its token is the last one used, and its chain is there
pub record CanRest (s : MarketState) (x : Order) : Type 0 where
  pub reserved : s.reserved ≡ Some (terms_of x)
  pub used : is_used s.market.tokens x.member x.token ≡ true
  pub before : AreBefore s.market.tokens (index_of s.market.tokens x.member x.token) s.orders
  pub own : CanNote s.market.tokens x.chain 0 s.market.chains

-- the order can arrive: its executions against the market's orders are planned, its token is the last one used, its
-- slot is reserved, and the numbers and the chains have room
pub record CanArrive (s : MarketState) (x : Order) (immediate : Bool) (fills : List Fill)
    (left : ℕ) : Type 0 where
  pub live : s.market.live ≡ lives s.orders
  pub planned : AreFills (incoming_of x) s.orders fills left
  pub reserved : immediate ≡ false → s.reserved ≡ Some (terms_of x)
  pub used : is_used s.market.tokens x.member x.token ≡ true
  pub before : AreBefore s.market.tokens (index_of s.market.tokens x.member x.token) s.orders
  pub room : length fills ≤ s.room
  pub matches : s.market.numbers.matches + length fills < 2 ^ 62
  pub notes : CanNoteAll s.market.tokens x.chain (done_by fills s.orders) s.market.chains
  pub own :
      CanNote s.market.tokens x.chain 0
      (chains_by s.market.tokens x.chain (done_by fills s.orders) s.market.chains)
  pub at :
      IsEnteredAt s.market.tokens x.member (entered_of s.market.tokens x.member x.token) x.chain
  pub same :
      chains_by s.market.tokens x.chain (done_by fills s.orders) s.market.chains
      ≡ chains_after s.market.tokens x.member (entered_of s.market.tokens x.member x.token)
      (done_by fills s.orders) s.market.chains
