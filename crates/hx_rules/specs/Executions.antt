-- What an incoming order does: its executions, and what is left of it.
use Rattle.std.specs.Prelude.{ℕ, ◌+◌, Bool, true, false, if◌then◌else◌, ◌==◌, ◌&&◌, not, nat_lt, List, [], ◌∷◌, ◌++◌, length, map}
use Rattle.std.specs.List.{filter}
use Rattle.hx_units.specs.declared.names.Symbol.{Symbol}
use Rattle.hx_match.specs.declared.fills.Incoming.{Incoming}
use Rattle.hx_match.specs.Matching.{Execution, Matched, matched}
use Rattle.hx_members.specs.Chains.{Used, Chain, note, entered_of}
use Rattle.hx_itch.specs.declared.message.Feed.{Feed}
use Rattle.hx_itch.specs.declared.message.Feed.TheVariants.{AddOrder, AddOrderWithAttribution, OrderExecuted, Trade}
use Rattle.hx_ouch.specs.declared.outbound.Outbound.TheVariants.{Executed, Canceled}
use Rattle.hx_rules.specs.Letters.{attributable, added, added_hidden, removed, immediate_or_cancel}
use Rattle.hx_rules.specs.Orders.{Order, Token, published_side}
use Rattle.hx_rules.specs.declared.matches.Match.{Match}
use Rattle.hx_rules.specs.Markets.{Market}
use Rattle.hx_rules.specs.Outputs.{Reply}

-- The output of executions

-- in the feed: if the resting order is shown, its execution (ITCH 5.0, Order Executed Message); else a trade, which
-- names neither the order nor its side (Trade Message, Non-Cross)
abbrev pub feed_of_execution : (time : ℕ) (stock : Symbol) (number : ℕ) → Execution → Feed
feed_of_execution time stock number e =
    if e.order.shown
    then OrderExecuted (record {
      locate = e.order.locate;
      time = time;
      reference = e.order.reference;
      shares = e.shares;
      match_number = number;
    })
    else Trade (record {
      locate = e.order.locate;
      time = time;
      shares = e.shares;
      stock = stock;
      price = e.order.price;
      match_number = number;
    })

-- of all executions, each with the next match number, where `number` is the last one drawn
abbrev pub feed_of_executions :
    (time : ℕ) (stock : Symbol) (number : ℕ) → List Execution → List Feed
feed_of_executions time stock number [] = []
feed_of_executions time stock number (e ∷ es) =
    feed_of_execution time stock (number + 1) e ∷ feed_of_executions time stock (number + 1) es

-- to the resting order's member: liquidity was added (OUCH 4.2, Executed Order Message)
abbrev pub to_maker : (time number : ℕ) → Execution → Reply
to_maker time number e = (
  e.order.member,
  Executed (record {
    time = time;
    token = e.order.token;
    shares = e.shares;
    price = e.order.price;
    liquidity_flag = if e.order.shown then added else added_hidden;
    match_number = number;
  }),
)

-- to the incoming order's member: liquidity was removed
abbrev pub to_taker : (time member : ℕ) (token : Token) (number : ℕ) → Execution → Reply
to_taker time member token number e = (
  member,
  Executed (record {
    time = time;
    token = token;
    shares = e.shares;
    price = e.order.price;
    liquidity_flag = removed;
    match_number = number;
  }),
)

-- of all executions: to the resting order's member, then to the incoming one's
abbrev pub replies_of_executions :
    (time member : ℕ) (token : Token) (number : ℕ) → List Execution → List Reply
replies_of_executions time member token number [] = []
replies_of_executions time member token number (e ∷ es) =
    to_maker time (number + 1) e
    ∷ to_taker time member token (number + 1) e
    ∷ replies_of_executions time member token (number + 1) es

-- the execution of a resting order against an incoming one, as its match number names it: it is not
-- broken
abbrev pub match_of : (member : ℕ) (token : Token) → Order → Match
match_of member token x =
    record {
      locate = x.locate;
      maker = x.member;
      maker_token = x.token;
      taker = member;
      taker_token = token;
      broken = false;
    }

-- the executions of an incoming order, as their match numbers name them
abbrev pub matches_of : (member : ℕ) (token : Token) → List Execution → List Match
matches_of member token [] = []
matches_of member token (e ∷ es) = match_of member token e.order ∷ matches_of member token es

-- each execution counts for the chains of both orders; the incoming order's chain is named by its
-- entered token
abbrev pub chains_after :
    List Used → (member : ℕ) (entered : Token) → List Execution → List Chain → List Chain
chains_after tokens member entered [] chains = chains
chains_after tokens member entered (e ∷ es) chains =
    let maker = entered_of tokens e.order.member e.order.token in
    chains_after tokens member entered es
    (note member entered e.shares false (note e.order.member maker e.shares false chains))

-- ---- What is left of the order

-- an order as it comes in
abbrev pub incoming_of : Order → Incoming
incoming_of x =
    record {
      locate = x.locate;
      side = x.side;
      price = x.price;
      shares = x.shares;
      minimum = x.minimum;
    }

-- what rests of an order with `left` shares left, as a list: nothing of an immediate one
abbrev pub resting_of : Order → (immediate : Bool) (left : ℕ) → List Order
resting_of x immediate left =
    if nat_lt 0 left && not immediate then record x { shares = left } ∷ [] else []

-- whether what rests is displayed
abbrev pub displays : List Order → Bool
displays [] = false
displays (x ∷ xs) = x.shown

-- in the feed: an order that rests (ITCH 5.0, Add Order Message), with its firm if its display is attributable
abbrev pub published : (time : ℕ) → Symbol → Order → Feed
published time stock x =
    if x.display == attributable
    then AddOrderWithAttribution (record {
      locate = x.locate;
      time = time;
      reference = x.reference;
      side = published_side x.side;
      shares = x.shares;
      stock = stock;
      price = x.price;
      attribution = x.firm;
    })
    else AddOrder (record {
      locate = x.locate;
      time = time;
      reference = x.reference;
      side = published_side x.side;
      shares = x.shares;
      stock = stock;
      price = x.price;
    })

-- the shown orders of a list
abbrev pub shown_of : List Order → List Order
shown_of xs = filter (λ x. x.shown) xs

-- to its member: what is left of an immediate order is cancelled (OUCH 4.2, Canceled Order Message)
abbrev pub canceled_of :
    (time member : ℕ) (token : Token) (immediate : Bool) (left : ℕ) → List Reply
canceled_of time member token immediate left =
    if nat_lt 0 left && immediate
    then (
      member,
      Canceled (record { time = time; token = token; shares = left; reason = immediate_or_cancel }),
    )
    ∷ []
    else []

-- ---- The arrival of an order

-- what an arrival leaves, and its output
pub record Arrival : Type 0 where
  pub market : Market
  pub executions : List Execution
  -- what rests: one order or none
  pub resting : List Order
  pub replies : List Reply

-- after these executions: what is left rests at the end of the list, or is cancelled
abbrev pub settled : (time : ℕ) (immediate : Bool) → Order → Market → Matched → Arrival
settled time immediate x market m =
    let resting = resting_of x immediate m.left in
    let entered = entered_of market.tokens x.member x.token in
    let chains = chains_after market.tokens x.member entered m.fills market.chains in
    record {
      market = record market {
        live = m.rest ++ resting;
        chains = if displays resting then note x.member entered 0 true chains else chains;
        numbers = record market.numbers { matches = market.numbers.matches + length m.fills };
        executions = market.executions ++ matches_of x.member x.token m.fills;
      };
      executions = m.fills;
      resting = resting;
      replies = replies_of_executions time x.member x.token market.numbers.matches m.fills
          ++ canceled_of time x.member x.token immediate m.left;
    }

-- an order arrives in a market that knows its token
abbrev pub arrive : (time : ℕ) (immediate : Bool) → Order → Market → Arrival
arrive time immediate x market =
    settled time immediate x market (matched (incoming_of x) x.shares market.live)

-- in the feed: its executions, and what rests shown
abbrev pub arrival_feed :
    (time : ℕ) (stock : Symbol) (matches : ℕ) → List Execution → List Order → List Feed
arrival_feed time stock matches executions resting =
    feed_of_executions time stock matches executions
    ++ map (published time stock) (shown_of resting)
