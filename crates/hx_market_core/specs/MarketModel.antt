-- What contracts see of a market over its book, and of what it prepared.
use Rattle.std.specs.Prelude.{ℕ, List, [], ◌∷◌, Option, Some, None, if◌then◌else◌}
use Rattle.hx_units.specs.declared.names.Token.{Token}
use Rattle.hx_book.specs.declared.order.Live.{Live}
use Rattle.hx_book.specs.declared.order.Terms.{Terms}
use Rattle.hx_book.specs.Book.{lives}
use Rattle.hx_members.specs.Setups.{Setup}
use Rattle.hx_members.specs.Chains.{Used, Chain, is_used, entered_of}
use Rattle.hx_members.specs.Tokens.{TokenList, facts_of}
use Rattle.hx_members.specs.ChainFacts.{ChainFacts}
use Rattle.hx_members.specs.Name.{Name}
use Rattle.hx_refs.specs.Numbers.{Numbers}
use Rattle.hx_day.specs.Day.{TradingState}
use Rattle.hx_rules.specs.declared.event.Event.{Event}
use Rattle.hx_market_core.specs.declared.next_step.NextStep.{NextStep}
use Rattle.hx_rules.specs.Orders.{Order}
use Rattle.hx_rules.specs.Markets.{Market}

-- what contracts see of what was prepared: the event, how many messages of the feed it will give,
-- the member of each of its replies; and what it will do
pub record Planned : Type 0 where
  pub event : Event
  pub feed_count : ℕ
  pub reply_members : List ℕ
  pub next : NextStep

-- the same, of this next step of the market
abbrev pub with_step : NextStep → Planned → Planned
with_step next p = record p { next = next }

-- what contracts see of the market's state, between its steps and while one is under way: the market of the
-- definitions; its live orders under their keys; the terms of the order, and the name of the token, for which a slot is
-- reserved; and for how many more executions there is room
pub record MarketState : Type 0 where
  pub market : Market
  pub orders : List Live
  pub reserved : Option Terms
  pub reserved_token : Option Name
  pub room : ℕ

-- what contracts see of a market over its book: the setup, the market of the definitions, and what
-- its last `prepare` gave and no `commit` took
pub record Seen : Type 0 where
  pub setup : Setup
  pub market : Market
  pub ready : Option Planned

-- what rests, as a list: one order or none
abbrev pub listed : Option Order → List Order
listed None = []
listed (Some x) = x ∷ []

-- a token, as the used tokens name it: with its member
abbrev pub name_of : (member : ℕ) → Token → Name
name_of member token = record { member = member; token = token }

-- what a used token's chain has done; none for a token that is not used
abbrev pub chain_facts : List Used → List Chain → (member : ℕ) → Token → Option ChainFacts
chain_facts tokens chains member token =
    if is_used tokens member token
    then Some (facts_of chains member (entered_of tokens member token)) else None

-- the market of a book, its tokens and its numbers
abbrev pub market_of :
    List Live → TokenList → Numbers → (phase : ℕ) (recorded : List ℕ) → TradingState → Market
market_of orders tokens numbers phase recorded trading =
    record {
      live = lives orders;
      tokens = tokens.tokens;
      chains = tokens.chains;
      numbers = numbers;
      phase = phase;
      halted = trading.halted;
      executions = trading.executions;
      recorded = recorded;
    }

-- the state of a market over a book with this reserved slot
abbrev pub market_state_of :
    List Live → Option Terms → TokenList → Numbers → (phase : ℕ) (recorded : List ℕ) → TradingState
    → MarketState
market_state_of orders reserved tokens numbers phase recorded trading =
    record {
      market = market_of orders tokens numbers phase recorded trading;
      orders = orders;
      reserved = reserved;
      reserved_token = tokens.reserved;
      room = trading.room;
    }
