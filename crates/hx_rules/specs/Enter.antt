-- The rules of Enter (OUCH 4.2, Enter Order Message).
use Rattle.std.specs.Prelude.{ℕ, ◌%◌, Bool, true, false, if◌then◌else◌, ◌==◌, ◌&&◌, ◌||◌, not, nat_lt, nat_le, List, [], ◌∷◌, ◌++◌, length, Option, Some, None, is_none, unwrap_or}
use Rattle.std.specs.Option.{option_map_or}
use Rattle.hx_units.specs.declared.names.Firm.{Firm}
use Rattle.hx_units.specs.declared.names.Symbol.{Symbol}
use Rattle.hx_units.specs.Limits.{greatest_price, most_shares}
use Rattle.hx_units.specs.Names.{is_firm}
use Rattle.hx_members.specs.Setups.{Setup, locate_of, firm_of, no_firm}
use Rattle.hx_members.specs.Chains.{is_used, entered_used, entered_chain}
use Rattle.hx_refs.specs.Numbers.{Numbers, next_public, next_private, public_drawn, private_drawn}
use Rattle.hx_ouch.specs.declared.inbound.Enter.{Enter}
use Rattle.hx_ouch.specs.declared.outbound.Outbound.TheVariants.{Accepted, Rejected}
use Rattle.hx_rules.specs.Letters.{no_cross, order_live, no_weight, closed, invalid_stock, stock_halted, other_reason, invalid_display, invalid_shares, invalid_price, invalid_minimum}
use Rattle.hx_rules.specs.Limits.{dollar, cent, market_hours}
use Rattle.hx_rules.specs.Orders.{Order, Token, Side, is_side, side_of, is_display, is_immediate, is_shown, life_of}
use Rattle.hx_rules.specs.Markets.{Market, is_open, is_after_market, is_halted}
use Rattle.hx_rules.specs.Outputs.{Reply, Outcome, nothing}
use Rattle.hx_rules.specs.Executions.{arrive, arrival_feed}

-- ---- Why a message is rejected

-- no shares, or more than an order may have (Shares)
abbrev pub is_bad_shares : (shares : ℕ) → Bool
is_bad_shares shares = shares == 0 || nat_lt most_shares shares

-- whether a price, from a dollar on, is no whole number of cents
abbrev pub is_between_cents : (price : ℕ) → Bool
is_between_cents price = nat_le dollar price && not (price % cent == 0)

-- no price, above the greatest, or between two cents (Price)
abbrev pub is_bad_price : (price : ℕ) → Bool
is_bad_price price = price == 0 || (nat_lt greatest_price price || is_between_cents price)

-- for the market hours, once they are over (Time in Force)
abbrev pub is_late : (phase time_in_force : ℕ) → Bool
is_late phase time_in_force = time_in_force == market_hours && is_after_market phase

-- a minimum beside a display: a shown order has none (Minimum Quantity)
abbrev pub is_shown_minimum : (minimum display time_in_force : ℕ) → Bool
is_shown_minimum minimum display time_in_force = nat_lt 0 minimum && is_shown display time_in_force

-- whether the stock is one of the setup, and halted
abbrev pub is_stock_halted : Setup → (halted : List Bool) → Symbol → Bool
is_stock_halted setup halted stock =
    option_map_or (λ locate. is_halted halted locate) (locate_of setup stock) false

-- a reason to reject: whether it applies, and its letter
pub record Reason : Type 0 where
  pub applies : Bool
  pub letter : ℕ

-- the letter of the first reason that applies
abbrev pub first_reason : List Reason → Option ℕ
first_reason [] = None
first_reason (r ∷ rs) = if r.applies then Some r.letter else first_reason rs

-- the reasons in their order, with `phase` hours codes past and these stocks halted (Rejected Order Message, Reason)
abbrev pub reasons : Setup → (phase : ℕ) (halted : List Bool) → Enter → List Reason
reasons setup phase halted e =
    record { applies = not (is_open phase) || is_late phase e.time_in_force; letter = closed }
    ∷ record { applies = is_none (locate_of setup e.stock); letter = invalid_stock }
    ∷ record { applies = is_stock_halted setup halted e.stock; letter = stock_halted }
    ∷ record {
      applies = not (is_side e.side) || not (e.cross_type == no_cross);
      letter = other_reason;
    }
    ∷ record { applies = not (is_display e.display); letter = invalid_display }
    ∷ record { applies = is_bad_shares e.shares; letter = invalid_shares }
    ∷ record { applies = is_bad_price e.price; letter = invalid_price }
    ∷ record {
      applies = nat_lt e.shares e.minimum_quantity
          || is_shown_minimum e.minimum_quantity e.display e.time_in_force;
      letter = invalid_minimum;
    }
    ∷ []

-- the letter that rejects the message, if any does
abbrev pub rejection : Setup → (phase : ℕ) (halted : List Bool) → Enter → Option ℕ
rejection setup phase halted e = first_reason (reasons setup phase halted e)

-- ---- What an accepted message becomes

-- the token is used, and is a chain of its own
abbrev pub consumed : Market → (member : ℕ) → Token → Market
consumed market member token =
    record market {
      tokens = market.tokens ++ entered_used member token ∷ [];
      chains = market.chains ++ entered_chain member token ∷ [];
    }

-- a public reference for a shown order, else one of the member's own
abbrev pub next_reference : Numbers → (member : ℕ) (shown : Bool) → ℕ
next_reference numbers member shown =
    if shown then next_public numbers else next_private numbers member

-- the numbers after that reference is drawn
abbrev pub after_draw : Numbers → (member : ℕ) (shown : Bool) → Numbers
after_draw numbers member shown =
    if shown then public_drawn numbers else private_drawn numbers member

-- the market after that reference is drawn
abbrev pub drawn : Market → (member : ℕ) (shown : Bool) → Market
drawn market member shown = record market { numbers = after_draw market.numbers member shown }

-- a blank firm means the member's (Firm)
abbrev pub resolved_firm : Setup → (member : ℕ) → Firm → Firm
resolved_firm setup member firm = if is_firm firm no_firm then firm_of setup member else firm

-- the order of an accepted message, once its stock, side, price and firm are known
abbrev pub order_from :
    (chain reference member time locate : ℕ) → Side → (price : ℕ) → Firm → Enter → Order
order_from chain reference member time locate side price firm e =
    record {
      member = member;
      token = e.token;
      chain = chain;
      locate = locate;
      side = side;
      price = price;
      shares = e.shares;
      minimum = e.minimum_quantity;
      display = e.display;
      shown = is_shown e.display e.time_in_force;
      firm = firm;
      capacity = e.capacity;
      reference = reference;
      life = life_of time e.time_in_force;
    }

-- the order of an accepted message, by the setup, with its chain's number and its reference
abbrev pub entered_order : Setup → (chain reference member time : ℕ) → Enter → Order
entered_order setup chain reference member time e =
    order_from chain reference member time
    (unwrap_or (locate_of setup e.stock) 0) (side_of e.side) e.price
    (resolved_firm setup member e.firm) e

-- to its member: the order as it was accepted (Accepted Message)
abbrev pub accepted_of : Order → (time : ℕ) → Enter → Reply
accepted_of x time e = (
  x.member,
  Accepted (record {
    time = time;
    token = e.token;
    side = e.side;
    shares = e.shares;
    stock = e.stock;
    price = e.price;
    time_in_force = e.time_in_force;
    firm = x.firm;
    display = e.display;
    reference = x.reference;
    capacity = e.capacity;
    intermarket_sweep = e.intermarket_sweep;
    minimum_quantity = e.minimum_quantity;
    cross_type = e.cross_type;
    order_state = order_live;
    bbo_weight = no_weight;
  }),
)

-- ---- What the message does

-- the order of a message is accepted: its token is used, its reference is drawn, and it arrives
abbrev pub accept_order : Market → (time : ℕ) → Enter → Order → Outcome
accept_order market time e x =
    let before = drawn (consumed market x.member x.token) x.member x.shown in
    let a = arrive time (is_immediate e.time_in_force) x before in
    record {
      market = a.market;
      output = record {
        feed = arrival_feed time e.stock market.numbers.matches a.executions a.resting;
        replies = accepted_of x time e ∷ a.replies;
      };
    }

-- the message is accepted: the number of its chain is its token's index among the used ones
abbrev pub accept : Setup → Market → (member time : ℕ) → Enter → Outcome
accept setup market member time e =
    let shown = is_shown e.display e.time_in_force in
    let reference = next_reference market.numbers member shown in
    accept_order market time e
    (entered_order setup (length market.tokens) reference member time e)

-- it is rejected: its token is used, and nothing else changes (Rejected Order Message)
abbrev pub reject : Market → (member time : ℕ) → Token → (letter : ℕ) → Outcome
reject market member time token letter =
    record {
      market = consumed market member token;
      output = record {
        feed = [];
        replies = (member, Rejected (record { time = time; token = token; reason = letter })) ∷ [];
      };
    }

-- by whether its token is used, and the letter that rejects it: a used token makes it without
-- effect
abbrev pub entered_by :
    Setup → Market → (member time : ℕ) → Enter → (used : Bool) → Option ℕ → Outcome
entered_by setup market member time e true letter = nothing market
entered_by setup market member time e false (Some letter) = reject market member time e.token letter
entered_by setup market member time e false None = accept setup market member time e

-- a member's Enter
abbrev pub enter : Setup → Market → (member time : ℕ) → Enter → Outcome
enter setup market member time e =
    entered_by setup market member time e
    (is_used market.tokens member e.token) (rejection setup market.phase market.halted e)
