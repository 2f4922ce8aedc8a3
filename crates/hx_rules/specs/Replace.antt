-- The rules of Replace (OUCH 4.2, Replace Order Message).
use Rattle.std.specs.Prelude.{ℕ, ◌-◌, min, Bool, true, false, if◌then◌else◌, ◌==◌, ◌&&◌, ◌||◌, not, nat_lt, nat_le, List, [], ◌∷◌, ◌++◌, length, Option, Some, None}
use Rattle.std.specs.List.{find}
use Rattle.hx_units.specs.declared.names.Symbol.{Symbol}
use Rattle.hx_units.specs.Side.{letter_of}
use Rattle.hx_members.specs.Setups.{Setup, symbol_of}
use Rattle.hx_members.specs.Chains.{is_used, entered_of, executed_by, replacing_used}
use Rattle.hx_match.specs.Matching.{Execution}
use Rattle.hx_itch.specs.declared.message.Feed.{Feed}
use Rattle.hx_itch.specs.declared.message.Feed.TheVariants.{OrderReplace}
use Rattle.hx_ouch.specs.declared.inbound.Replace.{Replace}
use Rattle.hx_ouch.specs.declared.outbound.Outbound.TheVariants.{Replaced}
use Rattle.hx_rules.specs.Letters.{no_cross, order_live, no_weight, by_user}
use Rattle.hx_rules.specs.Orders.{Order, Token, is_display, is_immediate, is_shown, life_of, is_called}
use Rattle.hx_rules.specs.Markets.{Market, is_halted}
use Rattle.hx_rules.specs.Outputs.{Reply, Outcome, nothing}
use Rattle.hx_rules.specs.Executions.{arrive, arrival_feed}
use Rattle.hx_rules.specs.Enter.{is_bad_shares, is_bad_price, is_late, is_shown_minimum, next_reference, drawn}
use Rattle.hx_rules.specs.Removal.{others, deleted, canceled}

-- the shares that the chain of a used token has executed
abbrev pub executed_of : Market → (member : ℕ) → Token → ℕ
executed_of market member token =
    executed_by market.chains member (entered_of market.tokens member token)

-- ---- Why a Replace fails

-- whether one of them applies
abbrev pub some_applies : List Bool → Bool
some_applies [] = false
some_applies (applies ∷ []) = applies
some_applies (applies ∷ (other ∷ more)) = applies || some_applies (other ∷ more)

-- its shares, which are those of the chain, its price or its display would be rejected of an Enter;
-- it is for the market hours, once they are over; it has a minimum and is shown; or its shares are
-- not above what the chain has executed
abbrev pub replace_failures : (phase executed : ℕ) → Replace → List Bool
replace_failures phase executed r =
    is_bad_shares r.shares
    ∷ is_bad_price r.price
    ∷ not (is_display r.display)
    ∷ is_late phase r.time_in_force
    ∷ is_shown_minimum r.minimum_quantity r.display r.time_in_force
    ∷ nat_le r.shares executed
    ∷ []

-- a Replace fails if one of these applies: then it cancels the existing order
abbrev pub replace_fails : (phase executed : ℕ) → Replace → Bool
replace_fails phase executed r = some_applies (replace_failures phase executed r)

-- ---- What a Replace does

-- the replacement token is used, in the chain of the existing one, and the existing order is gone
abbrev pub handed_over : Market → (member : ℕ) (existing replacement : Token) → Market
handed_over market member existing replacement =
    let entered = entered_of market.tokens member existing in
    record market {
      live = others member existing market.live;
      tokens = market.tokens ++ replacing_used member replacement entered ∷ [];
    }

-- the existing order is cancelled, and nothing replaces it
abbrev pub fail_replace :
    Market → (member time : ℕ) (existing replacement : Token) → Order → Outcome
fail_replace market member time existing replacement old =
    record {
      market = handed_over market member existing replacement;
      output = record {
        feed = deleted time old;
        replies = canceled time member existing old.shares by_user ∷ [];
      };
    }

-- the order in place of the old one: with the shares that the chain has not executed, and the old
-- one's side, stock, firm and capacity
abbrev pub replacing_order : (executed reference time : ℕ) → Replace → Order → Order
replacing_order executed reference time r old =
    record {
      member = old.member;
      token = r.replacement_token;
      chain = old.chain;
      locate = old.locate;
      side = old.side;
      price = r.price;
      shares = r.shares - executed;
      minimum = min r.minimum_quantity (r.shares - executed);
      display = r.display;
      shown = is_shown r.display r.time_in_force;
      firm = old.firm;
      capacity = old.capacity;
      reference = reference;
      life = life_of time r.time_in_force;
    }

-- to its member: the order as it replaces the old one (Replaced Message)
abbrev pub replaced_of : (member time : ℕ) → Symbol → Replace → Order → Reply
replaced_of member time stock r x = (
  member,
  Replaced (record {
    time = time;
    replacement_token = r.replacement_token;
    side = letter_of x.side;
    shares = x.shares;
    stock = stock;
    price = r.price;
    time_in_force = r.time_in_force;
    firm = x.firm;
    display = r.display;
    reference = x.reference;
    capacity = x.capacity;
    intermarket_sweep = r.intermarket_sweep;
    minimum_quantity = x.minimum;
    cross_type = no_cross;
    order_state = order_live;
    previous_token = r.existing_token;
    bbo_weight = no_weight;
  }),
)

-- old and new are shown, and their displays are equal
abbrev pub is_one_display : (old x : Order) → Bool
is_one_display old x = old.shown && (x.shown && (old.display == x.display))

-- in the feed: if they are of one display and nothing traded, that one replaces the other (ITCH
-- 5.0, Order Replace Message); else the old one is gone, and the new one arrives
abbrev pub replace_feed :
    (time : ℕ) (stock : Symbol) (matches : ℕ) (old x : Order) → List Execution → List Order
    → List Feed
replace_feed time stock matches old x executions resting =
    if is_one_display old x && nat_lt (length executions) 1
    then OrderReplace (record {
      locate = x.locate;
      time = time;
      original_reference = old.reference;
      reference = x.reference;
      shares = x.shares;
      price = x.price;
    })
    ∷ []
    else deleted time old ++ arrival_feed time stock matches executions resting

-- x replaces the old order: its token is used, its reference is drawn, and it arrives
abbrev pub replace_order : Market → (member time : ℕ) → Symbol → Replace → (old x : Order) → Outcome
replace_order market member time stock r old x =
    let handed = handed_over market member r.existing_token r.replacement_token in
    let a = arrive time (is_immediate r.time_in_force) x (drawn handed member x.shown) in
    record {
      market = a.market;
      output = record {
        feed = replace_feed time stock market.numbers.matches old x a.executions a.resting;
        replies = replaced_of member time stock r x ∷ a.replies;
      };
    }

-- it replaces the old order, with the next reference
abbrev pub succeed : Setup → Market → (member time : ℕ) → Replace → Order → Outcome
succeed setup market member time r old =
    let executed = executed_of market member r.existing_token in
    let reference = next_reference market.numbers member (is_shown r.display r.time_in_force) in
    replace_order market member time (symbol_of setup old.locate) r old
    (replacing_order executed reference time r old)

-- whether there is such an order, and its stock is halted
abbrev pub is_order_halted : (halted : List Bool) → Option Order → Bool
is_order_halted halted None = false
is_order_halted halted (Some x) = is_halted halted x.locate

-- by the live order that the existing token names, whether the replacement token is used, whether the stock is halted,
-- and whether the Replace fails: it is ignored if there is no such order, the replacement token is used or the stock is
-- halted; it cancels the order if it fails; else it replaces it
abbrev pub replaced_by :
    Setup → Market → (member time : ℕ) → Replace → Option Order → (used halted fails : Bool)
    → Outcome
replaced_by setup market member time r None used halted fails = nothing market
replaced_by setup market member time r (Some old) true halted fails = nothing market
replaced_by setup market member time r (Some old) false true fails = nothing market
replaced_by setup market member time r (Some old) false false true =
    fail_replace market member time r.existing_token r.replacement_token old
replaced_by setup market member time r (Some old) false false false =
    succeed setup market member time r old

-- a member's Replace
abbrev pub replace : Setup → Market → (member time : ℕ) → Replace → Outcome
replace setup market member time r =
    let executed = executed_of market member r.existing_token in
    let old = find (is_called member r.existing_token) market.live in
    replaced_by setup market member time r old
    (is_used market.tokens member r.replacement_token)
    (is_order_halted market.halted old)
    (replace_fails market.phase executed r)
