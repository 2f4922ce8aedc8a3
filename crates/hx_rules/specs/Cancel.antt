-- The rules of Cancel (OUCH 4.2, Cancel Order Message).
use Rattle.std.specs.Prelude.{ℕ, ◌-◌, ◌==◌, min, Bool, true, false, List, [], ◌∷◌, Option, Some, None, is_none}
use Rattle.std.specs.List.{find}
use Rattle.std.specs.Option.{option_map_or}
use Rattle.hx_ouch.specs.declared.inbound.Cancel.{Cancel}
use Rattle.hx_rules.specs.Letters.{by_user}
use Rattle.hx_rules.specs.Orders.{Order, Token, is_called}
use Rattle.hx_rules.specs.Markets.{Market}
use Rattle.hx_rules.specs.Outputs.{Outcome, nothing}
use Rattle.hx_rules.specs.Removal.{lessened, taken_off, canceled}
use Rattle.hx_rules.specs.Replace.{executed_of, some_applies}

-- how many open shares a Cancel takes off: the intended size counts the executed shares of the
-- chain
abbrev pub cancelled_shares : (executed : ℕ) → Cancel → Order → ℕ
cancelled_shares executed c x = x.shares - min x.shares (c.shares - executed)

-- ---- Why a Cancel does nothing

-- it asks for no fewer open shares than the order has
abbrev pub asks_for_no_fewer : (executed : ℕ) → Cancel → Order → Bool
asks_for_no_fewer executed c x = cancelled_shares executed c x == 0

-- the member has no live order of the token, which is given if it has one; or it asks for no fewer open shares than the
-- order has
abbrev pub cancel_idles : (executed : ℕ) → Cancel → Option Order → List Bool
cancel_idles executed c order =
    is_none order
    ∷ option_map_or (asks_for_no_fewer executed c) order false
    ∷ []

-- a Cancel does nothing if one of these applies
abbrev pub is_idle : (executed : ℕ) → Cancel → Option Order → Bool
is_idle executed c order = some_applies (cancel_idles executed c order)

-- ---- What a Cancel does

-- `by` shares are off
abbrev pub take_off : Market → (member time : ℕ) (token : Token) (by : ℕ) → Order → Outcome
take_off market member time token by x =
    record {
      market = record market { live = lessened member token by market.live };
      output = record {
        feed = taken_off time by x;
        replies = canceled time member token by by_user ∷ [];
      };
    }

-- by whether it does nothing, and the live order that the token names: else shares of this order
-- are off
abbrev pub cancelled_by :
    Market → (member time : ℕ) → Cancel → (idle : Bool) → Option Order → Outcome
cancelled_by market member time c true order = nothing market
cancelled_by market member time c false None = nothing market
cancelled_by market member time c false (Some x) =
    take_off market member time c.token
    (cancelled_shares (executed_of market member c.token) c x) x

-- a member's Cancel
abbrev pub cancel : Market → (member time : ℕ) → Cancel → Outcome
cancel market member time c =
    let order = find (is_called member c.token) market.live in
    cancelled_by market member time c
    (is_idle (executed_of market member c.token) c order) order
