-- The bounds hold of the market that a day begins with, and stay whatever its events do.
use Rattle.std.specs.Prelude.{◌≡◌, ℕ, Bool}
use Rattle.std.specs.List.{filter}
use Rattle.hx_units.specs.declared.names.Symbol.{Symbol}
use Rattle.hx_units.specs.declared.names.Token.{Token}
use Rattle.hx_book.specs.declared.order.Order.{Order}
use Rattle.hx_members.specs.Setups.{Setup}
use Rattle.hx_ouch.specs.declared.inbound.Enter.{Enter}
use Rattle.hx_ouch.specs.declared.inbound.Replace.{Replace}
use Rattle.hx_rules.specs.Markets.{Market, opening}
use Rattle.hx_rules.specs.Enter.{accept_order, reject}
use Rattle.hx_rules.specs.Removal.{lessened}
use Rattle.hx_rules.specs.Replace.{handed_over, replace_order}
use Rattle.hx_day.specs.Day.{MayRecord}
use Rattle.hx_day.specs.Bounds.{IsSound}
use Rattle.hx_day.specs.BoundChanges.{recording, IsEntered, Replaces}

-- the day begins
abbrev pub OfTheOpening : Type 0
OfTheOpening = (setup : Setup) → IsSound (opening setup)

-- an event is recorded, and does nothing else
abbrev pub OfARecord : Type 0
OfARecord =
    (m : Market) (i : ℕ) → IsSound m → MayRecord m.recorded i → IsSound (recording m i)

-- an order is accepted, whatever it executes
abbrev pub OfAnEnter : Type 0
OfAnEnter =
    (m : Market) (x : Order) (time : ℕ) (e : Enter) → IsSound m → MayRecord m.recorded x.member
    → IsEntered m x → IsSound (accept_order (recording m x.member) time e x).market

-- an order is rejected
abbrev pub OfARejection : Type 0
OfARejection =
    (m : Market) (i time : ℕ) (token : Token) (letter : ℕ) → IsSound m → MayRecord m.recorded i
    → IsSound (reject (recording m i) i time token letter).market

-- an order replaces another
abbrev pub OfAReplace : Type 0
OfAReplace =
    (m : Market) (i time : ℕ) (stock : Symbol) (r : Replace) (old x : Order) → IsSound m
    → MayRecord m.recorded i → Replaces m i r.existing_token old x
    → x.token ≡ r.replacement_token
    → IsSound (replace_order (recording m i) i time stock r old x).market

-- a Replace ends an order, and replaces it by none
abbrev pub OfAFailedReplace : Type 0
OfAFailedReplace = (m : Market) (i : ℕ) (t u : Token) → IsSound m → IsSound (handed_over m i t u)

-- shares of an order are canceled
abbrev pub OfACancel : Type 0
OfACancel =
    (m : Market) (i : ℕ) (t : Token) (by : ℕ) → IsSound m
    → IsSound (record m { live = lessened i t by m.live })

-- orders end, whichever they are, and a part of the day may
abbrev pub OfAnEnd : Type 0
OfAnEnd =
    (m : Market) (keep : Order → Bool) (phase : ℕ) → IsSound m
    → IsSound (record m { live = filter keep m.live; phase = phase })
