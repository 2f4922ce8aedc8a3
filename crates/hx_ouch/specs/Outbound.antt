-- A reply to a member (OUCH 4.2, Outbound Messages): what its bytes say, and how it is written.
use Rattle.std.specs.Prelude.{ℕ, ◌^◌, ◌<◌, ◌≡◌, ◌∷◌, ◌++◌, List, [], Option, Some, None, length, Bool, ◌||◌, if◌then◌else◌}
use Rattle.hx_ouch.specs.OutboundKinds.{system_event, accepted, replaced, canceled, executed, rejected, broken_trade}
use Rattle.hx_units.specs.Fields.{is_message, byte_at, text_at, number_at, spelled}
use Rattle.hx_ouch.specs.declared.outbound.SystemEvent.{SystemEvent}
use Rattle.hx_ouch.specs.declared.outbound.Accepted.{Accepted}
use Rattle.hx_ouch.specs.declared.outbound.Replaced.{Replaced}
use Rattle.hx_ouch.specs.declared.outbound.Canceled.{Canceled}
use Rattle.hx_ouch.specs.declared.outbound.Executed.{Executed}
use Rattle.hx_ouch.specs.declared.outbound.Rejected.{Rejected}
use Rattle.hx_ouch.specs.declared.outbound.BrokenTrade.{BrokenTrade}
use Rattle.hx_ouch.specs.declared.outbound.Outbound.{Outbound}
use Rattle.hx_ouch.specs.declared.outbound.Outbound.TheVariants as variant

-- ---- System Event, 10 bytes of type S (OUCH 4.2, System Event)

-- whether the bytes are one, by their length and type
abbrev pub is_system_event : List ℕ → Bool
is_system_event bytes = is_message 10 system_event bytes

-- what its bytes say: each field at its offset
abbrev pub system_event_of : List ℕ → SystemEvent
system_event_of bytes = record {
  time = number_at 1 8 bytes;
  event_code = byte_at 9 bytes;
}

-- its bytes: field after field
abbrev pub system_event_bytes : SystemEvent → List ℕ
system_event_bytes m = (system_event ∷ []) ++ spelled 8 m.time ++ (m.event_code ∷ [])

-- its numbers fit into their bytes, and its names have their lengths
pub record IsSystemEvent (m : SystemEvent) : Type 0 where
  pub time : m.time < 2 ^ 64

-- ---- Accepted, 66 bytes of type A (OUCH 4.2, Accepted)

-- whether the bytes are one, by their length and type
abbrev pub is_accepted : List ℕ → Bool
is_accepted bytes = is_message 66 accepted bytes

-- what its bytes say: each field at its offset
abbrev pub accepted_of : List ℕ → Accepted
accepted_of bytes = record {
  time = number_at 1 8 bytes;
  token = record { 0 = text_at 9 14 bytes };
  side = byte_at 23 bytes;
  shares = number_at 24 4 bytes;
  stock = record { 0 = text_at 28 8 bytes };
  price = number_at 36 4 bytes;
  time_in_force = number_at 40 4 bytes;
  firm = record { 0 = text_at 44 4 bytes };
  display = byte_at 48 bytes;
  reference = number_at 49 8 bytes;
  capacity = byte_at 57 bytes;
  intermarket_sweep = byte_at 58 bytes;
  minimum_quantity = number_at 59 4 bytes;
  cross_type = byte_at 63 bytes;
  order_state = byte_at 64 bytes;
  bbo_weight = byte_at 65 bytes;
}

-- its bytes: field after field
abbrev pub accepted_bytes : Accepted → List ℕ
accepted_bytes m = (accepted ∷ []) ++ spelled 8 m.time ++ m.token.0 ++ (m.side ∷ [])
    ++ spelled 4 m.shares ++ m.stock.0 ++ spelled 4 m.price ++ spelled 4 m.time_in_force
    ++ m.firm.0 ++ (m.display ∷ [])
    ++ spelled 8 m.reference ++ (m.capacity ∷ []) ++ (m.intermarket_sweep ∷ [])
    ++ spelled 4 m.minimum_quantity ++ (m.cross_type ∷ []) ++ (m.order_state ∷ [])
    ++ (m.bbo_weight ∷ [])

-- its numbers fit into their bytes, and its names have their lengths
pub record IsAccepted (m : Accepted) : Type 0 where
  pub time : m.time < 2 ^ 64
  pub token : length m.token.0 ≡ 14
  pub shares : m.shares < 2 ^ 32
  pub stock : length m.stock.0 ≡ 8
  pub price : m.price < 2 ^ 32
  pub time_in_force : m.time_in_force < 2 ^ 32
  pub firm : length m.firm.0 ≡ 4
  pub reference : m.reference < 2 ^ 64
  pub minimum_quantity : m.minimum_quantity < 2 ^ 32

-- ---- Replaced, 80 bytes of type U (OUCH 4.2, Replaced)

-- whether the bytes are one, by their length and type
abbrev pub is_replaced : List ℕ → Bool
is_replaced bytes = is_message 80 replaced bytes

-- what its bytes say: each field at its offset
abbrev pub replaced_of : List ℕ → Replaced
replaced_of bytes = record {
  time = number_at 1 8 bytes;
  replacement_token = record { 0 = text_at 9 14 bytes };
  side = byte_at 23 bytes;
  shares = number_at 24 4 bytes;
  stock = record { 0 = text_at 28 8 bytes };
  price = number_at 36 4 bytes;
  time_in_force = number_at 40 4 bytes;
  firm = record { 0 = text_at 44 4 bytes };
  display = byte_at 48 bytes;
  reference = number_at 49 8 bytes;
  capacity = byte_at 57 bytes;
  intermarket_sweep = byte_at 58 bytes;
  minimum_quantity = number_at 59 4 bytes;
  cross_type = byte_at 63 bytes;
  order_state = byte_at 64 bytes;
  previous_token = record { 0 = text_at 65 14 bytes };
  bbo_weight = byte_at 79 bytes;
}

-- its bytes: field after field
abbrev pub replaced_bytes : Replaced → List ℕ
replaced_bytes m = (replaced ∷ []) ++ spelled 8 m.time ++ m.replacement_token.0 ++ (m.side ∷ [])
    ++ spelled 4 m.shares ++ m.stock.0 ++ spelled 4 m.price ++ spelled 4 m.time_in_force ++ m.firm.0
    ++ (m.display ∷ []) ++ spelled 8 m.reference ++ (m.capacity ∷ []) ++ (m.intermarket_sweep ∷ [])
    ++ spelled 4 m.minimum_quantity ++ (m.cross_type ∷ []) ++ (m.order_state ∷ [])
    ++ m.previous_token.0 ++ (m.bbo_weight ∷ [])

-- its numbers fit into their bytes, and its names have their lengths
pub record IsReplaced (m : Replaced) : Type 0 where
  pub time : m.time < 2 ^ 64
  pub replacement_token : length m.replacement_token.0 ≡ 14
  pub shares : m.shares < 2 ^ 32
  pub stock : length m.stock.0 ≡ 8
  pub price : m.price < 2 ^ 32
  pub time_in_force : m.time_in_force < 2 ^ 32
  pub firm : length m.firm.0 ≡ 4
  pub reference : m.reference < 2 ^ 64
  pub minimum_quantity : m.minimum_quantity < 2 ^ 32
  pub previous_token : length m.previous_token.0 ≡ 14

-- ---- Canceled, 28 bytes of type C (OUCH 4.2, Canceled)

-- whether the bytes are one, by their length and type
abbrev pub is_canceled : List ℕ → Bool
is_canceled bytes = is_message 28 canceled bytes

-- what its bytes say: each field at its offset
abbrev pub canceled_of : List ℕ → Canceled
canceled_of bytes = record {
  time = number_at 1 8 bytes;
  token = record { 0 = text_at 9 14 bytes };
  shares = number_at 23 4 bytes;
  reason = byte_at 27 bytes;
}

-- its bytes: field after field
abbrev pub canceled_bytes : Canceled → List ℕ
canceled_bytes m = (canceled ∷ []) ++ spelled 8 m.time ++ m.token.0 ++ spelled 4 m.shares
    ++ (m.reason ∷ [])

-- its numbers fit into their bytes, and its names have their lengths
pub record IsCanceled (m : Canceled) : Type 0 where
  pub time : m.time < 2 ^ 64
  pub token : length m.token.0 ≡ 14
  pub shares : m.shares < 2 ^ 32

-- ---- Executed, 40 bytes of type E (OUCH 4.2, Executed)

-- whether the bytes are one, by their length and type
abbrev pub is_executed : List ℕ → Bool
is_executed bytes = is_message 40 executed bytes

-- what its bytes say: each field at its offset
abbrev pub executed_of : List ℕ → Executed
executed_of bytes = record {
  time = number_at 1 8 bytes;
  token = record { 0 = text_at 9 14 bytes };
  shares = number_at 23 4 bytes;
  price = number_at 27 4 bytes;
  liquidity_flag = byte_at 31 bytes;
  match_number = number_at 32 8 bytes;
}

-- its bytes: field after field
abbrev pub executed_bytes : Executed → List ℕ
executed_bytes m = (executed ∷ []) ++ spelled 8 m.time ++ m.token.0 ++ spelled 4 m.shares
    ++ spelled 4 m.price ++ (m.liquidity_flag ∷ []) ++ spelled 8 m.match_number

-- its numbers fit into their bytes, and its names have their lengths
pub record IsExecuted (m : Executed) : Type 0 where
  pub time : m.time < 2 ^ 64
  pub token : length m.token.0 ≡ 14
  pub shares : m.shares < 2 ^ 32
  pub price : m.price < 2 ^ 32
  pub match_number : m.match_number < 2 ^ 64

-- ---- Rejected, 24 bytes of type J (OUCH 4.2, Rejected)

-- whether the bytes are one, by their length and type
abbrev pub is_rejected : List ℕ → Bool
is_rejected bytes = is_message 24 rejected bytes

-- what its bytes say: each field at its offset
abbrev pub rejected_of : List ℕ → Rejected
rejected_of bytes = record {
  time = number_at 1 8 bytes;
  token = record { 0 = text_at 9 14 bytes };
  reason = byte_at 23 bytes;
}

-- its bytes: field after field
abbrev pub rejected_bytes : Rejected → List ℕ
rejected_bytes m = (rejected ∷ []) ++ spelled 8 m.time ++ m.token.0 ++ (m.reason ∷ [])

-- its numbers fit into their bytes, and its names have their lengths
pub record IsRejected (m : Rejected) : Type 0 where
  pub time : m.time < 2 ^ 64
  pub token : length m.token.0 ≡ 14

-- ---- Broken Trade, 32 bytes of type B (OUCH 4.2, Broken Trade)

-- whether the bytes are one, by their length and type
abbrev pub is_broken_trade : List ℕ → Bool
is_broken_trade bytes = is_message 32 broken_trade bytes

-- what its bytes say: each field at its offset
abbrev pub broken_trade_of : List ℕ → BrokenTrade
broken_trade_of bytes = record {
  time = number_at 1 8 bytes;
  token = record { 0 = text_at 9 14 bytes };
  match_number = number_at 23 8 bytes;
  reason = byte_at 31 bytes;
}

-- its bytes: field after field
abbrev pub broken_trade_bytes : BrokenTrade → List ℕ
broken_trade_bytes m = (broken_trade ∷ []) ++ spelled 8 m.time ++ m.token.0
    ++ spelled 8 m.match_number ++ (m.reason ∷ [])

-- its numbers fit into their bytes, and its names have their lengths
pub record IsBrokenTrade (m : BrokenTrade) : Type 0 where
  pub time : m.time < 2 ^ 64
  pub token : length m.token.0 ≡ 14
  pub match_number : m.match_number < 2 ^ 64

-- ---- any message

-- what the bytes say
abbrev pub outbound_of : List ℕ → Option Outbound
outbound_of bytes =
    if is_system_event bytes then Some (variant.SystemEvent (system_event_of bytes))
    else if is_accepted bytes then Some (variant.Accepted (accepted_of bytes))
    else if is_replaced bytes then Some (variant.Replaced (replaced_of bytes))
    else if is_canceled bytes then Some (variant.Canceled (canceled_of bytes))
    else if is_executed bytes then Some (variant.Executed (executed_of bytes))
    else if is_rejected bytes then Some (variant.Rejected (rejected_of bytes))
    else if is_broken_trade bytes then Some (variant.BrokenTrade (broken_trade_of bytes))
    else None

-- whether they are a message at all, by their length and type
abbrev pub is_outbound : List ℕ → Bool
is_outbound bytes = is_system_event bytes || is_accepted bytes || is_replaced bytes
    || is_canceled bytes || is_executed bytes || is_rejected bytes
    || is_broken_trade bytes

-- the spelling that is written
abbrev pub outbound_bytes : Outbound → List ℕ
outbound_bytes (variant.SystemEvent m) = system_event_bytes m
outbound_bytes (variant.Accepted m) = accepted_bytes m
outbound_bytes (variant.Replaced m) = replaced_bytes m
outbound_bytes (variant.Canceled m) = canceled_bytes m
outbound_bytes (variant.Executed m) = executed_bytes m
outbound_bytes (variant.Rejected m) = rejected_bytes m
outbound_bytes (variant.BrokenTrade m) = broken_trade_bytes m

-- each number fits into its bytes, and each name has its length
abbrev pub IsOutbound : Outbound → Type 0
IsOutbound (variant.SystemEvent m) = IsSystemEvent m
IsOutbound (variant.Accepted m) = IsAccepted m
IsOutbound (variant.Replaced m) = IsReplaced m
IsOutbound (variant.Canceled m) = IsCanceled m
IsOutbound (variant.Executed m) = IsExecuted m
IsOutbound (variant.Rejected m) = IsRejected m
IsOutbound (variant.BrokenTrade m) = IsBrokenTrade m
