-- A message from a member (OUCH 4.2, Inbound Messages): what its bytes say, and how it is written.
use Rattle.std.specs.Prelude.{ℕ, ◌^◌, ◌<◌, ◌≡◌, ◌∷◌, ◌++◌, List, [], Option, Some, None, length, Bool, ◌||◌, if◌then◌else◌}
use Rattle.hx_ouch.specs.InboundKinds.{enter_order, replace_order, cancel_order}
use Rattle.hx_units.specs.Fields.{is_message, byte_at, text_at, number_at, spelled}
use Rattle.hx_ouch.specs.declared.inbound.Enter.{Enter}
use Rattle.hx_ouch.specs.declared.inbound.Replace.{Replace}
use Rattle.hx_ouch.specs.declared.inbound.Cancel.{Cancel}
use Rattle.hx_ouch.specs.declared.inbound.Inbound.{Inbound}
use Rattle.hx_ouch.specs.declared.inbound.Inbound.TheVariants as variant

-- ---- Enter Order, 49 bytes of type O (OUCH 4.2, Enter Order)

-- whether the bytes are one, by their length and type
abbrev pub is_enter : List ℕ → Bool
is_enter bytes = is_message 49 enter_order bytes

-- what its bytes say: each field at its offset
abbrev pub enter_of : List ℕ → Enter
enter_of bytes = record {
  token = record { 0 = text_at 1 14 bytes };
  side = byte_at 15 bytes;
  shares = number_at 16 4 bytes;
  stock = record { 0 = text_at 20 8 bytes };
  price = number_at 28 4 bytes;
  time_in_force = number_at 32 4 bytes;
  firm = record { 0 = text_at 36 4 bytes };
  display = byte_at 40 bytes;
  capacity = byte_at 41 bytes;
  intermarket_sweep = byte_at 42 bytes;
  minimum_quantity = number_at 43 4 bytes;
  cross_type = byte_at 47 bytes;
  customer_type = byte_at 48 bytes;
}

-- its bytes: field after field
abbrev pub enter_bytes : Enter → List ℕ
enter_bytes m = (enter_order ∷ []) ++ m.token.0 ++ (m.side ∷ []) ++ spelled 4 m.shares ++ m.stock.0
    ++ spelled 4 m.price ++ spelled 4 m.time_in_force ++ m.firm.0 ++ (m.display ∷ [])
    ++ (m.capacity ∷ []) ++ (m.intermarket_sweep ∷ []) ++ spelled 4 m.minimum_quantity
    ++ (m.cross_type ∷ []) ++ (m.customer_type ∷ [])

-- its numbers fit into their bytes, and its names have their lengths
pub record IsEnter (m : Enter) : Type 0 where
  pub token : length m.token.0 ≡ 14
  pub shares : m.shares < 2 ^ 32
  pub stock : length m.stock.0 ≡ 8
  pub price : m.price < 2 ^ 32
  pub time_in_force : m.time_in_force < 2 ^ 32
  pub firm : length m.firm.0 ≡ 4
  pub minimum_quantity : m.minimum_quantity < 2 ^ 32

-- ---- Replace Order, 47 bytes of type U (OUCH 4.2, Replace Order)

-- whether the bytes are one, by their length and type
abbrev pub is_replace : List ℕ → Bool
is_replace bytes = is_message 47 replace_order bytes

-- what its bytes say: each field at its offset
abbrev pub replace_of : List ℕ → Replace
replace_of bytes = record {
  existing_token = record { 0 = text_at 1 14 bytes };
  replacement_token = record { 0 = text_at 15 14 bytes };
  shares = number_at 29 4 bytes;
  price = number_at 33 4 bytes;
  time_in_force = number_at 37 4 bytes;
  display = byte_at 41 bytes;
  intermarket_sweep = byte_at 42 bytes;
  minimum_quantity = number_at 43 4 bytes;
}

-- its bytes: field after field
abbrev pub replace_bytes : Replace → List ℕ
replace_bytes m = (replace_order ∷ []) ++ m.existing_token.0 ++ m.replacement_token.0
    ++ spelled 4 m.shares ++ spelled 4 m.price ++ spelled 4 m.time_in_force ++ (m.display ∷ [])
    ++ (m.intermarket_sweep ∷ []) ++ spelled 4 m.minimum_quantity

-- its numbers fit into their bytes, and its names have their lengths
pub record IsReplace (m : Replace) : Type 0 where
  pub existing_token : length m.existing_token.0 ≡ 14
  pub replacement_token : length m.replacement_token.0 ≡ 14
  pub shares : m.shares < 2 ^ 32
  pub price : m.price < 2 ^ 32
  pub time_in_force : m.time_in_force < 2 ^ 32
  pub minimum_quantity : m.minimum_quantity < 2 ^ 32

-- ---- Cancel Order, 19 bytes of type X (OUCH 4.2, Cancel Order)

-- whether the bytes are one, by their length and type
abbrev pub is_cancel : List ℕ → Bool
is_cancel bytes = is_message 19 cancel_order bytes

-- what its bytes say: each field at its offset
abbrev pub cancel_of : List ℕ → Cancel
cancel_of bytes = record {
  token = record { 0 = text_at 1 14 bytes };
  shares = number_at 15 4 bytes;
}

-- its bytes: field after field
abbrev pub cancel_bytes : Cancel → List ℕ
cancel_bytes m = (cancel_order ∷ []) ++ m.token.0 ++ spelled 4 m.shares

-- its numbers fit into their bytes, and its names have their lengths
pub record IsCancel (m : Cancel) : Type 0 where
  pub token : length m.token.0 ≡ 14
  pub shares : m.shares < 2 ^ 32

-- ---- any message

-- what the bytes say
abbrev pub inbound_of : List ℕ → Option Inbound
inbound_of bytes =
    if is_enter bytes then Some (variant.Enter (enter_of bytes))
    else if is_replace bytes then Some (variant.Replace (replace_of bytes))
    else if is_cancel bytes then Some (variant.Cancel (cancel_of bytes))
    else None

-- whether they are a message at all, by their length and type
abbrev pub is_inbound : List ℕ → Bool
is_inbound bytes = is_enter bytes || is_replace bytes || is_cancel bytes

-- the spelling that is written
abbrev pub inbound_bytes : Inbound → List ℕ
inbound_bytes (variant.Enter m) = enter_bytes m
inbound_bytes (variant.Replace m) = replace_bytes m
inbound_bytes (variant.Cancel m) = cancel_bytes m

-- each number fits into its bytes, and each name has its length
abbrev pub IsInbound : Inbound → Type 0
IsInbound (variant.Enter m) = IsEnter m
IsInbound (variant.Replace m) = IsReplace m
IsInbound (variant.Cancel m) = IsCancel m
