-- Digits of bytes that are written and read block by block.
use Rattle.std.specs.Prelude.{◌≡◌, ℕ, ◌+◌, ◌-◌, ◌*◌, ◌%◌, ◌<◌, ◌&&◌, nat_le, if◌then◌else◌, List, [], ◌∷◌, ◌++◌, drop, slice_index}
use Rattle.hex.specs.Hex.{encode_lower, IsBytes}

-- of some bytes, whose digits would all start at `start`, those from an index on have their digits in the text, and
-- after these is what was there
abbrev pub AreWritten : (bytes : List ℕ) (index start : ℕ) (text later : List ℕ) → Type 0
AreWritten bytes index start text later =
    drop (start + 2 * index) text ≡ encode_lower (drop index bytes) ++ later

-- of the bytes of a text of digits, those from an index on are read: the text has their digits there
pub record AreRead (text : List ℕ) (index : ℕ) (bytes : List ℕ) : Type 0 where
  pub digits : drop (2 * index) text ≡ encode_lower (drop index bytes)
  pub are_bytes : IsBytes (drop index bytes)

-- the value of a digit by its code, and 16 of what is none
abbrev pub value_of : ℕ → ℕ
value_of code =
    if nat_le 48 code && nat_le code 57 then code - 48
    else if nat_le 97 code && nat_le code 102 then code - 87
    else 16

-- all are values of digits
abbrev pub AreValues : List ℕ → Type 0
AreValues values = (i : ℕ) → slice_index values i < 16

-- the bytes of such values, two for each
abbrev pub joined : List ℕ → List ℕ
joined [] = []
joined (high ∷ []) = []
joined (high ∷ low ∷ values) = (high * 16 % 256 + low) % 256 ∷ joined values
