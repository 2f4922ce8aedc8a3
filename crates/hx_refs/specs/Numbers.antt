-- Reference numbers and match numbers (OUCH 4.2 and ITCH 5.0: Order Reference Number, Match Number): how many of each
-- kind were drawn.
use Rattle.std.specs.Prelude.{ℕ, ◌+◌, ◌*◌, ◌^◌, List, replicate, slice_index, slice_set}
use Rattle.hx_units.specs.Limits.{member_numbers}

pub record Numbers : Type 0 where
  -- how many public references
  pub public : ℕ
  -- how many private references, by member number; number 0 is nobody's
  pub private : List ℕ
  -- how many match numbers
  pub matches : ℕ

-- the numbers at the opening: none is drawn
abbrev pub opening_numbers : Numbers
opening_numbers = record { public = 0; private = replicate member_numbers 0; matches = 0 }

-- the counts with one more for the member
abbrev pub raised : List ℕ → (member : ℕ) → List ℕ
raised counts member = slice_set counts member (slice_index counts member + 1)

-- the k-th private reference of a member: above all public ones, and no other member's
abbrev pub private_reference : (member k : ℕ) → ℕ
private_reference member k = 2 ^ 63 + (member * 2 ^ 40 + k)

-- the next public reference
abbrev pub next_public : Numbers → ℕ
next_public numbers = numbers.public + 1

-- the member's next private reference
abbrev pub next_private : Numbers → (member : ℕ) → ℕ
next_private numbers member = private_reference member (slice_index numbers.private member + 1)

-- the next match number
abbrev pub next_match : Numbers → ℕ
next_match numbers = numbers.matches + 1

-- the numbers after each draw
abbrev pub public_drawn : Numbers → Numbers
public_drawn numbers = record numbers { public = numbers.public + 1 }

abbrev pub private_drawn : Numbers → (member : ℕ) → Numbers
private_drawn numbers member = record numbers { private = raised numbers.private member }

abbrev pub match_drawn : Numbers → Numbers
match_drawn numbers = record numbers { matches = numbers.matches + 1 }
