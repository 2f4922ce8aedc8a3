-- What a message has that nothing rejects, and an event that is not refused.
use Rattle.std.proofs.Common.{◌≡◌, ℕ, ◌<◌, ◌≤◌, Bool, true, false, ◌==◌, ◌||◌, ◌&&◌, not, List, [], Some, None, if◌then◌else◌, ◌%◌, refl, nat_lt, nat_le, arith}
use Rattle.std.specs.Prelude.{is_none, is_some}
use Rattle.std.proofs.lemmas.Bool.{or_parts}
use Rattle.std.proofs.lemmas.Bool.Decides.{nat_tests}
use Rattle.hx_members.specs.Setups.{Setup, locate_of}
use Rattle.hx_members.specs.TokenState.{TokenState}
use Rattle.hx_ouch.specs.declared.inbound.Enter.{Enter}
use Rattle.hx_rules.specs.Enter.{reasons, rejection, is_bad_price}
use Rattle.hx_rules.proofs.Reasons.{none_applies}

price_in_range : (p : ℕ) → is_bad_price p ≡ false → (0 < p) × (p ≤ 1999999900)
price_in_range p h =
    let a = or_parts (p == 0) (nat_lt 1999999900 p || (nat_le 10000 p && not (p % 100 == 0))) h in
    let b = or_parts (nat_lt 1999999900 p) (nat_le 10000 p && not (p % 100 == 0)) a.1 in
    (above p a.0, below p b.0)
  where
    above : (p : ℕ) → (p == 0) ≡ false → 0 < p
    above p h = grind (arith, nat_tests)

    below : (p : ℕ) → nat_lt 1999999900 p ≡ false → p ≤ 1999999900
    below p h = grind (arith, nat_tests)

-- the stock is known, and price and shares are in range
pub record Passes (setup : Setup) (e : Enter) : Type 0 where
  pub stock : is_none (locate_of setup e.stock) ≡ false
  pub price : (0 < e.price) × (e.price ≤ 1999999900)
  pub shares : e.shares ≤ 999999

pub passes : (setup : Setup) (phase : ℕ) (halted : List Bool) (e : Enter) → rejection setup phase halted e ≡ None → Passes setup e
passes setup phase halted e h =
    let all = none_applies (reasons setup phase halted e) h in
    let price = price_in_range e.price all.1.1.1.1.1.1.0 in
    record { stock = all.1.0; price = price; shares = most e.shares (or_parts (e.shares == 0) (nat_lt 999999 e.shares) all.1.1.1.1.1.0).1 }
  where
    most : (n : ℕ) → nat_lt 999999 n ≡ false → n ≤ 999999
    most n h = grind (arith, nat_tests)

-- a token that is not used has no state
pub unused_of : (b : Bool) (s : TokenState) → is_some (if b then Some s else None) ≡ false → b ≡ false
unused_of true s h = h
unused_of false s h = refl
