-- The next price of a depth is after the one before.
use Rattle.std.proofs.Common.{◌≡◌, ℕ, ◌+◌, ◌≤◌, ◌<◌, ◌-◌, ◌^◌, nat_lt, List, [], ◌∷◌, Bool, true, false, Option, Some, None, cond, refl, ap, ◌∙◌, arith, inl, inr, ◌⊎◌}
use Rattle.std.specs.List.{filter}
use Rattle.std.proofs.lemmas.Bool.Decides.{nat_tests}
use Rattle.hx_reader.specs.Prices.{IsAmong, below, above}

-- what is left of some numbers passes the test
passes : (f : ℕ → Bool) (p : ℕ) (ps : List ℕ) → IsAmong p (filter f ps) → f p ≡ true
passes f p [] h = absurd h
passes f p (q ∷ ps) h = at (f q) refl h (passes f p ps)
  where
    at : (b : Bool) → f q ≡ b → IsAmong p (cond b (q ∷ filter f ps) (filter f ps)) → (IsAmong p (filter f ps) → f p ≡ true) → f p ≡ true
    at true e (inl s) ih = ap f s ∙ e
    at true e (inr i) ih = ih i
    at false e i ih = ih i

pub is_below : (limit p : ℕ) (ps : List ℕ) → IsAmong p (below (Some limit) ps) → p < limit
is_below limit p ps h = let t : nat_lt p limit ≡ true = passes (λ q. nat_lt q limit) p ps h in grind (arith, nat_tests)

pub is_above : (limit p : ℕ) (ps : List ℕ) → IsAmong p (above (Some limit) ps) → limit < p
is_above limit p ps h = let t : nat_lt limit p ≡ true = passes (λ q. nat_lt limit q) p ps h in grind (arith, nat_tests)

-- how far a limit can still fall
abbrev pub room_below : Option ℕ → ℕ
room_below None = 2 ^ 32
room_below (Some limit) = limit

-- how far it can still rise
abbrev pub room_above : Option ℕ → ℕ
room_above None = 2 ^ 32 + 1
room_above (Some limit) = 2 ^ 32 - limit

pub falls : (limit : Option ℕ) (p : ℕ) (ps : List ℕ) → IsAmong p (below limit ps) → p < 2 ^ 32 → room_below (Some p) < room_below limit
falls None p ps h fits = fits
falls (Some limit) p ps h fits = is_below limit p ps h

pub rises : (limit : Option ℕ) (p : ℕ) (ps : List ℕ) → IsAmong p (above limit ps) → p < 2 ^ 32 → room_above (Some p) < room_above limit
rises None p ps h fits = omega arith
rises (Some limit) p ps h fits = let b : limit < p = is_above limit p ps h in omega (arith, b, fits)
