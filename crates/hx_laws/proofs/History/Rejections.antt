-- What is known of an order that is accepted, or that replaces another.
use Rattle.std.proofs.Common.{◌≡◌, ℕ, suc, ◌+◌, ◌-◌, min, Bool, true, false, cond, ltb, leb, refl, ap, sym, ◌∙◌, arith, ◌||◌, ◌&&◌, not, List, [], ◌∷◌, Option, Some, None, slice_get}
use Rattle.std.specs.Prelude.{is_none, unwrap_or}
use Rattle.std.specs.Option.{option_map, option_map_or}
use Rattle.std.proofs.lemmas.Bool.{and_parts, or_parts, not-true}
use Rattle.std.proofs.lemmas.Bool.Decides.{nat_tests}
use Rattle.std.proofs.lemmas.Slice.Eq.{bytes_eq-Decides}
use Rattle.hx_units.specs.Names.{is_symbol}
use Rattle.hx_units.specs.declared.names.Symbol.{Symbol}
use Rattle.hx_members.specs.Setups.{Setup, locate_from, locate_of, symbol_of, no_symbol}
use Rattle.hx_members.specs.Stock.{Stock}
use Rattle.hx_ouch.specs.declared.inbound.Enter.{Enter}
use Rattle.hx_ouch.specs.declared.inbound.Replace.{Replace}
use Rattle.hx_rules.specs.Orders.{is_display, is_immediate, is_shown, is_visible}
use Rattle.hx_rules.specs.Enter.{reasons, rejection, is_bad_shares, is_bad_price, is_late}
use Rattle.hx_rules.specs.Replace.{replace_fails}
use Rattle.hx_rules.proofs.Reasons.{none_applies}

pub shown_not_immediate : (d t : ℕ) → is_shown d t ≡ true → is_immediate t ≡ false
shown_not_immediate d t h = not-true (is_immediate t) (and_parts (is_visible d) (not (is_immediate t)) h).1

some_shares : (n : ℕ) → is_bad_shares n ≡ false → ltb 0 n ≡ true
some_shares n h = grind (arith, nat_tests)

-- a message of no shares is rejected
pub accepted_shares : (setup : Setup) (phase : ℕ) (halted : List Bool) (e : Enter) → rejection setup phase halted e ≡ None → ltb 0 e.shares ≡ true
accepted_shares setup phase halted e h = some_shares e.shares (none_applies (reasons setup phase halted e) h).1.1.1.1.1.0

no_minimum : (n : ℕ) (a b : Bool) → (a || (ltb 0 n && b)) ≡ false → b ≡ true → n ≡ 0
no_minimum n a b h e = grind (arith, nat_tests)

-- an accepted order that is shown has no minimum
pub accepted_minimum : (setup : Setup) (phase : ℕ) (halted : List Bool) (e : Enter) → rejection setup phase halted e ≡ None → is_shown e.display e.time_in_force ≡ true → e.minimum_quantity ≡ 0
accepted_minimum setup phase halted e h s =
    no_minimum e.minimum_quantity (ltb e.shares e.minimum_quantity) (is_shown e.display e.time_in_force) (none_applies (reasons setup phase halted e) h).1.1.1.1.1.1.1.0 s

-- the stock of an accepted order is one of the setup, at its index
record StandsAt (stocks : List Stock) (symbol : Symbol) (n k : ℕ) : Type 0 where
  position : ℕ
  is : n + position ≡ k
  there : option_map (λ s. s.symbol) (slice_get stocks position) ≡ Some symbol

same_symbol : (s t : Symbol) → is_symbol s t ≡ true → s ≡ t
same_symbol s t h = let e : s.0 ≡ t.0 = (bytes_eq-Decides s.0 t.0).0 h in λ j. record { 0 = e j }

stands_at : (n : ℕ) (stocks : List Stock) (symbol : Symbol) (k : ℕ) → locate_from n stocks symbol ≡ Some k → StandsAt stocks symbol n k
stands_at n [] symbol k h = absurd (cc h)
stands_at n (s ∷ stocks) symbol k h = choose (is_symbol symbol s.symbol) refl h (stands_at (n + 1) stocks symbol k)
  where
    choose : (b : Bool) → is_symbol symbol s.symbol ≡ b → cond b (Some n) (locate_from (n + 1) stocks symbol) ≡ Some k
        → (locate_from (n + 1) stocks symbol ≡ Some k → StandsAt stocks symbol (n + 1) k) → StandsAt (s ∷ stocks) symbol n k
    choose true e h ih =
        let same : n ≡ k = cc in
        record { position = 0; is = omega arith; there = ap Some (sym (same_symbol symbol s.symbol e)) }
    choose false e h ih =
        let a = ih h in
        let is : n + 1 + a.position ≡ k = a.is in
        record { position = suc a.position; is = omega arith; there = a.there }

symbol_at : (setup : Setup) (symbol : Symbol) (k : ℕ) → locate_of setup symbol ≡ Some k → symbol_of setup k ≡ symbol
symbol_at setup symbol k h =
    let a = stands_at 1 setup.stocks symbol k h in
    let is : 1 + a.position ≡ k = a.is in
    let e : k ≡ suc a.position = omega arith in
    ap (symbol_of setup) e ∙ found (slice_get setup.stocks a.position) a.there
  where
    found : (o : Option Stock) → option_map (λ s. s.symbol) o ≡ Some symbol → option_map_or (λ s. s.symbol) o no_symbol ≡ symbol
    found None g = absurd (cc g)
    found (Some s) g = let same : s.symbol ≡ symbol = cc in same

pub accepted_stock : (setup : Setup) (phase : ℕ) (halted : List Bool) (e : Enter) → rejection setup phase halted e ≡ None → symbol_of setup (unwrap_or (locate_of setup e.stock) 0) ≡ e.stock
accepted_stock setup phase halted e h = choose (locate_of setup e.stock) refl (none_applies (reasons setup phase halted e) h).1.0
  where
    choose : (o : Option ℕ) → locate_of setup e.stock ≡ o → is_none o ≡ false → symbol_of setup (unwrap_or o 0) ≡ e.stock
    choose None g f = absurd (let z : true ≡ false = f in cc)
    choose (Some k) g f = symbol_at setup e.stock k g

-- Of a replace that does not fail.

-- the conditions one by one
fifth_of : (a b c d e f : Bool) → (a || (b || (c || (d || (e || f))))) ≡ false → e ≡ false
fifth_of a b c d e f h = (or_parts e f (or_parts d _ (or_parts c _ (or_parts b _ (or_parts a _ h).1).1).1).1).0

last_of : (a b c d e f : Bool) → (a || (b || (c || (d || (e || f))))) ≡ false → f ≡ false
last_of a b c d e f h = (or_parts e f (or_parts d _ (or_parts c _ (or_parts b _ (or_parts a _ h).1).1).1).1).1

more_shares : (k n : ℕ) → leb k n ≡ false → ltb 0 (k - n) ≡ true
more_shares k n h = grind (arith, nat_tests)

pub replaced_shares : (phase n : ℕ) (r : Replace) → replace_fails phase n r ≡ false → ltb 0 (r.shares - n) ≡ true
replaced_shares phase n r h =
    more_shares r.shares n
    (last_of (is_bad_shares r.shares) (is_bad_price r.price) (not (is_display r.display)) (is_late phase r.time_in_force) (ltb 0 r.minimum_quantity && is_shown r.display r.time_in_force) (leb r.shares n) h)

pub replaced_minimum : (phase n : ℕ) (r : Replace) → replace_fails phase n r ≡ false → is_shown r.display r.time_in_force ≡ true → min r.minimum_quantity (r.shares - n) ≡ 0
replaced_minimum phase n r h s =
    let none : r.minimum_quantity ≡ 0 = no_minimum r.minimum_quantity false (is_shown r.display r.time_in_force)
    (fifth_of (is_bad_shares r.shares) (is_bad_price r.price) (not (is_display r.display)) (is_late phase r.time_in_force) (ltb 0 r.minimum_quantity && is_shown r.display r.time_in_force) (leb r.shares n) h) s in
    omega arith
