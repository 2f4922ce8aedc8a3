-- Rank among orders is an order, and keys that differ.
use Rattle.std.proofs.Common.{◌≡◌, ℕ, Bool, true, false, not, ◌&&◌, ◌||◌, cond, eqb, ltb, List, [], ◌∷◌, Option, Some, None, refl, sym, subst, arith}
use Rattle.std.specs.List.{AllByRecursion}
use Rattle.std.specs.Option.{option_map, IfSome}
use Rattle.hx_book.specs.declared.order.Key.{Key}
use Rattle.hx_book.specs.declared.order.Terms.{Terms}
use Rattle.hx_book.specs.Lists.{head_of, after_first}
use Rattle.std.proofs.lemmas.Bool.{or_parts, or_left, or_right, eqb-true, eq-eqb}
use Rattle.std.proofs.lemmas.Bool.Decides.{nat_tests}
use Rattle.hx_units.specs.declared.side.Side.{Side}
use Rattle.hx_book.specs.declared.order.Live.{Live}
use Rattle.hx_units.specs.Side.{is_buy}
use Rattle.hx_book.specs.Book.{is_ahead, is_under, has_key, KeysDiffer, key_after, next_by_rank, ranked, IsRanked}
use Rattle.hx_book.proofs.Lists.{PassesOnce}

above : (buy sx sy : Bool) (p q : ℕ) → Bool
above buy sx sy p q = cond buy (ltb p q) (ltb q p) || (eqb p q && sx && not sy)

above_asym : (buy sx sy : Bool) (p q : ℕ) → above buy sx sy p q ≡ true → above buy sy sx q p ≡ false
unfolding above
above_asym true true true p q h = grind (arith, nat_tests)
above_asym true true false p q h = grind (arith, nat_tests)
above_asym true false true p q h = grind (arith, nat_tests)
above_asym true false false p q h = grind (arith, nat_tests)
above_asym false true true p q h = grind (arith, nat_tests)
above_asym false true false p q h = grind (arith, nat_tests)
above_asym false false true p q h = grind (arith, nat_tests)
above_asym false false false p q h = grind (arith, nat_tests)

pub ahead_asym : (side : Side) (x y : Live) → is_ahead side x y ≡ true → is_ahead side y x ≡ false
unfolding above
ahead_asym side x y h = above_asym (is_buy side) x.order.shown y.order.shown x.order.price y.order.price h

above_skip : (buy sx sy sz : Bool) (p q r : ℕ) → above buy sx sy p q ≡ false → above buy sy sz q r ≡ false → above buy sx sz p r ≡ false
unfolding above
above_skip true true true true p q r h k = grind (arith, nat_tests)
above_skip true true true false p q r h k = grind (arith, nat_tests)
above_skip true true false true p q r h k = grind (arith, nat_tests)
above_skip true true false false p q r h k = grind (arith, nat_tests)
above_skip true false true true p q r h k = grind (arith, nat_tests)
above_skip true false true false p q r h k = grind (arith, nat_tests)
above_skip true false false true p q r h k = grind (arith, nat_tests)
above_skip true false false false p q r h k = grind (arith, nat_tests)
above_skip false true true true p q r h k = grind (arith, nat_tests)
above_skip false true true false p q r h k = grind (arith, nat_tests)
above_skip false true false true p q r h k = grind (arith, nat_tests)
above_skip false true false false p q r h k = grind (arith, nat_tests)
above_skip false false true true p q r h k = grind (arith, nat_tests)
above_skip false false true false p q r h k = grind (arith, nat_tests)
above_skip false false false true p q r h k = grind (arith, nat_tests)
above_skip false false false false p q r h k = grind (arith, nat_tests)

pub ahead_skip : (side : Side) (x y z : Live) → is_ahead side x y ≡ false → is_ahead side y z ≡ false → is_ahead side x z ≡ false
unfolding above
ahead_skip side x y z h k =
    above_skip (is_buy side) x.order.shown y.order.shown z.order.shown x.order.price y.order.price z.order.price h k

pub none_under : (key : ℕ) (orders : List Live) → has_key key orders ≡ false → AllByRecursion (λ y. is_under key y ≡ false) orders
none_under key [] h = tt
none_under key (live ∷ rest) h = let p = or_parts (is_under key live) (has_key key rest) h in (p.0, none_under key rest p.1)

pub once_under : (key : ℕ) (orders : List Live) → KeysDiffer orders → PassesOnce (is_under key) orders
once_under key [] d = tt
once_under key (live ∷ rest) d = (
  (λ t. let e : live.key.0 ≡ key = eqb-true live.key.0 key t in
      none_under key rest (subst (λ n. has_key n rest ≡ false) e d.0)),
  once_under key rest d.1,
)

if_some_weaker : {A : Type 0} (P Q : A → Type 0) → ((x : A) → P x → Q x) → (o : Option A) → IfSome o P → IfSome o Q
if_some_weaker P Q w None h = tt
if_some_weaker P Q w (Some x) h = w x h

-- the next key is one of the list
pub key_after-has : (after : Option Key) (xs : List Live) → IfSome (key_after after xs) (λ key. has_key key.0 xs ≡ true)
key_after-has None [] = tt
key_after-has None (x ∷ xs) = or_left (is_under x.key.0 x) (has_key x.key.0 xs) (eq-eqb x.key.0 x.key.0 refl)
key_after-has (Some after) [] = tt
key_after-has (Some after) (x ∷ xs) = at (is_under after.0 x) (key_after-has None xs) (key_after-has (Some after) xs)
  where
    more : (o : Option Key) → IfSome o (λ key. has_key key.0 xs ≡ true) → IfSome o (λ key. has_key key.0 (x ∷ xs) ≡ true)
    more o h = if_some_weaker (λ (key : Key). has_key key.0 xs ≡ true) (λ key. has_key key.0 (x ∷ xs) ≡ true) (λ key m. or_right (is_under key.0 x) (has_key key.0 xs) m) o h

    at : (b : Bool) → IfSome (key_after None xs) (λ key. has_key key.0 xs ≡ true) → IfSome (key_after (Some after) xs) (λ key. has_key key.0 xs ≡ true)
        → IfSome (option_map (λ (live : Live). live.key) (head_of (cond b xs (after_first (is_under after.0) xs)))) (λ key. has_key key.0 (x ∷ xs) ≡ true)
    at true h k = more (key_after None xs) h
    at false h k = more (key_after (Some after) xs) k

pub result_ranked : (result : Option Key) (terms : Terms) (after : Option Key) (orders : List Live) → result ≡ next_by_rank terms after orders → IfSome result (λ key. IsRanked terms key.0 orders)
result_ranked result terms after orders e = let P : Option Key → Type 0 = λ r. IfSome r (λ key. IsRanked terms key.0 orders) in subst P (sym e) (key_after-has after (ranked terms orders))
