-- The walk along the links of time meets the orders that the book holds.
use Rattle.std.proofs.Common.{◌≡◌, ℕ, ◌<◌, ◌≤◌, suc, zero, Bool, true, false, ◌||◌, cond, eqb, List, [], ◌∷◌, length, get_or, Option, Some, None, refl, sym, ap, ◌∙◌, subst, arith, eqb-true, eq-eqb}
use Rattle.std.specs.List.{AllByRecursion, list_any, find, IsDistinct}
use Rattle.std.specs.Option.{option_map, is_some}
use Rattle.std.proofs.lemmas.Bool.{cond-true, cond-false, true≢false, false_from_ne_true, or_parts, eqb-false}
use Rattle.std.proofs.lemmas.Map.Steps.{length-le_from_distinct_below}
use Rattle.std.proofs.lemmas.List.{length-map}
use Rattle.slab.specs.Slab.{Slab, get}
use Rattle.hx_book.specs.declared.order.Terms.{Terms}
use Rattle.hx_levels.specs.declared.level_book.linked_orders.Ends.{Ends}
use Rattle.hx_levels.specs.LevelKeys.{LevelKey}
use Rattle.hx_levels.specs.Levels.{LevelStore}
use Rattle.hx_book.specs.declared.order.Order.{Order}
use Rattle.hx_book.specs.declared.order.Live.{Live}
use Rattle.hx_levels.specs.declared.level_book.linked_orders.LinkedOrder.{LinkedOrder}
use Rattle.hx_levels.specs.declared.level_book.linked_orders.Links.{Links}
use Rattle.hx_book.specs.Lists.{head_of}
use Rattle.hx_levels.specs.Chain.{IsChain, links_to}
use Rattle.hx_levels.specs.OrderLinks.{time_links}
use Rattle.hx_book.specs.Book.{is_under, has_key, order_of, KeysDiffer}
use Rattle.hx_levels.proofs.Present.{is_some-map}
use Rattle.hx_ranked.specs.Contents.{Contents as Ranked}
use Rattle.hx_levels.specs.LevelBook.{keys_of, IsBook, step, walk, walked}

abbrev pub IsStored : Slab LinkedOrder → Live → Type 0
IsStored linked_orders live = option_map (λ (linked_order : LinkedOrder). linked_order.order) (get linked_orders live.key.0) ≡ Some live.order

walk-chain : (linked_orders : Slab LinkedOrder) (n : ℕ) (prev last : Option ℕ) (orders : List Live) → length orders ≤ n → IsChain (time_links linked_orders) prev (keys_of orders) last
    → AllByRecursion (IsStored linked_orders) orders → walk n linked_orders (head_of (keys_of orders)) ≡ orders
walk-chain linked_orders zero prev last [] l c s = refl
walk-chain linked_orders (suc n) prev last [] l c s = refl
walk-chain linked_orders zero prev last (x ∷ xs) l c s = absurd (omega arith)
walk-chain linked_orders (suc n) prev last (x ∷ xs) l c s =
    at (get linked_orders x.key.0) c.0 s.0 (walk-chain linked_orders n (Some x.key.0) last xs (omega arith) c.1 s.1)
  where
    at : (o : Option LinkedOrder) → option_map (λ (linked_order : LinkedOrder). linked_order.time) o ≡ Some (record { before = prev; after = head_of (keys_of xs) })
        → option_map (λ (linked_order : LinkedOrder). linked_order.order) o ≡ Some x.order → walk n linked_orders (head_of (keys_of xs)) ≡ xs → step (walk n linked_orders) x.key.0 o ≡ x ∷ xs
    at None t o' ih = cc
    at (Some linked_order) t o' ih =
        let e : linked_order.time ≡ links_to prev (head_of (keys_of xs)) = cc in
        let f : linked_order.order ≡ x.order = cc in
        ap (λ (v : Order). record { key = record { 0 = x.key.0 }; order = v } ∷ walk n linked_orders linked_order.time.after) f
        ∙ ap (λ (v : Links). x ∷ walk n linked_orders v.after) e ∙ ap (λ r. x ∷ r) ih

-- each order of the list is found under its key
pub all_found : (orders : List Live) → KeysDiffer orders → AllByRecursion (λ live. order_of live.key.0 orders ≡ Some live.order) orders
all_found [] d = tt
all_found (x ∷ xs) d = (ap (option_map (λ live. live.order)) (cond-true (is_under x.key.0 x) (Some x) (find (is_under x.key.0) xs) (eq-eqb x.key.0 x.key.0 refl)), later xs xs (λ y h. h) (all_found xs d.1) d.0)
  where
    later : (ys zs : List Live) → ((y : Live) → has_key y.key.0 ys ≡ true → has_key y.key.0 zs ≡ true) → AllByRecursion (λ live. order_of live.key.0 xs ≡ Some live.order) ys → has_key x.key.0 ys ≡ false
        → AllByRecursion (λ live. order_of live.key.0 (x ∷ xs) ≡ Some live.order) ys
    later [] zs h a n = tt
    later (y ∷ ys) zs h a n =
        let p = or_parts (is_under x.key.0 y) (has_key x.key.0 ys) n in (
          (ap (option_map (λ live. live.order)) (cond-false (is_under y.key.0 x) (Some x) (find (is_under y.key.0) xs)
              (false_from_ne_true (is_under y.key.0 x) (λ t. eqb-false y.key.0 x.key.0 p.0 (sym (eqb-true x.key.0 y.key.0 t))))) ∙ a.0),
          later ys ys (λ z m. m) a.1 p.1,
        )

all_stored : (linked_orders : Slab LinkedOrder) (all ys : List Live) → ((key : ℕ) → option_map (λ (linked_order : LinkedOrder). linked_order.order) (get linked_orders key) ≡ order_of key all)
    → AllByRecursion (λ live. order_of live.key.0 all ≡ Some live.order) ys → AllByRecursion (IsStored linked_orders) ys
all_stored linked_orders all [] s a = tt
all_stored linked_orders all (y ∷ ys) s a = (s y.key.0 ∙ a.0, all_stored linked_orders all ys s a.1)

-- a key that has a linked order is below the number of slots
get_or-some : {X : Type 0} (xs : List (Option X)) (i : ℕ) → is_some (get_or xs i None) ≡ true → i < length xs
get_or-some [] i h = cc
get_or-some (x ∷ xs) zero h = omega arith
get_or-some (x ∷ xs) (suc i) h = let l : i < length xs = get_or-some xs i h in omega arith

keys_distinct : (orders : List Live) → KeysDiffer orders → IsDistinct eqb (keys_of orders)
unfolding IsDistinct
keys_distinct [] d = tt
keys_distinct (x ∷ xs) d = (apart xs d.0, keys_distinct xs d.1)
  where
    apart : (ys : List Live) → has_key x.key.0 ys ≡ false → AllByRecursion (λ y. eqb x.key.0 y ≡ false) (keys_of ys)
    apart [] h = tt
    apart (y ∷ ys) h = let p = or_parts (is_under x.key.0 y) (has_key x.key.0 ys) h in
        (false_from_ne_true (eqb x.key.0 y.key.0) (λ t. eqb-false y.key.0 x.key.0 p.0 (sym (eqb-true x.key.0 y.key.0 t))), apart ys p.1)

some_order : (q : ℕ) (ys : List Live) → list_any (eqb q) (keys_of ys) ≡ true → is_some (order_of q ys) ≡ true
some_order q [] h = cc
some_order q (y ∷ ys) h = at (is_under q y) refl (some_order q ys)
  where
    at : (b : Bool) → is_under q y ≡ b → (list_any (eqb q) (keys_of ys) ≡ true → is_some (order_of q ys) ≡ true)
        → is_some (option_map (λ (live : Live). live.order) (cond b (Some y) (find (is_under q) ys))) ≡ true
    at true e ih = refl
    at false e ih = ih (sym (or_parts_left (eqb q y.key.0) (list_any (eqb q) (keys_of ys)) (false_from_ne_true (eqb q y.key.0) (λ t. eqb-false y.key.0 q e (sym (eqb-true q y.key.0 t))))) ∙ h)
      where
        or_parts_left : (a b : Bool) → a ≡ false → (a || b) ≡ b
        or_parts_left true b n = absurd (true≢false n)
        or_parts_left false b n = refl

fits : (linked_orders : Slab LinkedOrder) (orders : List Live) → KeysDiffer orders → ((key : ℕ) → option_map (λ (linked_order : LinkedOrder). linked_order.order) (get linked_orders key) ≡ order_of key orders) → length orders ≤ length linked_orders.slots
fits linked_orders orders d s =
    let l : length (keys_of orders) ≤ length linked_orders.slots = length-le_from_distinct_below (keys_of orders) (length linked_orders.slots) (keys_distinct orders d)
    (λ q m. get_or-some linked_orders.slots q (sym (is_some-map (λ (linked_order : LinkedOrder). linked_order.order) (get linked_orders q)) ∙ ap is_some (s q) ∙ some_order q orders m)) in
    let e : length (keys_of orders) ≡ length orders = length-map orders (λ (live : Live). live.key.0) in
    omega arith

-- what a book holds is what the walk meets
pub walked-is : (linked_orders : Slab LinkedOrder) (levels : LevelStore) (time : Ends) (reserved : Option Terms) (retained : Option LevelKey) (next : ℕ) (ranked : Ranked) (orders : List Live)
    → IsBook linked_orders levels time reserved retained next ranked orders → walked linked_orders time ≡ orders
walked-is linked_orders levels time reserved retained next ranked orders b =
    ap (walk (length linked_orders.slots) linked_orders) b.in_time.first
    ∙ walk-chain linked_orders (length linked_orders.slots) None time.last orders (fits linked_orders orders b.differ b.stored) b.in_time.chain
    (all_stored linked_orders orders orders b.stored (all_found orders b.differ))

pub closed : (linked_orders : Slab LinkedOrder) (levels : LevelStore) (time : Ends) (reserved : Option Terms) (retained : Option LevelKey) (next : ℕ) (ranked : Ranked) (orders : List Live)
    → IsBook linked_orders levels time reserved retained next ranked orders → IsBook linked_orders levels time reserved retained next ranked (walked linked_orders time)
closed linked_orders levels time reserved retained next ranked orders b =
    subst (λ l. IsBook linked_orders levels time reserved retained next ranked l) (sym (walked-is linked_orders levels time reserved retained next ranked orders b)) b
