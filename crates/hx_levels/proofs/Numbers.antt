-- The numbers of a book's orders rise, after each change too; and ranks of orders with different numbers differ.
use Rattle.std.proofs.Common.{◌≡◌, ℕ, ◌+◌, ◌*◌, ◌^◌, ◌<◌, Bool, true, false, cond, eqb, List, [], ◌∷◌, ◌++◌, Option, Some, None, refl, sym, ap, ◌∙◌, subst, arith, ne_eqb}
use Rattle.std.specs.List.{AllByRecursion, filter}
use Rattle.std.specs.Option.{option_map, unwrap_or}
use Rattle.std.proofs.lemmas.Bool.{cond_both}
use Rattle.slab.specs.Slab.{Slab, get}
use Rattle.hx_book.specs.declared.order.Live.{Live}
use Rattle.hx_levels.specs.declared.level_book.linked_orders.LinkedOrder.{LinkedOrder}
use Rattle.hx_book.specs.Lists.{drop_first}
use Rattle.hx_levels.specs.LevelKeys.{LevelKey, level_key_number}
use Rattle.hx_book.specs.Book.{is_under, with_less, reduced, has_key}
use Rattle.hx_levels.specs.LevelBook.{AreNumbered, number_in, rank_at}
use Rattle.hx_book.proofs.Lists.{all_dropped, all_filtered}
use Rattle.hx_book.proofs.Orders.{none_under}
use Rattle.hx_units.proofs.Lists.{all_pushed}

-- each order has the same number twice
abbrev pub AreSame : (n m : ℕ → ℕ) → List Live → Type 0
AreSame n m orders = AllByRecursion (λ y. m y.key.0 ≡ n y.key.0) orders

pub numbered-same : (n m : ℕ → ℕ) (next : ℕ) (orders : List Live) → AreSame n m orders → AreNumbered n next orders → AreNumbered m next orders
numbered-same n m next [] e a = tt
numbered-same n m next (x ∷ xs) e a =
    (later xs e.1 a.0, subst (λ k. k < next) (sym e.0) a.1, numbered-same n m next xs e.1 a.2)
  where
    later : (zs : List Live) → AreSame n m zs → AllByRecursion (λ y. n x.key.0 < n y.key.0) zs → AllByRecursion (λ y. m x.key.0 < m y.key.0) zs
    later [] f b = tt
    later (z ∷ zs) f b =
        (subst (λ k. k < m z.key.0) (sym e.0) (subst (λ k. n x.key.0 < k) (sym f.0) b.0), later zs f.1 b.1)

pub all-below : (n : ℕ → ℕ) (next : ℕ) (orders : List Live) → AreNumbered n next orders → AllByRecursion (λ y. n y.key.0 < next) orders
all-below n next [] a = tt
all-below n next (x ∷ xs) a = (a.1, all-below n next xs a.2)

-- an order that comes last has the next number
pub numbered-push : (n : ℕ → ℕ) (next : ℕ) (orders : List Live) (x : Live) → AreNumbered n next orders → n x.key.0 ≡ next → AreNumbered n (next + 1) (orders ++ x ∷ [])
numbered-push n next [] x a e = (tt, let h : n x.key.0 ≡ next = e in omega arith, tt)
numbered-push n next (y ∷ ys) x a e =
    let h : n x.key.0 ≡ next = e in
    let l : n y.key.0 < next = a.1 in (
      all_pushed (λ (z : Live). n y.key.0 < n z.key.0) ys x a.0 (omega arith),
      omega arith,
      numbered-push n next ys x a.2 e,
    )

pub numbered-dropped : (n : ℕ → ℕ) (next : ℕ) (test : Live → Bool) (orders : List Live) → AreNumbered n next orders → AreNumbered n next (drop_first test orders)
numbered-dropped n next test [] a = tt
numbered-dropped n next test (x ∷ xs) a =
    cond_both (test x) xs (x ∷ drop_first test xs) (λ r. AreNumbered n next r) (λ _. a.2)
    (λ _. (all_dropped (λ y. n x.key.0 < n y.key.0) test xs a.0, a.1, numbered-dropped n next test xs a.2))

pub all-reduced : (n : ℕ → ℕ) (P : ℕ → Type 0) (key by : ℕ) (orders : List Live) → AllByRecursion (λ y. P (n y.key.0)) orders → AllByRecursion (λ y. P (n y.key.0)) (reduced key by orders)
all-reduced n P key by [] a = tt
all-reduced n P key by (x ∷ xs) a =
    cond_both (is_under key x) (record x { order = with_less by x.order } ∷ xs) (x ∷ reduced key by xs) (λ r. AllByRecursion (λ y. P (n y.key.0)) r)
    (λ _. (a.0, a.1)) (λ _. (a.0, all-reduced n P key by xs a.1))

pub numbered-reduced : (n : ℕ → ℕ) (next key by : ℕ) (orders : List Live) → AreNumbered n next orders → AreNumbered n next (reduced key by orders)
numbered-reduced n next key by [] a = tt
numbered-reduced n next key by (x ∷ xs) a =
    cond_both (is_under key x) (record x { order = with_less by x.order } ∷ xs) (x ∷ reduced key by xs) (λ r. AreNumbered n next r)
    (λ _. (a.0, a.1, a.2)) (λ _. (all-reduced n (λ m. n x.key.0 < m) key by xs a.0, a.1, numbered-reduced n next key by xs a.2))

pub numbered-filtered : (n : ℕ → ℕ) (next : ℕ) (keep : Live → Bool) (orders : List Live) → AreNumbered n next orders → AreNumbered n next (filter keep orders)
numbered-filtered n next keep [] a = tt
numbered-filtered n next keep (x ∷ xs) a =
    cond_both (keep x) (x ∷ filter keep xs) (filter keep xs) (λ r. AreNumbered n next r)
    (λ _. (all_filtered (λ y. n x.key.0 < n y.key.0) keep xs a.0, a.1, numbered-filtered n next keep xs a.2)) (λ _. numbered-filtered n next keep xs a.2)

-- numbers in a slab of linked orders

-- a change that leaves a linked order's number
pub number-retained : (change : LinkedOrder → LinkedOrder) → ((linked_order : LinkedOrder) → (change linked_order).number ≡ linked_order.number) → (old new : Slab LinkedOrder) (k : ℕ)
    → get new k ≡ option_map change (get old k) → number_in new k ≡ number_in old k
number-retained change keeps old new k e = ap (λ o. unwrap_or (option_map (λ (n : LinkedOrder). n.number) o) 0) e ∙ at (get old k)
  where
    at : (o : Option LinkedOrder) → unwrap_or (option_map (λ (n : LinkedOrder). n.number) (option_map change o)) 0 ≡ unwrap_or (option_map (λ (n : LinkedOrder). n.number) o) 0
    at None = refl
    at (Some linked_order) = keeps linked_order

pub number-is : (linked_orders : Slab LinkedOrder) (k : ℕ) (linked_order : LinkedOrder) → get linked_orders k ≡ Some linked_order → number_in linked_orders k ≡ linked_order.number
number-is linked_orders k linked_order e = ap (λ o. unwrap_or (option_map (λ (n : LinkedOrder). n.number) o) 0) e

-- if a key is none of the orders', what holds of all other keys holds of them
pub all-other : (P : ℕ → Type 0) (key : ℕ) (orders : List Live) → has_key key orders ≡ false → ((k : ℕ) → eqb k key ≡ false → P k) → AllByRecursion (λ y. P y.key.0) orders
all-other P key orders h p = each orders (none_under key orders h)
  where
    each : (zs : List Live) → AllByRecursion (λ y. is_under key y ≡ false) zs → AllByRecursion (λ y. P y.key.0) zs
    each [] a = tt
    each (z ∷ zs) a = (p z.key.0 a.0, each zs a.1)

-- ranks with different numbers differ
pub ranks-differ : (a b : LevelKey) (s t : Bool) (m k : ℕ) → m < 2 ^ 63 → k < 2 ^ 63 → (m ≡ k → ⊥) → eqb (rank_at a s m) (rank_at b t k) ≡ false
ranks-differ a b s t m k lm lk n = ne_eqb (rank_at a s m) (rank_at b t k) (λ e. n (by (level_key_number a) (level_key_number b) s t e))
  where
    by : (x y : ℕ) (u v : Bool) → x * 2 ^ 64 + (cond u 0 (2 ^ 63) + m) ≡ y * 2 ^ 64 + (cond v 0 (2 ^ 63) + k) → m ≡ k
    by x y true true e = omega arith
    by x y true false e = omega arith
    by x y false true e = omega arith
    by x y false false e = omega arith
