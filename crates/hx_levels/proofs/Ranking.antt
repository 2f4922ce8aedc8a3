-- The orders that cross incoming terms, by rank, rise by their ranks as numbers.
use Rattle.std.proofs.Common.{◌≡◌, ℕ, ◌+◌, ◌*◌, ◌^◌, ◌<◌, inl, inr, Bool, true, false, not, ◌||◌, ◌&&◌, cond, eqb, ltb, List, [], ◌∷◌, Some, refl, sym, ap, ◌∙◌, subst, arith, eqb-true, eq-eqb}
use Rattle.std.specs.List.{AllByRecursion, find, filter}
use Rattle.std.proofs.lemmas.Bool.{cond_both, cond-true, cond-false, true≢false, false_from_ne_true, cases_order}
use Rattle.std.proofs.lemmas.Bool.Decides.{nat_tests}
use Rattle.hx_book.specs.declared.order.Live.{Live}
use Rattle.hx_book.specs.declared.order.Terms.{Terms}
use Rattle.hx_book.specs.Rank.{placed, by_rank, first_of}
use Rattle.hx_levels.specs.LevelKeys.{side_number}
use Rattle.hx_book.specs.Book.{is_under, is_ahead, crosses, ranked, has_key, KeysDiffer, is_conditional}
use Rattle.hx_levels.specs.LevelBook.{AreNumbered, rank_at, rank_of, contra, unconditional}
use Rattle.hx_book.proofs.Lists.{all_weaker, all_filtered, once_filtered}
use Rattle.hx_book.proofs.Rank.{placed-all, all_ranked, first_of-find, first_of-filter, find-by_rank}
use Rattle.hx_book.proofs.Orders.{ahead_asym, ahead_skip, once_under}
use Rattle.hx_book.proofs.Next.{all_retained}
use Rattle.hx_levels.proofs.LevelRanks.{IsPriced, crosses-level_key, distance_of, ahead-distance}
use Rattle.hx_levels.proofs.LevelNext.{find-retained}
use Rattle.hx_levels.proofs.Numbers.{numbered-filtered}
use Rattle.hx_levels.proofs.Indexed.{all-small}
use Rattle.hx_levels.proofs.Rising.{IsRisingBy}

-- an order that crosses the terms, as far as ranks go
abbrev pub IsCrossing : (n : ℕ → ℕ) → Terms → Live → Type 0
IsCrossing n terms y = (crosses terms y.order ≡ true) × IsPriced y × (n y.key.0 < 2 ^ 63)

-- the numbers of two ranks on one side, by distance, shown before hidden, and number

less_ahead : (s d e m k : ℕ) (sx sy : Bool) → m < 2 ^ 63 → k < 2 ^ 63 → (ltb d e || (eqb d e && sx && not sy)) ≡ true
    → (s * 2 ^ 32 + d) * 2 ^ 64 + (cond sx 0 (2 ^ 63) + m) < (s * 2 ^ 32 + e) * 2 ^ 64 + (cond sy 0 (2 ^ 63) + k)
less_ahead s d e m k sx sy lm lk h = elim (cases_order d e) [ inl q ↦ same q sx sy h | inr o ↦ elim o [ inl l ↦ nearer l sx sy | inr l ↦ absurd (farther l sx sy h) ] ]
  where
    nearer : d < e → (a b : Bool) → (s * 2 ^ 32 + d) * 2 ^ 64 + (cond a 0 (2 ^ 63) + m) < (s * 2 ^ 32 + e) * 2 ^ 64 + (cond b 0 (2 ^ 63) + k)
    nearer l true true = omega arith
    nearer l true false = omega arith
    nearer l false true = omega arith
    nearer l false false = omega arith

    farther : e < d → (a b : Bool) → (ltb d e || (eqb d e && a && not b)) ≡ true → ⊥
    farther l true true g = grind (arith, nat_tests)
    farther l true false g = grind (arith, nat_tests)
    farther l false true g = grind (arith, nat_tests)
    farther l false false g = grind (arith, nat_tests)

    same : d ≡ e → (a b : Bool) → (ltb d e || (eqb d e && a && not b)) ≡ true → (s * 2 ^ 32 + d) * 2 ^ 64 + (cond a 0 (2 ^ 63) + m) < (s * 2 ^ 32 + e) * 2 ^ 64 + (cond b 0 (2 ^ 63) + k)
    same q true false g = omega arith
    same q true true g = absurd (no g)
      where
        no : (ltb d e || (eqb d e && true && false)) ≡ true → ⊥
        no g' = grind (arith, nat_tests)
    same q false b g = absurd (no b g)
      where
        no : (c : Bool) → (ltb d e || (eqb d e && false && not c)) ≡ true → ⊥
        no true g' = grind (arith, nat_tests)
        no false g' = grind (arith, nat_tests)

less_earlier : (s d e m k : ℕ) (sx sy : Bool) → m < 2 ^ 63 → k < 2 ^ 63 → m < k → (ltb e d || (eqb e d && sy && not sx)) ≡ false
    → (s * 2 ^ 32 + d) * 2 ^ 64 + (cond sx 0 (2 ^ 63) + m) < (s * 2 ^ 32 + e) * 2 ^ 64 + (cond sy 0 (2 ^ 63) + k)
less_earlier s d e m k sx sy lm lk mk h = elim (cases_order d e) [ inl q ↦ same q sx sy h | inr o ↦ elim o [ inl l ↦ nearer l sx sy | inr l ↦ absurd (farther l sx sy h) ] ]
  where
    nearer : d < e → (a b : Bool) → (s * 2 ^ 32 + d) * 2 ^ 64 + (cond a 0 (2 ^ 63) + m) < (s * 2 ^ 32 + e) * 2 ^ 64 + (cond b 0 (2 ^ 63) + k)
    nearer l true true = omega arith
    nearer l true false = omega arith
    nearer l false true = omega arith
    nearer l false false = omega arith

    farther : e < d → (a b : Bool) → (ltb e d || (eqb e d && b && not a)) ≡ false → ⊥
    farther l true true g = grind (arith, nat_tests)
    farther l true false g = grind (arith, nat_tests)
    farther l false true g = grind (arith, nat_tests)
    farther l false false g = grind (arith, nat_tests)

    same : d ≡ e → (a b : Bool) → (ltb e d || (eqb e d && b && not a)) ≡ false → (s * 2 ^ 32 + d) * 2 ^ 64 + (cond a 0 (2 ^ 63) + m) < (s * 2 ^ 32 + e) * 2 ^ 64 + (cond b 0 (2 ^ 63) + k)
    same q true true g = omega arith
    same q true false g = omega arith
    same q false false g = omega arith
    same q false true g = absurd (no g)
      where
        no : (ltb e d || (eqb e d && true && true)) ≡ false → ⊥
        no g' = grind (arith, nat_tests)

module _ (n : ℕ → ℕ) (terms : Terms) where
  rank_is : (y : Live) → IsCrossing n terms y → rank_of n y ≡ rank_at (contra terms (distance_of y)) y.order.shown (n y.key.0)
  rank_is y c = ap (λ r. rank_at r y.order.shown (n y.key.0)) (crosses-level_key terms y c.1 c.0).0

  pub ahead_less : (x y : Live) → IsCrossing n terms x → IsCrossing n terms y → is_ahead terms.side x y ≡ true → rank_of n x < rank_of n y
  ahead_less x y c d a =
      let e = ahead-distance terms x y (distance_of x) (distance_of y) c.1 d.1 (crosses-level_key terms x c.1 c.0).0 (crosses-level_key terms y d.1 d.0).0 in
      subst (λ i. i < rank_of n y) (sym (rank_is x c)) (subst (λ i. rank_at (contra terms (distance_of x)) x.order.shown (n x.key.0) < i) (sym (rank_is y d))
      (less_ahead (side_number (contra terms 0)) (distance_of x) (distance_of y) (n x.key.0) (n y.key.0) x.order.shown y.order.shown c.2 d.2 (sym e ∙ a)))

  pub earlier_less : (x y : Live) → IsCrossing n terms x → IsCrossing n terms y → is_ahead terms.side y x ≡ false → n x.key.0 < n y.key.0 → rank_of n x < rank_of n y
  earlier_less x y c d a l =
      let e = ahead-distance terms y x (distance_of y) (distance_of x) d.1 c.1 (crosses-level_key terms y d.1 d.0).0 (crosses-level_key terms x c.1 c.0).0 in
      subst (λ i. i < rank_of n y) (sym (rank_is x c)) (subst (λ i. rank_at (contra terms (distance_of x)) x.order.shown (n x.key.0) < i) (sym (rank_is y d))
      (less_earlier (side_number (contra terms 0)) (distance_of x) (distance_of y) (n x.key.0) (n y.key.0) x.order.shown y.order.shown c.2 d.2 l (sym e ∙ a)))

  placed_rising : (x : Live) (ys : List Live) → IsCrossing n terms x → AllByRecursion (IsCrossing n terms) ys → AllByRecursion (λ y. n x.key.0 < n y.key.0) ys
      → IsRisingBy (rank_of n) ys → IsRisingBy (rank_of n) (placed (is_ahead terms.side) x ys)
  placed_rising x [] c a e h = (tt, tt)
  placed_rising x (y ∷ ys) c a e h =
      cond_both (is_ahead terms.side y x) (y ∷ placed (is_ahead terms.side) x ys) (x ∷ y ∷ ys) (IsRisingBy (rank_of n))
      (λ t. (placed-all (is_ahead terms.side) (ahead_asym terms.side) (ahead_skip terms.side) (λ z. rank_of n y < rank_of n z) x ys (ahead_less y x a.0 c t) h.0, placed_rising x ys c a.1 e.1 h.1))
      (λ f. let l : rank_of n x < rank_of n y = earlier_less x y c a.0 f e.0 in
      ((l, all_weaker (λ z. rank_of n y < rank_of n z) (λ z. rank_of n x < rank_of n z) (λ z g. omega arith) ys h.0), h))

  by_rank_rising : (next : ℕ) (xs : List Live) → AllByRecursion (IsCrossing n terms) xs → AreNumbered n next xs → IsRisingBy (rank_of n) (by_rank (is_ahead terms.side) xs)
  by_rank_rising next [] a b = tt
  by_rank_rising next (x ∷ xs) a b =
      placed_rising x (by_rank (is_ahead terms.side) xs) a.0
      (all_ranked (is_ahead terms.side) (ahead_asym terms.side) (ahead_skip terms.side) (IsCrossing n terms) xs a.1)
      (all_ranked (is_ahead terms.side) (ahead_asym terms.side) (ahead_skip terms.side) (λ y. n x.key.0 < n y.key.0) xs b.0)
      (by_rank_rising next xs a.1 b.2)

-- each order is found under its key
pub all_own : (xs : List Live) → KeysDiffer xs → AllByRecursion (λ y. find (is_under y.key.0) xs ≡ Some y) xs
all_own [] d = tt
all_own (x ∷ xs) d = (cond-true (is_under x.key.0 x) (Some x) (find (is_under x.key.0) xs) (eq-eqb x.key.0 x.key.0 refl), later xs d.0 (all_own xs d.1))
  where
    later : (zs : List Live) → has_key x.key.0 zs ≡ false → AllByRecursion (λ y. find (is_under y.key.0) xs ≡ Some y) zs → AllByRecursion (λ y. find (is_under y.key.0) (x ∷ xs) ≡ Some y) zs
    later [] h a = tt
    later (z ∷ zs) h a =
        let p = or_both (is_under x.key.0 z) (has_key x.key.0 zs) h in (
          cond-false (is_under z.key.0 x) (Some x) (find (is_under z.key.0) xs) (false_from_ne_true (is_under z.key.0 x) (λ t. true≢false (sym (eq-eqb z.key.0 x.key.0 (sym (eqb-true x.key.0 z.key.0 t))) ∙ p.0))) ∙ a.0,
          later zs p.1 a.1,
        )
      where
        or_both : (a b : Bool) → (a || b) ≡ false → (a ≡ false) × (b ≡ false)
        or_both true b h = cc
        or_both false b h = (refl, h)

module _ (n : ℕ → ℕ) (next : ℕ) (terms : Terms) (orders : List Live) (differ : KeysDiffer orders)
    (priced : AllByRecursion IsPriced orders) (numbered : AreNumbered n next orders) (small : next < 2 ^ 63) where
  crossing : AllByRecursion (IsCrossing n terms) (filter (λ live. crosses terms live.order) orders)
  crossing =
      together (filter (λ live. crosses terms live.order) orders) (all_retained (λ live. crosses terms live.order) orders)
      (all_filtered IsPriced (λ live. crosses terms live.order) orders priced)
      (all_filtered (λ y. n y.key.0 < 2 ^ 63) (λ live. crosses terms live.order) orders (all-small n next orders numbered small))
    where
      together : (zs : List Live) → AllByRecursion (λ y. crosses terms y.order ≡ true) zs → AllByRecursion IsPriced zs → AllByRecursion (λ y. n y.key.0 < 2 ^ 63) zs → AllByRecursion (IsCrossing n terms) zs
      together [] a b c = tt
      together (z ∷ zs) a b c = ((a.0, b.0, c.0), together zs a.1 b.1 c.1)

  -- the ranks rise
  pub ranked_rising : IsRisingBy (rank_of n) (ranked terms orders)
  ranked_rising = by_rank_rising n terms next (filter (λ live. crosses terms live.order) orders) crossing (numbered-filtered n next (λ live. crosses terms live.order) orders numbered)

  pub ranked_crossing : AllByRecursion (IsCrossing n terms) (ranked terms orders)
  ranked_crossing = all_ranked (is_ahead terms.side) (ahead_asym terms.side) (ahead_skip terms.side) (IsCrossing n terms) (filter (λ live. crosses terms live.order) orders) crossing

-- an order that crosses is found among those by rank
pub ranked_found : (terms : Terms) (orders : List Live) (key : ℕ) (a : Live) → KeysDiffer orders → find (is_under key) orders ≡ Some a → crosses terms a.order ≡ true → find (is_under key) (ranked terms orders) ≡ Some a
ranked_found terms orders key a d f c =
    find-by_rank (is_ahead terms.side) (ahead_asym terms.side) (ahead_skip terms.side) (is_under key) (filter (λ live. crosses terms live.order) orders)
    (once_filtered (λ live. crosses terms live.order) (is_under key) orders (once_under key orders d))
    ∙ find-retained (λ live. crosses terms live.order) (is_under key) a orders f c

-- each order by rank is found among them, and in the book
pub ranked_own : (terms : Terms) (orders : List Live) → KeysDiffer orders
    → AllByRecursion (λ y. (find (is_under y.key.0) (ranked terms orders) ≡ Some y) × (find (is_under y.key.0) orders ≡ Some y)) (ranked terms orders)
ranked_own terms orders d =
    all_ranked (is_ahead terms.side) (ahead_asym terms.side) (ahead_skip terms.side) (λ y. (find (is_under y.key.0) (ranked terms orders) ≡ Some y) × (find (is_under y.key.0) orders ≡ Some y))
    (filter (λ live. crosses terms live.order) orders)
    (each (filter (λ live. crosses terms live.order) orders) (all_retained (λ live. crosses terms live.order) orders)
    (all_filtered (λ y. find (is_under y.key.0) orders ≡ Some y) (λ live. crosses terms live.order) orders (all_own orders d)))
  where
    each : (zs : List Live) → AllByRecursion (λ y. crosses terms y.order ≡ true) zs → AllByRecursion (λ y. find (is_under y.key.0) orders ≡ Some y) zs
        → AllByRecursion (λ y. (find (is_under y.key.0) (ranked terms orders) ≡ Some y) × (find (is_under y.key.0) orders ≡ Some y)) zs
    each [] a b = tt
    each (z ∷ zs) a b = ((ranked_found terms orders z.key.0 z d b.0 a.0, b.0), each zs a.1 b.1)

-- those that are not conditional, by rank
filter_twice : (p q : Live → Bool) (xs : List Live) → filter p (filter q xs) ≡ filter q (filter p xs)
filter_twice p q [] = refl
filter_twice p q (x ∷ xs) = at (p x) (q x) refl refl (filter_twice p q xs)
  where
    at : (a b : Bool) → p x ≡ a → q x ≡ b → filter p (filter q xs) ≡ filter q (filter p xs)
        → filter p (cond b (x ∷ filter q xs) (filter q xs)) ≡ filter q (cond a (x ∷ filter p xs) (filter p xs))
    at true true ea eb ih = cond-true (p x) _ _ ea ∙ ap (λ r. x ∷ r) ih ∙ sym (cond-true (q x) _ _ eb)
    at true false ea eb ih = ih ∙ sym (cond-false (q x) _ _ eb)
    at false true ea eb ih = cond-false (p x) _ _ ea ∙ ih
    at false false ea eb ih = ih

pub retained_by_rank : (terms : Terms) (orders : List Live) (test : Live → Bool)
    → find (λ y. not (is_conditional y.order) && test y) (ranked terms orders) ≡ find test (ranked terms (unconditional orders))
retained_by_rank terms orders test =
    let C = filter (λ live. crosses terms live.order) orders in
    let keep : Live → Bool = λ y. not (is_conditional y.order) in
    sym (first_of-find (is_ahead terms.side) (ahead_asym terms.side) (ahead_skip terms.side) (λ y. keep y && test y) C)
    ∙ first_of-filter (is_ahead terms.side) (ahead_asym terms.side) (ahead_skip terms.side) keep test C
    ∙ ap (first_of (is_ahead terms.side) test) (filter_twice keep (λ live. crosses terms live.order) orders)
    ∙ first_of-find (is_ahead terms.side) (ahead_asym terms.side) (ahead_skip terms.side) test (filter (λ live. crosses terms live.order) (unconditional orders))
