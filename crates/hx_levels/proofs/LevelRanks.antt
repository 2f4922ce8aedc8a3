-- On the contra side rank goes by distance, and then by being shown: the first of the best queue is the first of all that pass.
use Rattle.std.proofs.Common.{◌≡◌, ℕ, ◌≤◌, ◌<◌, ◌-◌, ◌⊎◌, inl, inr, Bool, true, false, not, ◌||◌, ◌&&◌, cond, eqb, ltb, leb, List, [], ◌∷◌, Option, Some, None, refl, sym, ap, ◌∙◌, subst, arith, eq-eqb}
use Rattle.std.specs.List.{AllByRecursion, list_any, find, filter}
use Rattle.std.specs.Option.{IfSome}
use Rattle.std.proofs.lemmas.Bool.{cond_both, cond-true, cond-false, true≢false, or_left, or_right}
use Rattle.std.proofs.lemmas.Bool.Decides.{nat_tests}
use Rattle.hx_book.specs.declared.order.Live.{Live}
use Rattle.hx_book.specs.declared.order.Terms.{Terms}
use Rattle.hx_levels.specs.LevelKeys.{LevelKey}
use Rattle.hx_book.specs.Rank.{first_of, higher}
use Rattle.hx_units.specs.Side.{is_buy}
use Rattle.hx_book.specs.Book.{is_ahead, crosses, terms_of}
use Rattle.hx_levels.specs.LevelBook.{is_in, level_key_of, contra, limit_of}
use Rattle.hx_book.proofs.Lists.{found_among}
use Rattle.hx_levels.proofs.Added.{is_in_own, is_in_at}

-- the first by rank, if the best of those that pass are known

module _ (ahead : Live → Live → Bool) (T Q : Live → Bool) (P : Live → Type 0) (within : (y : Live) → Q y ≡ true → P y → T y ≡ true)
    (level : (x y : Live) → Q x ≡ true → Q y ≡ true → P x → P y → ahead y x ≡ false) where
  abbrev pub IsBelow : Live → Type 0
  IsBelow y = (x : Live) → Q x ≡ true → P x → (ahead x y ≡ true) × (ahead y x ≡ false)

  pub first_all : (R : Live → Type 0) (ys : List Live) → AllByRecursion (λ z. T z ≡ true → R z) ys → IfSome (first_of ahead T ys) R
  first_all R [] h = tt
  first_all R (z ∷ zs) h = at (T z) refl (first_of ahead T zs) (first_all R zs h.1)
    where
      at : (b : Bool) → T z ≡ b → (r : Option Live) → IfSome r R → IfSome (cond b (higher ahead z r) r) R
      at true e None i = h.0 e
      at true e (Some w) i = cond_both (ahead w z) w z R (λ _. i) (λ _. h.0 e)
      at false e r i = i

  pub first_best : (zs : List Live) (x : Live) → AllByRecursion P zs → AllByRecursion (λ y. T y ≡ true → (Q y ≡ true) ⊎ IsBelow y) zs → find Q zs ≡ Some x → first_of ahead T zs ≡ Some x
  first_best [] x p h f = cc
  first_best (y ∷ ys) x p h f = at (Q y) (T y) refl refl f (first_best ys x p.1 h.1)
    where
      stays : Q y ≡ true → (r : Option Live) → IfSome r (λ z. ahead z y ≡ false) → higher ahead y r ≡ Some y
      stays q None i = refl
      stays q (Some z) i = ap Some (cond-false (ahead z y) z y i)

      later : (q : Q y ≡ true) (zs : List Live) → AllByRecursion P zs → AllByRecursion (λ z. T z ≡ true → (Q z ≡ true) ⊎ IsBelow z) zs → AllByRecursion (λ z. T z ≡ true → ahead z y ≡ false) zs
      later q [] a b = tt
      later q (z ∷ zs) a b = ((λ t. elim (b.0 t) [ inl e ↦ level y z q e p.0 a.0 | inr e ↦ (e y q p.0).1 ]), later q zs a.1 b.1)

      at : (b t : Bool) → Q y ≡ b → T y ≡ t → cond b (Some y) (find Q ys) ≡ Some x → (find Q ys ≡ Some x → first_of ahead T ys ≡ Some x)
          → cond t (higher ahead y (first_of ahead T ys)) (first_of ahead T ys) ≡ Some x
      at true true q t g ih = stays q (first_of ahead T ys) (first_all (λ z. ahead z y ≡ false) ys (later q ys p.1 h.1)) ∙ g
      at true false q t g ih = absurd (true≢false (sym (within y q p.0) ∙ t))
      at false true q t g ih =
          ap (higher ahead y) (ih g)
          ∙ ap Some (elim (h.0 t) [
            | inl e ↦ absurd (true≢false (sym e ∙ q))
            | inr e ↦ cond-true (ahead x y) x y (e x (found_test ys g) (found_p ys p.1 g)).0
          ])
        where
          found_test : (zs : List Live) → find Q zs ≡ Some x → Q x ≡ true
          found_test [] f' = cc
          found_test (z ∷ zs) f' = by (Q z) refl f' (found_test zs)
            where
              by : (b : Bool) → Q z ≡ b → cond b (Some z) (find Q zs) ≡ Some x → (find Q zs ≡ Some x → Q x ≡ true) → Q x ≡ true
              by true e g' ih' = let s : z ≡ x = cc in subst (λ v. Q v ≡ true) s e
              by false e g' ih' = ih' g'

          found_p : (zs : List Live) → AllByRecursion P zs → find Q zs ≡ Some x → P x
          found_p zs a f' = found_among P Q x zs a f'
      at false false q t g ih = ih g

  pub first_none : (zs : List Live) → AllByRecursion (λ y. T y ≡ false) zs → first_of ahead T zs ≡ None
  first_none [] h = refl
  first_none (z ∷ zs) h = cond-false (T z) (higher ahead z (first_of ahead T zs)) (first_of ahead T zs) h.0 ∙ first_none zs h.1

-- an order's queue has an order

abbrev pub InClass : List Live → Live → Type 0
InClass orders y = filter (is_in (level_key_of (terms_of y.order)) y.order.shown) orders ≡ [] → ⊥

any_retained : (p : Live → Bool) (orders : List Live) → list_any p orders ≡ true → filter p orders ≡ [] → ⊥
any_retained p [] h e = true≢false (sym h)
any_retained p (x ∷ xs) h e = at (p x) h e (any_retained p xs)
  where
    at : (b : Bool) → (b || list_any p xs) ≡ true → cond b (x ∷ filter p xs) (filter p xs) ≡ [] → (list_any p xs ≡ true → filter p xs ≡ [] → ⊥) → ⊥
    at true g f ih = cc
    at false g f ih = ih g f

in_class : (all zs : List Live) → ((p : Live → Bool) → list_any p zs ≡ true → list_any p all ≡ true) → AllByRecursion (InClass all) zs
in_class all [] lift = tt
in_class all (z ∷ zs) lift = (
  any_retained (is_in (level_key_of (terms_of z.order)) z.order.shown) all (lift (is_in (level_key_of (terms_of z.order)) z.order.shown) (or_left _ _ (is_in_own z))),
  in_class all zs (λ p h. lift p (or_right (p z) (list_any p zs) h)),
)

pub all_in_class : (orders : List Live) → AllByRecursion (InClass orders) orders
all_in_class orders = in_class orders orders (λ p h. h)

pub both_all : (P Q : Live → Type 0) (zs : List Live) → AllByRecursion P zs → AllByRecursion Q zs → AllByRecursion (λ y. P y × Q y) zs
both_all P Q [] p q = tt
both_all P Q (z ∷ zs) p q = ((p.0, q.0), both_all P Q zs p.1 q.1)

-- distances

abbrev pub distance_of : Live → ℕ
distance_of y = (level_key_of (terms_of y.order)).distance

crossing : (buy other : Bool) (l m p q : ℕ) → p ≤ 1999999900 → (eqb m l && cond buy (not other) other && cond buy (leb p q) (leb q p)) ≡ true
    → (m ≡ l) × (other ≡ not buy) × (cond other (2000000000 - p) p ≤ cond buy q (2000000000 - q))
crossing true true l m p q b h = (grind (arith, nat_tests), grind (arith, nat_tests), grind (arith, nat_tests))
crossing true false l m p q b h = (grind (arith, nat_tests), grind (arith, nat_tests), grind (arith, nat_tests))
crossing false true l m p q b h = (grind (arith, nat_tests), grind (arith, nat_tests), grind (arith, nat_tests))
crossing false false l m p q b h = (grind (arith, nat_tests), grind (arith, nat_tests), grind (arith, nat_tests))

crossed : (buy other : Bool) (l m p q : ℕ) → p ≤ 1999999900 → m ≡ l → other ≡ not buy → cond other (2000000000 - p) p ≤ cond buy q (2000000000 - q)
    → (eqb m l && cond buy (not other) other && cond buy (leb p q) (leb q p)) ≡ true
crossed true true l m p q b e o d = cc
crossed true false l m p q b e o d = grind (arith, nat_tests)
crossed false true l m p q b e o d = grind (arith, nat_tests)
crossed false false l m p q b e o d = cc

pub crosses-level_key : (terms : Terms) (y : Live) → y.order.price ≤ 1999999900 → crosses terms y.order ≡ true
    → (level_key_of (terms_of y.order) ≡ contra terms (distance_of y)) × (distance_of y ≤ limit_of terms)
crosses-level_key terms y b h =
    let c = crossing (is_buy terms.side) (is_buy y.order.side) terms.locate y.order.locate y.order.price terms.price b h in (
      ap (λ n. record { locate = n; buy = is_buy y.order.side; distance = distance_of y }) c.0
          ∙ ap (λ t. record { locate = terms.locate; buy = t; distance = distance_of y }) c.1,
      c.2,
    )

pub level_key-crosses : (terms : Terms) (y : Live) (d : ℕ) → y.order.price ≤ 1999999900 → level_key_of (terms_of y.order) ≡ contra terms d → d ≤ limit_of terms → crosses terms y.order ≡ true
level_key-crosses terms y d b e l =
    crossed (is_buy terms.side) (is_buy y.order.side) terms.locate y.order.locate y.order.price terms.price b
    (ap (λ (r : LevelKey). r.locate) e) (ap (λ (r : LevelKey). r.buy) e) (subst (λ n. n ≤ limit_of terms) (sym (ap (λ (r : LevelKey). r.distance) e)) l)

ranks : (buy ox oy sx sy : Bool) (p q : ℕ) → p ≤ 1999999900 → q ≤ 1999999900 → ox ≡ not buy → oy ≡ not buy
    → (cond buy (ltb p q) (ltb q p) || (eqb p q && sx && not sy))
    ≡ (ltb (cond ox (2000000000 - p) p) (cond oy (2000000000 - q) q) || (eqb (cond ox (2000000000 - p) p) (cond oy (2000000000 - q) q) && sx && not sy))
ranks true true oy sx sy p q a b h k = cc
ranks true false true sx sy p q a b h k = cc
ranks true false false sx sy p q a b h k = refl
ranks false false oy sx sy p q a b h k = cc
ranks false true false sx sy p q a b h k = cc
ranks false true true true true p q a b h k = grind (arith, nat_tests)
ranks false true true true false p q a b h k = grind (arith, nat_tests)
ranks false true true false true p q a b h k = grind (arith, nat_tests)
ranks false true true false false p q a b h k = grind (arith, nat_tests)

-- of orders on the contra side rank goes by distance, and then by being shown
pub ahead-distance : (terms : Terms) (x y : Live) (d e : ℕ) → x.order.price ≤ 1999999900 → y.order.price ≤ 1999999900 → level_key_of (terms_of x.order) ≡ contra terms d → level_key_of (terms_of y.order) ≡ contra terms e
    → is_ahead terms.side x y ≡ (ltb d e || (eqb d e && x.order.shown && not y.order.shown))
ahead-distance terms x y d e a b h k =
    ranks (is_buy terms.side) (is_buy x.order.side) (is_buy y.order.side) x.order.shown y.order.shown x.order.price y.order.price a b (ap (λ (r : LevelKey). r.buy) h) (ap (λ (r : LevelKey). r.buy) k)
    ∙ ap (λ n. ltb n (distance_of y) || (eqb n (distance_of y) && x.order.shown && not y.order.shown)) (ap (λ (r : LevelKey). r.distance) h)
    ∙ ap (λ n. ltb d n || (eqb d n && x.order.shown && not y.order.shown)) (ap (λ (r : LevelKey). r.distance) k)

abbrev pub IsPriced : Live → Type 0
IsPriced y = y.order.price ≤ 1999999900

pub in_queue : (at : LevelKey) (s : Bool) (y : Live) → level_key_of (terms_of y.order) ≡ at → y.order.shown ≡ s → is_in at s y ≡ true
in_queue at s y e f = subst (λ r. is_in r s y ≡ true) e (subst (λ t. is_in (level_key_of (terms_of y.order)) t y ≡ true) f (is_in_own y))

-- the first of the best queue is the first by rank of all that pass
module _ (terms : Terms) (T : Live → Bool) (d : ℕ) (s : Bool) (orders : List Live) (priced : AllByRecursion IsPriced orders)
    (cross : (y : Live) → T y ≡ true → crosses terms y.order ≡ true)
    (within : (y : Live) → is_in (contra terms d) s y ≡ true → IsPriced y → T y ≡ true)
    (rest : (y : Live) → T y ≡ true → InClass orders y → IsPriced y
    → (is_in (contra terms d) s y ≡ true) ⊎ ((d < distance_of y) ⊎ ((distance_of y ≡ d) × (s ≡ true) × (y.order.shown ≡ false)))) where
  alike : (x y : Live) → is_in (contra terms d) s x ≡ true → is_in (contra terms d) s y ≡ true → IsPriced x → IsPriced y → is_ahead terms.side y x ≡ false
  alike x y p q a b =
      let u = is_in_at (contra terms d) s x p in
      let v = is_in_at (contra terms d) s y q in
      ahead-distance terms y x d d b a v.0 u.0 ∙ same y.order.shown x.order.shown (v.1 ∙ sym u.1)
    where
      same : (sy sx : Bool) → sy ≡ sx → (ltb d d || (eqb d d && sy && not sx)) ≡ false
      same true true e = grind (arith, nat_tests)
      same true false e = cc
      same false true e = cc
      same false false e = grind (arith, nat_tests)

  below : (y : Live) → T y ≡ true → IsPriced y → (d < distance_of y) ⊎ ((distance_of y ≡ d) × (s ≡ true) × (y.order.shown ≡ false))
      → (x : Live) → is_in (contra terms d) s x ≡ true → IsPriced x → (is_ahead terms.side x y ≡ true) × (is_ahead terms.side y x ≡ false)
  below y t b o x q a =
      let u = is_in_at (contra terms d) s x q in
      let v = (crosses-level_key terms y b (cross y t)).0 in
      let e = ahead-distance terms x y d (distance_of y) a b u.0 v in
      let f = ahead-distance terms y x (distance_of y) d b a v u.0 in
      let r = ranked_so x.order.shown y.order.shown (distance_of y) o u.1 in
      (e ∙ r.0, f ∙ r.1)
    where
      ranked_so : (sx sy : Bool) (e : ℕ) → (d < e) ⊎ ((e ≡ d) × (s ≡ true) × (sy ≡ false)) → sx ≡ s
          → ((ltb d e || (eqb d e && sx && not sy)) ≡ true) × ((ltb e d || (eqb e d && sy && not sx)) ≡ false)
      ranked_so sx sy e (inl l) h = (or_left (ltb d e) (eqb d e && sx && not sy) (lt_true d e l), apart)
        where
          lt_true : (m n : ℕ) → m < n → ltb m n ≡ true
          lt_true m n k = grind (arith, nat_tests)

          apart : (ltb e d || (eqb e d && sy && not sx)) ≡ false
          apart = both (ltb e d) (eqb e d) sy sx (not_lt d e l) (not_eq d e l)
            where
              not_lt : (m n : ℕ) → m < n → ltb n m ≡ false
              not_lt m n k = grind (arith, nat_tests)

              not_eq : (m n : ℕ) → m < n → eqb n m ≡ false
              not_eq m n k = grind (arith, nat_tests)

              both : (g h' i j : Bool) → g ≡ false → h' ≡ false → (g || (h' && i && not j)) ≡ false
              both true h' i j e' f' = cc
              both false true i j e' f' = cc
              both false false i j e' f' = refl
      ranked_so sx sy e (inr w) h = by sx sy (h ∙ w.1) w.2
        where
          same_d : eqb d e ≡ true
          same_d = eq-eqb d e (sym w.0)

          no_lt : ltb e d ≡ false
          no_lt = let k : e ≡ d = w.0 in grind (arith, nat_tests)

          by : (a' b' : Bool) → a' ≡ true → b' ≡ false → ((ltb d e || (eqb d e && a' && not b')) ≡ true) × ((ltb e d || (eqb e d && b' && not a')) ≡ false)
          by true false m n = (or_right (ltb d e) (eqb d e && true && true) (ap (λ t. t && true && true) same_d), ap (λ t. t || (eqb e d && false && false)) no_lt ∙ last (eqb e d))
            where
              last : (t : Bool) → (t && false && false) ≡ false
              last true = refl
              last false = refl
          by true true m n = cc
          by false b' m n = cc

  pub best_at : (x : Live) → find (is_in (contra terms d) s) orders ≡ Some x → first_of (is_ahead terms.side) T orders ≡ Some x
  best_at x f =
      first_best (is_ahead terms.side) T (is_in (contra terms d) s) IsPriced within alike orders x priced
      (each orders (both_all (InClass orders) IsPriced orders (all_in_class orders) priced)) f
    where
      each : (zs : List Live) → AllByRecursion (λ y. InClass orders y × IsPriced y) zs
          → AllByRecursion (λ y. T y ≡ true → (is_in (contra terms d) s y ≡ true) ⊎ ((x : Live) → is_in (contra terms d) s x ≡ true → IsPriced x → (is_ahead terms.side x y ≡ true) × (is_ahead terms.side y x ≡ false))) zs
      each [] a = tt
      each (z ∷ zs) a = ((λ t. elim (rest z t a.0.0 a.0.1) [ inl q ↦ inl q | inr o ↦ inr (below z t a.0.1 o) ]), each zs a.1)
