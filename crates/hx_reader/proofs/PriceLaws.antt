-- The best prices, out of the levels.
use Rattle.std.proofs.Common.{◌≡◌, ℕ, ◌+◌, ◌≤◌, ◌<◌, ◌==◌, ◌&&◌, zero, suc, nat_lt, List, [], ◌∷◌, Bool, true, false, Option, Some, None, is_some, cond, refl, sym, ap, subst, ◌∙◌, ◌⊎◌, inl, inr, arith}
use Rattle.std.specs.Option.{IsSome}
use Rattle.std.specs.List.{AllByRecursion, filter}
use Rattle.std.specs.Ordering.{is_lt, is_gt}
use Rattle.std.specs.BTreeMap.{BTreeMap}
use Rattle.std.specs.BTreeMap.Range.{IsInRange, IsLeBy}
use Rattle.std.specs.declared.cmp.Ordering.TheVariants.{Less}
use Rattle.std.specs.declared.ops.Bound.TheVariants.{Included, Excluded}
use Rattle.std.proofs.lemmas.Bool.Decides.{nat_tests, Decides-eqb}
use Rattle.std.proofs.lemmas.Option.{same_Some}
use Rattle.hx_itch.specs.declared.shown_order.ShownOrder.{ShownOrder}
use Rattle.hx_reader.specs.declared.levels.LevelKey.{LevelKey}
use Rattle.hx_reader.specs.declared.levels.Level.{Level}
use Rattle.hx_reader.specs.declared.level.PriceLevel.{PriceLevel}
use Rattle.hx_reader.specs.Depth.{level_of}
use Rattle.hx_reader.specs.Prices.{is_on, prices, orders_at, shares_at, IsAmong, IsHighest, IsLowest, below, above}
use Rattle.hx_reader.specs.Levels.{level_key_cmp, level_at, level_key_at, bids_end, offers_begin, level_with, level_in, IsBefore}

-- level keys of one stock and side

pub within : (l s n : ℕ) (q : LevelKey) → is_gt (level_key_cmp (level_key_at l s 0) q) ≡ false → level_key_cmp q (level_key_at l s n) ≡ Less → (q.locate ≡ l) × (q.side ≡ s) × (q.price < n)
within l s n q h k = (grind (arith, nat_tests), grind (arith, nat_tests), grind (arith, nat_tests))

pub of_all : (l s : ℕ) (q : LevelKey) → is_gt (level_key_cmp (level_key_at l s 0) q) ≡ false → level_key_cmp q (level_key_at l (s + 1) 0) ≡ Less → (q.locate ≡ l) × (q.side ≡ s)
of_all l s q h k = (grind (arith, nat_tests), grind (arith, nat_tests))

pub later : (l s n : ℕ) (q : LevelKey) → level_key_cmp (level_key_at l s n) q ≡ Less → level_key_cmp q (level_key_at l (s + 1) 0) ≡ Less → (q.locate ≡ l) × (q.side ≡ s) × (n < q.price)
later l s n q h k = (grind (arith, nat_tests), grind (arith, nat_tests), grind (arith, nat_tests))

pub from_first : (l s p : ℕ) → is_gt (level_key_cmp (level_key_at l s 0) (level_key_at l s p)) ≡ false
from_first l s p = grind (arith, nat_tests)

pub up_to : (l s p n : ℕ) → p < n → level_key_cmp (level_key_at l s p) (level_key_at l s n) ≡ Less
up_to l s p n h = grind (arith, nat_tests)

pub up_to_next : (l s p : ℕ) → level_key_cmp (level_key_at l s p) (level_key_at l (s + 1) 0) ≡ Less
up_to_next l s p = grind (arith, nat_tests)

pub not_above : (l s a b : ℕ) → is_lt (level_key_cmp (level_key_at l s a) (level_key_at l s b)) ≡ false → b ≤ a
not_above l s a b h = grind (arith, nat_tests)

pub not_below : (l s a b : ℕ) → is_gt (level_key_cmp (level_key_at l s a) (level_key_at l s b)) ≡ false → a ≤ b
not_below l s a b h = grind (arith, nat_tests)

-- ---- prices of a book, and its levels

among_there : (l s p : ℕ) (book : List ShownOrder) → IsAmong p (prices l s book) → (n : ℕ) × (orders_at l s p book ≡ suc n)
among_there l s p [] h = absurd h
among_there l s p (x ∷ book) h = at (is_on l s x) refl h (among_there l s p book)
  where
    more : (b : Bool) (m : ℕ) → orders_at l s p book ≡ suc m → (n : ℕ) × (cond b (suc (orders_at l s p book)) (orders_at l s p book) ≡ suc n)
    more true m e = (orders_at l s p book, refl)
    more false m e = (m, e)

    at : (b : Bool) → is_on l s x ≡ b → IsAmong p (cond b (x.price ∷ prices l s book) (prices l s book)) → (IsAmong p (prices l s book) → (n : ℕ) × (orders_at l s p book ≡ suc n))
        → (n : ℕ) × (cond (is_on l s x && x.price == p) (suc (orders_at l s p book)) (orders_at l s p book) ≡ suc n)
    at true t (inl e) ih = (orders_at l s p book, ap (λ b. cond b (suc (orders_at l s p book)) (orders_at l s p book)) (ap (λ b. b && x.price == p) t ∙ (Decides-eqb x.price p).1 (sym e)))
    at true t (inr i) ih = (let o = ih i in more (is_on l s x && x.price == p) o.0 o.1)
    at false t i ih = (let o = ih i in more (is_on l s x && x.price == p) o.0 o.1)

there_among : (l s p n : ℕ) (book : List ShownOrder) → orders_at l s p book ≡ suc n → IsAmong p (prices l s book)
there_among l s p n [] h = absurd (let e : 0 ≡ suc n = h in omega (arith, e))
there_among l s p n (x ∷ book) h = at (is_on l s x) (x.price == p) refl h (there_among l s p n book)
  where
    at : (b c : Bool) → (x.price == p) ≡ c → cond (b && c) (suc (orders_at l s p book)) (orders_at l s p book) ≡ suc n
        → (orders_at l s p book ≡ suc n → IsAmong p (prices l s book)) → IsAmong p (cond b (x.price ∷ prices l s book) (prices l s book))
    at true true t e ih = inl (sym ((Decides-eqb x.price p).0 t))
    at true false t e ih = inr (ih e)
    at false c t e ih = ih e

level_of_some : (n s m : ℕ) → n ≡ suc m → IsSome (level_with n s)
level_of_some n s m h = ap (λ i. is_some (level_with i s)) h

some_level : (n s : ℕ) (l : Level) → level_with n s ≡ Some l → (m : ℕ) × (n ≡ suc m)
some_level zero s l h = absurd (let e : None ≡ Some l = h in cc)
some_level (suc m) s l h = (m, refl)

same_level : (n s : ℕ) (l : Level) → level_with n s ≡ Some l → (s ≡ l.shares) × (n ≡ l.orders)
same_level zero s l h = absurd (let e : None ≡ Some l = h in cc)
same_level (suc m) s l h = (ap (λ (v : Level). v.shares) (same_Some (record { shares = s; orders = suc m }) l h), ap (λ (v : Level). v.orders) (same_Some (record { shares = s; orders = suc m }) l h))

-- ---- lists of prices

among_filter : (f : ℕ → Bool) (p : ℕ) (ps : List ℕ) → IsAmong p ps → f p ≡ true → IsAmong p (filter f ps)
among_filter f p [] h t = absurd h
among_filter f p (q ∷ ps) h t = at (f q) refl h (λ i. among_filter f p ps i t)
  where
    at : (b : Bool) → f q ≡ b → (p ≡ q) ⊎ IsAmong p ps → (IsAmong p ps → IsAmong p (filter f ps)) → IsAmong p (cond b (q ∷ filter f ps) (filter f ps))
    at true e (inl s) ih = inl s
    at true e (inr i) ih = inr (ih i)
    at false e (inl s) ih = absurd (let c : true ≡ false = sym t ∙ ap f s ∙ e in cc)
    at false e (inr i) ih = ih i

filter_among : (f : ℕ → Bool) (p : ℕ) (ps : List ℕ) → IsAmong p (filter f ps) → IsAmong p ps × (f p ≡ true)
filter_among f p [] h = absurd h
filter_among f p (q ∷ ps) h = at (f q) refl h (filter_among f p ps)
  where
    at : (b : Bool) → f q ≡ b → IsAmong p (cond b (q ∷ filter f ps) (filter f ps)) → (IsAmong p (filter f ps) → IsAmong p ps × (f p ≡ true)) → ((p ≡ q) ⊎ IsAmong p ps) × (f p ≡ true)
    at true e (inl s) ih = (inl s, ap f s ∙ e)
    at true e (inr i) ih = (let o = ih i in (inr o.0, o.1))
    at false e i ih = (let o = ih i in (inr o.0, o.1))

all_among : (P : ℕ → Type 0) (ps : List ℕ) → ((p : ℕ) → IsAmong p ps → P p) → AllByRecursion P ps
all_among P [] h = tt
all_among P (p ∷ ps) h = (h p (inl refl), all_among P ps (λ q i. h q (inr i)))

none_among : (ps : List ℕ) → ((p : ℕ) → IsAmong p ps → ⊥) → ps ≡ []
none_among [] h = refl
none_among (p ∷ ps) h = absurd (h p (inl refl))

-- ---- the best price

-- the levels are those of a book
abbrev Follows : BTreeMap LevelKey Level → List ShownOrder → Type 0
Follows levels book = (q : LevelKey) → level_at levels q ≡ level_in q book

-- a price with an order has a level
there : (l s p : ℕ) (levels : BTreeMap LevelKey Level) (book : List ShownOrder) → Follows levels book → IsAmong p (prices l s book) → IsSome (level_at levels (level_key_at l s p))
there l s p levels book f i =
    let o = among_there l s p book i in
    ap is_some (f (level_key_at l s p)) ∙ level_of_some (orders_at l s p book) (shares_at l s p book) o.0 o.1

-- and a level is that of a price with an order
stands_there : (l s : ℕ) (q : LevelKey) (v : Level) (levels : BTreeMap LevelKey Level) (book : List ShownOrder) → Follows levels book → q.locate ≡ l → q.side ≡ s → level_at levels q ≡ Some v
    → IsAmong q.price (prices l s book)
stands_there l s q v levels book f a b e =
    let o = some_level (orders_at q.locate q.side q.price book) (shares_at q.locate q.side q.price book) v (sym (f q) ∙ e) in
    let i = there_among q.locate q.side q.price o.0 book o.1 in
    subst (λ m. IsAmong q.price (prices m s book)) a (subst (λ m. IsAmong q.price (prices q.locate m book)) b i)

pub level_tells : (l s : ℕ) (q : LevelKey) (v : Level) (levels : BTreeMap LevelKey Level) (book : List ShownOrder) → Follows levels book → q.locate ≡ l → q.side ≡ s → level_at levels q ≡ Some v
    → (v.shares ≡ shares_at l s q.price book) × (v.orders ≡ orders_at l s q.price book)
level_tells l s q v levels book f a b e =
    let t = same_level (orders_at q.locate q.side q.price book) (shares_at q.locate q.side q.price book) v (sym (f q) ∙ e) in (
      sym t.0 ∙ ap (λ m. shares_at m q.side q.price book) a ∙ ap (λ m. shares_at l m q.price book) b,
      sym t.1 ∙ ap (λ m. orders_at m q.side q.price book) a ∙ ap (λ m. orders_at l m q.price book) b,
    )

-- what lies between
bid_within : (l s : ℕ) (limit : Option ℕ) (q : LevelKey) → IsInRange level_key_cmp (Included (level_key_at l s 0)) (Excluded (bids_end l s limit)) q → (q.locate ≡ l) × (q.side ≡ s)
bid_within l s None q i = of_all l s q i.0 i.1
bid_within l s (Some n) q i = (let w = within l s n q i.0 i.1 in (w.0, w.1))

bid_among : (l s : ℕ) (limit : Option ℕ) (q : LevelKey) (ps : List ℕ) → IsInRange level_key_cmp (Included (level_key_at l s 0)) (Excluded (bids_end l s limit)) q → IsAmong q.price ps → IsAmong q.price (below limit ps)
bid_among l s None q ps i a = a
bid_among l s (Some n) q ps i a = among_filter (λ p. nat_lt p n) q.price ps a (is_below q.price n (within l s n q i.0 i.1).2)
  where
    is_below : (p n : ℕ) → p < n → nat_lt p n ≡ true
    is_below p n h = grind (arith, nat_tests)

bid_in : (l s p : ℕ) (limit : Option ℕ) (ps : List ℕ) → IsAmong p (below limit ps) → IsInRange level_key_cmp (Included (level_key_at l s 0)) (Excluded (bids_end l s limit)) (level_key_at l s p) × IsAmong p ps
bid_in l s p None ps a = ((from_first l s p, up_to_next l s p), a)
bid_in l s p (Some n) ps a = (let o = filter_among (λ r. nat_lt r n) p ps a in ((from_first l s p, up_to l s p n (lt_of p n o.1)), o.0))
  where
    lt_of : (p n : ℕ) → nat_lt p n ≡ true → p < n
    lt_of p n h = grind (arith, nat_tests)

offer_within : (l s : ℕ) (limit : Option ℕ) (q : LevelKey) → IsInRange level_key_cmp (offers_begin l s limit) (Excluded (level_key_at l (s + 1) 0)) q → (q.locate ≡ l) × (q.side ≡ s)
offer_within l s None q i = of_all l s q i.0 i.1
offer_within l s (Some n) q i = (let w = later l s n q i.0 i.1 in (w.0, w.1))

offer_among : (l s : ℕ) (limit : Option ℕ) (q : LevelKey) (ps : List ℕ) → IsInRange level_key_cmp (offers_begin l s limit) (Excluded (level_key_at l (s + 1) 0)) q → IsAmong q.price ps → IsAmong q.price (above limit ps)
offer_among l s None q ps i a = a
offer_among l s (Some n) q ps i a = among_filter (λ p. nat_lt n p) q.price ps a (is_above q.price n (later l s n q i.0 i.1).2)
  where
    is_above : (p n : ℕ) → n < p → nat_lt n p ≡ true
    is_above p n h = grind (arith, nat_tests)

offer_in : (l s p : ℕ) (limit : Option ℕ) (ps : List ℕ) → IsAmong p (above limit ps) → IsInRange level_key_cmp (offers_begin l s limit) (Excluded (level_key_at l (s + 1) 0)) (level_key_at l s p) × IsAmong p ps
offer_in l s p None ps a = ((from_first l s p, up_to_next l s p), a)
offer_in l s p (Some n) ps a = (let o = filter_among (λ r. nat_lt n r) p ps a in ((up_to l s n p (lt_of n p o.1), up_to_next l s p), o.0))
  where
    lt_of : (n p : ℕ) → nat_lt n p ≡ true → n < p
    lt_of n p h = grind (arith, nat_tests)

-- a level key of this stock and side is that of its price
its_price : (l s : ℕ) (q : LevelKey) → q.locate ≡ l → q.side ≡ s → q ≡ level_key_at l s q.price
its_price l s q a b = ap (λ n. record q { locate = n }) a ∙ ap (λ n. record { locate = l; side = n; price = q.price }) b

-- the last level up to a limit is the highest bid below it, and the first one the lowest offer above
pub highest_found : (l s : ℕ) (limit : Option ℕ) (q : LevelKey) (v : Level) (levels : BTreeMap LevelKey Level) (book : List ShownOrder) → Follows levels book
    → IsInRange level_key_cmp (Included (level_key_at l s 0)) (Excluded (bids_end l s limit)) q → level_at levels q ≡ Some v
    → ((r : LevelKey) → IsInRange level_key_cmp (Included (level_key_at l s 0)) (Excluded (bids_end l s limit)) r → IsSome (level_at levels r) → is_lt (level_key_cmp q r) ≡ false)
    → IsHighest (below limit (prices l s book)) (Some q.price)
highest_found l s limit q v levels book f i e most =
    let w = bid_within l s limit q i in (
      bid_among l s limit q (prices l s book) i (stands_there l s q v levels book f w.0 w.1 e),
      all_among (λ p. p ≤ q.price) (below limit (prices l s book)) (λ p a. (let o = bid_in l s p limit (prices l s book) a in
          not_above l s q.price p (subst (λ (r : LevelKey). is_lt (level_key_cmp r (level_key_at l s p)) ≡ false) (its_price l s q w.0 w.1) (most (level_key_at l s p) o.0 (there l s p levels book f o.1))))),
    )

pub highest_none : (l s : ℕ) (limit : Option ℕ) (levels : BTreeMap LevelKey Level) (book : List ShownOrder) → Follows levels book
    → ((r : LevelKey) → IsInRange level_key_cmp (Included (level_key_at l s 0)) (Excluded (bids_end l s limit)) r → level_at levels r ≡ None)
    → IsHighest (below limit (prices l s book)) None
highest_none l s limit levels book f none =
    none_among (below limit (prices l s book)) (λ p a. (let o = bid_in l s p limit (prices l s book) a in
    (let e : true ≡ false = sym (there l s p levels book f o.1) ∙ ap is_some (none (level_key_at l s p) o.0) in cc)))

pub lowest_found : (l s : ℕ) (limit : Option ℕ) (q : LevelKey) (v : Level) (levels : BTreeMap LevelKey Level) (book : List ShownOrder) → Follows levels book
    → IsInRange level_key_cmp (offers_begin l s limit) (Excluded (level_key_at l (s + 1) 0)) q → level_at levels q ≡ Some v
    → ((r : LevelKey) → IsInRange level_key_cmp (offers_begin l s limit) (Excluded (level_key_at l (s + 1) 0)) r → IsSome (level_at levels r) → IsLeBy level_key_cmp q r)
    → IsLowest (above limit (prices l s book)) (Some q.price)
lowest_found l s limit q v levels book f i e least =
    let w = offer_within l s limit q i in (
      offer_among l s limit q (prices l s book) i (stands_there l s q v levels book f w.0 w.1 e),
      all_among (λ p. q.price ≤ p) (above limit (prices l s book)) (λ p a. (let o = offer_in l s p limit (prices l s book) a in
          not_below l s q.price p (subst (λ (r : LevelKey). is_gt (level_key_cmp r (level_key_at l s p)) ≡ false) (its_price l s q w.0 w.1) (least (level_key_at l s p) o.0 (there l s p levels book f o.1))))),
    )

pub lowest_none : (l s : ℕ) (limit : Option ℕ) (levels : BTreeMap LevelKey Level) (book : List ShownOrder) → Follows levels book
    → ((r : LevelKey) → IsInRange level_key_cmp (offers_begin l s limit) (Excluded (level_key_at l (s + 1) 0)) r → level_at levels r ≡ None)
    → IsLowest (above limit (prices l s book)) None
lowest_none l s limit levels book f none =
    none_among (above limit (prices l s book)) (λ p a. (let o = offer_in l s p limit (prices l s book) a in
    (let e : true ≡ false = sym (there l s p levels book f o.1) ∙ ap is_some (none (level_key_at l s p) o.0) in cc)))

pub levels_of : (l s : ℕ) (limit : Option ℕ) (q : LevelKey) (v : Level) (levels : BTreeMap LevelKey Level) (book : List ShownOrder) → Follows levels book
    → IsInRange level_key_cmp (Included (level_key_at l s 0)) (Excluded (bids_end l s limit)) q → level_at levels q ≡ Some v
    → (v.shares ≡ shares_at l s q.price book) × (v.orders ≡ orders_at l s q.price book)
levels_of l s limit q v levels book f i e = (let w = bid_within l s limit q i in level_tells l s q v levels book f w.0 w.1 e)

pub levels_of_offers : (l s : ℕ) (limit : Option ℕ) (q : LevelKey) (v : Level) (levels : BTreeMap LevelKey Level) (book : List ShownOrder) → Follows levels book
    → IsInRange level_key_cmp (offers_begin l s limit) (Excluded (level_key_at l (s + 1) 0)) q → level_at levels q ≡ Some v
    → (v.shares ≡ shares_at l s q.price book) × (v.orders ≡ orders_at l s q.price book)
levels_of_offers l s limit q v levels book f i e = (let w = offer_within l s limit q i in level_tells l s q v levels book f w.0 w.1 e)

-- the bounds stand in order
pub bids_forward : (l s : ℕ) (limit : Option ℕ) → IsLeBy level_key_cmp (level_key_at l s 0) (bids_end l s limit)
bids_forward l s None = grind (arith, nat_tests)
bids_forward l s (Some n) = from_first l s n

pub offers_forward : (l s : ℕ) (limit : Option ℕ) → IsBefore (offers_begin l s limit) (level_key_at l (s + 1) 0)
offers_forward l s None = grind (arith, nat_tests)
offers_forward l s (Some n) = up_to_next l s n

-- a level, as it is delivered
pub delivered_level : (l s price : ℕ) (p : PriceLevel) (v : Level) (book : List ShownOrder) → p ≡ record { price = price; shares = v.shares; orders = v.orders }
    → (v.shares ≡ shares_at l s price book) × (v.orders ≡ orders_at l s price book) → p ≡ level_of l s p.price book
delivered_level l s price p v book e t =
    e
    ∙ ap (λ n. record { price = price; shares = n; orders = v.orders }) t.0
    ∙ ap (λ n. record { price = price; shares = shares_at l s price book; orders = n }) t.1
    ∙ ap (λ n. level_of l s n book) (sym (ap (λ (o : PriceLevel). o.price) e))
