-- What the ranked blocks find is the next conditional order by rank.
use Rattle.std.proofs.Common.{◌≡◌, ℕ, ◌+◌, ◌-◌, ◌*◌, ◌^◌, ◌<◌, ◌≤◌, Bool, true, false, not, ◌&&◌, cond, eqb, leb, List, [], ◌∷◌, Option, Some, None, refl, sym, ap, ◌∙◌, subst, arith, eqb-true, eq-eqb}
use Rattle.std.specs.List.{AllByRecursion, find, filter}
use Rattle.std.specs.Option.{option_map, IfSome}
use Rattle.std.proofs.lemmas.Bool.{cond-true, cond-false, true≢false, false_from_ne_true, and_parts, and_from}
use Rattle.hx_units.specs.Side.{is_buy}
use Rattle.hx_book.specs.declared.order.Live.{Live}
use Rattle.hx_book.specs.declared.order.Key.{Key}
use Rattle.hx_book.specs.declared.order.Terms.{Terms}
use Rattle.hx_levels.specs.LevelKeys.{LevelKey, level_key_number, side_number}
use Rattle.hx_book.specs.Book.{is_under, is_ahead, crosses, ranked, terms_of, KeysDiffer, is_conditional, rest_after, IsRanked}
use Rattle.hx_levels.specs.LevelBook.{AreNumbered, AreIndexed, rank_at, rank_of, level_key_of, contra, limit_of, first_rank, last_rank, entry_of, entry_at, is_waiting_at}
use Rattle.hx_levels.specs.Walks.{rank_after, rank_past}
use Rattle.hx_book.proofs.Lists.{all_weaker, all_filtered, found_among, find-none}
use Rattle.hx_book.proofs.Rank.{all_ranked}
use Rattle.hx_book.proofs.Orders.{ahead_asym, ahead_skip}
use Rattle.hx_levels.proofs.LevelRanks.{IsPriced, crosses-level_key, level_key-crosses, distance_of}
use Rattle.hx_levels.proofs.Numbers.{ranks-differ}
use Rattle.hx_levels.proofs.Indexed.{entry-step, all-small}
use Rattle.hx_levels.proofs.Rising.{found_passes, found_least, from_all, after_is}
use Rattle.hx_levels.proofs.Ranking.{IsCrossing, ranked_rising, ranked_crossing, ranked_found, all_own}
use Rattle.hx_ranked.specs.declared.entry.Entry.{Entry}
use Rattle.hx_ranked.specs.Ranked.{has_rank}
use Rattle.hx_ranked.proofs.Found.{IsFirst}

-- ranks and terms

in_side : (buy_a buy_b : Bool) (la lb da db : ℕ) → da < 2 ^ 32 → db < 2 ^ 32
    → (la * 2 + cond buy_a 1 0) * 2 ^ 32 + da ≤ (lb * 2 + cond buy_b 1 0) * 2 ^ 32 + db → (lb * 2 + cond buy_b 1 0) * 2 ^ 32 + 0 ≤ (la * 2 + cond buy_a 1 0) * 2 ^ 32 + da
    → (la ≡ lb) × (buy_a ≡ buy_b) × (da ≤ db)
in_side true true la lb da db a b h k = (omega arith, refl, omega arith)
in_side false false la lb da db a b h k = (omega arith, refl, omega arith)
in_side true false la lb da db a b h k = absurd (omega arith)
in_side false true la lb da db a b h k = absurd (omega arith)

small_distance : (buy : Bool) (p : ℕ) → p ≤ 1999999900 → cond buy (2000000000 - p) p < 2 ^ 32
small_distance true p h = omega arith
small_distance false p h = omega arith

upper : (a b s : ℕ) (t : Bool) (m : ℕ) → m < 2 ^ 63 → b * 2 ^ 64 + (cond t 0 (2 ^ 63) + m) ≤ a * 2 ^ 64 + (2 ^ 63 + (2 ^ 63 - 1)) → b ≤ a
upper a b s true m l h = omega arith
upper a b s false m l h = omega arith

lower : (a b : ℕ) (t : Bool) (m : ℕ) → m < 2 ^ 63 → a * 2 ^ 64 + (0 + 0) ≤ b * 2 ^ 64 + (cond t 0 (2 ^ 63) + m) → a ≤ b
lower a b true m l h = omega arith
lower a b false m l h = omega arith

-- an order that ranks between the first and the last rank of the terms crosses them
pub range_crosses : (n : ℕ → ℕ) (terms : Terms) (y : Live) → IsPriced y → limit_of terms < 2 ^ 32 → n y.key.0 < 2 ^ 63 → first_rank terms ≤ rank_of n y → rank_of n y ≤ last_rank terms → crosses terms y.order ≡ true
range_crosses n terms y p tp s f l =
    let R = level_key_of (terms_of y.order) in
    let up : level_key_number R ≤ level_key_number (contra terms (limit_of terms)) = upper (level_key_number (contra terms (limit_of terms))) (level_key_number R) 0 y.order.shown (n y.key.0) s l in
    let low : level_key_number (contra terms 0) ≤ level_key_number R = lower (level_key_number (contra terms 0)) (level_key_number R) y.order.shown (n y.key.0) s f in
    let w = in_side (is_buy y.order.side) (not (is_buy terms.side)) y.order.locate terms.locate (distance_of y) (limit_of terms)
    (small_distance (is_buy y.order.side) y.order.price p) tp up low in
    level_key-crosses terms y (distance_of y) p
    (ap (λ m. record { locate = m; buy = is_buy y.order.side; distance = distance_of y }) w.0
    ∙ ap (λ t. record { locate = terms.locate; buy = t; distance = distance_of y }) w.1) w.2

above : (a d m : ℕ) (t : Bool) → (a + 0) * 2 ^ 64 + (0 + 0) ≤ (a + d) * 2 ^ 64 + (cond t 0 (2 ^ 63) + m)
above a d m true = omega arith
above a d m false = omega arith

below : (a d e m : ℕ) (t : Bool) → d ≤ e → m < 2 ^ 63 → (a + d) * 2 ^ 64 + (cond t 0 (2 ^ 63) + m) ≤ (a + e) * 2 ^ 64 + (2 ^ 63 + (2 ^ 63 - 1))
below a d e m true l s = omega arith
below a d e m false l s = omega arith

-- and one that crosses them ranks there
pub crosses_first : (n : ℕ → ℕ) (terms : Terms) (y : Live) → IsCrossing n terms y → first_rank terms ≤ rank_of n y
crosses_first n terms y c =
    subst (λ (r : LevelKey). first_rank terms ≤ rank_at r y.order.shown (n y.key.0)) (sym (crosses-level_key terms y c.1 c.0).0)
    (above (side_number (contra terms 0) * 2 ^ 32) (distance_of y) (n y.key.0) y.order.shown)

pub crosses_last : (n : ℕ → ℕ) (terms : Terms) (y : Live) → IsCrossing n terms y → rank_of n y ≤ last_rank terms
crosses_last n terms y c =
    let r = crosses-level_key terms y c.1 c.0 in
    subst (λ (v : LevelKey). rank_at v y.order.shown (n y.key.0) ≤ last_rank terms) (sym r.0)
    (below (side_number (contra terms 0) * 2 ^ 32) (distance_of y) (limit_of terms) (n y.key.0) y.order.shown r.1 c.2)

-- each conditional order has its own entry
pub own_entry : (n : ℕ → ℕ) (next : ℕ) (orders : List Live) → AreNumbered n next orders → next < 2 ^ 63
    → AllByRecursion (λ y. is_conditional y.order ≡ true → entry_at n (rank_of n y) orders ≡ Some (entry_of n y)) orders
own_entry n next [] a l = tt
own_entry n next (x ∷ xs) a l = (
  (λ c. entry-step n (rank_of n x) x xs ∙ cond-true (is_waiting_at n (rank_of n x) x) (Some (entry_of n x)) (entry_at n (rank_of n x) xs)
      (and_from (is_conditional x.order) (eqb (rank_of n x) (rank_of n x)) c (eq-eqb (rank_of n x) (rank_of n x) refl))),
  later xs a.0 (all-small n next xs a.2 l) (own_entry n next xs a.2 l),
)
  where
    other : (y : Live) → n x.key.0 < n y.key.0 → n y.key.0 < 2 ^ 63 → is_waiting_at n (rank_of n y) x ≡ false
    other y g s = false_from_ne_true (is_waiting_at n (rank_of n y) x) (λ t.
        let p = and_parts (is_conditional x.order) (eqb (rank_of n x) (rank_of n y)) t in
        true≢false (sym p.1 ∙ ranks-differ (level_key_of (terms_of x.order)) (level_key_of (terms_of y.order)) x.order.shown y.order.shown (n x.key.0) (n y.key.0) (omega arith) s
        (λ e. let h : n x.key.0 ≡ n y.key.0 = e in omega arith)))

    later : (zs : List Live) → AllByRecursion (λ y. n x.key.0 < n y.key.0) zs → AllByRecursion (λ y. n y.key.0 < 2 ^ 63) zs
        → AllByRecursion (λ y. is_conditional y.order ≡ true → entry_at n (rank_of n y) xs ≡ Some (entry_of n y)) zs
        → AllByRecursion (λ y. is_conditional y.order ≡ true → entry_at n (rank_of n y) (x ∷ xs) ≡ Some (entry_of n y)) zs
    later [] g s h = tt
    later (z ∷ zs) g s h = (
      (λ c. entry-step n (rank_of n z) x xs ∙ cond-false (is_waiting_at n (rank_of n z) x) (Some (entry_of n x)) (entry_at n (rank_of n z) xs) (other z g.0 s.0) ∙ h.0 c),
      later zs g.1 s.1 h.1,
    )

-- the order of an entry
record OfEntry (n : ℕ → ℕ) (rank : ℕ) (e : Entry) (orders : List Live) : Type 0 where
  live : Live
  found : find (is_waiting_at n rank) orders ≡ Some live
  entry : entry_of n live ≡ e

of_entry : (n : ℕ → ℕ) (rank : ℕ) (e : Entry) (orders : List Live) → entry_at n rank orders ≡ Some e → OfEntry n rank e orders
of_entry n rank e orders h = at (find (is_waiting_at n rank) orders) refl h
  where
    at : (o : Option Live) → find (is_waiting_at n rank) orders ≡ o → option_map (entry_of n) o ≡ Some e → OfEntry n rank e orders
    at None f g = cc
    at (Some y) f g = record { live = y; found = f; entry = cc }

-- what the search has to give: the first entry by rank that passes the test, if one does
abbrev pub Finds : (test : Entry → Bool) → (entries : List Entry) → (result : Option Entry) → Type 0
Finds test entries None = (q : ℕ) (f : Entry) → find (has_rank q) entries ≡ Some f → test f ≡ false
Finds test entries (Some e) = IsFirst test e entries

module _ (n : ℕ → ℕ) (next : ℕ) (terms : Terms) (entries : List Entry) (orders : List Live) (differ : KeysDiffer orders)
    (priced : AllByRecursion IsPriced orders) (numbered : AreNumbered n next orders) (small : next < 2 ^ 63) (indexed : AreIndexed n entries orders)
    (test : Entry → Bool) (passes : Live → Bool)
    (alike : (y : Live) → IsCrossing n terms y → passes y ≡ (is_conditional y.order && test (entry_of n y)))
    (within : (y : Live) → IsPriced y → n y.key.0 < 2 ^ 63 → test (entry_of n y) ≡ true → crosses terms y.order ≡ true) where
  -- what is known of each order by rank
  abbrev IsKnown : Live → Type 0
  IsKnown y = IsCrossing n terms y × (is_conditional y.order ≡ true → entry_at n (rank_of n y) orders ≡ Some (entry_of n y))

  known : AllByRecursion IsKnown (ranked terms orders)
  known = both (ranked terms orders) (ranked_crossing n next terms orders differ priced numbered small)
      (all_ranked (is_ahead terms.side) (ahead_asym terms.side) (ahead_skip terms.side) (λ y. is_conditional y.order ≡ true → entry_at n (rank_of n y) orders ≡ Some (entry_of n y))
      (filter (λ live. crosses terms live.order) orders)
      (all_filtered (λ y. is_conditional y.order ≡ true → entry_at n (rank_of n y) orders ≡ Some (entry_of n y)) (λ live. crosses terms live.order) orders (own_entry n next orders numbered small)))
    where
      both : (zs : List Live) → AllByRecursion (IsCrossing n terms) zs → AllByRecursion (λ y. is_conditional y.order ≡ true → entry_at n (rank_of n y) orders ≡ Some (entry_of n y)) zs → AllByRecursion IsKnown zs
      both [] a b = tt
      both (z ∷ zs) a b = ((a.0, b.0), both zs a.1 b.1)

  stands : (y : Live) → IsKnown y → is_conditional y.order ≡ true → find (has_rank (rank_of n y)) entries ≡ Some (entry_of n y)
  stands y k c = indexed (rank_of n y) ∙ k.1 c

  pub waiting_is : (result : Option Entry) → Finds test entries result → result ≡ option_map (entry_of n) (find passes (ranked terms orders))
  waiting_is None f = sym (ap (option_map (entry_of n)) (find-none passes (ranked terms orders) (all_weaker IsKnown (λ y. passes y ≡ false) fails (ranked terms orders) known)))
    where
      fails : (y : Live) → IsKnown y → passes y ≡ false
      fails y k = false_from_ne_true (passes y) (λ t.
          let p = and_parts (is_conditional y.order) (test (entry_of n y)) (sym (alike y k.0) ∙ t) in
          true≢false (sym p.1 ∙ f (rank_of n y) (entry_of n y) (stands y k p.0)))
  waiting_is (Some e) f =
      let o = of_entry n e.rank e orders (sym (indexed e.rank) ∙ f.0) in
      let y = o.live in
      let p = and_parts (is_conditional y.order) (eqb (rank_of n y) e.rank) (found_passes (is_waiting_at n e.rank) y orders o.found) in
      let price : IsPriced y = found_among IsPriced (is_waiting_at n e.rank) y orders priced o.found in
      let number : n y.key.0 < 2 ^ 63 = found_among (λ z. n z.key.0 < 2 ^ 63) (is_waiting_at n e.rank) y orders (all-small n next orders numbered small) o.found in
      let passed : test (entry_of n y) ≡ true = ap test o.entry ∙ f.1 in
      let cross : crosses terms y.order ≡ true = within y price number passed in
      let own : find (is_under y.key.0) orders ≡ Some y = found_among (λ z. find (is_under z.key.0) orders ≡ Some z) (is_waiting_at n e.rank) y orders (all_own orders differ) o.found in
      let rank : rank_of n y ≡ e.rank = eqb-true (rank_of n y) e.rank p.1 in
      ap Some (sym o.entry)
      ∙ ap (option_map (entry_of n)) (sym (found_least (rank_of n) passes y (ranked terms orders) (ranked_rising n next terms orders differ priced numbered small)
      (ranked_found terms orders y.key.0 y differ own cross)
      (alike y (cross, price, number) ∙ and_from (is_conditional y.order) (test (entry_of n y)) p.0 passed)
      (all_weaker IsKnown (λ z. passes z ≡ true → rank_of n y ≤ rank_of n z) (later y rank) (ranked terms orders) known)))
    where
      later : (y : Live) → rank_of n y ≡ e.rank → (z : Live) → IsKnown z → passes z ≡ true → rank_of n y ≤ rank_of n z
      later y rank z k t =
          let p = and_parts (is_conditional z.order) (test (entry_of n z)) (sym (alike z k.0) ∙ t) in
          subst (λ m. m ≤ rank_of n z) (sym rank) (f.2 (rank_of n z) (entry_of n z) (stands z k p.0) p.1)

-- what stands after an order, or at all, ranks from a rank on
module _ (n : ℕ → ℕ) (next : ℕ) (terms : Terms) (orders : List Live) (differ : KeysDiffer orders)
    (priced : AllByRecursion IsPriced orders) (numbered : AreNumbered n next orders) (small : next < 2 ^ 63) where
  pub rest_from_rank : (after : Option Key) (test : Live → Bool) → IfSome after (λ key. IsRanked terms key.0 orders) → ((key : Key) → after ≡ Some key → (a : Live) × (find (is_under key.0) orders ≡ Some a) × (find (is_under key.0) (ranked terms orders) ≡ Some a))
      → find test (rest_after after (ranked terms orders)) ≡ find (λ y. leb (rank_after n terms after orders) (rank_of n y) && test y) (ranked terms orders)
  rest_from_rank None test i w =
      from_all (rank_of n) (first_rank terms) test (ranked terms orders)
      (all_weaker (IsCrossing n terms) (λ y. first_rank terms ≤ rank_of n y) (λ y c. crosses_first n terms y c) (ranked terms orders) (ranked_crossing n next terms orders differ priced numbered small))
  rest_from_rank (Some key) test i w =
      let a = w key refl in
      after_is (rank_of n) key.0 a.0 test (ranked terms orders) (ranked_rising n next terms orders differ priced numbered small) a.2
      ∙ ap (λ (o : Option Live). find (λ y. leb (rank_past n o) (rank_of n y) && test y) (ranked terms orders)) (sym a.1)
