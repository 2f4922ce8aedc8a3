-- A walk that passes levels of small orders meets the next order that is large enough.
use Rattle.std.proofs.Common.{◌≡◌, ℕ, ◌+◌, ◌<◌, ◌≤◌, Bool, true, false, not, ◌&&◌, ◌||◌, cond, eqb, ltb, leb, List, [], ◌∷◌, ◌++◌, Option, Some, None, refl, sym, ap, ◌∙◌, subst, arith}
use Rattle.std.specs.List.{AllByRecursion, find, filter}
use Rattle.std.specs.Option.{option_map, IfSome, IfNone}
use Rattle.std.proofs.lemmas.Bool.{cond_both, cond-true, cond-false, and_parts, and_from, or_parts, leb-false, leb-true, le-leb, lt-leb}
use Rattle.std.proofs.lemmas.Bool.Decides.{nat_tests}
use Rattle.slab.specs.Slab.{Slab, get}
use Rattle.hx_book.specs.declared.order.Key.{Key}
use Rattle.hx_book.specs.declared.order.Live.{Live}
use Rattle.hx_book.specs.declared.order.Terms.{Terms}
use Rattle.hx_levels.specs.declared.level_book.linked_orders.LinkedOrder.{LinkedOrder}
use Rattle.hx_levels.specs.declared.level_book.levels.Level.{Level}
use Rattle.hx_book.specs.Lists.{head_of, after_first}
use Rattle.hx_book.specs.Rank.{first_of}
use Rattle.hx_levels.specs.LevelKeys.{LevelKey}
use Rattle.hx_levels.specs.Levels.{LevelStore, level_at, ends_in, first_at, IsFirstFrom, FindsLarge}
use Rattle.hx_units.specs.Side.{is_buy}
use Rattle.hx_book.specs.Book.{is_under, is_ahead, crosses, ranked, terms_of, IsRanked, is_conditional, rest_after, next_by_rank}
use Rattle.hx_levels.specs.LevelBook.{level_key_of, contra, limit_of, to_key, rank_of, AreSized, unconditional}
use Rattle.hx_levels.specs.Walks.{is_from, IsNextLarge}
use Rattle.hx_book.proofs.Lists.{all_weaker, all_filtered, found_among, find-none}
use Rattle.hx_book.proofs.Rank.{IsByRank, by_rank-sorted, first_of-find, first_of-filter, all_ranked}
use Rattle.hx_book.proofs.Orders.{ahead_asym, ahead_skip}
use Rattle.hx_book.proofs.Next.{Ranked, all_retained}
use Rattle.hx_levels.proofs.Sized.{Bounds}
use Rattle.hx_levels.proofs.LevelRanks.{InClass, IsPriced, all_in_class, ahead-distance, crosses-level_key, distance_of}
use Rattle.hx_levels.proofs.LevelNext.{IsQueued, best_from, none_from, not_there, rank, next_farther, all_after}
use Rattle.hx_levels.proofs.Ranking.{ranked_found}
use Rattle.hx_levels.proofs.Rising.{all_fail}
use Rattle.hx_book.proofs.Qualifying.{Met, next-find}

-- the bounds of a book's orders that are not conditional
pub plain_sized : (levels : LevelStore) (orders : List Live) → AreSized levels orders → AllByRecursion (λ y. Bounds y.order.shares (level_at levels (level_key_of (terms_of y.order)))) (unconditional orders)
plain_sized levels [] a = tt
plain_sized levels (x ∷ xs) a = by (is_conditional x.order) refl (plain_sized levels xs a.1)
  where
    P : Live → Type 0
    P y = Bounds y.order.shares (level_at levels (level_key_of (terms_of y.order)))

    by : (b : Bool) → is_conditional x.order ≡ b → AllByRecursion P (unconditional xs) → AllByRecursion P (cond (not b) (x ∷ unconditional xs) (unconditional xs))
    by true e h = h
    by false e h = (a.0 e, h)

-- if the next by rank is met, none is passed
pub any_next : (terms : Terms) (after : Option Key) (least : ℕ) (orders : List Live) (result : Option Key) → result ≡ next_by_rank terms after orders → IsNextLarge after least (ranked terms orders) result
any_next terms after least orders result e = record {
  test = λ _. true;
  small = each (rest_after after (ranked terms orders));
  next = e ∙ next-find terms after orders;
}
  where
    each : (zs : List Live) → AllByRecursion (λ (z : Live). true ≡ false → z.order.shares < least) zs
    each [] = tt
    each (z ∷ zs) = ((λ h. cc), each zs)

module _ (ahead : Live → Live → Bool) (asym : (x y : Live) → ahead x y ≡ true → ahead y x ≡ false) (skip : (x y z : Live) → ahead x y ≡ false → ahead y z ≡ false → ahead x z ≡ false) where
  after_sorted : (test : Live → Bool) (xs : List Live) → IsByRank ahead asym skip xs → IsByRank ahead asym skip (after_first test xs)
  after_sorted test [] h = tt
  after_sorted test (x ∷ xs) h = cond_both (test x) xs (after_first test xs) (λ r. IsByRank ahead asym skip r) (λ _. h.1) (λ _. after_sorted test xs h.1)

  -- what ranks up to an order does not pass: the first that does comes after it
  first_after : (test : Live → Bool) (key : ℕ) (live : Live) (xs : List Live) → IsByRank ahead asym skip xs → AllByRecursion (λ y. ahead live y ≡ false → test y ≡ false) xs → ahead live live ≡ false
      → find (is_under key) xs ≡ Some live → find test (after_first (is_under key) xs) ≡ find test xs
  first_after test key live [] s a own f = cc
  first_after test key live (x ∷ xs) s a own f = at (is_under key x) f (first_after test key live xs s.1 a.1 own)
    where
      at : (b : Bool) → cond b (Some x) (find (is_under key) xs) ≡ Some live → (find (is_under key) xs ≡ Some live → find test (after_first (is_under key) xs) ≡ find test xs)
          → find test (cond b xs (after_first (is_under key) xs)) ≡ cond (test x) (Some x) (find test xs)
      at true g ih =
          let e : x ≡ live = cc in
          sym (cond-false (test x) (Some x) (find test xs) (a.0 (ap (ahead live) e ∙ own)))
      at false g ih = ih g ∙ sym (cond-false (test x) (Some x) (find test xs) (a.0 (found_among (λ y. ahead y x ≡ false) (is_under key) live xs s.0 g)))

module _ (linked_orders : Slab LinkedOrder) (levels : LevelStore) (retained : Option LevelKey) (orders : List Live) (book : IsQueued linked_orders levels retained orders)
    (sized : AllByRecursion (λ y. Bounds y.order.shares (level_at levels (level_key_of (terms_of y.order)))) orders) (terms : Terms) (least : ℕ) where
  -- what is known of each order that crosses
  abbrev IsKnown : Live → Type 0
  IsKnown y = (crosses terms y.order ≡ true) × IsPriced y × InClass orders y × Bounds y.order.shares (level_at levels (level_key_of (terms_of y.order)))

  known : AllByRecursion IsKnown (ranked terms orders)
  known =
      all_ranked (is_ahead terms.side) (ahead_asym terms.side) (ahead_skip terms.side) IsKnown (filter (λ live. crosses terms live.order) orders)
      (together (filter (λ live. crosses terms live.order) orders) (all_retained (λ live. crosses terms live.order) orders)
      (all_filtered IsPriced (λ live. crosses terms live.order) orders book.priced)
      (all_filtered (InClass orders) (λ live. crosses terms live.order) orders (all_in_class orders))
      (all_filtered (λ y. Bounds y.order.shares (level_at levels (level_key_of (terms_of y.order)))) (λ live. crosses terms live.order) orders sized))
    where
      together : (zs : List Live) → AllByRecursion (λ y. crosses terms y.order ≡ true) zs → AllByRecursion IsPriced zs → AllByRecursion (InClass orders) zs
          → AllByRecursion (λ y. Bounds y.order.shares (level_at levels (level_key_of (terms_of y.order)))) zs → AllByRecursion IsKnown zs
      together [] a b c d = tt
      together (z ∷ zs) a b c d = ((a.0, b.0, c.0, d.0), together zs a.1 b.1 c.1 d.1)

  sorted : IsByRank (is_ahead terms.side) (ahead_asym terms.side) (ahead_skip terms.side) (ranked terms orders)
  sorted = by_rank-sorted (is_ahead terms.side) (ahead_asym terms.side) (ahead_skip terms.side) (filter (λ live. crosses terms live.order) orders)

  -- an order at a distance or farther
  abbrev is_far : ℕ → Live → Bool
  is_far begin y = leb begin (distance_of y)

  -- an order in a level that was passed
  small_one : (from begin : ℕ) → ((d : ℕ) → from ≤ d → d < begin → d ≤ limit_of terms → IfSome (level_at levels (contra terms d)) (λ l. l.most < least))
      → (y : Live) → IsKnown y → from ≤ distance_of y → is_far begin y ≡ false → y.order.shares < least
  small_one from begin small y k a f =
      let r = crosses-level_key terms y k.1 k.0 in
      by (level_at levels (contra terms (distance_of y))) refl (small (distance_of y) a (leb-false begin (distance_of y) f) r.1)
      (subst (λ v. Bounds y.order.shares (level_at levels v)) r.0 k.3) r.0
    where
      by : (o : Option Level) → level_at levels (contra terms (distance_of y)) ≡ o → IfSome o (λ l. l.most < least) → Bounds y.order.shares o → level_key_of (terms_of y.order) ≡ contra terms (distance_of y) → y.order.shares < least
      by None e s b r = absurd (not_there linked_orders levels retained orders book terms y (distance_of y) r k.2 (ap (λ o. (ends_in y.order.shown o).first) e))
      by (Some l) e s b r = omega (arith, s, b)

  -- the first order from a distance on
  from_begin : (begin : ℕ) (result : Option ℕ) → IfSome result (IsFirstFrom levels terms.locate (not (is_buy terms.side)) begin (limit_of terms))
      → IfNone result ((d : ℕ) (s : Bool) → begin ≤ d → d ≤ limit_of terms → first_at levels terms.locate (not (is_buy terms.side)) d s ≡ None)
      → option_map to_key result ≡ option_map (λ (y : Live). y.key) (find (is_far begin) (ranked terms orders))
  from_begin begin result found none =
      by result found none
      ∙ ap (option_map (λ (y : Live). y.key))
      (first_of-filter (is_ahead terms.side) (ahead_asym terms.side) (ahead_skip terms.side) (λ live. crosses terms live.order) (is_far begin) orders
      ∙ first_of-find (is_ahead terms.side) (ahead_asym terms.side) (ahead_skip terms.side) (is_far begin) (filter (λ live. crosses terms live.order) orders))
    where
      cross : (y : Live) → (crosses terms y.order && is_far begin y) ≡ true → crosses terms y.order ≡ true
      cross y t = (and_parts (crosses terms y.order) (is_far begin y) t).0

      after : (y : Live) → (crosses terms y.order && is_far begin y) ≡ true → InClass orders y → IsPriced y → begin ≤ distance_of y
      after y t c p = leb-true begin (distance_of y) (and_parts (crosses terms y.order) (is_far begin y) t).1

      within : (y : Live) → crosses terms y.order ≡ true → IsPriced y → begin ≤ distance_of y → (crosses terms y.order && is_far begin y) ≡ true
      within y c p l = and_from (crosses terms y.order) (is_far begin y) c (le-leb begin (distance_of y) l)

      by : (o : Option ℕ) → IfSome o (IsFirstFrom levels terms.locate (not (is_buy terms.side)) begin (limit_of terms))
          → IfNone o ((d : ℕ) (s : Bool) → begin ≤ d → d ≤ limit_of terms → first_at levels terms.locate (not (is_buy terms.side)) d s ≡ None)
          → option_map to_key o ≡ option_map (λ (y : Live). y.key) (first_of (is_ahead terms.side) (λ y. crosses terms y.order && is_far begin y) orders)
      by (Some key) f n = best_from linked_orders levels retained orders book terms (λ y. crosses terms y.order && is_far begin y) begin cross after within key f
      by None f n = none_from linked_orders levels retained orders book terms (λ y. crosses terms y.order && is_far begin y) begin cross after within n

  -- before all orders
  pub large_first : (result : Option ℕ) → FindsLarge levels (contra terms 0) (limit_of terms) least result → IsNextLarge None least (ranked terms orders) (option_map to_key result)
  large_first result f = record {
    test = is_far f.begin;
    small = all_weaker IsKnown (λ y. is_far f.begin y ≡ false → y.order.shares < least) (λ y k t. small_one 0 f.begin f.small y k (omega arith) t) (ranked terms orders) known;
    next = from_begin f.begin result f.found f.none;
  }

  -- after an order whose level ends with it
  module _ (key : ℕ) (ranks : IsRanked terms key orders) (linked_order : LinkedOrder) (stored : get linked_orders key ≡ Some linked_order) (ends : linked_order.queue.after ≡ None)
      (hidden : (rank linked_orders levels retained orders book terms key ranks linked_order stored).live.order.shown ≡ true
      → first_at levels terms.locate (not (is_buy terms.side)) (distance_of (rank linked_orders levels retained orders book terms key ranks linked_order stored).live) false ≡ None) where
    abbrev it : Ranked terms key orders
    it = rank linked_orders levels retained orders book terms key ranks linked_order stored

    line_found : find (is_under key) (ranked terms orders) ≡ Some it.live
    line_found = ranked_found terms orders key it.live book.differ it.found it.crosses

    no_nearer : (x y : Live) → IsKnown x → IsKnown y → is_ahead terms.side x y ≡ false → distance_of y ≤ distance_of x
    no_nearer x y k m a =
        le (distance_of x) (distance_of y) (eqb (distance_of x) (distance_of y) && x.order.shown && not y.order.shown)
        (sym (ahead-distance terms x y (distance_of x) (distance_of y) k.1 m.1 (crosses-level_key terms x k.1 k.0).0 (crosses-level_key terms y m.1 m.0).0) ∙ a)
      where
        le : (d e : ℕ) (b : Bool) → (ltb d e || b) ≡ false → e ≤ d
        le d e b h = let p = (or_parts (ltb d e) b h).0 in grind (arith, nat_tests)

    known_live : IsKnown it.live
    known_live = found_among IsKnown (is_under key) it.live (ranked terms orders) known line_found

    all_far : AllByRecursion (λ y. distance_of it.live + 1 ≤ distance_of y) (after_first (is_under key) (ranked terms orders))
    all_far =
        by (after_first (is_under key) (ranked terms orders)) (next_farther linked_orders levels retained orders book terms key ranks linked_order stored ends hidden)
        (after_sorted (is_ahead terms.side) (ahead_asym terms.side) (ahead_skip terms.side) (is_under key) (ranked terms orders) sorted)
        (all_after IsKnown (is_under key) (ranked terms orders) known)
      where
        each : (h : Live) → IsKnown h → distance_of it.live + 1 ≤ distance_of h → (zs : List Live) → AllByRecursion (λ y. is_ahead terms.side y h ≡ false) zs → AllByRecursion IsKnown zs
            → AllByRecursion (λ y. distance_of it.live + 1 ≤ distance_of y) zs
        each h k l [] a b = tt
        each h k l (z ∷ zs) a b = ((let g = no_nearer z h b.0 k a.0 in omega (arith, g, l)), each h k l zs a.1 b.1)

        by : (zs : List Live) → IfSome (head_of zs) (λ y. distance_of it.live + 1 ≤ distance_of y) → IsByRank (is_ahead terms.side) (ahead_asym terms.side) (ahead_skip terms.side) zs → AllByRecursion IsKnown zs
            → AllByRecursion (λ y. distance_of it.live + 1 ≤ distance_of y) zs
        by [] h s k = tt
        by (z ∷ zs) h s k = (h, each z k.0 h zs s.0 k.1)

    pub large_after : (result : Option ℕ) → FindsLarge levels (contra terms (distance_of it.live + 1)) (limit_of terms) least result
        → IsNextLarge (Some (record { 0 = key })) least (ranked terms orders) (option_map to_key result)
    large_after result f = record {
      test = is_far f.begin;
      small = smalls (after_first (is_under key) (ranked terms orders)) all_far (all_after IsKnown (is_under key) (ranked terms orders) known);
      next = from_begin f.begin result f.found f.none
          ∙ ap (option_map (λ (y : Live). y.key)) (sym (first_after (is_ahead terms.side) (ahead_asym terms.side) (ahead_skip terms.side) (is_far f.begin) key it.live (ranked terms orders) sorted
          (all_weaker IsKnown (λ y. is_ahead terms.side it.live y ≡ false → is_far f.begin y ≡ false)
          (λ y k a. let g = no_nearer it.live y known_live k a in let b = f.above in lt-leb f.begin (distance_of y) (omega (arith, g, b))) (ranked terms orders) known)
          (own (is_ahead terms.side it.live it.live) refl) line_found));
    }
      where
        own : (b : Bool) → is_ahead terms.side it.live it.live ≡ b → b ≡ false
        own true e = sym e ∙ ahead_asym terms.side it.live it.live e
        own false e = refl

        smalls : (zs : List Live) → AllByRecursion (λ y. distance_of it.live + 1 ≤ distance_of y) zs → AllByRecursion IsKnown zs → AllByRecursion (λ y. is_far f.begin y ≡ false → y.order.shares < least) zs
        smalls [] a k = tt
        smalls (z ∷ zs) a k = ((λ t. small_one (distance_of it.live + 1) f.begin f.small z k.0 a.0 t), smalls zs a.1 k.1)

-- Of a walk that tries the orders that pass one test by another: what it has come to, or what comes after it.

-- what fails the first test fails the second
abbrev pub Fails : (pass test : Live → Bool) → List Live → Type 0
Fails pass test xs = AllByRecursion (λ y. pass y ≡ false → test y ≡ false) xs

pub small_fails : (n : ℕ → ℕ) (from least : ℕ) (pass : Live → Bool) (xs : List Live) → AllByRecursion (λ y. pass y ≡ false → y.order.shares < least) xs → Fails pass (is_from n from least) xs
small_fails n from least pass xs h =
    all_weaker (λ y. pass y ≡ false → y.order.shares < least) (λ y. pass y ≡ false → is_from n from least y ≡ false)
    (λ y w t. few from (rank_of n y) y.order.shares (w t)) xs h
  where
    few : (r s m : ℕ) → m < least → (leb r s && leb least m) ≡ false
    few r s m l = grind (arith, nat_tests)

module _ (terms : Terms) (after : Option Key) (key : Key) (orders : List Live) (pass test : Live → Bool) (m : Met terms after pass key orders) (fails : Fails pass test (rest_after after (ranked terms orders))) where
  passed_by : find test (rest_after after (ranked terms orders)) ≡ cond (test m.live) (Some m.live) (find test (rest_after (Some key) (ranked terms orders)))
  passed_by = ap (find test) m.rest ∙ at m.passed m.idle (subst (λ l. Fails pass test l) m.rest fails)
    where
      at : (front : List Live) → AllByRecursion (λ y. pass y ≡ false) front → Fails pass test (front ++ m.live ∷ rest_after (Some key) (ranked terms orders))
          → find test (front ++ m.live ∷ rest_after (Some key) (ranked terms orders)) ≡ cond (test m.live) (Some m.live) (find test (rest_after (Some key) (ranked terms orders)))
      at [] i f = refl
      at (y ∷ ys) i f = cond-false (test y) _ _ (f.0 i.0) ∙ at ys i.1 f.1

  pub large_here : test m.live ≡ true → find test (rest_after after (ranked terms orders)) ≡ Some m.live
  large_here q = passed_by ∙ cond-true (test m.live) _ _ q

  pub large_later : test m.live ≡ false → find test (rest_after (Some key) (ranked terms orders)) ≡ find test (rest_after after (ranked terms orders))
  large_later q = sym (passed_by ∙ cond-false (test m.live) _ _ q)

-- there is none after the last
pub large_never : (pass test : Live → Bool) (xs : List Live) → None ≡ option_map (λ (y : Live). y.key) (find pass xs) → Fails pass test xs → find test xs ≡ None
large_never pass test xs e f = find-none test xs (both xs (all_fail pass xs (nothing (find pass xs) e)) f)
  where
    nothing : (o : Option Live) → None ≡ option_map (λ (y : Live). y.key) o → o ≡ None
    nothing None h = refl
    nothing (Some y) h = cc

    both : (zs : List Live) → AllByRecursion (λ y. pass y ≡ false) zs → Fails pass test zs → AllByRecursion (λ y. test y ≡ false) zs
    both [] a b = tt
    both (z ∷ zs) a b = (b.0 a.0, both zs a.1 b.1)
