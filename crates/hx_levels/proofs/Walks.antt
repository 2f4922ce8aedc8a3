-- Each step of a walk by levels is the next order by rank that qualifies.
use Rattle.std.proofs.Common.{◌≡◌, ℕ, ◌+◌, ◌^◌, ◌<◌, ◌≤◌, Bool, true, false, not, ◌&&◌, cond, ltb, leb, max, min, List, [], ◌∷◌, Option, Some, None, refl, sym, ap, ◌∙◌, subst, arith}
use Rattle.std.specs.List.{AllByRecursion, find, filter}
use Rattle.std.specs.Option.{option_map, IfSome, IfNone}
use Rattle.std.proofs.lemmas.Bool.{cond_both, cond-true, cond-false, true≢false, false_from_ne_true, and_parts, and_from, leb-true, le-leb}
use Rattle.std.proofs.lemmas.Bool.Decides.{nat_tests}
use Rattle.slab.specs.Slab.{Slab}
use Rattle.hx_book.specs.declared.order.Order.{Order}
use Rattle.hx_book.specs.declared.order.Live.{Live}
use Rattle.hx_book.specs.declared.order.Key.{Key}
use Rattle.hx_book.specs.declared.order.Terms.{Terms}
use Rattle.hx_book.specs.declared.order.Walk.{Walk}
use Rattle.hx_levels.specs.declared.level_book.linked_orders.LinkedOrder.{LinkedOrder}
use Rattle.hx_levels.specs.declared.level_book.linked_orders.Ends.{Ends}
use Rattle.hx_levels.specs.LevelKeys.{LevelKey}
use Rattle.hx_levels.specs.Levels.{LevelStore}
use Rattle.hx_book.specs.Lists.{after_first}
use Rattle.hx_book.specs.Book.{is_under, is_ahead, crosses, ranked, has_key, KeysDiffer, is_conditional, rest_after, IsRanked, IsWalk, qualifies, next_qualifying, is_ready, next_ready, next_by_rank}
use Rattle.hx_levels.specs.declared.level_book.LevelBook.TheInside.{Inside}
use Rattle.hx_levels.specs.LevelBook.{with_room, LevelContents, walked, AreNumbered, AreIndexed, IsBook, number_in, rank_of, limit_of, first_rank, last_rank, least_of, entry_of, entry_at, unconditional}
use Rattle.hx_levels.specs.Walks.{rank_after, rank_past, rank_here, rank_until, is_from, is_waiting, is_waiting_until}
use Rattle.hx_book.proofs.Lists.{all_weaker, all_filtered, found_among, find-none}
use Rattle.hx_book.proofs.Rank.{all_ranked}
use Rattle.hx_book.proofs.Orders.{ahead_asym, ahead_skip}
use Rattle.hx_levels.proofs.LevelRanks.{IsPriced}
use Rattle.hx_levels.proofs.Added.{none_has}
use Rattle.hx_levels.proofs.Parts.{differ-filtered}
use Rattle.hx_levels.proofs.Numbers.{numbered-filtered}
use Rattle.hx_book.proofs.Next.{next-some}
use Rattle.hx_levels.proofs.Rising.{IsRisingBy, found_passes, find-both, from_all, after_is, rising_after, begins_later, sooner, found_by_two, all_fail, first_until, apart}
use Rattle.hx_levels.proofs.Ranking.{IsCrossing, ranked_rising, ranked_crossing, ranked_found, ranked_own, retained_by_rank}
use Rattle.hx_levels.proofs.Waiting.{range_crosses, crosses_first, crosses_last, own_entry, Finds, waiting_is, rest_from_rank}
use Rattle.hx_book.proofs.Qualifying.{has_found, is_qualifying, next-find}
use Rattle.hx_ranked.specs.declared.entry.Entry.{Entry}
use Rattle.hx_ranked.specs.Contents.{Contents as RankedContents}
use Rattle.hx_ranked.specs.Ranked.{IsRising, has_rank, is_within, first_within_of, is_from as is_entry_from}
use Rattle.hx_ranked.proofs.Found.{first-of-all, none-of-all, found-rank}
use Rattle.hx_units.proofs.Lists.{find-same}

-- what a walk reads of a book
pub record Facts (n : ℕ → ℕ) (entries : List Entry) (orders : List Live) : Type 0 where
  pub next : ℕ
  pub differ : KeysDiffer orders
  pub priced : AllByRecursion IsPriced orders
  pub numbered : AreNumbered n next orders
  pub small : next < 2 ^ 63
  pub indexed : AreIndexed n entries orders

pub facts : (linked_orders : Slab LinkedOrder) (levels : LevelStore) (time : Ends) (reserved : Option Terms) (retained : Option LevelKey) (next : ℕ) (ranked : RankedContents) (orders : List Live)
    → IsBook linked_orders levels time reserved retained next ranked orders → Facts (number_in linked_orders) ranked.entries orders
facts linked_orders levels time reserved retained next ranked orders b =
    record { next = next; differ = b.differ; priced = b.priced; numbered = b.numbered; small = b.small; indexed = b.indexed }

-- the same of what contracts see of it
pub facts_at : (i : Inside) (now : LevelContents) → IsBook i.linked_orders i.sides.levels i.time i.reserved i.retained i.next (with_room i.conditional i.sides.sizes) (walked i.linked_orders i.time)
    → record { orders = walked i.linked_orders i.time; reserved = i.reserved; linked_orders = i.linked_orders } ≡ now → Facts (number_in now.linked_orders) i.conditional.entries now.orders
facts_at i now b e =
    subst (λ (v : LevelContents). Facts (number_in v.linked_orders) i.conditional.entries v.orders) e
    (facts i.linked_orders i.sides.levels i.time i.reserved i.retained i.next (with_room i.conditional i.sides.sizes) (walked i.linked_orders i.time) b)

pub has_ranked : (terms : Terms) (key : ℕ) (orders : List Live) → KeysDiffer orders → IsRanked terms key orders → has_key key orders ≡ true
has_ranked terms key orders d r = (next-some terms key orders d r).has

pub if_ranked : (terms : Terms) (after : Option Key) (orders : List Live) → KeysDiffer orders → IfSome after (λ key. IsRanked terms key.0 orders) → IfSome after (λ key. has_key key.0 orders ≡ true)
if_ranked terms None orders d r = tt
if_ranked terms (Some key) orders d r = has_ranked terms key.0 orders d r

-- the rank after that of a live order
pub past_found : (n : ℕ → ℕ) (key rank : ℕ) (orders : List Live) → has_key key orders ≡ true → IfSome (find (is_under key) orders) (λ live. rank ≡ rank_of n live) → rank + 1 ≡ rank_past n (find (is_under key) orders)
past_found n key rank orders h e = at (find (is_under key) orders) refl e
  where
    at : (o : Option Live) → find (is_under key) orders ≡ o → IfSome o (λ live. rank ≡ rank_of n live) → rank + 1 ≡ rank_past n o
    at None g i = absurd (true≢false (sym h ∙ none_has key orders (sym (ap (option_map (λ (y : Live). y.order)) g))))
    at (Some a) g i = ap (λ m. m + 1) i

-- the rank of a live order
pub here_found : (n : ℕ → ℕ) (key rank : ℕ) (orders : List Live) → has_key key orders ≡ true → IfSome (find (is_under key) orders) (λ live. rank ≡ rank_of n live) → rank ≡ rank_here n (find (is_under key) orders)
here_found n key rank orders h e = at (find (is_under key) orders) refl e
  where
    at : (o : Option Live) → find (is_under key) orders ≡ o → IfSome o (λ live. rank ≡ rank_of n live) → rank ≡ rank_here n o
    at None g i = absurd (true≢false (sym h ∙ none_has key orders (sym (ap (option_map (λ (y : Live). y.order)) g))))
    at (Some a) g i = i

module _ (n : ℕ → ℕ) (entries : List Entry) (orders : List Live) (f : Facts n entries orders) (terms : Terms) where
  rising : IsRisingBy (rank_of n) (ranked terms orders)
  rising = ranked_rising n f.next terms orders f.differ f.priced f.numbered f.small

  -- an order that a walk has met, in the book and by rank
  pub standing : (key : Key) → IsRanked terms key.0 orders → (a : Live) × (find (is_under key.0) orders ≡ Some a) × (find (is_under key.0) (ranked terms orders) ≡ Some a)
  standing key r =
      let s = next-some terms key.0 orders f.differ r in
      (s.live, s.found, ranked_found terms orders key.0 s.live f.differ s.found s.crosses)

  pub from_rank : (after : Option Key) (test : Live → Bool) → IfSome after (λ key. IsRanked terms key.0 orders)
      → find test (rest_after after (ranked terms orders)) ≡ find (λ y. leb (rank_after n terms after orders) (rank_of n y) && test y) (ranked terms orders)
  from_rank after test r = rest_from_rank n f.next terms orders f.differ f.priced f.numbered f.small after test r (stands after r)
    where
      stands : (o : Option Key) → IfSome o (λ key. IsRanked terms key.0 orders) → (key : Key) → o ≡ Some key
          → (a : Live) × (find (is_under key.0) orders ≡ Some a) × (find (is_under key.0) (ranked terms orders) ≡ Some a)
      stands None i key e = cc
      stands (Some k) i key e = let s : k ≡ key = cc in standing key (subst (λ (v : Key). IsRanked terms v.0 orders) s i)

  -- no rank after an order that crosses is below the first rank
  pub first_below : (after : Option Key) → IfSome after (λ key. IsRanked terms key.0 orders) → first_rank terms ≤ rank_after n terms after orders
  first_below None r = omega arith
  first_below (Some key) r =
      let s = standing key r in
      let c : IsCrossing n terms s.0 = found_among (IsCrossing n terms) (is_under key.0) s.0 (ranked terms orders) (ranked_crossing n f.next terms orders f.differ f.priced f.numbered f.small) s.2 in
      let l : first_rank terms ≤ rank_of n s.0 = crosses_first n terms s.0 c in
      subst (λ (o : Option Live). first_rank terms ≤ rank_past n o) (sym s.1) (omega arith)

  -- conditional orders

  swap_two : (a b l : Bool) → l ≡ true → (a && b) ≡ (b && (a && l))
  swap_two true true true e = refl
  swap_two true false true e = refl
  swap_two false true true e = refl
  swap_two false false true e = refl
  swap_two a b false e = cc

  all_and : (a b c d : Bool) → (a && (b && (c && d))) ≡ (c && (a && (b && d)))
  all_and true true true d = refl
  all_and true true false d = refl
  all_and true false true d = refl
  all_and true false false d = refl
  all_and false true true d = refl
  all_and false true false d = refl
  all_and false false true d = refl
  all_and false false false d = refl

  pub waiting_found : (after : Option Key) → IfSome after (λ key. IsRanked terms key.0 orders) → limit_of terms < 2 ^ 32 → (last left least : ℕ) → last ≤ last_rank terms → (result : Option Entry)
      → result ≡ first_within_of (rank_after n terms after orders) last left least entries → IsRising entries
      → result ≡ option_map (entry_of n) (find (is_waiting_until n last left least) (rest_after after (ranked terms orders)))
  waiting_found after r lim last left least end result e up =
      waiting_is n f.next terms entries orders f.differ f.priced f.numbered f.small f.indexed (is_within (rank_after n terms after orders) last left least)
      (λ y. leb (rank_after n terms after orders) (rank_of n y) && is_waiting_until n last left least y)
      (λ y c. all_and (leb (rank_after n terms after orders) (rank_of n y)) (leb (rank_of n y) last) (is_conditional y.order) (leb (least_of y.order) left && leb least y.order.shares))
      (λ y p s t.
      let q = and_parts (leb (rank_after n terms after orders) (rank_of n y)) (leb (rank_of n y) last && (leb (least_of y.order) left && leb least y.order.shares)) t in
      let w = and_parts (leb (rank_of n y) last) (leb (least_of y.order) left && leb least y.order.shares) q.1 in
      let a : rank_after n terms after orders ≤ rank_of n y = leb-true (rank_after n terms after orders) (rank_of n y) q.0 in
      let b : first_rank terms ≤ rank_after n terms after orders = first_below after r in
      let d : rank_of n y ≤ last = leb-true (rank_of n y) last w.0 in
      range_crosses n terms y p lim s (omega arith) (omega arith))
      result (finds result e)
      ∙ ap (option_map (entry_of n)) (sym (from_rank after (is_waiting_until n last left least) r))
    where
      finds : (o : Option Entry) → o ≡ first_within_of (rank_after n terms after orders) last left least entries → Finds (is_within (rank_after n terms after orders) last left least) entries o
      finds None h = none-of-all (is_within (rank_after n terms after orders) last left least) entries (sym h)
      finds (Some x) h = first-of-all (is_within (rank_after n terms after orders) last left least) x entries up (sym h)

  -- no rank up to an order that crosses is above the last rank
  pub last_above : (ready : Option Key) → IfSome ready (λ key. IsRanked terms key.0 orders) → rank_until n terms ready orders ≤ last_rank terms
  last_above None r = omega arith
  last_above (Some key) r =
      let s = standing key r in
      let c : IsCrossing n terms s.0 = found_among (IsCrossing n terms) (is_under key.0) s.0 (ranked terms orders) (ranked_crossing n f.next terms orders f.differ f.priced f.numbered f.small) s.2 in
      subst (λ (o : Option Live). rank_here n o ≤ last_rank terms) (sym s.1) (crosses_last n terms s.0 c)

  abbrev is_in_range : ℕ → ℕ → Entry → Bool
  is_in_range from last e = leb from e.rank && leb e.rank last

  conditional_is : (after : Option Key) → IfSome after (λ key. IsRanked terms key.0 orders) → limit_of terms < 2 ^ 32 → (result : Option Entry)
      → Finds (is_in_range (rank_after n terms after orders) (last_rank terms)) entries result
      → result ≡ option_map (entry_of n) (find (λ y. is_conditional y.order) (rest_after after (ranked terms orders)))
  conditional_is after r lim result finds =
      waiting_is n f.next terms entries orders f.differ f.priced f.numbered f.small f.indexed (is_in_range (rank_after n terms after orders) (last_rank terms))
      (λ y. leb (rank_after n terms after orders) (rank_of n y) && is_conditional y.order)
      (λ y c. swap_two (leb (rank_after n terms after orders) (rank_of n y)) (is_conditional y.order) (leb (rank_of n y) (last_rank terms))
      (le-leb (rank_of n y) (last_rank terms) (crosses_last n terms y c)))
      (λ y p s t.
      let q = and_parts (leb (rank_after n terms after orders) (rank_of n y)) (leb (rank_of n y) (last_rank terms)) t in
      let a : rank_after n terms after orders ≤ rank_of n y = leb-true (rank_after n terms after orders) (rank_of n y) q.0 in
      let b : first_rank terms ≤ rank_after n terms after orders = first_below after r in
      range_crosses n terms y p lim s (omega arith) (leb-true (rank_of n y) (last_rank terms) q.1))
      result finds
      ∙ ap (option_map (entry_of n)) (sym (from_rank after (λ y. is_conditional y.order) r))

  pub conditional_found : (after : Option Key) → IfSome after (λ key. IsRanked terms key.0 orders) → limit_of terms < 2 ^ 32 → (e : Entry)
      → find (is_entry_from (rank_after n terms after orders)) entries ≡ Some e → IsRising entries → e.rank ≤ last_rank terms
      → Some e ≡ option_map (entry_of n) (find (λ y. is_conditional y.order) (rest_after after (ranked terms orders)))
  conditional_found after r lim e h up l =
      let first = first-of-all (is_entry_from (rank_after n terms after orders)) e entries up h in
      conditional_is after r lim (Some e) (
        first.0,
        and_from (leb (rank_after n terms after orders) e.rank) (leb e.rank (last_rank terms)) first.1 (le-leb e.rank (last_rank terms) l),
        λ q v g t. first.2 q v g (and_parts (leb (rank_after n terms after orders) v.rank) (leb v.rank (last_rank terms)) t).0,
      )

  pub conditional_past : (after : Option Key) → IfSome after (λ key. IsRanked terms key.0 orders) → limit_of terms < 2 ^ 32 → (e : Entry)
      → find (is_entry_from (rank_after n terms after orders)) entries ≡ Some e → IsRising entries → last_rank terms < e.rank
      → None ≡ option_map (entry_of n) (find (λ y. is_conditional y.order) (rest_after after (ranked terms orders)))
  conditional_past after r lim e h up l =
      let first = first-of-all (is_entry_from (rank_after n terms after orders)) e entries up h in
      conditional_is after r lim None
      (λ q v g. false_from_ne_true (is_in_range (rank_after n terms after orders) (last_rank terms) v) (λ t.
      let p = and_parts (leb (rank_after n terms after orders) v.rank) (leb v.rank (last_rank terms)) t in
      let a : e.rank ≤ q = first.2 q v g p.0 in
      let b : v.rank ≡ q = found-rank q v entries g in
      let d : v.rank ≤ last_rank terms = leb-true v.rank (last_rank terms) p.1 in
      absurd (omega arith)))

  pub conditional_none : (after : Option Key) → IfSome after (λ key. IsRanked terms key.0 orders) → limit_of terms < 2 ^ 32
      → find (is_entry_from (rank_after n terms after orders)) entries ≡ None
      → None ≡ option_map (entry_of n) (find (λ y. is_conditional y.order) (rest_after after (ranked terms orders)))
  conditional_none after r lim h =
      conditional_is after r lim None
      (λ q v g. ap (λ b. b && leb v.rank (last_rank terms)) (none-of-all (is_entry_from (rank_after n terms after orders)) entries h q v g))

  -- if the ranked blocks are empty no order waits
  pub none_waits : entries ≡ [] → (test : Live → Bool) → ((y : Live) → is_conditional y.order ≡ false → test y ≡ false) → (after : Option Key) → find test (rest_after after (ranked terms orders)) ≡ None
  none_waits empty test fails after = find-none test (rest_after after (ranked terms orders)) (all_rest after (ranked terms orders)
      (all_ranked (is_ahead terms.side) (ahead_asym terms.side) (ahead_skip terms.side) (λ y. test y ≡ false) (filter (λ live. crosses terms live.order) orders)
      (all_filtered (λ y. test y ≡ false) (λ live. crosses terms live.order) orders
      (all_weaker (λ y. is_conditional y.order ≡ true → entry_at n (rank_of n y) orders ≡ Some (entry_of n y)) (λ y. test y ≡ false)
      (λ y own. fails y (false_from_ne_true (is_conditional y.order) (λ c. no_entry y (own c)))) orders (own_entry n f.next orders f.numbered f.small)))))
    where
      no_entry : (y : Live) → entry_at n (rank_of n y) orders ≡ Some (entry_of n y) → ⊥
      no_entry y h = let g : None ≡ Some (entry_of n y) = ap (find (has_rank (rank_of n y))) (sym empty) ∙ f.indexed (rank_of n y) ∙ h in cc

      all_after : (P : Live → Type 0) (key : ℕ) (xs : List Live) → AllByRecursion P xs → AllByRecursion P (after_first (is_under key) xs)
      all_after P key [] h = tt
      all_after P key (x ∷ xs) h = cond_both (is_under key x) xs (after_first (is_under key) xs) (λ r. AllByRecursion P r) (λ _. h.1) (λ _. all_after P key xs h.1)

      all_rest : (o : Option Key) (xs : List Live) → AllByRecursion (λ y. test y ≡ false) xs → AllByRecursion (λ y. test y ≡ false) (rest_after o xs)
      all_rest None xs h = h
      all_rest (Some key) xs h = all_after (λ y. test y ≡ false) key.0 xs h

  -- orders that are not conditional

  plain_rising : IsRisingBy (rank_of n) (ranked terms (unconditional orders))
  plain_rising =
      ranked_rising n f.next terms (unconditional orders) (differ-filtered (λ y. not (is_conditional y.order)) orders f.differ)
      (all_filtered IsPriced (λ y. not (is_conditional y.order)) orders f.priced) (numbered-filtered n f.next (λ y. not (is_conditional y.order)) orders f.numbered) f.small

  -- an order that is not conditional stands among those that are not, too
  pub plain_ranked : (key : Key) (a : Live) → find (is_under key.0) (ranked terms orders) ≡ Some a → is_conditional a.order ≡ false → find (is_under key.0) (ranked terms (unconditional orders)) ≡ Some a
  plain_ranked key a g c = sym (retained_by_rank terms orders (is_under key.0)) ∙ find-both (is_under key.0) (λ y. not (is_conditional y.order)) a (ranked terms orders) g (ap not c)

  move : (a b c : Bool) → (b && (a && c)) ≡ (a && (b && c))
  move true true c = refl
  move true false c = refl
  move false true c = refl
  move false false c = refl

  -- after a conditional order, or before all
  pub ready_after_rank : (rank least : ℕ) → find (is_from n rank least) (ranked terms (unconditional orders)) ≡ find (λ y. leb rank (rank_of n y) && is_ready least y) (ranked terms orders)
  ready_after_rank rank least =
      sym (retained_by_rank terms orders (is_from n rank least))
      ∙ find-same (λ (y : Live). not (is_conditional y.order) && is_from n rank least y) (λ y. leb rank (rank_of n y) && is_ready least y)
      (λ y. move (leb rank (rank_of n y)) (not (is_conditional y.order)) (leb least y.order.shares)) (ranked terms orders)

  pub ready_conditional : (key : Key) (least rank : ℕ) → IsRanked terms key.0 orders → IfSome (find (is_under key.0) orders) (λ live. rank ≡ rank_of n live)
      → option_map (λ (y : Live). y.key) (find (is_from n (rank + 1) least) (ranked terms (unconditional orders))) ≡ next_ready terms (Some key) least orders
  ready_conditional key least rank r e =
      let s = standing key r in
      let is : rank ≡ rank_of n s.0 = subst (λ o. IfSome o (λ live. rank ≡ rank_of n live)) s.1 e in
      ap (option_map (λ (y : Live). y.key))
      (ready_after_rank (rank + 1) least
      ∙ ap (λ m. find (λ y. leb (m + 1) (rank_of n y) && is_ready least y) (ranked terms orders)) is
      ∙ sym (after_is (rank_of n) key.0 s.0 (is_ready least) (ranked terms orders) rising s.2))

  from_zero : (least : ℕ) (xs : List Live) → find (is_from n 0 least) xs ≡ find (λ y. leb least y.order.shares) xs
  from_zero least xs = sym (from_all (rank_of n) 0 (λ y. leb least y.order.shares) xs (all_zero xs))
    where
      all_zero : (zs : List Live) → AllByRecursion (λ y. 0 ≤ rank_of n y) zs
      all_zero [] = tt
      all_zero (z ∷ zs) = (omega arith, all_zero zs)

  pub ready_plain : (after : Option Key) (least : ℕ) → IfSome after (λ key. IsRanked terms key.0 orders)
      → IfSome after (λ key. (a : Live) → find (is_under key.0) orders ≡ Some a → is_conditional a.order ≡ false)
      → option_map (λ (y : Live). y.key) (find (is_from n 0 least) (rest_after after (ranked terms (unconditional orders)))) ≡ next_ready terms after least orders
  ready_plain None least r c =
      ap (option_map (λ (y : Live). y.key))
      (from_zero least (ranked terms (unconditional orders)) ∙ sym (retained_by_rank terms orders (λ y. leb least y.order.shares)))
  ready_plain (Some key) least r c =
      let s = standing key r in
      let p = plain_ranked key s.0 s.2 (c s.0 s.1) in
      ap (option_map (λ (y : Live). y.key))
      (from_zero least (after_first (is_under key.0) (ranked terms (unconditional orders)))
      ∙ after_is (rank_of n) key.0 s.0 (λ y. leb least y.order.shares) (ranked terms (unconditional orders)) plain_rising p
      ∙ ready_after_rank (rank_of n s.0 + 1) least
      ∙ sym (after_is (rank_of n) key.0 s.0 (is_ready least) (ranked terms orders) rising s.2))

  pub plain_start : (after : Option Key) → IfSome after (λ key. IsRanked terms key.0 orders)
      → IfSome after (λ key. (a : Live) → find (is_under key.0) orders ≡ Some a → is_conditional a.order ≡ false) → IfSome after (λ key. IsRanked terms key.0 (unconditional orders))
  plain_start None r c = tt
  plain_start (Some key) r c =
      let s = standing key r in
      has_found key.0 s.0 (ranked terms (unconditional orders)) (plain_ranked key s.0 s.2 (c s.0 s.1))

  -- the next that qualifies is the sooner of the next that waits and the next that is ready

  pub rest_rising : (after : Option Key) → IsRisingBy (rank_of n) (rest_after after (ranked terms orders))
  rest_rising None = rising
  rest_rising (Some key) = rising_after (rank_of n) (is_under key.0) (ranked terms orders) rising

  qualifies_is : (left m xm xs : ℕ) → max 1 m ≤ left → leb (max 1 (max m (min xm xs))) (min left xs) ≡ (leb (max 1 (min xm xs)) left && leb (max 1 m) xs)
  qualifies_is left m xm xs l = grind (arith, nat_tests)

  qualifies_plain : (left m xm xs : ℕ) → max 1 m ≤ left → ltb 1 xm ≡ false → leb (max 1 (max m (min xm xs))) (min left xs) ≡ leb (max 1 m) xs
  qualifies_plain left m xm xs l e = grind (arith, nat_tests)

  waits : (left minimum : ℕ) → max 1 minimum ≤ left → (y : Live) → (is_conditional y.order && is_qualifying left minimum y) ≡ is_waiting left (max 1 minimum) y
  waits left minimum l y = ap (λ b. is_conditional y.order && b) (qualifies_is left minimum y.order.minimum y.order.shares l)

  ready : (left minimum : ℕ) → max 1 minimum ≤ left → (y : Live) → (not (is_conditional y.order) && is_qualifying left minimum y) ≡ is_ready (max 1 minimum) y
  ready left minimum l y = at (is_conditional y.order) refl
    where
      at : (b : Bool) → is_conditional y.order ≡ b → (not b && is_qualifying left minimum y) ≡ (not b && leb (max 1 minimum) y.order.shares)
      at true e = refl
      at false e = qualifies_plain left minimum y.order.minimum y.order.shares l e

  pub next_is : (after : Option Key) (left minimum : ℕ) → max 1 minimum ≤ left
      → find (is_qualifying left minimum) (rest_after after (ranked terms orders))
      ≡ sooner (rank_of n) (find (is_waiting left (max 1 minimum)) (rest_after after (ranked terms orders))) (find (is_ready (max 1 minimum)) (rest_after after (ranked terms orders)))
  next_is after left minimum l =
      found_by_two (rank_of n) (λ y. is_conditional y.order) (is_qualifying left minimum) (rest_after after (ranked terms orders)) (rest_rising after)
      ∙ ap (λ o. sooner (rank_of n) o (find (λ y. not (is_conditional y.order) && is_qualifying left minimum y) (rest_after after (ranked terms orders))))
      (find-same (λ (y : Live). is_conditional y.order && is_qualifying left minimum y) (is_waiting left (max 1 minimum)) (waits left minimum l) (rest_after after (ranked terms orders)))
      ∙ ap (sooner (rank_of n) (find (is_waiting left (max 1 minimum)) (rest_after after (ranked terms orders))))
      (find-same (λ (y : Live). not (is_conditional y.order) && is_qualifying left minimum y) (is_ready (max 1 minimum)) (ready left minimum l) (rest_after after (ranked terms orders)))

  -- what is found after an order stands in the book
  abbrev IsOwn : Live → Type 0
  IsOwn y = (find (is_under y.key.0) (ranked terms orders) ≡ Some y) × (find (is_under y.key.0) orders ≡ Some y)

  pub in_rest : (after : Option Key) (test : Live → Bool) (a : Live) → find test (rest_after after (ranked terms orders)) ≡ Some a → IsOwn a
  in_rest after test a g = found_among IsOwn test a (rest_after after (ranked terms orders)) (all_rest after (ranked terms orders) (ranked_own terms orders f.differ)) g
    where
      all_after : (key : ℕ) (xs : List Live) → AllByRecursion IsOwn xs → AllByRecursion IsOwn (after_first (is_under key) xs)
      all_after key [] h = tt
      all_after key (x ∷ xs) h = cond_both (is_under key x) xs (after_first (is_under key) xs) (λ r. AllByRecursion IsOwn r) (λ _. h.1) (λ _. all_after key xs h.1)

      all_rest : (o : Option Key) (xs : List Live) → AllByRecursion IsOwn xs → AllByRecursion IsOwn (rest_after o xs)
      all_rest None xs h = h
      all_rest (Some key) xs h = all_after key.0 xs h

  pub own_ranked : (a : Live) → IsOwn a → IsRanked terms a.key.0 orders
  own_ranked a own = has_found a.key.0 a (ranked terms orders) own.0

  pub next_ranked : (after : Option Key) (test : Live → Bool) (result : Option Key) → result ≡ option_map (λ (y : Live). y.key) (find test (rest_after after (ranked terms orders)))
      → IfSome result (λ key. IsRanked terms key.0 orders)
  next_ranked after test result e = subst (λ o. IfSome o (λ key. IsRanked terms key.0 orders)) (sym e) (at (find test (rest_after after (ranked terms orders))) refl)
    where
      at : (o : Option Live) → find test (rest_after after (ranked terms orders)) ≡ o → IfSome (option_map (λ (y : Live). y.key) o) (λ key. IsRanked terms key.0 orders)
      at None g = tt
      at (Some a) g = own_ranked a (in_rest after test a g)

  -- the answer whether a rank comes before that of the next that is ready
  pub record IsAnswer (rank : ℕ) (next : Option Key) (before : Bool) : Type 0 where
    pub none : next ≡ None → before ≡ true
    pub some : IfSome next (λ key. IfSome (find (is_under key.0) orders) (λ live. before ≡ ltb rank (rank_of n live)))

  -- of two that were found, by that answer
  pub chosen : (after : Option Key) (here there : Live → Bool) (entry : Entry) (next : Option Key) (before : Bool)
      → Some entry ≡ option_map (entry_of n) (find here (rest_after after (ranked terms orders)))
      → next ≡ option_map (λ (y : Live). y.key) (find there (rest_after after (ranked terms orders))) → IsAnswer entry.rank next before
      → cond before (Some (record { 0 = entry.key })) next
      ≡ option_map (λ (y : Live). y.key) (sooner (rank_of n) (find here (rest_after after (ranked terms orders))) (find there (rest_after after (ranked terms orders))))
  chosen after here there entry next before e g answer = at (find here (rest_after after (ranked terms orders))) (find there (rest_after after (ranked terms orders))) refl e g
    where
      at : (o p : Option Live) → find there (rest_after after (ranked terms orders)) ≡ p → Some entry ≡ option_map (entry_of n) o → next ≡ option_map (λ (y : Live). y.key) p
          → cond before (Some (record { 0 = entry.key })) next ≡ option_map (λ (y : Live). y.key) (sooner (rank_of n) o p)
      at None p h d k = cc
      at (Some w) None h d k =
          let s : entry ≡ entry_of n w = cc in
          cond-true before (Some (record { 0 = entry.key })) next (answer.none k) ∙ ap (λ (v : Entry). Some (record { 0 = v.key })) s
      at (Some w) (Some y) h d k =
          let s : entry ≡ entry_of n w = cc in
          let own = in_rest after there y h in
          let b : before ≡ ltb entry.rank (rank_of n y) =
          subst (λ o. IfSome o (λ live. before ≡ ltb entry.rank (rank_of n live))) own.1 (subst (λ o. IfSome o (λ key. IfSome (find (is_under key.0) orders) (λ live. before ≡ ltb entry.rank (rank_of n live)))) k answer.some) in
          let c : before ≡ ltb (rank_of n w) (rank_of n y) = b ∙ ap (λ (v : Entry). ltb v.rank (rank_of n y)) s in
          by (ltb (rank_of n w) (rank_of n y)) c s k
        where
          by : (t : Bool) → before ≡ t → entry ≡ entry_of n w → next ≡ Some y.key → cond before (Some (record { 0 = entry.key })) next ≡ option_map (λ (v : Live). v.key) (cond t (Some w) (Some y))
          by true c s k = cond-true before (Some (record { 0 = entry.key })) next c ∙ ap (λ (v : Entry). Some (record { 0 = v.key })) s
          by false c s k = cond-false before (Some (record { 0 = entry.key })) next c ∙ k

  -- none waits: the next that is ready
  pub none_waiting : (after : Option Key) (here there : Live → Bool) (next : Option Key) → None ≡ option_map (entry_of n) (find here (rest_after after (ranked terms orders)))
      → next ≡ option_map (λ (y : Live). y.key) (find there (rest_after after (ranked terms orders)))
      → next ≡ option_map (λ (y : Live). y.key) (sooner (rank_of n) (find here (rest_after after (ranked terms orders))) (find there (rest_after after (ranked terms orders))))
  none_waiting after here there next e g = at (find here (rest_after after (ranked terms orders))) e
    where
      at : (o : Option Live) → None ≡ option_map (entry_of n) o → next ≡ option_map (λ (y : Live). y.key) (sooner (rank_of n) o (find there (rest_after after (ranked terms orders))))
      at None d = g
      at (Some w) d = cc

  -- after the next that waits the next that is ready is the same
  pub still_ready : (after : Option Key) → IfSome after (λ key. IsRanked terms key.0 orders) → (here : Live → Bool) (least : ℕ) (entry : Entry) (next : Option Key) (before : Bool)
      → Some entry ≡ option_map (entry_of n) (find here (rest_after after (ranked terms orders))) → next ≡ next_ready terms after least orders → IsAnswer entry.rank next before → before ≡ true
      → next ≡ next_ready terms (Some (record { 0 = entry.key })) least orders
  still_ready after r here least entry next before e g answer first = at (find here (rest_after after (ranked terms orders))) refl e
    where
      at : (o : Option Live) → find here (rest_after after (ranked terms orders)) ≡ o → Some entry ≡ option_map (entry_of n) o → next ≡ next_ready terms (Some (record { 0 = entry.key })) least orders
      at None h d = cc
      at (Some w) h d =
          let s : entry ≡ entry_of n w = cc in
          let own = in_rest after here w h in
          let within : leb (rank_after n terms after orders) (rank_of n w) ≡ true =
          (and_parts (leb (rank_after n terms after orders) (rank_of n w)) (here w)
          (found_passes (λ y. leb (rank_after n terms after orders) (rank_of n y) && here y) w (ranked terms orders) (sym (from_rank after here r) ∙ h))).0 in
          let low : rank_after n terms after orders ≤ rank_of n w = leb-true (rank_after n terms after orders) (rank_of n w) within in
          g ∙ ap (option_map (λ (y : Live). y.key))
          (from_rank after (is_ready least) r
          ∙ sym (begins_later (rank_of n) (rank_after n terms after orders) (rank_of n w + 1) (is_ready least) (ranked terms orders) rising (omega arith) (later w s))
          ∙ sym (after_is (rank_of n) w.key.0 w (is_ready least) (ranked terms orders) rising own.0))
          ∙ ap (λ (v : Entry). next_ready terms (Some (record { 0 = v.key })) least orders) (sym s)
        where
          later : (w : Live) → entry ≡ entry_of n w → (a : Live) → find (λ y. leb (rank_after n terms after orders) (rank_of n y) && is_ready least y) (ranked terms orders) ≡ Some a → rank_of n w + 1 ≤ rank_of n a
          later w s a k =
              let there : find (is_ready least) (rest_after after (ranked terms orders)) ≡ Some a = from_rank after (is_ready least) r ∙ k in
              let own = in_rest after (is_ready least) a there in
              let is : next ≡ Some a.key = g ∙ ap (option_map (λ (y : Live). y.key)) there in
              let b : before ≡ ltb entry.rank (rank_of n a) =
              subst (λ o. IfSome o (λ live. before ≡ ltb entry.rank (rank_of n live))) own.1 (subst (λ o. IfSome o (λ key. IfSome (find (is_under key.0) orders) (λ live. before ≡ ltb entry.rank (rank_of n live)))) is answer.some) in
              let t : ltb (rank_of n w) (rank_of n a) ≡ true = ap (λ (v : Entry). ltb v.rank (rank_of n a)) (sym s) ∙ sym b ∙ first in
              of_ltb (rank_of n w) (rank_of n a) t
            where
              of_ltb : (i j : ℕ) → ltb i j ≡ true → i + 1 ≤ j
              of_ltb i j h = grind (arith, nat_tests)

  -- the entry that was found is of an order that crosses
  pub entry_ranked : (after : Option Key) (here : Live → Bool) (entry : Entry) → Some entry ≡ option_map (entry_of n) (find here (rest_after after (ranked terms orders))) → IsRanked terms entry.key orders
  entry_ranked after here entry e = at (find here (rest_after after (ranked terms orders))) refl e
    where
      at : (o : Option Live) → find here (rest_after after (ranked terms orders)) ≡ o → Some entry ≡ option_map (entry_of n) o → IsRanked terms entry.key orders
      at None h d = cc
      at (Some w) h d =
          let s : entry ≡ entry_of n w = cc in
          subst (λ (v : Entry). IsRanked terms v.key orders) (sym s) (own_ranked w (in_rest after here w h))

  -- all that cross, of both kinds
  pub crossing_is : (after : Option Key)
      → next_by_rank terms after orders
      ≡ option_map (λ (y : Live). y.key) (sooner (rank_of n) (find (λ y. is_conditional y.order) (rest_after after (ranked terms orders))) (find (is_ready 0) (rest_after after (ranked terms orders))))
  crossing_is after =
      next-find terms after orders
      ∙ ap (option_map (λ (y : Live). y.key)) (found_by_two (rank_of n) (λ y. is_conditional y.order) (λ _. true) (rest_after after (ranked terms orders)) (rest_rising after)
      ∙ ap (λ o. sooner (rank_of n) o (find (λ y. not (is_conditional y.order) && true) (rest_after after (ranked terms orders))))
      (find-same (λ (y : Live). is_conditional y.order && true) (λ y. is_conditional y.order) (λ y. and_true (is_conditional y.order)) (rest_after after (ranked terms orders)))
      ∙ ap (sooner (rank_of n) (find (λ y. is_conditional y.order) (rest_after after (ranked terms orders))))
      (find-same (λ (y : Live). not (is_conditional y.order) && true) (is_ready 0) (λ y. ap (λ b. not (is_conditional y.order) && b) (sym (le-leb 0 y.order.shares (omega arith)))) (rest_after after (ranked terms orders))))
    where
      and_true : (b : Bool) → (b && true) ≡ b
      and_true true = refl
      and_true false = refl

  -- the steps of a walk

  -- all that stand after an order rank up to the last rank
  all_last : AllByRecursion (λ y. rank_of n y ≤ last_rank terms) (ranked terms orders)
  all_last = all_weaker (IsCrossing n terms) (λ y. rank_of n y ≤ last_rank terms) (λ y c. crosses_last n terms y c) (ranked terms orders) (ranked_crossing n f.next terms orders f.differ f.priced f.numbered f.small)

  all_until : (after : Option Key) → AllByRecursion (λ y. rank_of n y ≤ last_rank terms) (rest_after after (ranked terms orders))
  all_until None = all_last
  all_until (Some key) = following (ranked terms orders) all_last
    where
      following : (xs : List Live) → AllByRecursion (λ y. rank_of n y ≤ last_rank terms) xs → AllByRecursion (λ y. rank_of n y ≤ last_rank terms) (after_first (is_under key.0) xs)
      following [] h = tt
      following (x ∷ xs) h = cond_both (is_under key.0 x) xs (after_first (is_under key.0) xs) (λ r. AllByRecursion (λ y. rank_of n y ≤ last_rank terms) r) (λ _. h.1) (λ _. following xs h.1)

  -- the order that is ready next, and its rank
  record ReadyAt (after : Option Key) (least : ℕ) (next : Option Key) (key : Key) : Type 0 where
    live : Live
    found : find (is_ready least) (rest_after after (ranked terms orders)) ≡ Some live
    until : rank_until n terms (Some key) orders ≡ rank_of n live
    own : find (is_under key.0) orders ≡ Some live

  ready_at : (after : Option Key) (least : ℕ) (next : Option Key) (key : Key) → next ≡ next_ready terms after least orders → next ≡ Some key → ReadyAt after least next key
  ready_at after least next key g k = at (find (is_ready least) (rest_after after (ranked terms orders))) refl (sym k ∙ g)
    where
      at : (o : Option Live) → find (is_ready least) (rest_after after (ranked terms orders)) ≡ o → Some key ≡ option_map (λ (y : Live). y.key) o → ReadyAt after least next key
      at None h d = cc
      at (Some y) h d =
          let s : y.key ≡ key = cc in
          let own : find (is_under key.0) orders ≡ Some y = ap (λ (v : Key). find (is_under v.0) orders) (sym s) ∙ (in_rest after (is_ready least) y h).1 in
          record { live = y; found = h; until = ap (rank_here n) own; own = own }

  is_not_waiting : (left least : ℕ) (y : Live) → is_ready least y ≡ true → is_waiting left least y ≡ false
  is_not_waiting left least y h = at (is_conditional y.order) (leb least y.order.shares) h
    where
      at : (a b : Bool) → (not a && b) ≡ true → (a && (leb (least_of y.order) left && b)) ≡ false
      at true b g = cc
      at false b g = refl

  -- what waits up to the next that is ready comes before it
  pub found_before : (after : Option Key) (left least : ℕ) (entry : Entry) (next : Option Key) → next ≡ next_ready terms after least orders
      → Some entry ≡ option_map (entry_of n) (find (is_waiting_until n (rank_until n terms next orders) left least) (rest_after after (ranked terms orders)))
      → (Some entry ≡ option_map (entry_of n) (find (is_waiting left least) (rest_after after (ranked terms orders)))) × IsAnswer entry.rank next true
  found_before after left least entry next g e = at (find (is_waiting_until n (rank_until n terms next orders) left least) (rest_after after (ranked terms orders))) refl e
    where
      at : (o : Option Live) → find (is_waiting_until n (rank_until n terms next orders) left least) (rest_after after (ranked terms orders)) ≡ o → Some entry ≡ option_map (entry_of n) o
          → (Some entry ≡ option_map (entry_of n) (find (is_waiting left least) (rest_after after (ranked terms orders)))) × IsAnswer entry.rank next true
      at None h d = cc
      at (Some w) h d =
          let s : entry ≡ entry_of n w = cc in
          let first : find (is_waiting left least) (rest_after after (ranked terms orders)) ≡ Some w = first_until (rank_of n) (rank_until n terms next orders) (is_waiting left least) w (rest_after after (ranked terms orders)) (rest_rising after) h in
          let p = and_parts (leb (rank_of n w) (rank_until n terms next orders)) (is_waiting left least w) (found_passes (is_waiting_until n (rank_until n terms next orders) left least) w (rest_after after (ranked terms orders)) h) in
          (ap Some s ∙ ap (option_map (entry_of n)) (sym first), record { none = λ _. refl; some = by next refl w s first p.0 })
        where
          less : (i j : ℕ) → leb i j ≡ true → (i ≡ j → ⊥) → true ≡ ltb i j
          less i j l d = grind (arith, nat_tests)

          by : (o : Option Key) → next ≡ o → (w : Live) → entry ≡ entry_of n w → find (is_waiting left least) (rest_after after (ranked terms orders)) ≡ Some w → leb (rank_of n w) (rank_until n terms next orders) ≡ true
              → IfSome o (λ key. IfSome (find (is_under key.0) orders) (λ live. true ≡ ltb entry.rank (rank_of n live)))
          by None k w s first l = tt
          by (Some key) k w s first l =
              let y = ready_at after least next key g k in
              let until : leb (rank_of n w) (rank_of n y.live) ≡ true = ap (leb (rank_of n w)) (sym (ap (λ o. rank_until n terms o orders) k ∙ y.until)) ∙ l in
              subst (λ o. IfSome o (λ live. true ≡ ltb entry.rank (rank_of n live))) (sym y.own)
              (less (rank_of n w) (rank_of n y.live) until
              (apart (rank_of n) (is_waiting left least) (is_ready least) w y.live (rest_after after (ranked terms orders)) (rest_rising after) first y.found
              (is_not_waiting left least y.live (found_passes (is_ready least) y.live (rest_after after (ranked terms orders)) y.found)))
              ∙ ap (λ (v : Entry). ltb v.rank (rank_of n y.live)) (sym s))

  -- and if none waits up to it, it is the sooner
  pub none_before : (after : Option Key) (left least : ℕ) (next : Option Key) → next ≡ next_ready terms after least orders
      → None ≡ option_map (entry_of n) (find (is_waiting_until n (rank_until n terms next orders) left least) (rest_after after (ranked terms orders)))
      → next ≡ option_map (λ (y : Live). y.key) (sooner (rank_of n) (find (is_waiting left least) (rest_after after (ranked terms orders))) (find (is_ready least) (rest_after after (ranked terms orders))))
  none_before after left least next g e = at (find (is_waiting left least) (rest_after after (ranked terms orders))) refl
    where
      nothing : find (is_waiting_until n (rank_until n terms next orders) left least) (rest_after after (ranked terms orders)) ≡ None
      nothing = of_none (find (is_waiting_until n (rank_until n terms next orders) left least) (rest_after after (ranked terms orders))) e
        where
          of_none : (o : Option Live) → None ≡ option_map (entry_of n) o → o ≡ None
          of_none None h = refl
          of_none (Some w) h = cc

      past : (w : Live) → find (is_waiting left least) (rest_after after (ranked terms orders)) ≡ Some w → leb (rank_of n w) (rank_until n terms next orders) ≡ false
      past w h = none_at (leb (rank_of n w) (rank_until n terms next orders)) (is_waiting left least w) (found_passes (is_waiting left least) w (rest_after after (ranked terms orders)) h)
          (found_among (λ y. is_waiting_until n (rank_until n terms next orders) left least y ≡ false) (is_waiting left least) w (rest_after after (ranked terms orders))
          (all_fail (is_waiting_until n (rank_until n terms next orders) left least) (rest_after after (ranked terms orders)) nothing) h)
        where
          none_at : (a b : Bool) → b ≡ true → (a && b) ≡ false → a ≡ false
          none_at true true h' k = k
          none_at true false h' k = cc
          none_at false b h' k = refl

      at : (o : Option Live) → find (is_waiting left least) (rest_after after (ranked terms orders)) ≡ o
          → next ≡ option_map (λ (y : Live). y.key) (sooner (rank_of n) o (find (is_ready least) (rest_after after (ranked terms orders))))
      at None h = g
      at (Some w) h = by next refl
        where
          later : (i j : ℕ) → leb i j ≡ false → ltb i j ≡ false
          later i j l = grind (arith, nat_tests)

          beyond : (i j : ℕ) → i ≤ j → leb i j ≡ false → ⊥
          beyond i j l k = absurd (grind (arith, nat_tests))

          by : (o : Option Key) → next ≡ o → next ≡ option_map (λ (y : Live). y.key) (sooner (rank_of n) (Some w) (find (is_ready least) (rest_after after (ranked terms orders))))
          by None k =
              let l : rank_of n w ≤ last_rank terms = found_among (λ y. rank_of n y ≤ last_rank terms) (is_waiting left least) w (rest_after after (ranked terms orders)) (all_until after) h in
              absurd (beyond (rank_of n w) (last_rank terms) l (sym (ap (λ o. leb (rank_of n w) (rank_until n terms o orders)) k) ∙ past w h))
          by (Some key) k =
              let y = ready_at after least next key g k in
              let l : leb (rank_of n w) (rank_of n y.live) ≡ false = sym (ap (leb (rank_of n w)) (ap (λ o. rank_until n terms o orders) k ∙ y.until)) ∙ past w h in
              g ∙ ap (option_map (λ (v : Live). v.key)) (y.found ∙ sym (cond-false (ltb (rank_of n w) (rank_of n y.live)) (Some w) (Some y.live) (later (rank_of n w) (rank_of n y.live) l)))
              ∙ ap (λ p. option_map (λ (v : Live). v.key) (sooner (rank_of n) (Some w) p)) (sym y.found)

  pub walk_none : (after : Option Key) (left minimum least : ℕ) (next : Option Key) → least ≡ max 1 minimum → least ≤ left
      → None ≡ option_map (entry_of n) (find (is_waiting_until n (rank_until n terms next orders) left least) (rest_after after (ranked terms orders))) → next ≡ next_ready terms after least orders
      → next ≡ next_qualifying terms after left minimum orders
  walk_none after left minimum least next is enough e g =
      none_before after left (max 1 minimum) next (subst (λ m. next ≡ next_ready terms after m orders) is g)
      (subst (λ m. None ≡ option_map (entry_of n) (find (is_waiting_until n (rank_until n terms next orders) left m) (rest_after after (ranked terms orders)))) is e)
      ∙ ap (option_map (λ (y : Live). y.key)) (sym (next_is after left minimum (subst (λ m. m ≤ left) is enough)))

  pub walk_some : (after : Option Key) (left minimum least : ℕ) (entry : Entry) (next : Option Key) → least ≡ max 1 minimum → least ≤ left
      → Some entry ≡ option_map (entry_of n) (find (is_waiting left least) (rest_after after (ranked terms orders))) → next ≡ next_ready terms after least orders → IsAnswer entry.rank next true
      → Some (record { 0 = entry.key }) ≡ next_qualifying terms after left minimum orders
  walk_some after left minimum least entry next is enough e g answer =
      chosen after (is_waiting left (max 1 minimum)) (is_ready (max 1 minimum)) entry next true
      (subst (λ m. Some entry ≡ option_map (entry_of n) (find (is_waiting left m) (rest_after after (ranked terms orders)))) is e) (subst (λ m. next ≡ next_ready terms after m orders) is g) answer
      ∙ ap (option_map (λ (y : Live). y.key)) (sym (next_is after left minimum (subst (λ m. m ≤ left) is enough)))

  pub crossing_none : (after : Option Key) (next : Option Key) → None ≡ option_map (entry_of n) (find (λ y. is_conditional y.order) (rest_after after (ranked terms orders)))
      → next ≡ next_ready terms after 0 orders → next ≡ next_by_rank terms after orders
  crossing_none after next e g = none_waiting after (λ y. is_conditional y.order) (is_ready 0) next e g ∙ sym (crossing_is after)

  pub crossing_some : (after : Option Key) (entry : Entry) (next : Option Key) (before : Bool) → Some entry ≡ option_map (entry_of n) (find (λ y. is_conditional y.order) (rest_after after (ranked terms orders)))
      → next ≡ next_ready terms after 0 orders → IsAnswer entry.rank next before → cond before (Some (record { 0 = entry.key })) next ≡ next_by_rank terms after orders
  crossing_some after entry next before e g answer = chosen after (λ y. is_conditional y.order) (is_ready 0) entry next before e g answer ∙ sym (crossing_is after)

  -- a walk that has met an order, or none
  pub met_walk : (old new : Walk) (left minimum : ℕ) (next : Option Key) → IsWalk terms minimum orders old → next ≡ next_qualifying terms old.after left minimum orders
      → IfSome next (λ key. (new.after ≡ Some key) × (new.ahead ≡ None)) → IfNone next (new ≡ old) → IsWalk terms minimum orders new
  met_walk old new left minimum next w e some none = at next (next_ranked old.after (is_qualifying left minimum) next e) some none
    where
      at : (o : Option Key) → IfSome o (λ key. IsRanked terms key.0 orders) → IfSome o (λ key. (new.after ≡ Some key) × (new.ahead ≡ None)) → IfNone o (new ≡ old) → IsWalk terms minimum orders new
      at None i j k = subst (λ (v : Walk). IsWalk terms minimum orders v) (sym k) w
      at (Some key) i j k = record {
        ranked = subst (λ (o : Option Key). IfSome o (λ (v : Key). has_key v.0 (ranked terms orders) ≡ true)) (sym j.0) i;
        ahead = subst (λ (o : Option (Option Key)). IfSome o (λ next. next ≡ next_ready terms new.after (max 1 minimum) orders)) (sym j.1) tt;
      }

-- none qualifies for fewer shares than the minimum, or for none
pub none_for_few : (terms : Terms) (after : Option Key) (orders : List Live) (left minimum : ℕ) → left < max 1 minimum → None ≡ next_qualifying terms after left minimum orders
none_for_few terms after orders left minimum l = ap (option_map (λ (live : Live). live.key)) (sym (find-none (is_qualifying left minimum) (rest_after after (ranked terms orders)) (all (rest_after after (ranked terms orders)))))
  where
    too_few : (x : Order) → qualifies left minimum x ≡ false
    too_few x = grind (arith, nat_tests)

    all : (xs : List Live) → AllByRecursion (λ x. is_qualifying left minimum x ≡ false) xs
    all [] = tt
    all (x ∷ xs) = (too_few x.order, all xs)
