-- What the levels and the links lead to is the next order by rank.
use Rattle.std.proofs.Common.{◌≡◌, ℕ, ◌≤◌, ◌<◌, ◌+◌, ◌-◌, ◌⊎◌, inl, inr, Bool, true, false, not, ◌||◌, ◌&&◌, cond, eqb, ltb, List, [], ◌∷◌, Option, Some, None, refl, sym, ap, ◌∙◌, subst, arith, eqb-true, eq-eqb}
use Rattle.std.specs.List.{AllByRecursion, find, filter}
use Rattle.std.specs.Option.{option_map, IfSome}
use Rattle.std.proofs.lemmas.Bool.{cond_both, cond-true, cond-false, true≢false, false_from_ne_true, and_parts, or_right, and_from, cases_order}
use Rattle.std.proofs.lemmas.Bool.Decides.{nat_tests}
use Rattle.slab.specs.Slab.{Slab, get}
use Rattle.hx_book.specs.declared.order.Live.{Live}
use Rattle.hx_book.specs.declared.order.Terms.{Terms}
use Rattle.hx_levels.specs.declared.level_book.linked_orders.LinkedOrder.{LinkedOrder}
use Rattle.hx_levels.specs.declared.level_book.linked_orders.Ends.{Ends}
use Rattle.hx_levels.specs.declared.level_book.levels.Level.{Level}
use Rattle.hx_book.specs.Lists.{head_of, after_first}
use Rattle.hx_book.specs.Rank.{first_of}
use Rattle.hx_levels.specs.Chain.{has, IsLinked}
use Rattle.hx_levels.specs.OrderLinks.{queue_links, time_links}
use Rattle.hx_levels.specs.LevelKeys.{LevelKey}
use Rattle.hx_levels.specs.Levels.{LevelStore, level_at, ends_in, first_at, IsFirstFrom, IsEmptyLevel}
use Rattle.hx_units.specs.Side.{is_buy}
use Rattle.hx_units.proofs.Booleans.{same_bools}
use Rattle.hx_units.proofs.Lists.{find-same_all}
use Rattle.hx_book.specs.Book.{is_under, is_ahead, crosses, ranked as ranked_line, has_key, IsRanked, next_by_rank, next_by_time, is_candidate, is_equal, terms_of, KeysDiffer, is_conditional}
use Rattle.hx_levels.specs.LevelBook.{keys_of, is_in, queue, level_key_of, contra, limit_of, to_key, IsBook, unconditional}
use Rattle.hx_ranked.specs.Contents.{Contents as RankedContents}
use Rattle.hx_levels.proofs.Parts.{differ-filtered}
use Rattle.hx_book.proofs.Lists.{or_else, found_among, all_weaker, all_filtered, find-filter}
use Rattle.hx_book.proofs.Orders.{once_under}
use Rattle.hx_levels.proofs.Chains.{chain-after}
use Rattle.hx_book.proofs.Next.{next-some, Ranked, after-filter}
use Rattle.hx_levels.proofs.Added.{is_in_own, is_in_at}
use Rattle.hx_levels.proofs.Queues.{has-keys}
use Rattle.hx_levels.proofs.LevelRanks.{InClass, IsPriced, ahead-distance, all_in_class, best_at, both_all, first_all, crosses-level_key, distance_of, first_none, in_queue, level_key-crosses}

-- the queues of the levels hold these orders, each where it belongs
pub record IsQueued (linked_orders : Slab LinkedOrder) (levels : LevelStore) (retained : Option LevelKey) (orders : List Live) : Type 0 where
  pub differ : KeysDiffer orders
  pub stored : (key : ℕ) (live : Live) → find (is_under key) orders ≡ Some live → option_map (λ (n : LinkedOrder). n.order) (get linked_orders key) ≡ Some live.order
  pub in_level : (at : LevelKey) (shown : Bool) → IsLinked (queue_links linked_orders) (ends_in shown (level_at levels at)) (queue at shown orders)
  pub priced : AllByRecursion (λ live. live.order.price ≤ 1999999900) orders
  pub filled : (at : LevelKey) (level : Level) → level_at levels at ≡ Some level → IsEmptyLevel level → retained ≡ Some at

-- so they do the orders of a book that are not conditional
pub queued : (linked_orders : Slab LinkedOrder) (levels : LevelStore) (time : Ends) (reserved : Option Terms) (retained : Option LevelKey) (next : ℕ) (ranked : RankedContents) (orders : List Live)
    → IsBook linked_orders levels time reserved retained next ranked orders → IsQueued linked_orders levels retained (unconditional orders)
queued linked_orders levels time reserved retained next ranked orders b = record {
  differ = differ-filtered (λ y. not (is_conditional y.order)) orders b.differ;
  stored = λ key live f. b.stored key
      ∙ ap (option_map (λ (y : Live). y.order)) (find-filter (λ y. not (is_conditional y.order)) (is_under key) orders live (once_under key orders b.differ) f);
  in_level = b.in_level;
  priced = all_filtered (λ live. live.order.price ≤ 1999999900) (λ y. not (is_conditional y.order)) orders b.priced;
  filled = b.filled;
}

-- what the ends of a queue say

no_queue : (p : Live → Bool) (orders : List Live) → head_of (keys_of (filter p orders)) ≡ None → filter p orders ≡ []
no_queue p orders h = at (filter p orders) h
  where
    at : (zs : List Live) → head_of (keys_of zs) ≡ None → zs ≡ []
    at [] e = refl
    at (z ∷ zs) e = cc

first_retained : (p : Live → Bool) (orders : List Live) → head_of (filter p orders) ≡ find p orders
first_retained p [] = refl
first_retained p (x ∷ xs) = cond_both (p x) (x ∷ filter p xs) (filter p xs) (λ r. head_of r ≡ cond (p x) (Some x) (find p xs))
    (λ e. sym (cond-true (p x) (Some x) (find p xs) e)) (λ e. first_retained p xs ∙ sym (cond-false (p x) (Some x) (find p xs) e))

head-keys : (zs : List Live) → head_of (keys_of zs) ≡ option_map (λ (y : Live). y.key.0) (head_of zs)
head-keys [] = refl
head-keys (z ∷ zs) = refl

pub record HasFirst (p : Live → Bool) (orders : List Live) (key : ℕ) : Type 0 where
  pub live : Live
  pub found : find p orders ≡ Some live
  pub key_is : live.key.0 ≡ key

pub has_first : (p : Live → Bool) (orders : List Live) (key : ℕ) → head_of (keys_of (filter p orders)) ≡ Some key → HasFirst p orders key
has_first p orders key h = at (find p orders) refl (sym (head-keys (filter p orders) ∙ ap (option_map (λ (y : Live). y.key.0)) (first_retained p orders)) ∙ h)
  where
    at : (o : Option Live) → find p orders ≡ o → option_map (λ (y : Live). y.key.0) o ≡ Some key → HasFirst p orders key
    at None f e = cc
    at (Some x) f e = record { live = x; found = f; key_is = cc }

module _ (linked_orders : Slab LinkedOrder) (levels : LevelStore) (retained : Option LevelKey) (orders : List Live)
    (book : IsQueued linked_orders levels retained orders) (terms : Terms) where
  queue_first : (d : ℕ) (s : Bool) → first_at levels terms.locate (not (is_buy terms.side)) d s ≡ head_of (keys_of (filter (is_in (contra terms d) s) orders))
  queue_first d s = (book.in_level (contra terms d) s).first

  -- no order is in a queue whose ends are empty
  pub not_there : (y : Live) (d : ℕ) → level_key_of (terms_of y.order) ≡ contra terms d → InClass orders y → first_at levels terms.locate (not (is_buy terms.side)) d y.order.shown ≡ None → ⊥
  not_there y d e c n = c (no_queue (is_in (level_key_of (terms_of y.order)) y.order.shown) orders
      (ap (λ r. head_of (keys_of (filter (is_in r y.order.shown) orders))) e ∙ sym (queue_first d y.order.shown) ∙ n))

  pub one_empty : (a b : LevelKey) → (level : Level) × (level_at levels a ≡ Some level) × ((level.shown.first ≡ None) × (level.hidden.first ≡ None))
      → (level : Level) × (level_at levels b ≡ Some level) × ((level.shown.first ≡ None) × (level.hidden.first ≡ None)) → a ≡ b
  one_empty a b p q = let h : Some a ≡ Some b = sym (book.filled a p.0 p.1 p.2) ∙ book.filled b q.0 q.1 q.2 in cc

  -- from a distance on

  module _ (T : Live → Bool) (from : ℕ) (cross : (y : Live) → T y ≡ true → crosses terms y.order ≡ true)
      (after : (y : Live) → T y ≡ true → InClass orders y → IsPriced y → from ≤ distance_of y)
      (within : (y : Live) → crosses terms y.order ≡ true → IsPriced y → from ≤ distance_of y → T y ≡ true) where
    pub best_from : (key : ℕ) → IsFirstFrom levels terms.locate (not (is_buy terms.side)) from (limit_of terms) key
        → Some (record { 0 = key }) ≡ option_map (λ (y : Live). y.key) (first_of (is_ahead terms.side) T orders)
    best_from key f =
        let h = has_first (is_in (contra terms f.distance) f.shown) orders key (sym (queue_first f.distance f.shown) ∙ f.first) in
        ap (λ (n : ℕ). Some (to_key n)) (sym h.key_is)
        ∙ ap (option_map (λ (y : Live). y.key)) (sym (best_at terms T f.distance f.shown orders book.priced cross inside rest h.live h.found))
      where
        inside : (y : Live) → is_in (contra terms f.distance) f.shown y ≡ true → IsPriced y → T y ≡ true
        inside y q p =
            let u = is_in_at (contra terms f.distance) f.shown y q in
            within y (level_key-crosses terms y f.distance p u.0 f.below) p (subst (λ n. from ≤ n) (sym (ap (λ (r : LevelKey). r.distance) u.0)) f.above)

        at_level : (y : Live) → level_key_of (terms_of y.order) ≡ contra terms f.distance → InClass orders y → (s t : Bool) → f.shown ≡ s → y.order.shown ≡ t
            → (is_in (contra terms f.distance) f.shown y ≡ true) ⊎ ((f.distance < distance_of y) ⊎ ((distance_of y ≡ f.distance) × (f.shown ≡ true) × (y.order.shown ≡ false)))
        at_level y r c true true es et = inl (in_queue (contra terms f.distance) f.shown y r (et ∙ sym es))
        at_level y r c true false es et = inr (inr (ap (λ (v : LevelKey). v.distance) r, es, et))
        at_level y r c false true es et = absurd (not_there y f.distance r c (ap (first_at levels terms.locate (not (is_buy terms.side)) f.distance) et ∙ f.hidden es))
        at_level y r c false false es et = inl (in_queue (contra terms f.distance) f.shown y r (et ∙ sym es))

        rest : (y : Live) → T y ≡ true → InClass orders y → IsPriced y
            → (is_in (contra terms f.distance) f.shown y ≡ true) ⊎ ((f.distance < distance_of y) ⊎ ((distance_of y ≡ f.distance) × (f.shown ≡ true) × (y.order.shown ≡ false)))
        rest y t c p =
            let r = crosses-level_key terms y p (cross y t) in
            elim (cases_order (distance_of y) f.distance) [
              | inl e ↦ at_level y (r.0 ∙ ap (contra terms) e) c f.shown y.order.shown refl refl
              | inr o ↦ elim o [
                | inl l ↦ absurd (not_there y (distance_of y) r.0 c (f.before (distance_of y) y.order.shown (after y t c p) l))
                | inr l ↦ inr (inl l)
              ]
            ]

    pub none_from : ((d : ℕ) (s : Bool) → from ≤ d → d ≤ limit_of terms → first_at levels terms.locate (not (is_buy terms.side)) d s ≡ None)
        → None ≡ option_map (λ (y : Live). y.key) (first_of (is_ahead terms.side) T orders)
    none_from n = sym (ap (option_map (λ (y : Live). y.key)) (first_none (is_ahead terms.side) T (λ _. false) IsPriced (λ y q p. cc) (λ x y p q a b. cc) orders
        (each orders (both_all (InClass orders) IsPriced orders (all_in_class orders) book.priced))))
      where
        each : (zs : List Live) → AllByRecursion (λ y. InClass orders y × IsPriced y) zs → AllByRecursion (λ y. T y ≡ false) zs
        each [] a = tt
        each (z ∷ zs) a = (
          false_from_ne_true (T z) (λ t.
              let r = crosses-level_key terms z a.0.1 (cross z t) in
              not_there z (distance_of z) r.0 a.0.0 (n (distance_of z) z.order.shown (after z t a.0.0 a.0.1) r.1)),
          each zs a.1,
        )

-- after an order in its queue

pub find-retained : (keep test : Live → Bool) (a : Live) (xs : List Live) → find test xs ≡ Some a → keep a ≡ true → find test (filter keep xs) ≡ Some a
find-retained keep test a [] f t = cc
find-retained keep test a (x ∷ xs) f t = at (keep x) (test x) refl refl f (find-retained keep test a xs)
  where
    at : (b c : Bool) → keep x ≡ b → test x ≡ c → cond c (Some x) (find test xs) ≡ Some a → (find test xs ≡ Some a → keep a ≡ true → find test (filter keep xs) ≡ Some a)
        → find test (cond b (x ∷ filter keep xs) (filter keep xs)) ≡ Some a
    at true true eb ec g ih = cond-true (test x) (Some x) (find test (filter keep xs)) ec ∙ g
    at true false eb ec g ih = cond-false (test x) (Some x) (find test (filter keep xs)) ec ∙ ih g t
    at false true eb ec g ih = let e : x ≡ a = cc in absurd (true≢false (sym t ∙ ap keep (sym e) ∙ eb))
    at false false eb ec g ih = ih g t

pub has-found : (key : ℕ) (a : Live) (xs : List Live) → find (is_under key) xs ≡ Some a → has key (keys_of xs) ≡ true
has-found key a [] f = cc
has-found key a (x ∷ xs) f = at (is_under key x) f (has-found key a xs)
  where
    at : (b : Bool) → cond b (Some x) (find (is_under key) xs) ≡ Some a → (find (is_under key) xs ≡ Some a → has key (keys_of xs) ≡ true) → (b || has key (keys_of xs)) ≡ true
    at true g ih = refl
    at false g ih = ih g

pub after-keys : (key : ℕ) (xs : List Live) → after_first (λ k. eqb k key) (keys_of xs) ≡ keys_of (after_first (is_under key) xs)
after-keys key [] = refl
after-keys key (x ∷ xs) = cond_both (is_under key x) xs (after_first (is_under key) xs) (λ r. cond (is_under key x) (keys_of xs) (after_first (λ k. eqb k key) (keys_of xs)) ≡ keys_of r)
    (λ e. cond-true (is_under key x) (keys_of xs) (after_first (λ k. eqb k key) (keys_of xs)) e)
    (λ e. cond-false (is_under key x) (keys_of xs) (after_first (λ k. eqb k key) (keys_of xs)) e ∙ after-keys key xs)

pub all_after : (P : Live → Type 0) (test : Live → Bool) (xs : List Live) → AllByRecursion P xs → AllByRecursion P (after_first test xs)
all_after P test [] h = tt
all_after P test (x ∷ xs) h = cond_both (test x) xs (after_first test xs) (λ r. AllByRecursion P r) (λ _. h.1) (λ _. all_after P test xs h.1)

same_distance : (o : Bool) (p q : ℕ) → p ≤ 1999999900 → q ≤ 1999999900 → cond o (2000000000 - p) p ≡ cond o (2000000000 - q) q → p ≡ q
same_distance true p q a b h = omega arith
same_distance false p q a b h = h

shown_is : (a b : Bool) → cond a b (not b) ≡ true → a ≡ b
shown_is true true h = refl
shown_is true false h = cc
shown_is false true h = cc
shown_is false false h = refl

is_shown : (a b : Bool) → a ≡ b → cond a b (not b) ≡ true
is_shown true true h = refl
is_shown true false h = cc
is_shown false true h = cc
is_shown false false h = refl

equal-in : (terms : Terms) (a y : Live) → IsPriced a → IsPriced y → crosses terms a.order ≡ true → is_in (level_key_of (terms_of a.order)) a.order.shown y ≡ is_equal terms a.order y
equal-in terms a y pa py c =
    same_bools (is_in (level_key_of (terms_of a.order)) a.order.shown y) (is_equal terms a.order y)
    (λ i. let u = is_in_at (level_key_of (terms_of a.order)) a.order.shown y i in
    let r = crosses-level_key terms a pa c in
    let x = level_key-crosses terms y (distance_of a) py (u.0 ∙ r.0) r.1 in
    let o : is_buy y.order.side ≡ is_buy a.order.side = ap (λ (v : LevelKey). v.buy) u.0 in
    let d : y.order.price ≡ a.order.price = same_distance (is_buy y.order.side) y.order.price a.order.price py pa (ap (λ (v : LevelKey). v.distance) u.0 ∙ ap (λ t. cond t (2000000000 - a.order.price) a.order.price) (sym o)) in
    and_from (crosses terms y.order && eqb y.order.price a.order.price) (cond y.order.shown a.order.shown (not a.order.shown))
    (and_from (crosses terms y.order) (eqb y.order.price a.order.price) x (eq-eqb y.order.price a.order.price d)) (is_shown y.order.shown a.order.shown u.1))
    (λ e. let p = and_parts (crosses terms y.order && eqb y.order.price a.order.price) (cond y.order.shown a.order.shown (not a.order.shown)) e in
    let q = and_parts (crosses terms y.order) (eqb y.order.price a.order.price) p.0 in
    let r = crosses-level_key terms a pa c in
    let s = crosses-level_key terms y py q.0 in
    let o : is_buy y.order.side ≡ is_buy a.order.side = ap (λ (v : LevelKey). v.buy) s.0 ∙ sym (ap (λ (v : LevelKey). v.buy) r.0) in
    let d : distance_of y ≡ distance_of a = ap (λ n. cond (is_buy y.order.side) (2000000000 - n) n) (eqb-true y.order.price a.order.price q.1) ∙ ap (λ t. cond t (2000000000 - a.order.price) a.order.price) o in
    in_queue (level_key_of (terms_of a.order)) a.order.shown y (s.0 ∙ ap (contra terms) d ∙ sym r.0) (shown_is y.order.shown a.order.shown p.1))

module _ (linked_orders : Slab LinkedOrder) (levels : LevelStore) (retained : Option LevelKey) (orders : List Live)
    (book : IsQueued linked_orders levels retained orders) (terms : Terms) (key : ℕ) (ranked : IsRanked terms key orders) (linked_order : LinkedOrder) (stored : get linked_orders key ≡ Some linked_order) where
  pub rank : Ranked terms key orders
  rank = next-some terms key orders book.differ ranked

  pub linked_order_order : linked_order.order ≡ rank.live.order
  linked_order_order = let e : Some linked_order.order ≡ Some rank.live.order = ap (option_map (λ (n : LinkedOrder). n.order)) (sym stored) ∙ book.stored key rank.live rank.found in cc

  priced_live : IsPriced rank.live
  priced_live = found_among IsPriced (is_under key) rank.live orders book.priced rank.found

  pub live_level_key : (level_key_of (terms_of rank.live.order) ≡ contra terms (distance_of rank.live)) × (distance_of rank.live ≤ limit_of terms)
  live_level_key = crosses-level_key terms rank.live priced_live rank.crosses

  queue_after : linked_order.queue.after ≡ option_map (λ (y : Live). y.key.0) (find (is_equal terms rank.live.order) (after_first (is_under key) orders))
  unfolding rank
  queue_after =
      let a = rank.live in
      let p = is_in (level_key_of (terms_of a.order)) a.order.shown in
      let f : find (is_under key) (filter p orders) ≡ Some a = find-retained p (is_under key) a orders rank.found (is_in_own a) in
      chain-after (queue_links linked_orders) key (linked_order.queue) None (ends_in a.order.shown (level_at levels (level_key_of (terms_of a.order)))).last (keys_of (filter p orders)) (book.in_level (level_key_of (terms_of a.order)) a.order.shown).chain
      (has-found key a (filter p orders) f) (ap (option_map (λ (n : LinkedOrder). n.queue)) stored)
      ∙ ap head_of (after-keys key (filter p orders))
      ∙ ap (λ r. head_of (keys_of r)) (after-filter p (is_under key) a orders (once_under key orders book.differ) f)
      ∙ head-keys (filter p (after_first (is_under key) orders))
      ∙ ap (option_map (λ (y : Live). y.key.0)) (first_retained p (after_first (is_under key) orders)
      ∙ find-same_all p (is_equal terms a.order) (after_first (is_under key) orders)
      (all_after (λ y. p y ≡ is_equal terms a.order y) (is_under key) orders (all_weaker IsPriced (λ y. p y ≡ is_equal terms a.order y) (λ y py. equal-in terms a y priced_live py rank.crosses) orders book.priced)))

  pub next_queued : (next : ℕ) → linked_order.queue.after ≡ Some next → Some (record { 0 = next }) ≡ next_by_rank terms (Some (record { 0 = key })) orders
  next_queued next e = at (find (is_equal terms rank.live.order) (after_first (is_under key) orders)) (sym e ∙ queue_after) rank.next
    where
      at : (o : Option Live) → Some next ≡ option_map (λ (y : Live). y.key.0) o
          → option_map (λ (y : Live). y.key) (or_else o (first_of (is_ahead terms.side) (is_candidate terms (Some rank.live)) orders)) ≡ next_by_rank terms (Some (record { 0 = key })) orders
          → Some (record { 0 = next }) ≡ next_by_rank terms (Some (record { 0 = key })) orders
      at None g n = cc
      at (Some x) g n = let h : next ≡ x.key.0 = cc in ap (λ (v : ℕ). Some (to_key v)) h ∙ n

  -- if its queue ends with it
  past_queue : linked_order.queue.after ≡ None → first_of (is_ahead terms.side) (is_candidate terms (Some rank.live)) orders ≡ head_of (after_first (is_under key) (ranked_line terms orders))
  past_queue e = at (find (is_equal terms rank.live.order) (after_first (is_under key) orders)) (sym e ∙ queue_after) rank.after
    where
      at : (o : Option Live) → None ≡ option_map (λ (y : Live). y.key.0) o
          → or_else o (first_of (is_ahead terms.side) (is_candidate terms (Some rank.live)) orders) ≡ head_of (after_first (is_under key) (ranked_line terms orders))
          → first_of (is_ahead terms.side) (is_candidate terms (Some rank.live)) orders ≡ head_of (after_first (is_under key) (ranked_line terms orders))
      at None g n = n
      at (Some x) g n = cc

  parts : (y : Live) → is_candidate terms (Some rank.live) y ≡ true → (crosses terms y.order ≡ true) × (is_ahead terms.side rank.live y ≡ true)
  parts y t = and_parts (crosses terms y.order) (is_ahead terms.side rank.live y) t

  farther : (d e : ℕ) (sx sy : Bool) → (ltb d e || (eqb d e && sx && not sy)) ≡ true → (d < e) ⊎ ((e ≡ d) × (sx ≡ true) × (sy ≡ false))
  farther d e sx sy h = elim (cases_order d e) [ inl q ↦ inr (at q sx sy h) | inr o ↦ elim o [ inl l ↦ inl l | inr l ↦ absurd (gone l sx sy h) ] ]
    where
      at : d ≡ e → (a b : Bool) → (ltb d e || (eqb d e && a && not b)) ≡ true → (e ≡ d) × (a ≡ true) × (b ≡ false)
      at q true true g = absurd (no g)
        where
          no : (ltb d e || (eqb d e && true && false)) ≡ true → ⊥
          no g' = grind (arith, nat_tests)
      at q true false g = (sym q, refl, refl)
      at q false b g = absurd (no b g)
        where
          no : (c : Bool) → (ltb d e || (eqb d e && false && not c)) ≡ true → ⊥
          no true g' = grind (arith, nat_tests)
          no false g' = grind (arith, nat_tests)

      gone : e < d → (a b : Bool) → (ltb d e || (eqb d e && a && not b)) ≡ true → ⊥
      gone l true true g = grind (arith, nat_tests)
      gone l true false g = grind (arith, nat_tests)
      gone l false true g = grind (arith, nat_tests)
      gone l false false g = grind (arith, nat_tests)

  beyond : (y : Live) → is_candidate terms (Some rank.live) y ≡ true → IsPriced y
      → (distance_of rank.live < distance_of y) ⊎ ((distance_of y ≡ distance_of rank.live) × (rank.live.order.shown ≡ true) × (y.order.shown ≡ false))
  beyond y t p =
      let r = crosses-level_key terms y p (parts y t).0 in
      farther (distance_of rank.live) (distance_of y) rank.live.order.shown y.order.shown
      (sym (ahead-distance terms rank.live y (distance_of rank.live) (distance_of y) priced_live p live_level_key.0 r.0) ∙ (parts y t).1)

  pub next_hidden : (next : ℕ) → linked_order.queue.after ≡ None → rank.live.order.shown ≡ true
      → first_at levels terms.locate (not (is_buy terms.side)) (distance_of rank.live) false ≡ Some next → Some (record { 0 = next }) ≡ next_by_rank terms (Some (record { 0 = key })) orders
  next_hidden next e s f =
      let h = has_first (is_in (contra terms (distance_of rank.live)) false) orders next (sym (queue_first linked_orders levels retained orders book terms (distance_of rank.live) false) ∙ f) in
      ap (λ (n : ℕ). Some (to_key n)) (sym h.key_is)
      ∙ ap (option_map (λ (y : Live). y.key)) (sym (best_at terms (is_candidate terms (Some rank.live)) (distance_of rank.live) false orders book.priced (λ y t. (parts y t).0) inside rest h.live h.found))
      ∙ ap (option_map (λ (y : Live). y.key)) (past_queue e)
    where
      inside : (y : Live) → is_in (contra terms (distance_of rank.live)) false y ≡ true → IsPriced y → is_candidate terms (Some rank.live) y ≡ true
      inside y q p =
          let u = is_in_at (contra terms (distance_of rank.live)) false y q in
          and_from (crosses terms y.order) (is_ahead terms.side rank.live y) (level_key-crosses terms y (distance_of rank.live) p u.0 live_level_key.1)
          (ahead-distance terms rank.live y (distance_of rank.live) (distance_of rank.live) priced_live p live_level_key.0 u.0 ∙ at rank.live.order.shown y.order.shown s u.1)
        where
          at : (a b : Bool) → a ≡ true → b ≡ false → (ltb (distance_of rank.live) (distance_of rank.live) || (eqb (distance_of rank.live) (distance_of rank.live) && a && not b)) ≡ true
          at true false g g' = or_right (ltb (distance_of rank.live) (distance_of rank.live)) (eqb (distance_of rank.live) (distance_of rank.live) && true && true)
              (ap (λ t. t && true && true) (eq-eqb (distance_of rank.live) (distance_of rank.live) refl))
          at true true g g' = cc
          at false b g g' = cc

      rest : (y : Live) → is_candidate terms (Some rank.live) y ≡ true → InClass orders y → IsPriced y
          → (is_in (contra terms (distance_of rank.live)) false y ≡ true) ⊎ ((distance_of rank.live < distance_of y) ⊎ ((distance_of y ≡ distance_of rank.live) × (false ≡ true) × (y.order.shown ≡ false)))
      rest y t c p =
          let r = crosses-level_key terms y p (parts y t).0 in
          elim (beyond y t p) [
            | inl l ↦ inr (inl l)
            | inr w ↦ inl (in_queue (contra terms (distance_of rank.live)) false y (r.0 ∙ ap (contra terms) w.0) w.2)
          ]

  -- from the next level on
  module _ (e : linked_order.queue.after ≡ None) (hidden : rank.live.order.shown ≡ true → first_at levels terms.locate (not (is_buy terms.side)) (distance_of rank.live) false ≡ None) where
    after_live : (y : Live) → is_candidate terms (Some rank.live) y ≡ true → InClass orders y → IsPriced y → distance_of rank.live + 1 ≤ distance_of y
    after_live y t c p =
        let r = crosses-level_key terms y p (parts y t).0 in
        elim (beyond y t p) [
          | inl l ↦ omega arith
          | inr w ↦ absurd (not_there linked_orders levels retained orders book terms y (distance_of rank.live) (r.0 ∙ ap (contra terms) w.0) c
              (ap (first_at levels terms.locate (not (is_buy terms.side)) (distance_of rank.live)) w.2 ∙ hidden w.1))
        ]

    -- what comes next is farther
    pub next_farther : IfSome (head_of (after_first (is_under key) (ranked_line terms orders))) (λ y. distance_of rank.live + 1 ≤ distance_of y)
    next_farther =
        let P : Option Live → Type 0 = λ o. IfSome o (λ y. distance_of rank.live + 1 ≤ distance_of y) in
        subst P (past_queue e)
        (first_all (is_ahead terms.side) (is_candidate terms (Some rank.live)) (λ _. false) IsPriced (λ y q p. cc) (λ x y p q a b. cc) (λ y. distance_of rank.live + 1 ≤ distance_of y) orders
        (each orders (both_all (InClass orders) IsPriced orders (all_in_class orders) book.priced)))
      where
        each : (zs : List Live) → AllByRecursion (λ y. InClass orders y × IsPriced y) zs
            → AllByRecursion (λ y. is_candidate terms (Some rank.live) y ≡ true → distance_of rank.live + 1 ≤ distance_of y) zs
        each [] a = tt
        each (z ∷ zs) a = ((λ t. after_live z t a.0.0 a.0.1), each zs a.1)

-- by time

pub to_keys : (r : Option ℕ) (o : Option Live) → r ≡ option_map (λ (y : Live). y.key.0) o → option_map to_key r ≡ option_map (λ (y : Live). y.key) o
to_keys r None e = ap (option_map to_key) e
to_keys r (Some x) e = ap (option_map to_key) e

pub time_later : (linked_orders : Slab LinkedOrder) (levels : LevelStore) (time : Ends) (reserved : Option Terms) (retained : Option LevelKey) (next : ℕ) (ranked : RankedContents) (orders : List Live) → IsBook linked_orders levels time reserved retained next ranked orders
    → (key : ℕ) (linked_order : LinkedOrder) → has_key key orders ≡ true → get linked_orders key ≡ Some linked_order → option_map to_key linked_order.time.after ≡ next_by_time (Some (record { 0 = key })) orders
time_later linked_orders levels time reserved retained next ranked orders b key linked_order h e =
    to_keys linked_order.time.after (head_of (after_first (is_under key) orders))
    (chain-after (time_links linked_orders) key linked_order.time None time.last (keys_of orders) b.in_time.chain (has-keys key orders ∙ h) (ap (option_map (λ (n : LinkedOrder). n.time)) e)
    ∙ ap head_of (after-keys key orders) ∙ head-keys (after_first (is_under key) orders))

pub some_found : (key : ℕ) (orders : List Live) → has_key key orders ≡ true → (live : Live) × (find (is_under key) orders ≡ Some live)
some_found key [] h = absurd (true≢false (sym h))
some_found key (x ∷ xs) h = at (is_under key x) h (some_found key xs)
  where
    at : (b : Bool) → (b || has_key key xs) ≡ true → (has_key key xs ≡ true → (live : Live) × (find (is_under key) xs ≡ Some live)) → (live : Live) × (cond b (Some x) (find (is_under key) xs) ≡ Some live)
    at true g ih = (x, refl)
    at false g ih = ih g

pub record Found (linked_orders : Slab LinkedOrder) (orders : List Live) (key : ℕ) : Type 0 where
  pub live : Live
  pub found : find (is_under key) orders ≡ Some live
  pub linked_order : LinkedOrder
  pub stored : get linked_orders key ≡ Some linked_order
  pub order : linked_order.order ≡ live.order

pub linked_order_found : (linked_orders : Slab LinkedOrder) (levels : LevelStore) (time : Ends) (reserved : Option Terms) (retained : Option LevelKey) (next : ℕ) (ranked : RankedContents) (orders : List Live) → IsBook linked_orders levels time reserved retained next ranked orders
    → (key : ℕ) → has_key key orders ≡ true → Found linked_orders orders key
linked_order_found linked_orders levels time reserved retained next ranked orders b key h =
    let s = some_found key orders h in
    at s.0 s.1 (get linked_orders key) refl (b.stored key ∙ ap (option_map (λ (y : Live). y.order)) s.1)
  where
    at : (live : Live) → find (is_under key) orders ≡ Some live → (o : Option LinkedOrder) → get linked_orders key ≡ o → option_map (λ (n : LinkedOrder). n.order) o ≡ Some live.order → Found linked_orders orders key
    at live f None e g = cc
    at live f (Some linked_order) e g = record { live = live; found = f; linked_order = linked_order; stored = e; order = cc }
