-- A book by levels holds the same list once the bound of a level is made tight.
use Rattle.std.proofs.Common.{◌≡◌, ℕ, ◌≤◌, not, Bool, true, false, cond, eqb, List, [], ◌∷◌, Option, Some, None, refl, sym, ap, ◌∙◌, subst}
use Rattle.std.specs.List.{AllByRecursion, filter}
use Rattle.std.specs.Option.{option_map, IsSome}
use Rattle.std.proofs.lemmas.Bool.{true≢false}
use Rattle.slab.specs.Slab.{Slab}
use Rattle.hx_book.specs.declared.order.Live.{Live}
use Rattle.hx_book.specs.declared.order.Terms.{Terms}
use Rattle.hx_levels.specs.declared.level_book.linked_orders.LinkedOrder.{LinkedOrder}
use Rattle.hx_levels.specs.declared.level_book.linked_orders.Ends.{Ends}
use Rattle.hx_levels.specs.declared.level_book.levels.Level.{Level}
use Rattle.hx_levels.specs.Chain.{IsLinked}
use Rattle.hx_levels.specs.OrderLinks.{queue_links}
use Rattle.hx_levels.specs.LevelKeys.{LevelKey}
use Rattle.hx_levels.specs.Levels.{LevelStore, level_at, ends_of, ends_in, with_most, IsEmptyLevel}
use Rattle.hx_book.specs.Book.{terms_of, is_conditional}
use Rattle.hx_levels.specs.LevelBook.{queue, is_in, is_level_key, level_key_of, line, HaveAtMost, AreSized, IsBook, unconditional}
use Rattle.hx_ranked.specs.Contents.{Contents as Ranked}
use Rattle.hx_levels.proofs.Sized.{Bounds}
use Rattle.hx_levels.proofs.Added.{same_level_key, self_level_key}
use Rattle.hx_levels.proofs.LevelRanks.{in_queue}

-- what holds of those that a filter retains
from_retained : (P : Live → Type 0) (keep : Live → Bool) (xs : List Live) → AllByRecursion P (filter keep xs) → AllByRecursion (λ y. keep y ≡ true → P y) xs
from_retained P keep [] a = tt
from_retained P keep (x ∷ xs) a = at (keep x) refl a (from_retained P keep xs)
  where
    at : (b : Bool) → keep x ≡ b → AllByRecursion P (cond b (x ∷ filter keep xs) (filter keep xs)) → (AllByRecursion P (filter keep xs) → AllByRecursion (λ y. keep y ≡ true → P y) xs)
        → AllByRecursion (λ y. keep y ≡ true → P y) (x ∷ xs)
    at true e g ih = ((λ t. g.0), ih g.1)
    at false e g ih = ((λ t. absurd (true≢false (sym t ∙ e))), ih g)

module _ (linked_orders : Slab LinkedOrder) (levels levels' : LevelStore) (time : Ends) (reserved : Option Terms) (retained : Option LevelKey) (next : ℕ) (ranked : Ranked) (orders : List Live)
    (at : LevelKey) (most : ℕ) (book : IsBook linked_orders levels time reserved retained next ranked orders)
    (changed : level_at levels' at ≡ option_map (with_most most) (level_at levels at))
    (others : (q : LevelKey) → (q ≡ at → ⊥) → level_at levels' q ≡ level_at levels q)
    (tight : (shown : Bool) → HaveAtMost most (line at shown orders)) where
  not_level_key : (q : LevelKey) → is_level_key q at ≡ false → q ≡ at → ⊥
  not_level_key q f h = true≢false (sym (ap (λ v. is_level_key v at) h ∙ self_level_key at) ∙ f)

  -- what the change of a bound leaves is at each level key
  at_level_key : (P : Option Level → Option Level → Type 0) → ((o : Option Level) → P o o) → ((o : Option Level) → P o (option_map (with_most most) o)) → (q : LevelKey) → P (level_at levels q) (level_at levels' q)
  at_level_key P same new q = by (is_level_key q at) refl
    where
      by : (b : Bool) → is_level_key q at ≡ b → P (level_at levels q) (level_at levels' q)
      by true e =
          subst (λ r. P (level_at levels r) (level_at levels' r)) (sym (same_level_key q at e))
          (subst (P (level_at levels at)) (sym changed) (new (level_at levels at)))
      by false e = subst (P (level_at levels q)) (sym (others q (not_level_key q e))) (same (level_at levels q))

  -- another bound leaves the ends
  bound_ends : (s : Bool) (l : Level) (z : Bool) → ends_of s (cond z l (record l { most = most })) ≡ ends_of s l
  bound_ends s l true = refl
  bound_ends true l false = refl
  bound_ends false l false = refl

  bound_empty : (l : Level) (z : Bool) → IsEmptyLevel (cond z l (record l { most = most })) → IsEmptyLevel l
  bound_empty l true m = m
  bound_empty l false m = m

  same_ends : (q : LevelKey) (s : Bool) → ends_in s (level_at levels' q) ≡ ends_in s (level_at levels q)
  same_ends q s = at_level_key (λ o p. ends_in s p ≡ ends_in s o) (λ o. refl) (λ o. new s o) q
    where
      new : (s : Bool) (o : Option Level) → ends_in s (option_map (with_most most) o) ≡ ends_in s o
      new s None = refl
      new s (Some l) = bound_ends s l (eqb l.most 0)

  still_there : (q : LevelKey) → IsSome (level_at levels q) → IsSome (level_at levels' q)
  still_there = at_level_key (λ o p. IsSome o → IsSome p) (λ o h. h) new
    where
      new : (o : Option Level) → IsSome o → IsSome (option_map (with_most most) o)
      new None h = h
      new (Some l) h = refl

  still_empty : (q : LevelKey) (level : Level) → level_at levels' q ≡ Some level → IsEmptyLevel level → (old : Level) × (level_at levels q ≡ Some old) × IsEmptyLevel old
  still_empty q level h m = at_level_key (λ o p. p ≡ Some level → (old : Level) × (o ≡ Some old) × IsEmptyLevel old) (λ o e. (level, e, m)) new q h
    where
      new : (o : Option Level) → option_map (with_most most) o ≡ Some level → (old : Level) × (o ≡ Some old) × IsEmptyLevel old
      new None e = cc
      new (Some l) e = let w : with_most most l ≡ level = cc in (l, refl, bound_empty l (eqb l.most 0) (subst IsEmptyLevel (sym w) m))

  -- an order of the level is in one of its queues
  few : AllByRecursion (λ y. not (is_conditional y.order) ≡ true → is_in at y.order.shown y ≡ true → y.order.shares ≤ most) orders
  few = from_retained (λ y. is_in at y.order.shown y ≡ true → y.order.shares ≤ most) (λ y. not (is_conditional y.order)) orders
      (either (unconditional orders) (from_retained (λ y. y.order.shares ≤ most) (is_in at true) (unconditional orders) (tight true))
      (from_retained (λ y. y.order.shares ≤ most) (is_in at false) (unconditional orders) (tight false)))
    where
      one : (y : Live) (s : Bool) → y.order.shown ≡ s → (is_in at true y ≡ true → y.order.shares ≤ most) → (is_in at false y ≡ true → y.order.shares ≤ most) → is_in at y.order.shown y ≡ true → y.order.shares ≤ most
      one y true e h k i = h (ap (λ s. is_in at s y) (sym e) ∙ i)
      one y false e h k i = k (ap (λ s. is_in at s y) (sym e) ∙ i)

      either : (xs : List Live) → AllByRecursion (λ y. is_in at true y ≡ true → y.order.shares ≤ most) xs → AllByRecursion (λ y. is_in at false y ≡ true → y.order.shares ≤ most) xs
          → AllByRecursion (λ y. is_in at y.order.shown y ≡ true → y.order.shares ≤ most) xs
      either [] a b = tt
      either (x ∷ xs) a b = (one x x.order.shown refl a.0 b.0, either xs a.1 b.1)

  sized_tight : AreSized levels' orders
  sized_tight = each orders few book.sized
    where
      within : (n : ℕ) (l : Level) (z : Bool) → n ≤ most → n ≤ l.most → n ≤ (cond z l (record l { most = most })).most
      within n l true a b = b
      within n l false a b = a

      own : (n : ℕ) → n ≤ most → (o : Option Level) → Bounds n o → Bounds n (option_map (with_most most) o)
      own n a None b = tt
      own n a (Some l) b = within n l (eqb l.most 0) a b

      one : (y : Live) → (is_in at y.order.shown y ≡ true → y.order.shares ≤ most) → Bounds y.order.shares (level_at levels (level_key_of (terms_of y.order))) → (b : Bool) → is_level_key (level_key_of (terms_of y.order)) at ≡ b
          → Bounds y.order.shares (level_at levels' (level_key_of (terms_of y.order)))
      one y h o true e =
          let r = same_level_key (level_key_of (terms_of y.order)) at e in
          subst (λ v. Bounds y.order.shares (level_at levels' v)) (sym r)
          (subst (Bounds y.order.shares) (sym changed) (own y.order.shares (h (in_queue at y.order.shown y r refl)) (level_at levels at) (subst (λ v. Bounds y.order.shares (level_at levels v)) r o)))
      one y h o false e = subst (Bounds y.order.shares) (sym (others (level_key_of (terms_of y.order)) (not_level_key (level_key_of (terms_of y.order)) e))) o

      each : (xs : List Live) → AllByRecursion (λ y. not (is_conditional y.order) ≡ true → is_in at y.order.shown y ≡ true → y.order.shares ≤ most) xs → AreSized levels xs → AreSized levels' xs
      each [] a b = tt
      each (x ∷ xs) a b = ((λ c. one x (a.0 (ap not c)) (b.0 c) (is_level_key (level_key_of (terms_of x.order)) at) refl), each xs a.1 b.1)

  pub tightened : IsBook linked_orders levels' time reserved retained next ranked orders
  tightened = record {
    differ = book.differ;
    stored = book.stored;
    in_time = book.in_time;
    in_level = λ q s. subst (λ e. IsLinked (queue_links linked_orders) e (queue q s (unconditional orders))) (sym (same_ends q s)) (book.in_level q s);
    priced = book.priced;
    sized = sized_tight;
    numbered = book.numbered;
    indexed = book.indexed;
    small = book.small;
    room = λ terms p. let r = book.room terms p in (r.0, still_there (level_key_of terms) r.1, r.2, r.3, r.4);
    filled = λ q level h m. let e = still_empty q level h m in book.filled q e.0 e.1 e.2;
  }
