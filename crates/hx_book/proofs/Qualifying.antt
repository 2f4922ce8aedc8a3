-- The walk by rank, from one order that passes a test to the next.
use Rattle.std.proofs.Common.{◌≡◌, ℕ, ◌<◌, ◌||◌, Bool, true, false, cond, List, [], ◌∷◌, ◌++◌, append_assoc, length, Option, Some, None, refl, sym, ap, ◌∙◌, subst, arith, eq-eqb}
use Rattle.std.specs.List.{AllByRecursion, find, filter}
use Rattle.std.specs.Option.{option_map, IsSome}
use Rattle.std.proofs.lemmas.Bool.{cond-true, cond-false, true≢false, false_from_ne_true}
use Rattle.std.proofs.lemmas.List.{length-append}
use Rattle.hx_book.specs.declared.order.Live.{Live}
use Rattle.hx_book.specs.declared.order.Key.{Key}
use Rattle.hx_book.specs.declared.order.Terms.{Terms}
use Rattle.hx_book.specs.Lists.{head_of, after_first}
use Rattle.hx_book.specs.Book.{crosses, is_ahead, is_under, ranked, has_key, order_of, KeysDiffer, IsRanked, rest_after, qualifies, next_by_rank, next_qualifying}
use Rattle.hx_book.proofs.Lists.{PassesOnce, once_filtered, find-filter}
use Rattle.hx_book.proofs.Rank.{once_ranked, find-by_rank}
use Rattle.hx_book.proofs.Orders.{ahead_asym, ahead_skip, once_under}

abbrev pub KeysOnce : List Live → Type 0
KeysOnce orders = (key : ℕ) → PassesOnce (is_under key) orders

pub ranked_once : (terms : Terms) (orders : List Live) → KeysOnce orders → KeysOnce (ranked terms orders)
ranked_once terms orders o key =
    once_ranked (is_ahead terms.side) (ahead_asym terms.side) (ahead_skip terms.side) (is_under key)
    (filter (λ live. crosses terms live.order) orders)
    (once_filtered (λ live. crosses terms live.order) (is_under key) orders (o key))

-- the order with a key of the ranked list is that of the book
found-ranked : (terms : Terms) (key : ℕ) (orders : List Live) (x : Live) → KeysOnce orders
    → find (is_under key) (ranked terms orders) ≡ Some x → find (is_under key) orders ≡ Some x
found-ranked terms key orders x o f =
    (find-filter (λ live. crosses terms live.order) (is_under key) orders x (o key)
    (sym (find-by_rank (is_ahead terms.side) (ahead_asym terms.side) (ahead_skip terms.side) (is_under key) (filter (λ live. crosses terms live.order) orders)
    (once_filtered (λ live. crosses terms live.order) (is_under key) orders (o key))) ∙ f))

pub has_found : (key : ℕ) (x : Live) (xs : List Live) → find (is_under key) xs ≡ Some x → has_key key xs ≡ true
has_found key x [] f = cc
has_found key x (y ∷ ys) f = at (is_under key y) f (has_found key x ys)
  where
    at : (b : Bool) → cond b (Some y) (find (is_under key) ys) ≡ Some x → (find (is_under key) ys ≡ Some x → has_key key ys ≡ true) → (b || has_key key ys) ≡ true
    at true g ih = refl
    at false g ih = ih g

-- what stands before the rest
before_rest : (after : Option Key) (xs : List Live) → (front : List Live) × (xs ≡ front ++ rest_after after xs)
before_rest None xs = ([], refl)
before_rest (Some key) [] = ([], refl)
before_rest (Some key) (x ∷ xs) = at (is_under key.0 x) (before_rest (Some key) xs)
  where
    at : (b : Bool) → (front : List Live) × (xs ≡ front ++ after_first (is_under key.0) xs) → (front : List Live) × (x ∷ xs ≡ front ++ cond b xs (after_first (is_under key.0) xs))
    at true ih = (x ∷ [], refl)
    at false ih = (x ∷ ih.0, ap (λ l. x ∷ l) ih.1)

none_at : (test : Live → Bool) (front : List Live) (x : Live) (back : List Live) → AllByRecursion (λ y. test y ≡ false) (front ++ x ∷ back) → test x ≡ false
none_at test [] x back h = h.0
none_at test (y ∷ ys) x back h = none_at test ys x back h.1

record Stands (x : Live) (back xs : List Live) : Type 0 where
  found : find (is_under x.key.0) xs ≡ Some x
  later : after_first (is_under x.key.0) xs ≡ back

stands : (front : List Live) (x : Live) (back : List Live) → PassesOnce (is_under x.key.0) (front ++ x ∷ back) → Stands x back (front ++ x ∷ back)
stands [] x back o =
    let t : is_under x.key.0 x ≡ true = eq-eqb x.key.0 x.key.0 refl in
    record { found = cond-true (is_under x.key.0 x) _ _ t; later = cond-true (is_under x.key.0 x) _ _ t }
stands (y ∷ ys) x back o =
    let f : is_under x.key.0 y ≡ false = false_from_ne_true (is_under x.key.0 y) (λ t. true≢false (sym (eq-eqb x.key.0 x.key.0 refl) ∙ none_at (is_under x.key.0) ys x back (o.0 t))) in
    let s : Stands x back (ys ++ x ∷ back) = stands ys x back o.1 in
    record { found = cond-false (is_under x.key.0 y) _ _ f ∙ s.found; later = cond-false (is_under x.key.0 y) _ _ f ∙ s.later }

-- those before the first that passes do not pass
record Split (test : Live → Bool) (xs : List Live) (x : Live) : Type 0 where
  passed : List Live
  idle : AllByRecursion (λ y. test y ≡ false) passed
  back : List Live
  list_is : xs ≡ passed ++ x ∷ back
  passes : test x ≡ true

split : (test : Live → Bool) (xs : List Live) (x : Live) → find test xs ≡ Some x → Split test xs x
split test [] x f = cc
split test (y ∷ ys) x f = at (test y) refl f (split test ys x)
  where
    at : (b : Bool) → test y ≡ b → cond b (Some y) (find test ys) ≡ Some x → (find test ys ≡ Some x → Split test ys x) → Split test (y ∷ ys) x
    at true e g ih = let h : y ≡ x = cc in record { passed = []; idle = tt; back = ys; list_is = ap (λ z. z ∷ ys) h; passes = subst (λ z. test z ≡ true) h e }
    at false e g ih = let s : Split test ys x = ih g in record { passed = y ∷ s.passed; idle = (e, s.idle); back = s.back; list_is = ap (λ l. y ∷ l) s.list_is; passes = s.passes }

-- what stands under a key that a walk gives: the first after `after` that passes the test
pub record Met (terms : Terms) (after : Option Key) (test : Live → Bool) (key : Key) (orders : List Live) : Type 0 where
  pub live : Live
  pub has : live.key ≡ key
  pub passes : test live ≡ true
  pub found : find (is_under key.0) orders ≡ Some live
  pub order : order_of key.0 orders ≡ Some live.order
  pub is_ranked : IsRanked terms key.0 orders
  pub passed : List Live
  pub idle : AllByRecursion (λ y. test y ≡ false) passed
  pub rest : rest_after after (ranked terms orders) ≡ passed ++ live ∷ rest_after (Some key) (ranked terms orders)

pub met : (terms : Terms) (after : Option Key) (test : Live → Bool) (key : Key) (orders : List Live) → KeysDiffer orders
    → Some key ≡ option_map (λ live. live.key) (find test (rest_after after (ranked terms orders))) → Met terms after test key orders
met terms after test key orders d e = at (find test (rest_after after (ranked terms orders))) refl e
  where
    at : (o : Option Live) → find test (rest_after after (ranked terms orders)) ≡ o → Some key ≡ option_map (λ live. live.key) o → Met terms after test key orders
    at None f g = cc
    at (Some x) f g =
        let line : List Live = ranked terms orders in
        let has : x.key ≡ key = cc in
        let s : Split test (rest_after after line) x = split test (rest_after after line) x f in
        let b = before_rest after line in
        let whole : line ≡ (b.0 ++ s.passed) ++ x ∷ s.back = b.1 ∙ ap (λ l. b.0 ++ l) s.list_is ∙ sym (append_assoc b.0 s.passed (x ∷ s.back)) in
        let once : KeysOnce orders = λ k. once_under k orders d in
        let st : Stands x s.back line = subst (λ (l : List Live). Stands x s.back l) (sym whole)
        (stands (b.0 ++ s.passed) x s.back (subst (λ (l : List Live). PassesOnce (is_under x.key.0) l) whole (ranked_once terms orders once x.key.0))) in
        record {
          live = x;
          has = has;
          passes = s.passes;
          found = ap (λ (k : Key). find (is_under k.0) orders) (sym has) ∙ found-ranked terms x.key.0 orders x once st.found;
          order = ap (λ (k : Key). order_of k.0 orders) (sym has) ∙ ap (option_map (λ live. live.order)) (found-ranked terms x.key.0 orders x once st.found);
          is_ranked = subst (λ (k : Key). IsRanked terms k.0 orders) has (has_found x.key.0 x line st.found);
          passed = s.passed;
          idle = s.idle;
          rest = s.list_is ∙ ap (λ l. s.passed ++ x ∷ l) (sym st.later ∙ ap (λ (k : Key). after_first (is_under k.0) line) has);
        }

-- the walk ends
pub walk-shorter : (terms : Terms) (after : Option Key) (test : Live → Bool) (key : Key) (orders : List Live) → Met terms after test key orders
    → length (rest_after (Some key) (ranked terms orders)) < length (rest_after after (ranked terms orders))
walk-shorter terms after test key orders m =
    omega (arith, ap length m.rest, length-append m.passed (m.live ∷ rest_after (Some key) (ranked terms orders)))

-- Of the walk that tries each order in turn.

pub is_some_of : {A B : Type 0} (f : A → B) (r : Option A) (y : B) → option_map f r ≡ Some y → IsSome r
is_some_of f None y h = cc
is_some_of f (Some x) y h = refl

head-find : (xs : List Live) → head_of xs ≡ find (λ _. true) xs
head-find [] = refl
head-find (x ∷ xs) = refl

pub next-find : (terms : Terms) (after : Option Key) (orders : List Live) → next_by_rank terms after orders ≡ option_map (λ live. live.key) (find (λ _. true) (rest_after after (ranked terms orders)))
next-find terms None orders = ap (option_map (λ live. live.key)) (head-find (ranked terms orders))
next-find terms (Some key) orders = ap (option_map (λ live. live.key)) (head-find (after_first (is_under key.0) (ranked terms orders)))

abbrev pub MetNext : Terms → Option Key → Key → List Live → Type 0
MetNext terms after key orders = Met terms after (λ _. true) key orders

pub met_next : (terms : Terms) (after : Option Key) (key : Key) (orders : List Live) → KeysDiffer orders → Some key ≡ next_by_rank terms after orders → MetNext terms after key orders
met_next terms after key orders d e = met terms after (λ _. true) key orders d (e ∙ next-find terms after orders)

abbrev pub is_qualifying : (left minimum : ℕ) → Live → Bool
is_qualifying left minimum live = qualifies left minimum live.order

-- Of a walk that tries each order in turn by a test: what it has come to, or what comes after it.

module _ (terms : Terms) (after : Option Key) (key : Key) (orders : List Live) (test : Live → Bool) (m : MetNext terms after key orders) where
  -- it passes: it is the next that does
  pub passes_here : test m.live ≡ true → find test (rest_after after (ranked terms orders)) ≡ Some m.live
  passes_here q = ap (find test) m.rest ∙ at m.passed m.idle
    where
      at : (front : List Live) → AllByRecursion (λ (y : Live). true ≡ false) front → find test (front ++ m.live ∷ rest_after (Some key) (ranked terms orders)) ≡ Some m.live
      at [] i = cond-true (test m.live) _ _ q
      at (y ∷ ys) i = absurd (true≢false i.0)

  -- it does not pass: the next that does comes after it
  pub passes_later : test m.live ≡ false → find test (rest_after (Some key) (ranked terms orders)) ≡ find test (rest_after after (ranked terms orders))
  passes_later q = sym (ap (find test) m.rest ∙ at m.passed m.idle)
    where
      at : (front : List Live) → AllByRecursion (λ (y : Live). true ≡ false) front
          → find test (front ++ m.live ∷ rest_after (Some key) (ranked terms orders)) ≡ find test (rest_after (Some key) (ranked terms orders))
      at [] i = cond-false (test m.live) _ _ q
      at (y ∷ ys) i = absurd (true≢false i.0)

-- there is none after the last
pub passes_never : (terms : Terms) (after : Option Key) (orders : List Live) (test : Live → Bool) → None ≡ next_by_rank terms after orders → find test (rest_after after (ranked terms orders)) ≡ None
passes_never terms after orders test e = at (rest_after after (ranked terms orders)) (e ∙ next-find terms after orders)
  where
    at : (xs : List Live) → None ≡ option_map (λ live. live.key) (find (λ _. true) xs) → find test xs ≡ None
    at [] g = refl
    at (x ∷ xs) g = cc

-- it is the next that qualifies
pub qualifying : (terms : Terms) (after : Option Key) (key : Key) (orders : List Live) (left minimum : ℕ) (m : MetNext terms after key orders)
    → qualifies left minimum m.live.order ≡ true → Some key ≡ next_qualifying terms after left minimum orders
qualifying terms after key orders left minimum m q =
    ap (λ (k : Key). Some k) (sym m.has) ∙ ap (option_map (λ live. live.key)) (sym (passes_here terms after key orders (is_qualifying left minimum) m q))

-- it does not qualify: the next that does comes after it
pub passed_over : (terms : Terms) (after : Option Key) (key : Key) (orders : List Live) (left minimum : ℕ) (m : MetNext terms after key orders)
    → qualifies left minimum m.live.order ≡ false → next_qualifying terms (Some key) left minimum orders ≡ next_qualifying terms after left minimum orders
passed_over terms after key orders left minimum m q = ap (option_map (λ live. live.key)) (passes_later terms after key orders (is_qualifying left minimum) m q)

pub none_after : (terms : Terms) (after : Option Key) (orders : List Live) (left minimum : ℕ) → None ≡ next_by_rank terms after orders → None ≡ next_qualifying terms after left minimum orders
none_after terms after orders left minimum e = sym (ap (option_map (λ (live : Live). live.key)) (passes_never terms after orders (is_qualifying left minimum) e))
