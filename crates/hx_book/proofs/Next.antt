-- What a scan of the list finds is the next order by rank.
use Rattle.std.proofs.Common.{◌≡◌, ℕ, Bool, true, false, not, ◌&&◌, ◌||◌, cond, eqb, ltb, List, [], ◌∷◌, Option, Some, None, refl, sym, ap, ◌∙◌, arith, get_or}
use Rattle.std.proofs.lemmas.Option.{slice_get-get_or}
use Rattle.std.specs.List.{AllByRecursion, find, filter, list_any}
use Rattle.std.specs.Option.{option_map, MatchOption, IsSome}
use Rattle.std.proofs.lemmas.Bool.{true_from_ne_false, cond_both, cond-true, cond-false, true≢false}
use Rattle.std.proofs.lemmas.Bool.Decides.{nat_tests}
use Rattle.hx_book.specs.declared.order.Key.{Key}
use Rattle.hx_book.specs.declared.order.Live.{Live}
use Rattle.hx_book.specs.declared.order.Terms.{Terms}
use Rattle.hx_book.specs.Lists.{head_of, after_first}
use Rattle.hx_book.specs.Rank.{first_of, higher}
use Rattle.hx_units.specs.Side.{is_buy}
use Rattle.hx_units.proofs.Lists.{find-same}
use Rattle.hx_book.specs.Book.{is_under, is_ahead, crosses, ranked, has_key, order_of, KeysDiffer, IsRanked, next_by_rank, is_candidate, is_equal, IsIndex}
use Rattle.hx_book.proofs.Lists.{PassesOnce, or_else, find-none, find-filter, once_filtered, all_filtered, found_among}
use Rattle.hx_book.proofs.Rank.{is_level, next_by_class, first_of-find, first_of-filter, find-by_rank}
use Rattle.hx_book.proofs.Orders.{ahead_asym, ahead_skip, once_under, none_under}

pub none_found : (key : ℕ) (xs : List Live) → has_key key xs ≡ false → order_of key xs ≡ None
none_found key xs h = ap (option_map (λ live. live.order)) (find-none (is_under key) xs (none_under key xs h))

first_of-retained : (ahead : Live → Live → Bool) (keep : Live → Bool) (xs : List Live) → first_of ahead keep xs ≡ first_of ahead (λ _. true) (filter keep xs)
first_of-retained ahead keep [] = refl
first_of-retained ahead keep (x ∷ xs) = at (keep x) (first_of-retained ahead keep xs)
  where
    at : (b : Bool) → first_of ahead keep xs ≡ first_of ahead (λ _. true) (filter keep xs)
        → cond b (higher ahead x (first_of ahead keep xs)) (first_of ahead keep xs) ≡ first_of ahead (λ _. true) (cond b (x ∷ filter keep xs) (filter keep xs))
    at true ih = ap (higher ahead x) ih
    at false ih = ih

pub next-none : (terms : Terms) (xs : List Live) → option_map (λ live. live.key) (first_of (is_ahead terms.side) (is_candidate terms None) xs) ≡ next_by_rank terms None xs
next-none terms xs =
    ap (option_map (λ live. live.key))
    (first_of-retained (is_ahead terms.side) (λ live. crosses terms live.order) xs
    ∙ first_of-find (is_ahead terms.side) (ahead_asym terms.side) (ahead_skip terms.side) (λ _. true) (filter (λ live. crosses terms live.order) xs)
    ∙ head (ranked terms xs))
  where
    head : (ys : List Live) → find (λ _. true) ys ≡ head_of ys
    head [] = refl
    head (y ∷ ys) = refl

find-and : (keep test : Live → Bool) (xs : List Live) → find (λ x. keep x && test x) xs ≡ find test (filter keep xs)
find-and keep test [] = refl
find-and keep test (x ∷ xs) = at (keep x) (find-and keep test xs)
  where
    at : (b : Bool) → find (λ y. keep y && test y) xs ≡ find test (filter keep xs)
        → cond (b && test x) (Some x) (find (λ y. keep y && test y) xs) ≡ find test (cond b (x ∷ filter keep xs) (filter keep xs))
    at true ih = ap (λ r. cond (test x) (Some x) r) ih
    at false ih = ih

-- ranking alike is the same price and both shown or both not
level_of : (buy sa sx : Bool) (p q : ℕ) → Bool
level_of buy sa sx p q = not (cond buy (ltb p q) (ltb q p) || (eqb p q && sa && not sx)) && not (cond buy (ltb q p) (ltb p q) || (eqb q p && sx && not sa))

level_is : (buy sa sx : Bool) (p q : ℕ) → (eqb q p && cond sx sa (not sa)) ≡ level_of buy sa sx p q
unfolding level_of
level_is true true true p q = grind (arith, nat_tests)
level_is true true false p q = grind (arith, nat_tests)
level_is true false true p q = grind (arith, nat_tests)
level_is true false false p q = grind (arith, nat_tests)
level_is false true true p q = grind (arith, nat_tests)
level_is false true false p q = grind (arith, nat_tests)
level_is false false true p q = grind (arith, nat_tests)
level_is false false false p q = grind (arith, nat_tests)

equal_is : (terms : Terms) (a x : Live) → is_equal terms a.order x ≡ (crosses terms x.order && is_level (is_ahead terms.side) (ahead_asym terms.side) (ahead_skip terms.side) a x)
unfolding level_of
equal_is terms a x = at (crosses terms x.order)
  where
    at : (b : Bool) → (b && (eqb x.order.price a.order.price) && cond x.order.shown a.order.shown (not a.order.shown)) ≡ (b && level_of (is_buy terms.side) a.order.shown x.order.shown a.order.price x.order.price)
    at true = level_is (is_buy terms.side) a.order.shown x.order.shown a.order.price x.order.price
    at false = refl

-- after one that is retained, in the list that is retained
pub after-filter : (keep test : Live → Bool) (a : Live) (xs : List Live) → PassesOnce test xs → find test (filter keep xs) ≡ Some a
    → after_first test (filter keep xs) ≡ filter keep (after_first test xs)
after-filter keep test a [] o f = refl
after-filter keep test a (x ∷ xs) o f = at (keep x) (test x) refl refl f (after-filter keep test a xs o.1)
  where
    at : (b c : Bool) → keep x ≡ b → test x ≡ c → find test (cond b (x ∷ filter keep xs) (filter keep xs)) ≡ Some a
        → (find test (filter keep xs) ≡ Some a → after_first test (filter keep xs) ≡ filter keep (after_first test xs))
        → after_first test (cond b (x ∷ filter keep xs) (filter keep xs)) ≡ filter keep (cond c xs (after_first test xs))
    at true true eb ec g ih = cond-true (test x) _ _ ec
    at true false eb ec g ih = cond-false (test x) _ _ ec ∙ ih (sym (cond-false (test x) _ _ ec) ∙ g)
    at false true eb ec g ih = absurd (nothing (sym (find-none test (filter keep xs) (all_filtered (λ y. test y ≡ false) keep xs (o.0 ec))) ∙ g))
      where
        nothing : None ≡ Some a → ⊥
        nothing e = cc
    at false false eb ec g ih = ih g

pub record Ranked (terms : Terms) (key : ℕ) (xs : List Live) : Type 0 where
  pub live : Live
  pub found : find (is_under key) xs ≡ Some live
  pub has : has_key key xs ≡ true
  pub crosses : crosses terms live.order ≡ true
  pub after : or_else (find (is_equal terms live.order) (after_first (is_under key) xs)) (first_of (is_ahead terms.side) (is_candidate terms (Some live)) xs)
      ≡ head_of (after_first (is_under key) (ranked terms xs))
  pub next : option_map (λ x. x.key) (or_else (find (is_equal terms live.order) (after_first (is_under key) xs)) (first_of (is_ahead terms.side) (is_candidate terms (Some live)) xs))
      ≡ option_map (λ x. x.key) (head_of (after_first (is_under key) (ranked terms xs)))

found_somewhere : (test : Live → Bool) (xs : List Live) → list_any test xs ≡ true → (live : Live) × (find test xs ≡ Some live)
found_somewhere test [] h = absurd (true≢false (sym h))
found_somewhere test (x ∷ xs) h = at (test x) refl h (found_somewhere test xs)
  where
    at : (b : Bool) → test x ≡ b → (b || list_any test xs) ≡ true → (list_any test xs ≡ true → (live : Live) × (find test xs ≡ Some live))
        → (live : Live) × (cond b (Some x) (find test xs) ≡ Some live)
    at true e g ih = (x, refl)
    at false e g ih = ih g

pub all_retained : (keep : Live → Bool) (xs : List Live) → AllByRecursion (λ x. keep x ≡ true) (filter keep xs)
all_retained keep [] = tt
all_retained keep (x ∷ xs) = cond_both (keep x) (x ∷ filter keep xs) (filter keep xs) (λ r. AllByRecursion (λ y. keep y ≡ true) r) (λ t. (t, all_retained keep xs)) (λ _. all_retained keep xs)

no_some : (a : Live) → None ≡ Some a → ⊥
no_some a e = cc

pub next-some : (terms : Terms) (key : ℕ) (xs : List Live) → KeysDiffer xs → IsRanked terms key xs → Ranked terms key xs
next-some terms key xs d r =
    let keep : Live → Bool = λ live. crosses terms live.order in
    let C = filter keep xs in
    let once : PassesOnce (is_under key) xs = once_under key xs d in
    let oC : PassesOnce (is_under key) C = once_filtered keep (is_under key) xs once in
    let s = found_somewhere (is_under key) (ranked terms xs) r in
    let a = s.0 in
    let fC : find (is_under key) C ≡ Some a = sym (find-by_rank (is_ahead terms.side) (ahead_asym terms.side) (ahead_skip terms.side) (is_under key) C oC) ∙ s.1 in
    let after : or_else (find (is_equal terms a.order) (after_first (is_under key) xs)) (first_of (is_ahead terms.side) (is_candidate terms (Some a)) xs) ≡ head_of (after_first (is_under key) (ranked terms xs)) =
    ap (λ r. or_else r (first_of (is_ahead terms.side) (is_candidate terms (Some a)) xs))
    (find-same (is_equal terms a.order) (λ x. keep x && is_level (is_ahead terms.side) (ahead_asym terms.side) (ahead_skip terms.side) a x) (equal_is terms a) (after_first (is_under key) xs)
    ∙ find-and keep (is_level (is_ahead terms.side) (ahead_asym terms.side) (ahead_skip terms.side) a) (after_first (is_under key) xs)
    ∙ ap (find (is_level (is_ahead terms.side) (ahead_asym terms.side) (ahead_skip terms.side) a)) (sym (after-filter keep (is_under key) a xs once fC)))
    ∙ ap (λ r. or_else (find (is_level (is_ahead terms.side) (ahead_asym terms.side) (ahead_skip terms.side) a) (after_first (is_under key) C)) r)
    (first_of-filter (is_ahead terms.side) (ahead_asym terms.side) (ahead_skip terms.side) keep (is_ahead terms.side a) xs)
    ∙ sym (next_by_class (is_ahead terms.side) (ahead_asym terms.side) (ahead_skip terms.side) (is_under key) a C oC fC) in
    record {
      live = a;
      found = find-filter keep (is_under key) xs a once fC;
      has = true_from_ne_false (has_key key xs) (λ n. no_some a (sym (find-none (is_under key) xs (none_under key xs n)) ∙ find-filter keep (is_under key) xs a once fC));
      crosses = found_among (λ y. keep y ≡ true) (is_under key) a C (all_retained keep xs) fC;
      after = after;
      next = ap (option_map (λ x. x.key)) after;
    }

pub standing_at : (terms : Terms) (key reserved : ℕ) (xs : List Live) (live : Live) (r : Ranked terms key xs) → IsIndex key xs reserved → live ≡ get_or xs reserved live → live ≡ r.live
standing_at terms key reserved xs live r p e = let h : Some live ≡ Some r.live = ap Some e ∙ sym (slice_get-get_or xs reserved live p.in_range) ∙ p.found ∙ r.found in cc

pub found_equal : (f rest : Option Live) (next : Key) → Some next ≡ option_map (λ x. x.key) f → Some next ≡ option_map (λ x. x.key) (or_else f rest)
found_equal None rest next h = cc
found_equal (Some x) rest next h = h

pub found_below : (f rest : Option Live) → None ≡ option_map (λ x. x.key) f → option_map (λ x. x.key) rest ≡ option_map (λ x. x.key) (or_else f rest)
found_below None rest h = refl
found_below (Some x) rest h = cc

pub placed_some : (o : Option ℕ) (key : ℕ) (xs : List Live) → MatchOption o (has_key key xs ≡ false) (IsIndex key xs) → has_key key xs ≡ true → IsSome o
placed_some None key xs m h = absurd (true≢false (sym h ∙ m))
placed_some (Some i) key xs m h = refl
