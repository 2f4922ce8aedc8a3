-- Lists, and tests that one element at most passes.
use Rattle.std.proofs.Common.{◌≡◌, Bool, true, false, cond, List, [], ◌∷◌, Option, Some, None, refl, sym, ap, ◌∙◌, subst, length, ◌+◌, arith}
use Rattle.std.specs.List.{AllByRecursion, find, filter}
use Rattle.std.specs.Option.{IfSome}
use Rattle.std.proofs.lemmas.Bool.{cond_both, cond-true, cond-false}
use Rattle.hx_book.specs.Lists.{drop_first}

pub all_weaker : {X : Type 0} (P Q : X → Type 0) → ((x : X) → P x → Q x) → (xs : List X) → AllByRecursion P xs → AllByRecursion Q xs
all_weaker P Q w [] h = tt
all_weaker P Q w (x ∷ xs) h = (w x h.0, all_weaker P Q w xs h.1)

pub find-all : {X : Type 0} (P : X → Type 0) (test : X → Bool) (xs : List X) → AllByRecursion P xs → IfSome (find test xs) P
find-all P test [] h = tt
find-all P test (x ∷ xs) h = cond_both (test x) (Some x) (find test xs) (λ r. IfSome r P) (λ _. h.0) (λ _. find-all P test xs h.1)

pub drop_first-none : {X : Type 0} (test : X → Bool) (xs : List X) → AllByRecursion (λ x. test x ≡ false) xs → drop_first test xs ≡ xs
drop_first-none test [] h = refl
drop_first-none test (x ∷ xs) h = cond-false (test x) _ _ h.0 ∙ ap (λ r. x ∷ r) (drop_first-none test xs h.1)

abbrev pub or_else : {X : Type 0} → Option X → Option X → Option X
or_else None r = r
or_else (Some x) r = Some x

pub found_among : {X : Type 0} → (P : X → Type 0) (test : X → Bool) (a : X) (xs : List X) → AllByRecursion P xs → find test xs ≡ Some a → P a
found_among {X} P test a xs h f = let Q : Option X → Type 0 = λ r. IfSome r P in subst Q f (find-all P test xs h)

pub find-none : {X : Type 0} → (test : X → Bool) (xs : List X) → AllByRecursion (λ x. test x ≡ false) xs → find test xs ≡ None
find-none test [] h = refl
find-none test (x ∷ xs) h = cond-false (test x) _ _ h.0 ∙ find-none test xs h.1

pub all_filtered : {X : Type 0} → (P : X → Type 0) (keep : X → Bool) (xs : List X) → AllByRecursion P xs → AllByRecursion P (filter keep xs)
all_filtered P keep [] h = tt
all_filtered P keep (x ∷ xs) h = cond_both (keep x) (x ∷ filter keep xs) (filter keep xs) (λ r. AllByRecursion P r)
    (λ _. (h.0, all_filtered P keep xs h.1)) (λ _. all_filtered P keep xs h.1)

-- one passes at most
abbrev pub PassesOnce : {X : Type 0} → (X → Bool) → List X → Type 0
PassesOnce test [] = Unit {0}
PassesOnce test (x ∷ xs) = (test x ≡ true → AllByRecursion (λ y. test y ≡ false) xs) × PassesOnce test xs

pub filter-drop_first : {X : Type 0} → (keep test : X → Bool) (xs : List X) → PassesOnce test xs → filter keep (drop_first test xs) ≡ drop_first test (filter keep xs)
filter-drop_first keep test [] o = refl
filter-drop_first keep test (x ∷ xs) o = at (test x) (keep x) refl refl (filter-drop_first keep test xs o.1)
  where
    at : (b c : Bool) → test x ≡ b → keep x ≡ c → filter keep (drop_first test xs) ≡ drop_first test (filter keep xs)
        → filter keep (cond b xs (x ∷ drop_first test xs)) ≡ drop_first test (cond c (x ∷ filter keep xs) (filter keep xs))
    at true true eb ec ih = sym (cond-true (test x) _ _ eb)
    at true false eb ec ih = sym (drop_first-none test (filter keep xs) (all_filtered (λ y. test y ≡ false) keep xs (o.0 eb)))
    at false true eb ec ih = cond-true (keep x) _ _ ec ∙ ap (λ r. x ∷ r) ih ∙ sym (cond-false (test x) _ _ eb)
    at false false eb ec ih = cond-false (keep x) _ _ ec ∙ ih

pub once_filtered : {X : Type 0} → (keep test : X → Bool) (xs : List X) → PassesOnce test xs → PassesOnce test (filter keep xs)
once_filtered keep test [] o = tt
once_filtered keep test (x ∷ xs) o =
    cond_both (keep x) (x ∷ filter keep xs) (filter keep xs) (λ r. PassesOnce test r)
    (λ _. ((λ t. all_filtered (λ y. test y ≡ false) keep xs (o.0 t)), once_filtered keep test xs o.1))
    (λ _. once_filtered keep test xs o.1)

pub all_dropped : {X : Type 0} → (P : X → Type 0) (test : X → Bool) (xs : List X) → AllByRecursion P xs → AllByRecursion P (drop_first test xs)
all_dropped P test [] h = tt
all_dropped P test (x ∷ xs) h = cond_both (test x) xs (x ∷ drop_first test xs) (λ r. AllByRecursion P r) (λ _. h.1) (λ _. (h.0, all_dropped P test xs h.1))

pub once_dropped : {X : Type 0} → (test other : X → Bool) (xs : List X) → PassesOnce test xs → PassesOnce test (drop_first other xs)
once_dropped test other [] o = tt
once_dropped test other (x ∷ xs) o =
    cond_both (other x) xs (x ∷ drop_first other xs) (λ r. PassesOnce test r) (λ _. o.1)
    (λ _. ((λ t. all_dropped (λ y. test y ≡ false) other xs (o.0 t)), once_dropped test other xs o.1))

pub length-drop_first : {X : Type 0} → (test : X → Bool) (xs : List X) → (AllByRecursion (λ x. test x ≡ false) xs → ⊥) → length (drop_first test xs) + 1 ≡ length xs
length-drop_first test [] h = absurd (h tt)
length-drop_first test (x ∷ xs) h = at (test x) refl (length-drop_first test xs)
  where
    at : (b : Bool) → test x ≡ b → ((AllByRecursion (λ y. test y ≡ false) xs → ⊥) → length (drop_first test xs) + 1 ≡ length xs)
        → length (cond b xs (x ∷ drop_first test xs)) + 1 ≡ length (x ∷ xs)
    at true e ih = omega arith
    at false e ih = let k : length (drop_first test xs) + 1 ≡ length xs = ih (λ a. h (e, a)) in omega arith

-- a filter retains what is found, if one passes at most
pub find-filter : {X : Type 0} → (keep test : X → Bool) (xs : List X) (a : X) → PassesOnce test xs → find test (filter keep xs) ≡ Some a → find test xs ≡ Some a
find-filter keep test [] a o f = f
find-filter keep test (x ∷ xs) a o f = at (keep x) (test x) refl refl f (find-filter keep test xs a o.1)
  where
    at : (b c : Bool) → keep x ≡ b → test x ≡ c → find test (cond b (x ∷ filter keep xs) (filter keep xs)) ≡ Some a
        → (find test (filter keep xs) ≡ Some a → find test xs ≡ Some a) → cond c (Some x) (find test xs) ≡ Some a
    at true true eb ec g ih = sym (cond-true (test x) _ _ ec) ∙ g
    at true false eb ec g ih = ih (sym (cond-false (test x) _ _ ec) ∙ g)
    at false true eb ec g ih = absurd (nothing (sym (find-none test (filter keep xs) (all_filtered (λ y. test y ≡ false) keep xs (o.0 ec))) ∙ g))
      where
        nothing : None ≡ Some a → ⊥
        nothing e = cc
    at false false eb ec g ih = ih g
