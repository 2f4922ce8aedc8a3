-- Lists whose orders rise by a number: what stands after one of them, what is found first, and what two searches find together.
use Rattle.std.proofs.Common.{◌≡◌, ℕ, ◌+◌, ◌<◌, ◌≤◌, Bool, true, false, not, ◌&&◌, cond, ltb, leb, List, [], ◌∷◌, Option, Some, None, refl, sym, ap, ◌∙◌, subst, arith}
use Rattle.std.specs.List.{AllByRecursion, find}
use Rattle.std.proofs.lemmas.Bool.{cond_both, cond-true, cond-false, true≢false, false_from_ne_true, and_parts, and_from}
use Rattle.std.proofs.lemmas.Bool.Decides.{nat_tests}
use Rattle.hx_book.specs.declared.order.Live.{Live}
use Rattle.hx_book.specs.Lists.{after_first}
use Rattle.hx_book.specs.Book.{is_under}
use Rattle.hx_book.proofs.Lists.{found_among, all_weaker}
use Rattle.hx_units.proofs.Lists.{find-same_all}

pub found_passes : (test : Live → Bool) (a : Live) (xs : List Live) → find test xs ≡ Some a → test a ≡ true
found_passes test a [] f = cc
found_passes test a (x ∷ xs) f = at (test x) refl f (found_passes test a xs)
  where
    at : (b : Bool) → test x ≡ b → cond b (Some x) (find test xs) ≡ Some a → (find test xs ≡ Some a → test a ≡ true) → test a ≡ true
    at true e g ih = let h : x ≡ a = cc in subst (λ y. test y ≡ true) h e
    at false e g ih = ih g

pub all_fail : (test : Live → Bool) (xs : List Live) → find test xs ≡ None → AllByRecursion (λ y. test y ≡ false) xs
all_fail test [] f = tt
all_fail test (x ∷ xs) f = at (test x) refl f (all_fail test xs)
  where
    at : (b : Bool) → test x ≡ b → cond b (Some x) (find test xs) ≡ None → (find test xs ≡ None → AllByRecursion (λ y. test y ≡ false) xs) → AllByRecursion (λ y. test y ≡ false) (x ∷ xs)
    at true e g ih = cc
    at false e g ih = (e, ih g)

-- what one test finds, both together find, if it passes the other
pub find-both : (test also : Live → Bool) (a : Live) (xs : List Live) → find test xs ≡ Some a → also a ≡ true → find (λ y. also y && test y) xs ≡ Some a
find-both test also a [] f t = cc
find-both test also a (x ∷ xs) f t = at (also x) (test x) refl f (find-both test also a xs)
  where
    at : (b c : Bool) → also x ≡ b → cond c (Some x) (find test xs) ≡ Some a → (find test xs ≡ Some a → also a ≡ true → find (λ y. also y && test y) xs ≡ Some a)
        → cond (b && c) (Some x) (find (λ y. also y && test y) xs) ≡ Some a
    at true true e g ih = g
    at true false e g ih = ih g t
    at false true e g ih = let h : x ≡ a = cc in absurd (true≢false (sym (subst (λ y. also y ≡ true) (sym h) t) ∙ e))
    at false false e g ih = ih g t

module _ (r : Live → ℕ) where
  -- each number is above those before it
  abbrev pub IsRisingBy : List Live → Type 0
  IsRisingBy [] = Unit {0}
  IsRisingBy (x ∷ xs) = AllByRecursion (λ y. r x < r y) xs × IsRisingBy xs

  pub from_all : (m : ℕ) (q : Live → Bool) (xs : List Live) → AllByRecursion (λ y. m ≤ r y) xs → find q xs ≡ find (λ y. leb m (r y) && q y) xs
  from_all m q [] h = refl
  from_all m q (x ∷ xs) h =
      ap (λ t. cond (q x) (Some x) t) (from_all m q xs h.1)
      ∙ ap (λ b. cond (b && q x) (Some x) (find (λ y. leb m (r y) && q y) xs)) (sym (reaches m (r x) h.0))
    where
      reaches : (i j : ℕ) → i ≤ j → leb i j ≡ true
      reaches i j l = grind (arith, nat_tests)

  -- what stands after an order has a greater number
  pub after_is : (key : ℕ) (a : Live) (q : Live → Bool) (xs : List Live) → IsRisingBy xs → find (is_under key) xs ≡ Some a
      → find q (after_first (is_under key) xs) ≡ find (λ y. leb (r a + 1) (r y) && q y) xs
  after_is key a q [] h f = cc
  after_is key a q (x ∷ xs) h f = at (is_under key x) f (after_is key a q xs h.1)
    where
      below : (i j : ℕ) → i ≤ j → leb (j + 1) i ≡ false
      below i j l = grind (arith, nat_tests)

      at : (b : Bool) → cond b (Some x) (find (is_under key) xs) ≡ Some a
          → (find (is_under key) xs ≡ Some a → find q (after_first (is_under key) xs) ≡ find (λ y. leb (r a + 1) (r y) && q y) xs)
          → find q (cond b xs (after_first (is_under key) xs)) ≡ cond (leb (r a + 1) (r x) && q x) (Some x) (find (λ y. leb (r a + 1) (r y) && q y) xs)
      at true g ih =
          let e : x ≡ a = cc in
          from_all (r a + 1) q xs (subst (λ (z : Live). AllByRecursion (λ y. r z + 1 ≤ r y) xs) e (all_weaker (λ y. r x < r y) (λ y. r x + 1 ≤ r y) (λ y l. omega arith) xs h.0))
          ∙ sym (ap (λ b. cond (b && q x) (Some x) (find (λ y. leb (r a + 1) (r y) && q y) xs)) (below (r x) (r a) (subst (λ (z : Live). r x ≤ r z) e (omega arith))))
      at false g ih =
          let l : r x < r a = found_among (λ y. r x < r y) (is_under key) a xs h.0 g in
          ih g ∙ sym (ap (λ b. cond (b && q x) (Some x) (find (λ y. leb (r a + 1) (r y) && q y) xs)) (below (r x) (r a) (omega arith)))

  pub rising_after : (test : Live → Bool) (xs : List Live) → IsRisingBy xs → IsRisingBy (after_first test xs)
  rising_after test [] h = tt
  rising_after test (x ∷ xs) h = cond_both (test x) xs (after_first test xs) IsRisingBy (λ _. h.1) (λ _. rising_after test xs h.1)

  -- the order with the least number of all that pass is the first that does
  pub found_least : (test : Live → Bool) (a : Live) (xs : List Live) → IsRisingBy xs → find (is_under a.key.0) xs ≡ Some a → test a ≡ true
      → AllByRecursion (λ y. test y ≡ true → r a ≤ r y) xs → find test xs ≡ Some a
  found_least test a [] h f t l = cc
  found_least test a (x ∷ xs) h f t l = at (test x) (is_under a.key.0 x) refl f (found_least test a xs h.1)
    where
      at : (b c : Bool) → test x ≡ b → cond c (Some x) (find (is_under a.key.0) xs) ≡ Some a
          → (find (is_under a.key.0) xs ≡ Some a → test a ≡ true → AllByRecursion (λ y. test y ≡ true → r a ≤ r y) xs → find test xs ≡ Some a)
          → cond b (Some x) (find test xs) ≡ Some a
      at true true e g ih = g
      at true false e g ih =
          let before : r x < r a = found_among (λ y. r x < r y) (is_under a.key.0) a xs h.0 g in
          let after : r a ≤ r x = l.0 e in
          absurd (omega arith)
      at false true e g ih = let s : x ≡ a = cc in absurd (true≢false (sym (subst (λ y. test y ≡ true) (sym s) t) ∙ e))
      at false false e g ih = ih g t l.1

  -- and the first that passes has the least number of all that do
  pub least_found : (test : Live → Bool) (a : Live) (xs : List Live) → IsRisingBy xs → find test xs ≡ Some a → AllByRecursion (λ y. test y ≡ true → r a ≤ r y) xs
  least_found test a [] h f = tt
  least_found test a (x ∷ xs) h f = at (test x) refl f (least_found test a xs h.1)
    where
      at : (b : Bool) → test x ≡ b → cond b (Some x) (find test xs) ≡ Some a → (find test xs ≡ Some a → AllByRecursion (λ y. test y ≡ true → r a ≤ r y) xs)
          → AllByRecursion (λ y. test y ≡ true → r a ≤ r y) (x ∷ xs)
      at true e g ih =
          let s : x ≡ a = cc in
          subst (λ (z : Live). AllByRecursion (λ y. test y ≡ true → r z ≤ r y) (x ∷ xs)) s
          ((λ _. omega arith), all_weaker (λ y. r x < r y) (λ y. test y ≡ true → r x ≤ r y) (λ y l _. omega arith) xs h.0)
      at false e g ih = ((λ t. absurd (true≢false (sym t ∙ e))), ih g)

  -- a search that begins later finds the same, if what it finds comes later
  pub begins_later : (m k : ℕ) (test : Live → Bool) (xs : List Live) → IsRisingBy xs → m ≤ k
      → ((a : Live) → find (λ y. leb m (r y) && test y) xs ≡ Some a → k ≤ r a)
      → find (λ y. leb k (r y) && test y) xs ≡ find (λ y. leb m (r y) && test y) xs
  begins_later m k test xs h l later = by (find (λ y. leb m (r y) && test y) xs) refl
    where
      from : (i j : ℕ) → leb i j ≡ true → i ≤ j
      from i j e = grind (arith, nat_tests)

      to : (i j : ℕ) → i ≤ j → leb i j ≡ true
      to i j e = grind (arith, nat_tests)

      gone : (y : Live) (b : Bool) → test y ≡ b → (leb m (r y) && b) ≡ false → (leb k (r y) && b) ≡ (leb m (r y) && b)
      gone y true e f = false_from_ne_true (leb k (r y) && true) (λ t.
          let p = and_parts (leb k (r y)) true t in
          let q : k ≤ r y = from k (r y) p.0 in
          let w : m ≤ r y = omega arith in
          true≢false (sym (and_from (leb m (r y)) true (to m (r y) w) refl) ∙ f)) ∙ sym f
      gone y false e f = none (leb k (r y)) ∙ sym (none (leb m (r y)))
        where
          none : (b : Bool) → (b && false) ≡ false
          none true = refl
          none false = refl

      within : (a y : Live) → k ≤ r a → ((leb m (r y) && test y) ≡ true → r a ≤ r y) → (b : Bool) → (leb m (r y) && test y) ≡ b → (leb k (r y) && test y) ≡ (leb m (r y) && test y)
      within a y ka f true e =
          let p = and_parts (leb m (r y)) (test y) e in
          let w : r a ≤ r y = f e in
          and_from (leb k (r y)) (test y) (to k (r y) (omega arith)) p.1 ∙ sym e
      within a y ka f false e = gone y (test y) refl e

      by : (o : Option Live) → find (λ y. leb m (r y) && test y) xs ≡ o → find (λ y. leb k (r y) && test y) xs ≡ find (λ y. leb m (r y) && test y) xs
      by None e = find-same_all (λ y. leb k (r y) && test y) (λ y. leb m (r y) && test y) xs
          (all_weaker (λ y. (leb m (r y) && test y) ≡ false) (λ y. (leb k (r y) && test y) ≡ (leb m (r y) && test y)) (λ y f. gone y (test y) refl f) xs (all_fail (λ y. leb m (r y) && test y) xs e))
      by (Some a) e = find-same_all (λ y. leb k (r y) && test y) (λ y. leb m (r y) && test y) xs
          (all_weaker (λ y. (leb m (r y) && test y) ≡ true → r a ≤ r y) (λ y. (leb k (r y) && test y) ≡ (leb m (r y) && test y))
          (λ y f. within a y (later a e) f (leb m (r y) && test y) refl) xs (least_found (λ y. leb m (r y) && test y) a xs h e))

  -- of two that were found, the one with the smaller number
  abbrev pub sooner : Option Live → Option Live → Option Live
  sooner None o = o
  sooner (Some a) None = Some a
  sooner (Some a) (Some b) = cond (ltb (r a) (r b)) (Some a) (Some b)

  -- what passes is found by two searches, of one kind and of all others
  pub found_by_two : (kind test : Live → Bool) (xs : List Live) → IsRisingBy xs
      → find test xs ≡ sooner (find (λ y. kind y && test y) xs) (find (λ y. not (kind y) && test y) xs)
  found_by_two kind test [] h = refl
  found_by_two kind test (x ∷ xs) h = at (kind x) (test x) (found_by_two kind test xs h.1)
    where
      less : (i j : ℕ) → i < j → ltb i j ≡ true
      less i j l = grind (arith, nat_tests)

      more : (i j : ℕ) → i < j → ltb j i ≡ false
      more i j l = grind (arith, nat_tests)

      first : (o : Option Live) → find (λ y. not (kind y) && test y) xs ≡ o → Some x ≡ sooner (Some x) o
      first None e = refl
      first (Some b) e = sym (cond-true (ltb (r x) (r b)) (Some x) (Some b) (less (r x) (r b) (found_among (λ y. r x < r y) (λ y. not (kind y) && test y) b xs h.0 e)))

      second : (o : Option Live) → find (λ y. kind y && test y) xs ≡ o → Some x ≡ sooner o (Some x)
      second None e = refl
      second (Some a) e = sym (cond-false (ltb (r a) (r x)) (Some a) (Some x) (more (r x) (r a) (found_among (λ y. r x < r y) (λ y. kind y && test y) a xs h.0 e)))

      at : (b c : Bool) → find test xs ≡ sooner (find (λ y. kind y && test y) xs) (find (λ y. not (kind y) && test y) xs)
          → cond c (Some x) (find test xs)
          ≡ sooner (cond (b && c) (Some x) (find (λ y. kind y && test y) xs)) (cond (not b && c) (Some x) (find (λ y. not (kind y) && test y) xs))
      at true true ih = first (find (λ y. not (kind y) && test y) xs) refl
      at true false ih = ih
      at false true ih = second (find (λ y. kind y && test y) xs) refl
      at false false ih = ih

  -- what passes up to a number is the first that passes
  pub first_until : (m : ℕ) (test : Live → Bool) (a : Live) (xs : List Live) → IsRisingBy xs → find (λ y. leb (r y) m && test y) xs ≡ Some a → find test xs ≡ Some a
  first_until m test a [] h f = cc
  first_until m test a (x ∷ xs) h f = at (test x) (leb (r x) m) refl f (first_until m test a xs h.1)
    where
      past : (i j : ℕ) → leb i m ≡ false → leb j m ≡ true → i < j → ⊥
      past i j e g l = absurd (grind (arith, nat_tests))

      at : (b c : Bool) → leb (r x) m ≡ c → cond (c && b) (Some x) (find (λ y. leb (r y) m && test y) xs) ≡ Some a → (find (λ y. leb (r y) m && test y) xs ≡ Some a → find test xs ≡ Some a)
          → cond b (Some x) (find test xs) ≡ Some a
      at true true e g ih = g
      at true false e g ih =
          let l : r x < r a = found_among (λ y. r x < r y) (λ y. leb (r y) m && test y) a xs h.0 g in
          let p = and_parts (leb (r a) m) (test a) (found_passes (λ y. leb (r y) m && test y) a xs g) in
          absurd (past (r x) (r a) e p.0 l)
      at false true e g ih = ih g
      at false false e g ih = ih g

  -- two that were found by tests of which one fails the other's have different numbers
  pub apart : (p q : Live → Bool) (a b : Live) (xs : List Live) → IsRisingBy xs → find p xs ≡ Some a → find q xs ≡ Some b → p b ≡ false → r a ≡ r b → ⊥
  apart p q a b [] h f g n e = cc
  apart p q a b (x ∷ xs) h f g n e = at (p x) (q x) refl f g (λ i j. apart p q a b xs h.1 i j n e)
    where
      at : (c d : Bool) → p x ≡ c → cond c (Some x) (find p xs) ≡ Some a → cond d (Some x) (find q xs) ≡ Some b → (find p xs ≡ Some a → find q xs ≡ Some b → ⊥) → ⊥
      at true true k i j ih = let s : x ≡ b = cc in true≢false (sym (subst (λ y. p y ≡ true) s k) ∙ n)
      at true false k i j ih =
          let s : x ≡ a = cc in
          let l : r x < r b = found_among (λ y. r x < r y) q b xs h.0 j in
          let m : r x ≡ r a = ap r s in
          let w : r a ≡ r b = e in
          absurd (omega arith)
      at false true k i j ih =
          let s : x ≡ b = cc in
          let l : r x < r a = found_among (λ y. r x < r y) p a xs h.0 i in
          let m : r x ≡ r b = ap r s in
          let w : r a ≡ r b = e in
          absurd (omega arith)
      at false false k i j ih = ih i j
