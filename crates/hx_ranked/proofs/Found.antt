-- What a search by rank finds after each change, and what the first entry within some limits is. Crates above cite these.
use Rattle.std.proofs.Common.{◌≡◌, ℕ, ◌<◌, ◌≤◌, List, [], ◌∷◌, cond, not, eqb, nat_lt, Bool, true, false, Some, None, refl, subst, arith}
use Rattle.std.specs.List.{find}
use Rattle.std.specs.Option.{option_map}
use Rattle.std.proofs.lemmas.Bool.Decides.{nat_tests}
use Rattle.hx_ranked.specs.declared.entry.Entry.{Entry}
use Rattle.hx_ranked.specs.Ranked.{Every, IsRising, IsFree, has_rank, is_within, first_within_of, inserted, without, with_least, renewed}
use Rattle.hx_ranked.proofs.Lists.{none-here, none-every}
use Rattle.hx_ranked.proofs.Changed.{rank-retained}

-- after an insertion the entry is found under its rank, and the others as before
pub find-inserted : (q : ℕ) (e : Entry) (xs : List Entry) → IsFree e.rank xs → find (has_rank q) (inserted e xs) ≡ cond (has_rank q e) (Some e) (find (has_rank q) xs)
find-inserted q e [] free = refl
find-inserted q e (x ∷ xs) free =
    let out = none-here (has_rank e.rank) x xs free in
    by (nat_lt x.rank e.rank) (has_rank q x) refl (has_rank q e) refl out.0 (find-inserted q e xs out.1)
  where
    by : (b c : Bool) → has_rank q x ≡ c → (d : Bool) → has_rank q e ≡ d → has_rank e.rank x ≡ false → find (has_rank q) (inserted e xs) ≡ cond (has_rank q e) (Some e) (find (has_rank q) xs) → find (has_rank q) (cond b (x ∷ inserted e xs) (e ∷ x ∷ xs)) ≡ cond (has_rank q e) (Some e) (find (has_rank q) (x ∷ xs))
    by false c g d h out rest = refl
    by true true g true h out rest = absurd (grind (arith, nat_tests))
    by true true g false h out rest = rw (g, h) refl
    by true false g d h out rest = rw g rest

-- after a removal nothing is found under its rank, and the others are found as before
pub find-without : (q r : ℕ) (xs : List Entry) → find (has_rank q) (without r xs) ≡ cond (eqb q r) None (find (has_rank q) xs)
find-without q r [] = none-both (eqb q r)
  where
    none-both : (b : Bool) → find (has_rank q) [] ≡ cond b None (find (has_rank q) [])
    none-both true = refl
    none-both false = refl
find-without q r (x ∷ xs) = by (has_rank r x) refl (has_rank q x) refl (eqb q r) refl (find-without q r xs)
  where
    by : (b : Bool) → has_rank r x ≡ b → (c : Bool) → has_rank q x ≡ c → (d : Bool) → eqb q r ≡ d → find (has_rank q) (without r xs) ≡ cond (eqb q r) None (find (has_rank q) xs) → find (has_rank q) (cond (not b) (x ∷ without r xs) (without r xs)) ≡ cond (eqb q r) None (find (has_rank q) (x ∷ xs))
    by true g c h true k rest = rw k (rw k at rest)
    by true g true h false k rest = absurd (grind (arith, nat_tests))
    by true g false h false k rest = rw h rest
    by false g true h true k rest = absurd (grind (arith, nat_tests))
    by false g true h false k rest = rw (h, k) refl
    by false g false h d k rest = rw h rest

-- after a renewal the entry of its rank is found renewed, and the others as before
pub find-renewed : (q r least shares : ℕ) (xs : List Entry) → find (has_rank q) (renewed r least shares xs) ≡ option_map (with_least r least shares) (find (has_rank q) xs)
find-renewed q r least shares [] = refl
find-renewed q r least shares (x ∷ xs) =
    rw (rank-retained r least shares x) (by (has_rank q x) (find-renewed q r least shares xs))
  where
    by : (b : Bool) → find (has_rank q) (renewed r least shares xs) ≡ option_map (with_least r least shares) (find (has_rank q) xs) → cond b (Some (with_least r least shares x)) (find (has_rank q) (renewed r least shares xs)) ≡ option_map (with_least r least shares) (cond b (Some x) (find (has_rank q) xs))
    by true rest = refl
    by false rest = rest

-- what is found meets the test, and what all elements meet
found-here : {X : Type 0} (P : X → Type 0) (p : X → Bool) (e : X) (xs : List X) → Every P xs → find p xs ≡ Some e → P e × (p e ≡ true)
found-here P p e [] a h = absurd (cc)
found-here P p e (x ∷ xs) a h = by (p x) refl h (found-here P p e xs a.1)
  where
    by : (b : Bool) → p x ≡ b → cond b (Some x) (find p xs) ≡ Some e → (find p xs ≡ Some e → P e × (p e ≡ true)) → P e × (p e ≡ true)
    by true g is rest = let same : x ≡ e = cc in (subst P same a.0, subst (λ y. p y ≡ true) same g)
    by false g is rest = rest is

every-unit : {X : Type 0} (xs : List X) → Every (λ x. Unit {0}) xs
every-unit [] = tt
every-unit (x ∷ xs) = (tt, every-unit xs)

-- the entry found under a rank has that rank
pub found-rank : (q : ℕ) (e : Entry) (xs : List Entry) → find (has_rank q) xs ≡ Some e → e.rank ≡ q
found-rank q e xs h =
    let is = (found-here (λ x. Unit {0}) (has_rank q) e xs (every-unit xs) h).1 in
    grind (arith, nat_tests)

module _ (test : Entry → Bool) where
  -- the entry is found under its rank, passes, and ranks at or before each entry that does
  abbrev pub IsFirst : Entry → List Entry → Type 0
  IsFirst e xs = (find (has_rank e.rank) xs ≡ Some e) × (test e ≡ true) × ((q : ℕ) (f : Entry) → find (has_rank q) xs ≡ Some f → test f ≡ true → e.rank ≤ q)

  first-here : (x : Entry) (xs : List Entry) → Every (λ y. x.rank < y.rank) xs → test x ≡ true → IsFirst x (x ∷ xs)
  first-here x xs above within =
      let has : has_rank x.rank x ≡ true = grind (arith, nat_tests) in
      (rw has refl, within, λ q f found _. first q f (has_rank q x) refl found)
    where
      first : (q : ℕ) (f : Entry) (b : Bool) → has_rank q x ≡ b → cond b (Some x) (find (has_rank q) xs) ≡ Some f → x.rank ≤ q
      first q f true k found = grind (arith, nat_tests)
      first q f false k found =
          let later = found-here (λ y. x.rank < y.rank) (has_rank q) f xs above found in
          grind (arith, nat_tests, later.0, later.1)

  first-later : (e x : Entry) (xs : List Entry) → x.rank < e.rank → test x ≡ false → IsFirst e xs → IsFirst e (x ∷ xs)
  first-later e x xs above out rest =
      let other : has_rank e.rank x ≡ false = grind (arith, nat_tests) in
      (rw other rest.0, rest.1, λ q f found within. first q f within (has_rank q x) refl found)
    where
      first : (q : ℕ) (f : Entry) → test f ≡ true → (b : Bool) → has_rank q x ≡ b → cond b (Some x) (find (has_rank q) xs) ≡ Some f → e.rank ≤ q
      first q f within true k found = absurd (cc)
      first q f within false k found = rest.2 q f found within

  -- the first entry that passes is found under its rank, and ranks at or before each that does
  pub first-of-all : (e : Entry) (xs : List Entry) → IsRising xs → find test xs ≡ Some e → IsFirst e xs
  first-of-all e [] rising h = absurd (cc)
  first-of-all e (x ∷ xs) rising h = by (test x) refl h (first-of-all e xs rising.1)
    where
      by : (b : Bool) → test x ≡ b → cond b (Some x) (find test xs) ≡ Some e → (find test xs ≡ Some e → IsFirst e xs) → IsFirst e (x ∷ xs)
      by true g is rest = subst (λ y. IsFirst y (x ∷ xs)) (the_same is) (first-here x xs rising.0 g)
        where
          the_same : Some x ≡ Some e → x ≡ e
          the_same k = cc
      by false g is rest =
          let later = found-here (λ y. x.rank < y.rank) test e xs rising.0 is in
          first-later e x xs later.0 g (rest is)

  -- if no entry passes, none that is found under a rank does
  pub none-of-all : (xs : List Entry) → find test xs ≡ None → (q : ℕ) (f : Entry) → find (has_rank q) xs ≡ Some f → test f ≡ false
  none-of-all xs none q f found = (found-here (λ e. test e ≡ false) (has_rank q) f xs (none-every test xs none) found).0

-- the first entry within the limits is found under its rank, is within them, and ranks at or before each entry within them
pub found-first : (from last left minimum : ℕ) (e : Entry) (xs : List Entry) → IsRising xs → first_within_of from last left minimum xs ≡ Some e → (find (has_rank e.rank) xs ≡ Some e) × (is_within from last left minimum e ≡ true) × ((q : ℕ) (f : Entry) → find (has_rank q) xs ≡ Some f → is_within from last left minimum f ≡ true → e.rank ≤ q)
found-first from last left minimum e xs rising h = first-of-all (is_within from last left minimum) e xs rising h

-- if no entry is within the limits, none that is found under a rank is
pub found-none : (from last left minimum : ℕ) (xs : List Entry) → first_within_of from last left minimum xs ≡ None → (q : ℕ) (f : Entry) → find (has_rank q) xs ≡ Some f → is_within from last left minimum f ≡ false
found-none from last left minimum xs none q f found = none-of-all (is_within from last left minimum) xs none q f found
