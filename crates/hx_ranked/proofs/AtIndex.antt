-- What a change at the index of a rank leaves.
use Rattle.std.proofs.Common.{◌≡◌, ℕ, ◌+◌, ◌<◌, ◌≤◌, ◌≢◌, not, List, [], ◌∷◌, ◌++◌, length, get_or, set, take, drop, true, false, Some, None, refl, ap, sym, subst, ◌∙◌, arith, inl, inr, ◌⊎◌, add-one}
use Rattle.std.specs.List.{find, insert, remove}
use Rattle.std.proofs.lemmas.List.{take-append-drop, drop_more, drop_all, map-append, set_split}
use Rattle.std.proofs.lemmas.List.Elements.{filter-append}
use Rattle.std.proofs.lemmas.List.Folds.{find-append}
use Rattle.std.proofs.lemmas.Bool.Decides.{nat_tests}
use Rattle.hx_ranked.specs.declared.entry.Entry.{Entry}
use Rattle.hx_ranked.specs.Ranked.{Every, IsRising, has_rank, inserted, without, with_least, renewed}
use Rattle.hx_ranked.proofs.Lists.{every-append, every-weaker, rising-right, find-none, filter-all, inserted-left, inserted-here, split-read}

-- no entry of these has the rank
abbrev pub AreOthers : ℕ → List Entry → Type 0
AreOthers r xs = Every (λ e. has_rank r e ≡ false) xs

pub others-before : (r : ℕ) (xs : List Entry) → Every (λ e. e.rank < r) xs → AreOthers r xs
others-before r xs a = every-weaker (λ e. e.rank < r) (λ e. has_rank r e ≡ false) (λ e h. grind (arith, nat_tests)) xs a

pub others-after : (r : ℕ) (xs : List Entry) → Every (λ e. r < e.rank) xs → AreOthers r xs
others-after r xs a = every-weaker (λ e. r < e.rank) (λ e. has_rank r e ≡ false) (λ e h. grind (arith, nat_tests)) xs a

pub find-others : (r : ℕ) (xs : List Entry) → AreOthers r xs → find (has_rank r) xs ≡ None
find-others r xs a = find-none (has_rank r) xs a

pub without-others : (r : ℕ) (xs : List Entry) → AreOthers r xs → without r xs ≡ xs
without-others r xs a = filter-all (λ e. not (has_rank r e)) xs (every-weaker (λ e. has_rank r e ≡ false) (λ e. not (has_rank r e) ≡ true) (λ e h. rw h refl) xs a)

pub renewed-others : (r least shares : ℕ) (xs : List Entry) → AreOthers r xs → renewed r least shares xs ≡ xs
renewed-others r least shares [] a = refl
renewed-others r least shares (x ∷ xs) a = rw a.0 (ap (λ t. x ∷ t) (renewed-others r least shares xs a.1))

-- a list around the entry of the rank
module _ (xs : List Entry) (x : Entry) (ys : List Entry) (r : ℕ) (before : AreOthers r xs) (same : has_rank r x ≡ true) (after : AreOthers r ys) where
  pub find-around : find (has_rank r) (xs ++ x ∷ ys) ≡ Some x
  find-around = find-append (has_rank r) xs (x ∷ ys) ∙ (rw (find-others r xs before, same) refl)

  pub without-around : without r (xs ++ x ∷ ys) ≡ xs ++ ys
  without-around =
      filter-append (λ e. not (has_rank r e)) xs (x ∷ ys) ∙ (rw (without-others r xs before, same) (ap (λ t. xs ++ t) (without-others r ys after)))

  pub renewed-around : (least shares : ℕ) → renewed r least shares (xs ++ x ∷ ys) ≡ xs ++ record x { least = least; shares = shares } ∷ ys
  renewed-around least shares =
      map-append (with_least r least shares) xs (x ∷ ys) ∙ (rw (renewed-others r least shares xs before, same) (ap (λ t. xs ++ record x { least = least; shares = shares } ∷ t) (renewed-others r least shares ys after)))

module _ (xs : List Entry) (i r : ℕ) (before : Every (λ e. e.rank < r) (take i xs)) (after : Every (λ e. r ≤ e.rank) (drop i xs)) where
  -- a new entry of the rank goes there
  pub inserted-at : (e : Entry) → e.rank ≡ r → insert xs i e ≡ inserted e xs
  inserted-at e is =
      let front = every-weaker (λ y. y.rank < r) (λ y. y.rank < e.rank) (λ y h. omega arith) (take i xs) before in
      let rest = every-weaker (λ y. r ≤ y.rank) (λ y. e.rank ≤ y.rank) (λ y h. omega arith) (drop i xs) after in
      sym (ap (inserted e) (sym (take-append-drop i xs)) ∙ inserted-left e (take i xs) (drop i xs) front ∙ ap (λ t. take i xs ++ t) (inserted-here e (drop i xs) rest))

  module _ (rising : IsRising xs) where
    -- the entry there has the rank
    module _ (x : Entry) (within : i < length xs) (read : x ≡ get_or xs i x) (same : x.rank ≡ r) where
      around : xs ≡ take i xs ++ x ∷ drop (i + 1) xs
      around = split-read xs i x within read

      rest : AreOthers r (drop (i + 1) xs)
      rest = others-after r (drop (i + 1) xs) (subst (λ k. Every (λ e. k < e.rank) (drop (i + 1) xs)) same (rising-right (take i xs) (x ∷ drop (i + 1) xs) (subst IsRising around rising)).0)

      is : has_rank r x ≡ true
      is = grind (arith, nat_tests)

      pub find-at : find (has_rank r) xs ≡ Some x
      find-at = ap (find (has_rank r)) around ∙ find-around (take i xs) x (drop (i + 1) xs) r (others-before r (take i xs) before) is rest

      pub without-at : remove xs i ≡ without r xs
      without-at = sym (ap (without r) around ∙ without-around (take i xs) x (drop (i + 1) xs) r (others-before r (take i xs) before) is rest ∙ rw add-one refl)

      pub renewed-at : (least shares : ℕ) → set xs i (record x { least = least; shares = shares }) ≡ renewed r least shares xs
      renewed-at least shares = sym (ap (renewed r least shares) around ∙ renewed-around (take i xs) x (drop (i + 1) xs) r (others-before r (take i xs) before) is rest least shares ∙ rw add-one (sym (set_split xs i (record x { least = least; shares = shares }) within)))

    -- no entry has it
    pub others-at : (length xs ≤ i) ⊎ ((x : Entry) × (i < length xs) × (x ≡ get_or xs i x) × (x.rank ≢ r)) → AreOthers r xs
    others-at h = subst (AreOthers r) (take-append-drop i xs) (every-append (λ e. has_rank r e ≡ false) (take i xs) (drop i xs) (others-before r (take i xs) before) (rest-of h))
      where
        rest-of : (length xs ≤ i) ⊎ ((x : Entry) × (i < length xs) × (x ≡ get_or xs i x) × (x.rank ≢ r)) → AreOthers r (drop i xs)
        rest-of (inl past) = rw (drop_all i xs past) tt
        rest-of (inr (x, within, read, other)) =
            let is : drop i xs ≡ x ∷ drop (i + 1) xs = drop_more xs i x within ∙ ap (λ y. y ∷ drop (i + 1) xs) (sym read) in
            let le = subst (Every (λ e. r ≤ e.rank)) is after in
            let later = rising-right (take i xs) (x ∷ drop (i + 1) xs) (subst IsRising (split-read xs i x within read) rising) in
            let less : r < x.rank = omega (arith, le.0, other) in
            rw is (others-after r (x ∷ drop (i + 1) xs) (less, every-weaker (λ e. x.rank < e.rank) (λ e. r < e.rank) (λ e k. omega arith) (drop (i + 1) xs) later.0))
