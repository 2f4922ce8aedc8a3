-- A list by rank: it is sorted, and the first of it that passes a test is `first_of`.
use Rattle.std.proofs.Common.{◌≡◌, Bool, true, false, not, ◌&&◌, cond, List, [], ◌∷◌, Option, Some, None, refl, sym, ap, ◌∙◌, subst}
use Rattle.std.specs.List.{AllByRecursion, find, filter}
use Rattle.std.specs.Option.{IfSome}
use Rattle.std.proofs.lemmas.Bool.{cond_both, cond-true, cond-false, true≢false, false_from_ne_true, true_from_ne_false}
use Rattle.hx_book.specs.Lists.{head_of, after_first, drop_first}
use Rattle.hx_book.proofs.Lists.{all_weaker, find-all, or_else, found_among, find-none, PassesOnce}
use Rattle.hx_book.specs.Rank.{placed, by_rank, higher, first_of}

module _ {X : Type 0} (ahead : X → X → Bool) (asym : (x y : X) → ahead x y ≡ true → ahead y x ≡ false) (skip : (x y z : X) → ahead x y ≡ false → ahead y z ≡ false → ahead x z ≡ false) where
  abbrev pub IsByRank : List X → Type 0
  IsByRank [] = Unit {0}
  IsByRank (x ∷ xs) = AllByRecursion (λ y. ahead y x ≡ false) xs × IsByRank xs

  pub placed-all : (P : X → Type 0) (x : X) (ys : List X) → P x → AllByRecursion P ys → AllByRecursion P (placed ahead x ys)
  placed-all P x [] px h = (px, tt)
  placed-all P x (y ∷ ys) px h =
      cond_both (ahead y x) (y ∷ placed ahead x ys) (x ∷ y ∷ ys) (λ zs. AllByRecursion P zs)
      (λ e. (h.0, placed-all P x ys px h.1)) (λ e. (px, h))

  pub placed-sorted : (x : X) (ys : List X) → IsByRank ys → IsByRank (placed ahead x ys)
  placed-sorted x [] h = (tt, tt)
  placed-sorted x (y ∷ ys) h =
      cond_both (ahead y x) (y ∷ placed ahead x ys) (x ∷ y ∷ ys) IsByRank
      (λ e. (placed-all (λ z. ahead z y ≡ false) x ys (asym y x e) h.0, placed-sorted x ys h.1))
      (λ e. ((e, all_weaker (λ z. ahead z y ≡ false) (λ z. ahead z x ≡ false) (λ z f. skip z y x f e) ys h.0), h))

  pub by_rank-sorted : (xs : List X) → IsByRank (by_rank ahead xs)
  by_rank-sorted [] = tt
  by_rank-sorted (x ∷ xs) = placed-sorted x (by_rank ahead xs) (by_rank-sorted xs)

  higher_stays : (x : X) (s : Option X) → IfSome s (λ z. ahead z x ≡ false) → Some x ≡ higher ahead x s
  higher_stays x None h = refl
  higher_stays x (Some z) h = ap Some (sym (cond-false (ahead z x) z x h))

  found_later : (bx by : Bool) (x y : X) (r s : Option X) → ahead y x ≡ true → r ≡ cond bx (higher ahead x s) s
      → cond by (Some y) r ≡ cond bx (higher ahead x (cond by (Some y) s)) (cond by (Some y) s)
  found_later true true x y r s e h = ap Some (sym (cond-true (ahead y x) y x e))
  found_later true false x y r s e h = h
  found_later false true x y r s e h = refl
  found_later false false x y r s e h = h

  found_here : (bx by : Bool) (x y : X) (s : Option X) → ahead y x ≡ false → IfSome s (λ z. ahead z x ≡ false)
      → cond bx (Some x) (cond by (Some y) s) ≡ cond bx (higher ahead x (cond by (Some y) s)) (cond by (Some y) s)
  found_here true true x y s e h = higher_stays x (Some y) e
  found_here true false x y s e h = higher_stays x s h
  found_here false by x y s e h = refl

  pub find-placed : (test : X → Bool) (x : X) (ys : List X) → IsByRank ys → find test (placed ahead x ys) ≡ cond (test x) (higher ahead x (find test ys)) (find test ys)
  find-placed test x [] h = refl
  find-placed test x (y ∷ ys) h =
      cond_both (ahead y x) (y ∷ placed ahead x ys) (x ∷ y ∷ ys)
      (λ zs. find test zs ≡ cond (test x) (higher ahead x (cond (test y) (Some y) (find test ys))) (cond (test y) (Some y) (find test ys)))
      (λ e. found_later (test x) (test y) x y (find test (placed ahead x ys)) (find test ys) e (find-placed test x ys h.1))
      (λ e. found_here (test x) (test y) x y (find test ys) e
      (find-all (λ z. ahead z x ≡ false) test ys (all_weaker (λ z. ahead z y ≡ false) (λ z. ahead z x ≡ false) (λ z f. skip z y x f e) ys h.0)))

  pub first_of-find : (test : X → Bool) (xs : List X) → first_of ahead test xs ≡ find test (by_rank ahead xs)
  first_of-find test [] = refl
  first_of-find test (x ∷ xs) =
      ap (λ r. cond (test x) (higher ahead x r) r) (first_of-find test xs)
      ∙ sym (find-placed test x (by_rank ahead xs) (by_rank-sorted xs))

  head_of-placed : (e : X) (ys : List X) → head_of (placed ahead e ys) ≡ higher ahead e (head_of ys)
  head_of-placed e [] = refl
  head_of-placed e (z ∷ zs) =
      cond_both (ahead z e) (z ∷ placed ahead e zs) (e ∷ z ∷ zs) (λ l. head_of l ≡ Some (cond (ahead z e) z e))
      (λ t. ap Some (sym (cond-true (ahead z e) z e t))) (λ f. ap Some (sym (cond-false (ahead z e) z e f)))

  -- what comes after a, once e is placed
  next-placed : (under : X → Bool) (a e : X) (ys : List X) → IsByRank ys → find under ys ≡ Some a → under e ≡ false
      → head_of (after_first under (placed ahead e ys))
      ≡ cond (ahead a e) (higher ahead e (head_of (after_first under ys))) (head_of (after_first under ys))
  next-placed under a e [] s f n = cc
  next-placed under a e (y ∷ ys) s f n =
      cond_both (ahead y e) (y ∷ placed ahead e ys) (e ∷ y ∷ ys)
      (λ zs. head_of (after_first under zs)
      ≡ cond (ahead a e) (higher ahead e (head_of (after_first under (y ∷ ys)))) (head_of (after_first under (y ∷ ys))))
      (λ t. elim (under y) as (λ b. cond b (Some y) (find under ys) ≡ Some a
      → head_of (cond b (placed ahead e ys) (after_first under (placed ahead e ys)))
      ≡ cond (ahead a e) (higher ahead e (head_of (cond b ys (after_first under ys)))) (head_of (cond b ys (after_first under ys)))) [
        | true ↦ λ g. let q : y ≡ a = cc in let ta : ahead a e ≡ true = subst (λ v. ahead v e ≡ true) q t in
            head_of-placed e ys ∙ sym (cond-true (ahead a e) _ _ ta)
        | false ↦ λ g. next-placed under a e ys s.1 g n
      ] f)
      (λ o. let fa : ahead a e ≡ false = found_among (λ z. ahead z e ≡ false) under a (y ∷ ys)
      (o, all_weaker (λ z. ahead z y ≡ false) (λ z. ahead z e ≡ false) (λ z w. skip z y e w o) ys s.0) f in
      ap head_of (cond-false (under e) (y ∷ ys) (after_first under (y ∷ ys)) n) ∙ sym (cond-false (ahead a e) _ _ fa))

  -- what comes after e itself, once it is placed
  next-own : (under : X → Bool) (e : X) (ys : List X) → AllByRecursion (λ y. under y ≡ false) ys → under e ≡ true
      → head_of (after_first under (placed ahead e ys)) ≡ find (λ y. not (ahead y e)) ys
  next-own under e [] h t = ap head_of (cond-true (under e) [] [] t)
  next-own under e (y ∷ ys) h t =
      elim (ahead y e) as (λ b. head_of (after_first under (cond b (y ∷ placed ahead e ys) (e ∷ y ∷ ys))) ≡ cond (not b) (Some y) (find (λ z. not (ahead z e)) ys)) [
        | true ↦ ap head_of (cond-false (under y) (placed ahead e ys) _ h.0) ∙ next-own under e ys h.1 t
        | false ↦ ap head_of (cond-true (under e) (y ∷ ys) _ t)
      ]

  -- x and y rank alike
  abbrev pub is_level : X → X → Bool
  is_level x y = not (ahead x y) && not (ahead y x)

  self_not_ahead : (x : X) → ahead x x ≡ false
  self_not_ahead x = false_from_ne_true (ahead x x) (λ t. true≢false (sym t ∙ asym x x t))

  level_both : (p q : Bool) → (not p && not q) ≡ true → (p ≡ false) × (q ≡ false)
  level_both true q h = cc
  level_both false true h = cc
  level_both false false h = (refl, refl)

  -- those that rank alike come before those that rank below
  find-below : (a : X) (ys : List X) → IsByRank ys
      → find (λ y. not (ahead y a)) ys ≡ or_else (find (is_level a) ys) (find (ahead a) ys)
  find-below a [] s = refl
  find-below a (y ∷ ys) s = found (ahead y a) (ahead a y) refl refl (find-below a ys s.1)
    where
      found : (p q : Bool) → ahead y a ≡ p → ahead a y ≡ q
          → find (λ z. not (ahead z a)) ys ≡ or_else (find (is_level a) ys) (find (ahead a) ys)
          → cond (not p) (Some y) (find (λ z. not (ahead z a)) ys) ≡ or_else (cond (not q && not p) (Some y) (find (is_level a) ys)) (cond q (Some y) (find (ahead a) ys))
      found true true ep eq h = absurd (true≢false (sym eq ∙ asym y a ep))
      found true false ep eq h = h
      found false true ep eq h =
          ap (λ r. or_else r (Some y)) (sym (find-none (is_level a) ys (all_weaker (λ z. ahead z y ≡ false) (λ z. is_level a z ≡ false)
          (λ z w. false_from_ne_true (is_level a z) (λ l. let b : (ahead a z ≡ false) × (ahead z a ≡ false) = level_both (ahead a z) (ahead z a) l in true≢false (sym eq ∙ skip a z y b.0 w))) ys s.0)))
      found false false ep eq h = refl

  -- if those that pass rank alike, the first by rank is the first that stands there
  first_of-level : (test : X → Bool) (xs : List X) → ((x y : X) → test x ≡ true → test y ≡ true → ahead y x ≡ false) → first_of ahead test xs ≡ find test xs
  first_of-level test [] h = refl
  first_of-level test (x ∷ xs) h =
      cond_both (test x) (Some x) (find test xs) (λ r. first_of ahead test (x ∷ xs) ≡ r)
      (λ t. cond-true (test x) _ _ t ∙ ap (higher ahead x) (first_of-level test xs h) ∙ sym (higher_stays x (find test xs) (passes t)))
      (λ f. cond-false (test x) _ _ f ∙ first_of-level test xs h)
    where
      all_pass : test x ≡ true → (ys : List X) → IfSome (find test ys) (λ z. ahead z x ≡ false)
      all_pass t [] = tt
      all_pass t (y ∷ ys) = cond_both (test y) (Some y) (find test ys) (λ r. IfSome r (λ z. ahead z x ≡ false)) (λ ty. h x y t ty) (λ _. all_pass t ys)

      passes : test x ≡ true → IfSome (find test xs) (λ z. ahead z x ≡ false)
      passes t = all_pass t xs

  pub all_ranked : (P : X → Type 0) (xs : List X) → AllByRecursion P xs → AllByRecursion P (by_rank ahead xs)
  all_ranked P [] h = tt
  all_ranked P (x ∷ xs) h = placed-all P x (by_rank ahead xs) h.0 (all_ranked P xs h.1)

  -- what is next by rank after a: the next of those that rank alike, or else the first of those that rank below
  pub next_by_class : (under : X → Bool) (a : X) (xs : List X) → PassesOnce under xs → find under xs ≡ Some a
      → head_of (after_first under (by_rank ahead xs))
      ≡ or_else (find (is_level a) (after_first under xs)) (first_of ahead (ahead a) xs)
  next_by_class under a [] o f = cc
  next_by_class under a (e ∷ es) o f = at (under e) refl f (next_by_class under a es o.1)
    where
      level_same : (x y : X) → is_level a x ≡ true → is_level a y ≡ true → ahead y x ≡ false
      level_same x y p q = skip y a x (level_both (ahead a y) (ahead y a) q).1 (level_both (ahead a x) (ahead x a) p).0

      level_above : (z : X) → is_level a z ≡ true → ahead a e ≡ true → ahead z e ≡ true
      level_above z l t = true_from_ne_false (ahead z e) (λ o'. true≢false (sym t ∙ skip a z e (level_both (ahead a z) (ahead z a) l).0 o'))

      joined : (below : Bool) (A F : Option X) → ahead a e ≡ below → IfSome A (λ z. is_level a z ≡ true)
          → cond below (higher ahead e (or_else A F)) (or_else A F) ≡ or_else A (cond below (higher ahead e F) F)
      joined true None F t h = refl
      joined true (Some z) F t h = ap Some (cond-true (ahead z e) z e (level_above z h t))
      joined false A F t h = refl

      passing : (ys : List X) → IfSome (find (is_level a) ys) (λ z. is_level a z ≡ true)
      passing [] = tt
      passing (y ∷ ys) = cond_both (is_level a y) (Some y) (find (is_level a) ys) (λ r. IfSome r (λ z. is_level a z ≡ true)) (λ t. t) (λ _. passing ys)

      at : (b : Bool) → under e ≡ b → cond b (Some e) (find under es) ≡ Some a
          → (find under es ≡ Some a → head_of (after_first under (by_rank ahead es)) ≡ or_else (find (is_level a) (after_first under es)) (first_of ahead (ahead a) es))
          → head_of (after_first under (placed ahead e (by_rank ahead es)))
          ≡ or_else (find (is_level a) (cond b es (after_first under es))) (cond (ahead a e) (higher ahead e (first_of ahead (ahead a) es)) (first_of ahead (ahead a) es))
      at true u g ih =
          let q : e ≡ a = cc in
          let R = by_rank ahead es in
          let s : IsByRank R = by_rank-sorted es in
          next-own under e R (all_ranked (λ y. under y ≡ false) es (o.0 u)) u
          ∙ ap (λ v. find (λ y. not (ahead y v)) R) q
          ∙ find-below a R s
          ∙ ap (λ r. or_else r (find (ahead a) R)) (sym (first_of-find (is_level a) es) ∙ first_of-level (is_level a) es level_same)
          ∙ ap (or_else (find (is_level a) es)) (sym (first_of-find (ahead a) es) ∙ sym (cond-false (ahead a e) _ _ (subst (λ v. ahead a v ≡ false) (sym q) (self_not_ahead a))))
      at false u g ih =
          let R = by_rank ahead es in
          let fa : find under R ≡ Some a = sym (first_of-find under es) ∙ first_of-once es o.1 ∙ g in
          next-placed under a e R (by_rank-sorted es) fa u
          ∙ ap (λ r. cond (ahead a e) (higher ahead e r) r) (ih g)
          ∙ joined (ahead a e) (find (is_level a) (after_first under es)) (first_of ahead (ahead a) es) refl (passing (after_first under es))
        where
          first_of-once : (ys : List X) → PassesOnce under ys → first_of ahead under ys ≡ find under ys
          first_of-once [] p = refl
          first_of-once (y ∷ ys) p =
              cond_both (under y) (Some y) (find under ys) (λ r. cond (under y) (higher ahead y (first_of ahead under ys)) (first_of ahead under ys) ≡ r)
              (λ t. cond-true (under y) _ _ t ∙ ap (higher ahead y) (first_of-once ys p.1 ∙ find-none under ys (p.0 t)))
              (λ n. cond-false (under y) _ _ n ∙ first_of-once ys p.1)

  placed-front : (x : X) (ys : List X) → AllByRecursion (λ y. ahead y x ≡ false) ys → placed ahead x ys ≡ x ∷ ys
  placed-front x [] h = refl
  placed-front x (y ∷ ys) h = cond-false (ahead y x) _ _ h.0

  placed-drop_first : (test : X → Bool) (x : X) (ys : List X) → IsByRank ys → test x ≡ false
      → drop_first test (placed ahead x ys) ≡ placed ahead x (drop_first test ys)
  placed-drop_first test x [] s n = cond-false (test x) _ _ n
  placed-drop_first test x (y ∷ ys) s n = at (ahead y x) (test y) refl refl (placed-drop_first test x ys s.1 n)
    where
      later : ahead y x ≡ false → AllByRecursion (λ z. ahead z x ≡ false) ys
      later e = all_weaker (λ z. ahead z y ≡ false) (λ z. ahead z x ≡ false) (λ z f. skip z y x f e) ys s.0

      at : (p q : Bool) → ahead y x ≡ p → test y ≡ q → drop_first test (placed ahead x ys) ≡ placed ahead x (drop_first test ys)
          → drop_first test (cond p (y ∷ placed ahead x ys) (x ∷ y ∷ ys)) ≡ placed ahead x (cond q ys (y ∷ drop_first test ys))
      at true true ep eq ih = cond-true (test y) _ _ eq
      at true false ep eq ih = cond-false (test y) _ _ eq ∙ ap (λ r. y ∷ r) ih ∙ sym (cond-true (ahead y x) _ _ ep)
      at false true ep eq ih = cond-false (test x) _ _ n ∙ ap (λ r. x ∷ r) (cond-true (test y) _ _ eq) ∙ sym (placed-front x ys (later ep))
      at false false ep eq ih = cond-false (test x) _ _ n ∙ ap (λ r. x ∷ r) (cond-false (test y) _ _ eq) ∙ sym (cond-false (ahead y x) _ _ ep)

  placed-drop_own : (test : X → Bool) (x : X) (ys : List X) → AllByRecursion (λ y. test y ≡ false) ys → test x ≡ true
      → drop_first test (placed ahead x ys) ≡ ys
  placed-drop_own test x [] h t = cond-true (test x) _ _ t
  placed-drop_own test x (y ∷ ys) h t =
      cond_both (ahead y x) (y ∷ placed ahead x ys) (x ∷ y ∷ ys) (λ r. drop_first test r ≡ y ∷ ys)
      (λ _. cond-false (test y) _ _ h.0 ∙ ap (λ r. y ∷ r) (placed-drop_own test x ys h.1 t))
      (λ _. cond-true (test x) _ _ t)

  -- taking one out before or after the sort
  pub by_rank-drop_first : (test : X → Bool) (xs : List X) → PassesOnce test xs → by_rank ahead (drop_first test xs) ≡ drop_first test (by_rank ahead xs)
  by_rank-drop_first test [] o = refl
  by_rank-drop_first test (x ∷ xs) o = at (test x) refl (by_rank-drop_first test xs o.1)
    where
      at : (b : Bool) → test x ≡ b → by_rank ahead (drop_first test xs) ≡ drop_first test (by_rank ahead xs)
          → by_rank ahead (cond b xs (x ∷ drop_first test xs)) ≡ drop_first test (placed ahead x (by_rank ahead xs))
      at true e ih = sym (placed-drop_own test x (by_rank ahead xs) (all_ranked (λ y. test y ≡ false) xs (o.0 e)) e)
      at false e ih = ap (placed ahead x) ih ∙ sym (placed-drop_first test x (by_rank ahead xs) (by_rank-sorted xs) e)

  pub once_placed : (test : X → Bool) (x : X) (ys : List X) → PassesOnce test ys → (test x ≡ true → AllByRecursion (λ y. test y ≡ false) ys) → PassesOnce test (placed ahead x ys)
  once_placed test x [] o h = ((λ _. tt), tt)
  once_placed test x (y ∷ ys) o h =
      cond_both (ahead y x) (y ∷ placed ahead x ys) (x ∷ y ∷ ys) (λ r. PassesOnce test r)
      (λ _. ((λ t. placed-all (λ z. test z ≡ false) x ys (false_from_ne_true (test x) (λ tx. true≢false (sym t ∙ (h tx).0))) (o.0 t)), once_placed test x ys o.1 (λ t. (h t).1)))
      (λ _. (h, o))

  pub once_ranked : (test : X → Bool) (xs : List X) → PassesOnce test xs → PassesOnce test (by_rank ahead xs)
  once_ranked test [] o = tt
  once_ranked test (x ∷ xs) o = once_placed test x (by_rank ahead xs) (once_ranked test xs o.1) (λ t. all_ranked (λ y. test y ≡ false) xs (o.0 t))

  -- one that passes at most once is found alike in the list by rank
  pub find-by_rank : (test : X → Bool) (xs : List X) → PassesOnce test xs → find test (by_rank ahead xs) ≡ find test xs
  find-by_rank test xs o = sym (first_of-find test xs) ∙ once xs o
    where
      once : (ys : List X) → PassesOnce test ys → first_of ahead test ys ≡ find test ys
      once [] p = refl
      once (y ∷ ys) p =
          cond_both (test y) (Some y) (find test ys) (λ r. cond (test y) (higher ahead y (first_of ahead test ys)) (first_of ahead test ys) ≡ r)
          (λ t. cond-true (test y) _ _ t ∙ ap (higher ahead y) (once ys p.1 ∙ find-none test ys (p.0 t)))
          (λ n. cond-false (test y) _ _ n ∙ once ys p.1)

  -- the test is put into a filter
  pub first_of-filter : (keep test : X → Bool) (xs : List X) → first_of ahead (λ x. keep x && test x) xs ≡ first_of ahead test (filter keep xs)
  first_of-filter keep test [] = refl
  first_of-filter keep test (x ∷ xs) = at (keep x) refl (first_of-filter keep test xs)
    where
      at : (b : Bool) → keep x ≡ b → first_of ahead (λ y. keep y && test y) xs ≡ first_of ahead test (filter keep xs)
          → cond (b && test x) (higher ahead x (first_of ahead (λ y. keep y && test y) xs)) (first_of ahead (λ y. keep y && test y) xs)
          ≡ first_of ahead test (cond b (x ∷ filter keep xs) (filter keep xs))
      at true e ih = ap (λ r. cond (test x) (higher ahead x r) r) ih
      at false e ih = ih
