-- Texts that are cut at the first index of a byte.
use Rattle.std.proofs.Common.{◌≡◌, ◌+◌, ◌<◌, ℕ, suc, List, [], ◌∷◌, ◌++◌, length, drop, get_or, Bool, true, false, eqb, Option, Some, None, Bor, refl, sym, arith}
use Rattle.std.specs.Prelude.{All, IfSome, IfNone}
use Rattle.std.specs.List.{list_any, position_or_len, before_first, after_first}
use Rattle.std.proofs.lemmas.Bool.{eqb-true, eq-eqb, lt-ltb, false_from_ne_true, or_right}
use Rattle.std.proofs.lemmas.List.{take-append-le, take_all}
use Rattle.std.proofs.lemmas.List.Elements.{All-head, All-tail}
use Rattle.std.proofs.lemmas.List.Splits.{slice_split_none, slice_split_at}
use Rattle.hx_units.specs.Cuts.{Lacks}
use Rattle.hx_operator.specs.Marks.{is_space, words_of}

-- no byte of a text that lacks a byte passes the test for it
pub none_passes : (b : ℕ) (a : List ℕ) → Lacks b a → All (λ x. eqb x b ≡ false) a
none_passes b a p = λ k d below. false_from_ne_true (eqb (get_or a k d) b) (λ e. p k d below (eqb-true (get_or a k d) b e))

-- ---- words

pub first_word : (a c : List ℕ) → Lacks 32 a → 0 < length a → words_of (a ++ 32 ∷ c) ≡ a ∷ words_of c
first_word a c lacks some =
    rw (slice_split_at is_space a 32 c (none_passes 32 a lacks) refl, lt-ltb 0 (length a) some) refl

pub last_word : (a : List ℕ) → Lacks 32 a → 0 < length a → words_of a ≡ a ∷ []
last_word a lacks some =
    rw (slice_split_none is_space a (none_passes 32 a lacks), lt-ltb 0 (length a) some) refl

-- ---- the first index

module _ (p : ℕ → Bool) where
  index_cut : (a : List ℕ) (b : ℕ) (c : List ℕ) → All (λ x. p x ≡ false) a → p b ≡ true → position_or_len p (a ++ b ∷ c) ≡ length a
  index_cut [] b c none e = rw e refl
  index_cut (x ∷ a) b c none e =
      rw (All-head (λ x. p x ≡ false) x a none, index_cut a b c (All-tail (λ x. p x ≡ false) x a none) e) (omega arith)

  index_none : (a : List ℕ) → All (λ x. p x ≡ false) a → position_or_len p a ≡ length a
  index_none [] none = refl
  index_none (x ∷ a) none =
      rw (All-head (λ x. p x ≡ false) x a none, index_none a (All-tail (λ x. p x ≡ false) x a none)) (omega arith)

  drop_cut : (a : List ℕ) (b : ℕ) (c : List ℕ) → drop (suc (length a)) (a ++ b ∷ c) ≡ c
  drop_cut [] b c = refl
  drop_cut (x ∷ a) b c = drop_cut a b c

  pub before_cut : (a : List ℕ) (b : ℕ) (c : List ℕ) → All (λ x. p x ≡ false) a → p b ≡ true → before_first p (a ++ b ∷ c) ≡ a
  before_cut a b c none e =
      rw (index_cut a b c none e, take-append-le (length a) a (b ∷ c) (omega arith)) (take_all (length a) a (omega arith))

  pub after_cut : (a : List ℕ) (b : ℕ) (c : List ℕ) → All (λ x. p x ≡ false) a → p b ≡ true → after_first p (a ++ b ∷ c) ≡ c
  after_cut a b c none e =
      let one : length a + 1 ≡ suc (length a) = omega arith in
      rw (index_cut a b c none e, one) (drop_cut a b c)

  pub before_none : (a : List ℕ) → All (λ x. p x ≡ false) a → before_first p a ≡ a
  before_none a none = rw (index_none a none) (take_all (length a) a (omega arith))

  pub any_cut : (a : List ℕ) (b : ℕ) (c : List ℕ) → p b ≡ true → list_any p (a ++ b ∷ c) ≡ true
  any_cut [] b c e = rw e refl
  any_cut (x ∷ a) b c e = rw (any_cut a b c e) (or_right (p x) true refl)

  pub any_none : (a : List ℕ) → All (λ x. p x ≡ false) a → list_any p a ≡ false
  any_none [] none = refl
  any_none (x ∷ a) none =
      rw (All-head (λ x. p x ≡ false) x a none) (any_none a (All-tail (λ x. p x ≡ false) x a none))

-- ---- what a cut of a text answers

pub some_text : (xs : List ℕ) → false ≡ eqb (length xs) 0 → 0 < length xs
some_text [] e = absurd cc
some_text (x ∷ xs) e = omega arith

abbrev pub Cut : Type 0
Cut = Option (Bor (List ℕ) × Bor (List ℕ))

-- of a test that one byte passes
module _ (b : ℕ) (text : List ℕ) where
  pub cut_some : (r : Cut) → IfSome r (λ q. (text ≡ q.0.now ++ b ∷ q.1.now) × Lacks b q.0.now) → IfSome r (λ q. (list_any (λ x. eqb x b) text ≡ true) × (q.0.now ≡ before_first (λ x. eqb x b) text) × (q.1.now ≡ after_first (λ x. eqb x b) text))
  cut_some None h = tt
  cut_some (Some q) h =
      let none : All (λ x. eqb x b ≡ false) q.0.now = none_passes b q.0.now h.1 in
      rw (h.0) (
        any_cut (λ x. eqb x b) q.0.now b q.1.now (eq-eqb b b refl),
        sym (before_cut (λ x. eqb x b) q.0.now b q.1.now none (eq-eqb b b refl)),
        sym (after_cut (λ x. eqb x b) q.0.now b q.1.now none (eq-eqb b b refl)),
      )

  pub cut_none : (r : Cut) → IfNone r (Lacks b text) → IfNone r (list_any (λ x. eqb x b) text ≡ false)
  cut_none None h = any_none (λ x. eqb x b) text (none_passes b text h)
  cut_none (Some q) h = tt
