-- Spaces on both sides of a text.
use Rattle.std.proofs.Common.{◌≡◌, ◌≢◌, ℕ, zero, suc, ◌<◌, List, [], ◌∷◌, ◌++◌, Bool, true, false, cond, ◌&&◌, eqb, refl, ap, ◌∙◌, arith}
use Rattle.std.specs.Prelude.{bytes_eq}
use Rattle.std.specs.Str.Parse.{AllDigits}
use Rattle.std.specs.Char.{digit_value}
use Rattle.std.proofs.lemmas.Bool.{and_parts, eqb-true, false_from_ne_true}
use Rattle.std.proofs.lemmas.Str.Parse.{digit_from_value}
use Rattle.hx_units.specs.Spaces.{without_front, without_back, trimmed}
use Rattle.hx_units.specs.Spaces.{spaces}

-- ---- spaces that are taken off

pub without_front-spaces : (n : ℕ) (text : List ℕ) → without_front (spaces n ++ text) ≡ without_front text
without_front-spaces zero text = refl
without_front-spaces (suc n) text = without_front-spaces n text

without_back-spaces : (n : ℕ) → without_back (spaces n) ≡ []
without_back-spaces zero = refl
without_back-spaces (suc n) = rw (without_back-spaces n) refl

-- one space more at the end
pub without_back-space : (text : List ℕ) → without_back (text ++ 32 ∷ []) ≡ without_back text
without_back-space [] = refl
without_back-space (b ∷ text) = rw (without_back-space text) refl

-- what does not end with a space stays
not_empty : (text : List ℕ) (b : ℕ) → bytes_eq (text ++ b ∷ []) [] ≡ false
not_empty [] b = refl
not_empty (a ∷ text) b = refl

and_false : (a : Bool) → (a && false) ≡ false
and_false true = refl
and_false false = refl

pub without_back-last : (text : List ℕ) (b : ℕ) → b ≢ 32 → without_back (text ++ b ∷ []) ≡ text ++ b ∷ []
without_back-last [] b other = rw (false_from_ne_true (eqb b 32) (λ e. other (eqb-true b 32 e))) refl
without_back-last (a ∷ text) b other =
    rw (without_back-last text b other, not_empty text b, and_false (eqb a 32)) refl

-- ---- digits stay

not_space : (c : ℕ) → digit_value c < 10 → eqb c 32 ≡ false
not_space c digit = grind (arith, digit_from_value c digit)

without_back-digits : (digits : List ℕ) (n : ℕ) → AllDigits 10 digits → without_back (digits ++ spaces n) ≡ digits
without_back-digits [] n are = without_back-spaces n
without_back-digits (c ∷ digits) n are = rw (not_space c are.0) (ap (λ (t : List ℕ). c ∷ t) (without_back-digits digits n are.1))

without_front-digits : (digits : List ℕ) (n : ℕ) → AllDigits 10 digits → without_back (without_front (digits ++ spaces n)) ≡ digits
without_front-digits [] zero are = refl
without_front-digits [] (suc n) are = without_front-digits [] n are
without_front-digits (c ∷ digits) n are = rw (not_space c are.0) (without_back-digits (c ∷ digits) n are)

pub trimmed-digits : (before after : ℕ) (digits : List ℕ) → AllDigits 10 digits → trimmed (spaces before ++ (digits ++ spaces after)) ≡ digits
trimmed-digits before after digits are = ap without_back (without_front-spaces before (digits ++ spaces after)) ∙ without_front-digits digits after are

-- ---- the rest and the spaces are the text

by_test : {A : Type 0} (P : A → Type 0) (b : Bool) (x y : A) → (b ≡ true → P x) → P y → P (cond b x y)
by_test P true x y f q = f refl
by_test P false x y f q = q

front_spaces : (text : List ℕ) → (n : ℕ) × (text ≡ spaces n ++ without_front text)
front_spaces [] = (0, refl)
front_spaces (b ∷ text) =
    by_test (λ rest. (n : ℕ) × (b ∷ text ≡ spaces n ++ rest)) (eqb b 32) (without_front text) (b ∷ text)
    (λ e. let w = front_spaces text in (suc w.0, ap (λ (c : ℕ). c ∷ text) (eqb-true b 32 e) ∙ ap (λ (t : List ℕ). 32 ∷ t) w.1)) (0, refl)

is_empty : (t : List ℕ) → bytes_eq t [] ≡ true → t ≡ []
is_empty [] e = refl
is_empty (b ∷ t) e = absurd cc

back_spaces : (text : List ℕ) → (n : ℕ) × (text ≡ without_back text ++ spaces n)
back_spaces [] = (0, refl)
back_spaces (b ∷ text) =
    let w = back_spaces text in
    by_test (λ rest. (n : ℕ) × (b ∷ text ≡ rest ++ spaces n)) (eqb b 32 && bytes_eq (without_back text) []) [] (b ∷ without_back text)
    (λ e. let t = and_parts (eqb b 32) (bytes_eq (without_back text) []) e in
    (suc w.0, ap (λ (c : ℕ). c ∷ text) (eqb-true b 32 t.0) ∙ ap (λ (t : List ℕ). 32 ∷ t) (w.1 ∙ ap (λ (r : List ℕ). r ++ spaces w.0) (is_empty (without_back text) t.1))))
    (w.0, ap (λ (t : List ℕ). b ∷ t) w.1)

pub trimmed_spaces : (text : List ℕ) → (before : ℕ) × (after : ℕ) × (text ≡ spaces before ++ (trimmed text ++ spaces after))
trimmed_spaces text =
    let f = front_spaces text in
    let b = back_spaces (without_front text) in
    (f.0, b.0, f.1 ∙ ap (λ (t : List ℕ). spaces f.0 ++ t) b.1)
