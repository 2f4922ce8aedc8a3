-- The lines of a file.
use Rattle.std.proofs.Common.{◌≡◌, ◌≢◌, ◌⊎◌, inl, inr, ℕ, zero, suc, ◌≤◌, ◌<◌, List, [], ◌∷◌, ◌++◌, length, get_or, refl, ap, sym, ◌∙◌, subst, arith, append_assoc, length-append}
use Rattle.std.proofs.lemmas.List.{append-nil}
use Rattle.std.proofs.lemmas.Bool.{cases_eq}
use Rattle.std.proofs.lemmas.Bool.Decides.{nat_tests}
use mathlib.Core.List.{IsPrefix}
use Rattle.hx_journal.specs.Lines.{IsText, IsLine, AreLines, text_of, before_zero, lines_from, lines_of}

-- one byte of each kind
pub zero_ends : (b : ℕ) (bytes : List ℕ) → b ≡ 0 → before_zero (b ∷ bytes) ≡ []
zero_ends b bytes is = grind (arith, nat_tests)

pub goes_on : (b : ℕ) (bytes : List ℕ) → b ≢ 0 → before_zero (b ∷ bytes) ≡ b ∷ before_zero bytes
goes_on b bytes is = grind (arith, nat_tests)

pub ends_line : (b : ℕ) (begun bytes : List ℕ) → b ≡ 10 → lines_from begun (b ∷ bytes) ≡ begun ∷ lines_from [] bytes
ends_line b begun bytes is = grind (arith, nat_tests)

pub in_line : (b : ℕ) (begun bytes : List ℕ) → b ≢ 10 → lines_from begun (b ∷ bytes) ≡ lines_from (begun ++ b ∷ []) bytes
in_line b begun bytes is = grind (arith, nat_tests)

-- A file of which each byte is zero or that of another has, up to its first zero, a beginning of that one's.
pub sieved : (file other : List ℕ) → ((i : ℕ) → i < length file → (get_or file i 0 ≡ 0) ⊎ (get_or file i 0 ≡ get_or other i 0)) → IsPrefix (before_zero file) (before_zero other)
sieved [] other each = (before_zero other, refl)
sieved (b ∷ file) [] each =
    let none : b ≡ 0 = elim (each zero (omega arith)) [ inl z ↦ z | inr z ↦ z ] in
    ([], append-nil (before_zero (b ∷ file)) ∙ zero_ends b file none)
sieved (b ∷ file) (x ∷ other) each =
    let rest = sieved file other (λ i lt. each (suc i) (omega arith)) in
    elim (cases_eq b 0) [
      | inl none ↦ (before_zero (x ∷ other), ap (λ l. l ++ before_zero (x ∷ other)) (zero_ends b file none))
      | inr some ↦ elim (each zero (omega arith)) [
        | inl z ↦ absurd (some z)
        | inr same ↦ (rest.0, ap (λ l. l ++ rest.0) (goes_on b file some) ∙ (λ i. same i ∷ rest.1 i) ∙ sym (goes_on x other (λ z. some (same ∙ z))))
      ]
    ]

-- a beginning of a text has a beginning of its lines
pub prefix_lines : (begun front text : List ℕ) → IsPrefix front text → IsPrefix (lines_from begun front) (lines_from begun text)
prefix_lines begun [] text p = (lines_from begun text, refl)
prefix_lines begun (b ∷ front) [] p = absurd (cc (p.1))
prefix_lines begun (b ∷ front) (x ∷ text) p =
    let same : b ≡ x = cc (p.1) in
    let after : IsPrefix front text = (p.0, cc (p.1)) in
    elim (cases_eq b 10) [
      | inl feed ↦
          let rest = prefix_lines [] front text after in
          (rest.0, ap (λ l. l ++ rest.0) (ends_line b begun front feed) ∙ ap (λ l. begun ∷ l) rest.1 ∙ sym (ends_line x begun text (sym same ∙ feed)))
      | inr other ↦
          let rest = prefix_lines (begun ++ b ∷ []) front text after in
          let right : lines_from (begun ++ b ∷ []) text ≡ lines_from begun (x ∷ text) = ap (λ y. lines_from (begun ++ y ∷ []) text) same ∙ sym (in_line x begun text (λ z. other (same ∙ z))) in
          (rest.0, ap (λ l. l ++ rest.0) (in_line b begun front other) ∙ rest.1 ∙ right)
    ]

pub prefix_lines_of : (file other : List ℕ) → ((i : ℕ) → i < length file → (get_or file i 0 ≡ 0) ⊎ (get_or file i 0 ≡ get_or other i 0)) → IsPrefix (lines_of file) (lines_of other)
prefix_lines_of file other each = prefix_lines [] (before_zero file) (before_zero other) (sieved file other each)

before_zero-line : (r rest : List ℕ) → IsLine r → before_zero (r ++ rest) ≡ r ++ before_zero rest
before_zero-line [] rest h = refl
before_zero-line (b ∷ r) rest h = goes_on b (r ++ rest) h.0.0 ∙ ap (λ l. b ∷ l) (before_zero-line r rest h.1)

before_zero-text : (rs : List (List ℕ)) (rest : List ℕ) → AreLines rs → before_zero (text_of rs ++ rest) ≡ text_of rs ++ before_zero rest
before_zero-text [] rest h = refl
before_zero-text (r ∷ rs) rest h =
    ap before_zero (append_assoc r (10 ∷ text_of rs) rest)
    ∙ before_zero-line r (10 ∷ text_of rs ++ rest) h.0
    ∙ ap (λ l. r ++ l) (goes_on 10 (text_of rs ++ rest) (λ z. absurd (omega arith)) ∙ ap (λ l. 10 ∷ l) (before_zero-text rs rest h.1))
    ∙ sym (append_assoc r (10 ∷ text_of rs) (before_zero rest))

lines-line : (begun r rest : List ℕ) → IsLine r → lines_from begun (r ++ 10 ∷ rest) ≡ (begun ++ r) ∷ lines_from [] rest
lines-line begun [] rest h = ends_line 10 begun rest refl ∙ ap (λ l. l ∷ lines_from [] rest) (sym (append-nil begun))
lines-line begun (b ∷ r) rest h =
    in_line b begun (r ++ 10 ∷ rest) h.0.1
    ∙ lines-line (begun ++ b ∷ []) r rest h.1
    ∙ ap (λ l. l ∷ lines_from [] rest) (append_assoc begun (b ∷ []) r)

lines-text : (rs : List (List ℕ)) (rest : List ℕ) → AreLines rs → lines_from [] (text_of rs ++ rest) ≡ rs ++ lines_from [] rest
lines-text [] rest h = refl
lines-text (r ∷ rs) rest h =
    ap (lines_from []) (append_assoc r (10 ∷ text_of rs) rest)
    ∙ lines-line [] r (text_of rs ++ rest) h.0
    ∙ ap (λ l. r ∷ l) (lines-text rs rest h.1)

-- lines in front, and then those of the rest
pub lines_of-text_before : (rs : List (List ℕ)) (rest : List ℕ) → AreLines rs → lines_of (text_of rs ++ rest) ≡ rs ++ lines_of rest
lines_of-text_before rs rest h = ap (lines_from []) (before_zero-text rs rest h) ∙ lines-text rs (before_zero rest) h

pub lines_of-text : (rs : List (List ℕ)) → AreLines rs → lines_of (text_of rs) ≡ rs
lines_of-text rs h = ap lines_of (sym (append-nil (text_of rs))) ∙ lines_of-text_before rs [] h ∙ append-nil rs

line_push : (r : List ℕ) (b : ℕ) → IsLine r → IsText b → IsLine (r ++ b ∷ [])
line_push [] b h t = (t, tt)
line_push (x ∷ r) b h t = (h.0, line_push r b h.1 t)

-- what is read are records
lines_are : (begun bytes : List ℕ) → IsLine begun → AreLines (lines_from begun (before_zero bytes))
lines_are begun [] h = tt
lines_are begun (b ∷ bytes) h = elim (cases_eq b 0) [
  | inl none ↦ subst (λ l. AreLines (lines_from begun l)) (sym (zero_ends b bytes none)) tt
  | inr some ↦ subst (λ l. AreLines (lines_from begun l)) (sym (goes_on b bytes some)) (elim (cases_eq b 10) [
    | inl feed ↦ subst AreLines (sym (ends_line b begun (before_zero bytes) feed)) (h, lines_are [] bytes tt)
    | inr other ↦ subst AreLines (sym (in_line b begun (before_zero bytes) other)) (lines_are (begun ++ b ∷ []) bytes (line_push begun b h (some, other)))
  ])
]

pub lines_of_are : (file : List ℕ) → AreLines (lines_of file)
lines_of_are file = lines_are [] file tt

pub text_of-append : (rs ss : List (List ℕ)) → text_of (rs ++ ss) ≡ text_of rs ++ text_of ss
text_of-append [] ss = refl
text_of-append (r ∷ rs) ss = ap (λ l. r ++ 10 ∷ l) (text_of-append rs ss) ∙ sym (append_assoc r (10 ∷ text_of rs) (text_of ss))

-- no more lines than bytes
pub few_lines_of : (rs : List (List ℕ)) → length rs ≤ length (text_of rs)
few_lines_of [] = omega arith
few_lines_of (r ∷ rs) = omega (arith, few_lines_of rs, length-append r (10 ∷ text_of rs))

-- nothing is read of what begins with a zero
pub lines_of-zero : (b : ℕ) (bytes : List ℕ) → b ≡ 0 → lines_of (b ∷ bytes) ≡ []
lines_of-zero b bytes is = ap (lines_from []) (zero_ends b bytes is)
