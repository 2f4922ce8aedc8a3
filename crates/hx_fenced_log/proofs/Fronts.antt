-- The lines in front of the rest of a text.
use Rattle.std.specs.Prelude.{◌==◌, true}
use Rattle.std.proofs.Common.{◌≡◌, ℕ, ◌+◌, ◌≤◌, List, [], ◌∷◌, ◌++◌, length, refl, sym, ap, ◌∙◌, subst, arith, append_assoc, length-append}
use Rattle.std.proofs.lemmas.List.{append-nil}
use Rattle.std.proofs.lemmas.Bool.{eqb-true}
use Rattle.hx_journal.specs.Lines.{IsLine, AreLines, text_of, lines_of}
use Rattle.hx_journal.specs.Records.{IsRecord}
use Rattle.hx_journal.proofs.Lines.{lines_of-text, text_of-append, few_lines_of}
use Rattle.hx_fenced_log.specs.Lines.{AreTapeLines, AreTheLines, StandInFront}

pub are_lines : (lines : List (List ℕ)) → AreTapeLines lines → AreLines lines
are_lines [] h = tt
are_lines (l ∷ lines) h = (h.0.0, are_lines lines h.1)

pub are_append : (front later : List (List ℕ)) → AreTapeLines front → AreTapeLines later → AreTapeLines (front ++ later)
are_append [] later p q = q
are_append (l ∷ front) later p q = (p.0, are_append front later p.1 q)

-- one more line stands in front
pub one_more : (count : ℕ) (text line others rest : List ℕ) → StandInFront count text rest → rest ≡ line ++ 10 ∷ others → IsRecord line → StandInFront (count + 1) text others
one_more count text line others rest h cut good = record {
  front = h.front ++ line ∷ [];
  is =
      h.is ∙ ap (λ (l : List ℕ). text_of h.front ++ l) (cut ∙ sym (append_assoc line (10 ∷ []) others))
      ∙ sym (append_assoc (text_of h.front) (line ++ 10 ∷ []) others)
      ∙ ap (λ (l : List ℕ). l ++ others) (sym (text_of-append h.front (line ∷ [])));
  lines = are_append h.front (line ∷ []) h.lines (good, tt);
  counted = grind (arith, h.counted, length-append h.front (line ∷ []));
}

-- if nothing is left, the text is these lines
pub all_read : (count : ℕ) (text rest : List ℕ) → StandInFront count text rest → rest ≡ [] → AreTheLines text count
all_read count text rest h none =
    let whole : text ≡ text_of h.front = h.is ∙ ap (λ (l : List ℕ). text_of h.front ++ l) none ∙ append-nil (text_of h.front) in
    let same : lines_of text ≡ h.front = ap lines_of whole ∙ lines_of-text h.front (are_lines h.front h.lines) in
    record {
      is = whole ∙ ap text_of (sym same);
      lines = subst AreTapeLines (sym same) h.lines;
      counted = h.counted ∙ ap length (sym same);
    }

-- they are no more than the bytes of the text
pub few_read : (count : ℕ) (text rest : List ℕ) → StandInFront count text rest → count + length rest ≤ length text
few_read count text rest h =
    let size : length text ≡ length (text_of h.front) + length rest = ap length h.is ∙ length-append (text_of h.front) rest in
    omega (arith, h.counted, few_lines_of h.front, size)

-- a line that is cut at a zero is none
pub cut_is_none : (line front later : List ℕ) → line ≡ front ++ 0 ∷ later → IsLine line → ⊥
cut_is_none line front later cut good = within front later (subst IsLine cut good)
  where
    within : (front later : List ℕ) → IsLine (front ++ 0 ∷ later) → ⊥
    within [] later h = h.0.0 refl
    within (b ∷ front) later h = within front later h.1

-- a list that has no element
pub nothing_left : (xs : List ℕ) → (length xs == 0) ≡ true → xs ≡ []
nothing_left [] e = refl
nothing_left (x ∷ xs) e = absurd (omega (arith, eqb-true (length (x ∷ xs)) 0 e))
