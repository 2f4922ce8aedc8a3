-- The records of a text, line by line.
use Rattle.std.proofs.Common.{◌≡◌, ◌≤◌, ◌<◌, ◌+◌, ◌-◌, ◌++◌, List, ℕ, zero, suc, [], ◌∷◌, length, get_or, refl, sym, ap, subst, ◌∙◌, arith, append_assoc, length-append, zero-add, not}
use Rattle.std.proofs.lemmas.List.{append-nil, get_or-append_right}
use Rattle.std.proofs.lemmas.List.Sums.{length-filter, count_by-le-length}
use Rattle.hx_units.specs.Cuts.{Lacks}
use Rattle.hx_journal.specs.Lines.{IsLine, AreLines, lines_of, text_of}
use Rattle.hx_journal.specs.Records.{is_mark, records_of}
use Rattle.hx_journal.proofs.Lines.{lines_of-text, lines_of_are, text_of-append, few_lines_of}
use Rattle.hx_journal.proofs.Sealing.{records_of-append}

-- a text that has no line feed on the left of the cut is cut in one way
first_cut : (a b x y : List ℕ) → IsLine a → Lacks 10 b → a ++ 10 ∷ x ≡ b ++ 10 ∷ y → (a ≡ b) × (x ≡ y)
first_cut [] [] x y is lacks e = (refl, cc (e))
first_cut [] (b ∷ bs) x y is lacks e = let head : 10 ≡ b = cc (e) in absurd (lacks zero 0 (omega arith) (sym head))
first_cut (a ∷ rest) [] x y is lacks e = let head : a ≡ 10 = cc (e) in absurd (is.0.1 head)
first_cut (a ∷ front) (b ∷ bs) x y is lacks e =
    let head : a ≡ b = cc (e) in
    let tail : front ++ 10 ∷ x ≡ bs ++ 10 ∷ y = cc (e) in
    let cut = first_cut front bs x y is.1 (λ k d lt. lacks (suc k) d (omega arith)) tail in
    (cc (head, cut.0), cut.1)

no_line : (line after : List ℕ) → [] ≡ line ++ 10 ∷ after → ⊥
no_line [] after e = cc (e)
no_line (x ∷ line) after e = cc (e)

pub first_line : (ls : List (List ℕ)) (line after : List ℕ) → AreLines ls → Lacks 10 line → text_of ls ≡ line ++ 10 ∷ after → (rest : List (List ℕ)) × (ls ≡ line ∷ rest) × (text_of rest ≡ after) × AreLines rest
first_line [] line after are lacks e = absurd (no_line line after e)
first_line (l ∷ ls) line after are lacks e =
    let cut = first_cut l line (text_of ls) after are.0 lacks e in
    (ls, ap (λ (x : List ℕ). x ∷ ls) cut.0, cut.1, are.1)

-- Of a text of lines the rest has lines too, and these records and theirs are all of the text.
pub record Copied (text rest tape : List ℕ) (count : ℕ) : Type 0 where
  pub whole : rest ≡ text_of (lines_of rest)
  pub tape_is : tape ++ text_of (records_of (lines_of rest)) ≡ text_of (records_of (lines_of text))
  pub count_is : count + length (records_of (lines_of rest)) ≡ length (records_of (lines_of text))

-- the next line, with its record or without
next_lines : (rest line after : List ℕ) → rest ≡ text_of (lines_of rest) → Lacks 10 line → rest ≡ line ++ 10 ∷ after → (lines_of rest ≡ line ∷ lines_of after) × (after ≡ text_of (lines_of after))
next_lines rest line after whole lacks cut =
    let first = first_line (lines_of rest) line after (lines_of_are rest) lacks (sym whole ∙ cut) in
    let is : lines_of after ≡ first.0 = ap lines_of (sym first.2) ∙ lines_of-text first.0 first.3 in
    (first.1 ∙ ap (λ (l : List (List ℕ)). line ∷ l) (sym is), sym first.2 ∙ ap text_of (sym is))

pub one_copied : (text rest tape line after then : List ℕ) (count n : ℕ) → Copied text rest tape count → Lacks 10 line → rest ≡ line ++ 10 ∷ after
    → then ≡ tape ++ text_of (records_of (line ∷ [])) → n ≡ length (records_of (line ∷ [])) → Copied text after then (count + n)
one_copied text rest tape line after then count n so_far lacks cut more one =
    let next = next_lines rest line after so_far.whole lacks cut in
    let parts : records_of (lines_of rest) ≡ records_of (line ∷ []) ++ records_of (lines_of after) =
    ap records_of next.0 ∙ records_of-append (line ∷ []) (lines_of after) in
    record {
      whole = next.1;
      tape_is =
          ap (λ (l : List ℕ). l ++ text_of (records_of (lines_of after))) more
          ∙ append_assoc tape (text_of (records_of (line ∷ []))) (text_of (records_of (lines_of after)))
          ∙ ap (λ (l : List ℕ). tape ++ l) (sym (text_of-append (records_of (line ∷ [])) (records_of (lines_of after))) ∙ ap text_of (sym parts))
          ∙ so_far.tape_is;
      count_is = omega (arith, one, so_far.count_is, ap length parts, length-append (records_of (line ∷ [])) (records_of (lines_of after)));
    }

-- no line feed, no line
pub no_lines : (ls : List (List ℕ)) → Lacks 10 (text_of ls) → ls ≡ []
no_lines [] lacks = refl
no_lines (l ∷ ls) lacks =
    let within : length l < length (l ++ 10 ∷ text_of ls) = omega (arith, length-append l (10 ∷ text_of ls)) in
    let nothing : length l - length l ≡ 0 = omega arith in
    absurd (lacks (length l) 0 within (get_or-append_right l (10 ∷ text_of ls) (length l) (length l) 0 refl (omega arith) ∙ ap (λ k. get_or (10 ∷ text_of ls) k 0) nothing))

pub all_copied : (text rest tape : List ℕ) (count : ℕ) → Copied text rest tape count → Lacks 10 rest → (tape ≡ text_of (records_of (lines_of text))) × (count ≡ length (records_of (lines_of text)))
all_copied text rest tape count so_far lacks =
    let none = no_lines (lines_of rest) (subst (Lacks 10) so_far.whole lacks) in (
      sym (append-nil tape) ∙ ap (λ (l : List (List ℕ)). tape ++ text_of (records_of l)) (sym none) ∙ so_far.tape_is,
      omega (arith, so_far.count_is, ap (λ (l : List (List ℕ)). length (records_of l)) none),
    )

-- no more records than bytes
pub few_records : (text : List ℕ) → text ≡ text_of (lines_of text) → length (records_of (lines_of text)) ≤ length text
few_records text whole =
    omega (arith, length-filter (λ (line : List ℕ). not (is_mark line)) (lines_of text), count_by-le-length (λ (line : List ℕ). not (is_mark line)) (lines_of text), few_lines_of (lines_of text), ap length whole)

pub few_of : (lines : List (List ℕ)) → length (records_of lines) ≤ length lines
few_of lines = omega (arith, length-filter (λ (line : List ℕ). not (is_mark line)) lines, count_by-le-length (λ (line : List ℕ). not (is_mark line)) lines)
