-- The whole blocks at the front of a text, and what stands after them.
use Rattle.std.proofs.Common.{◌≡◌, ◌≢◌, inr, Option, None, Some, ℕ, suc, ◌≤◌, ◌+◌, ◌-◌, Bool, true, false, List, [], ◌∷◌, ◌++◌, length, take, drop, get_or, refl, sym, ap, subst, ◌∙◌, arith, append_assoc, length-take}
use Rattle.std.proofs.lemmas.List.{take-take, take_all, get_or-take, get_or-drop, length-drop}
use mathlib.Core.List.{IsPrefix}
use Rattle.hx_units.specs.Cuts.{Lacks}
use Rattle.hx_journal.specs.Lines.{lines_of, text_of}
use Rattle.hx_journal.specs.Records.{is_mark, records_of, sealed, recovered}
use Rattle.hx_journal.specs.Crashes.{IsBetween}
use Rattle.hx_journal.specs.Heads.{IsWord, head_of}
use Rattle.hx_journal.specs.Surveys.{before_damage, marks_of, StandsAfter}
use Rattle.hx_journal.proofs.Lines.{prefix_lines_of, lines_of_are, lines_of-text, lines_of-text_before}
use Rattle.hx_journal.proofs.Sealing.{sealed_prefix, sealed_again, keeps_sealed, prefix_records}
use Rattle.hx_journal.proofs.Spelling.{line-head}
use Rattle.hx_journal.proofs.Copying.{first_line, no_lines}
use Rattle.hx_journal.proofs.Recovery.{are_sealed, lines_of_front}
use Rattle.hx_units.proofs.Prefixes.{prefix_self, prefix_trans}

-- Of a text up to an offset, the whole blocks end where those of the text up to their own end do.
module _ (text : List ℕ) (at end : ℕ) (inside : end ≤ length (take at text)) (front : take end (take at text) ≡ text_of (sealed (lines_of (take at text)))) where
  cut_twice : take end (take at text) ≡ take end text
  cut_twice = take-take end at text (omega (arith, inside, length-take at text))

  same_lines : sealed (lines_of (take at text)) ≡ sealed (lines_of (take end text))
  same_lines =
      sym (sealed_again (lines_of (take at text)))
      ∙ ap sealed (sym (lines_of_front (take at text) end front) ∙ ap lines_of cut_twice)

  pub front_alone : take end text ≡ text_of (sealed (lines_of (take end text)))
  front_alone = sym cut_twice ∙ front ∙ ap text_of same_lines

  pub count_alone : (n : ℕ) → n ≡ length (sealed (lines_of (take at text))) → n ≡ length (sealed (lines_of (take end text)))
  count_alone n is = is ∙ ap length same_lines

-- the text of the whole blocks of a file has their lines
pub blocks_are : (text file : List ℕ) → text ≡ text_of (sealed (lines_of file)) → lines_of text ≡ sealed (lines_of file)
blocks_are text file is = ap lines_of is ∙ lines_of-text (sealed (lines_of file)) (are_sealed file)

-- and its records are those of the file
pub records_are : (text file : List ℕ) → text ≡ text_of (sealed (lines_of file)) → recovered text ≡ recovered file
records_are text file is = ap (λ l. records_of (sealed l)) (blocks_are text file is) ∙ ap records_of (sealed_again (lines_of file))

pub whole_text : (text file : List ℕ) → text ≡ text_of (sealed (lines_of file)) → text ≡ text_of (lines_of text)
whole_text text file is = is ∙ ap text_of (sym (blocks_are text file is))

-- what has all of these lines has all of their records
pub keeps_records : (text file c : List ℕ) (all : List (List ℕ)) → text ≡ text_of (sealed (lines_of file)) → IsBetween (lines_of text) (lines_of c) all → IsPrefix (recovered file) (recovered c)
keeps_records text file c all is between =
    let lines = blocks_are text file is in
    let whole : sealed (lines_of text) ≡ lines_of text = ap sealed lines ∙ sealed_again (lines_of file) ∙ sym lines in
    subst (λ (l : List (List ℕ)). IsPrefix (records_of l) (recovered c)) lines
    (prefix_records (lines_of text) (sealed (lines_of c)) (keeps_sealed (lines_of text) (lines_of c) between.begins whole))

one_line : (lines : List (List ℕ)) (line : List ℕ) (mark : Bool) → is_mark line ≡ mark → length (marks_of lines) + length (records_of lines) ≡ length lines → length (marks_of (line ∷ lines)) + length (records_of (line ∷ lines)) ≡ suc (length lines)
one_line lines line true is rest =
    let marks : marks_of (line ∷ lines) ≡ line ∷ marks_of lines = rw is refl in
    let records : records_of (line ∷ lines) ≡ records_of lines = rw is refl in
    omega (arith, ap length marks, ap length records, rest)
one_line lines line false is rest =
    let marks : marks_of (line ∷ lines) ≡ marks_of lines = rw is refl in
    let records : records_of (line ∷ lines) ≡ line ∷ records_of lines = rw is refl in
    omega (arith, ap length marks, ap length records, rest)

-- a line is a mark or a record
pub marks_and_records : (lines : List (List ℕ)) → length (marks_of lines) + length (records_of lines) ≡ length lines
marks_and_records [] = refl
marks_and_records (line ∷ lines) = one_line lines line (is_mark line) refl (marks_and_records lines)

-- the first line of a text that begins with a head
pub head_first : (text session day setup rest : List ℕ) → IsWord session → IsWord day → IsWord setup → text ≡ head_of session day setup ++ 10 ∷ rest → IsPrefix (head_of session day setup ∷ []) (lines_of text)
head_first text session day setup rest first second third is =
    let head = head_of session day setup in
    let lines : lines_of text ≡ head ∷ lines_of rest =
    ap lines_of (is ∙ sym (append_assoc head (10 ∷ []) rest)) ∙ lines_of-text_before (head ∷ []) rest (line-head session day setup first second third, tt) in
    (lines_of rest, sym lines)

-- what stands after an offset, by what stands in the rest of the text
pub after_text : (text : List ℕ) (end torn : ℕ) → end ≤ length text
    → torn ≤ length (take (length text - end) (drop end text))
    → ((i : ℕ) → suc i ≡ torn → get_or (take (length text - end) (drop end text)) i 0 ≢ 0)
    → ((i : ℕ) → torn ≤ i → get_or (take (length text - end) (drop end text)) i 0 ≡ 0)
    → StandsAfter text end torn (length (take (length text - end) (drop end text)) - torn)
after_text text end torn inside within last rest =
    let all : take (length text - end) (drop end text) ≡ drop end text = take_all (length text - end) (drop end text) (omega (arith, length-drop end text)) in
    record {
      all = omega (arith, inside, within, ap length all, length-drop end text);
      last = λ i is none. last i is (ap (λ (l : List ℕ). get_or l i 0) all ∙ get_or-drop end text i 0 ∙ none);
      rest = λ i le.
          let here : end + (i - end) ≡ i = omega (arith, le) in
          ap (λ k. get_or text k 0) (sym here) ∙ sym (get_or-drop end text (i - end) 0)
          ∙ sym (ap (λ (l : List ℕ). get_or l (i - end) 0) all) ∙ rest (i - end) (omega (arith, le));
    }

no_line_first : (line : List ℕ) → IsPrefix (line ∷ []) [] → ⊥
no_line_first line begins = cc (begins.1)

-- a text of lines whose first one is cut off begins with that one
pub first_alone : (text first rest head : List ℕ) → text ≡ text_of (lines_of text) → Lacks 10 first → text ≡ first ++ 10 ∷ rest → IsPrefix (head ∷ []) (lines_of text) → first ≡ head
first_alone text first rest head whole lacks cut begins =
    let here = first_line (lines_of text) first rest (lines_of_are text) lacks (sym whole ∙ cut) in
    cc (here.1, begins.1)

-- a text without a line feed has no line
pub none_alone : (text head : List ℕ) → text ≡ text_of (lines_of text) → Lacks 10 text → IsPrefix (head ∷ []) (lines_of text) → ⊥
none_alone text head whole lacks begins =
    no_line_first head (subst (λ (l : List (List ℕ)). IsPrefix (head ∷ []) l) (no_lines (lines_of text) (subst (Lacks 10) whole lacks)) begins)

-- what stands before a damage has a beginning of the records
pub damage_begins : (file : List ℕ) (damage : Option ℕ) → IsPrefix (recovered (before_damage file damage)) (recovered file)
damage_begins file None = prefix_self (recovered file)
damage_begins file (Some at) =
    let lines = lines_of (take at file) in
    let begins : IsPrefix lines (lines_of file) =
    prefix_lines_of (take at file) file (λ i lt. inr (get_or-take at file i 0 (omega (arith, lt, length-take at file)))) in
    prefix_records (sealed lines) (sealed (lines_of file))
    (keeps_sealed (sealed lines) (lines_of file) (prefix_trans (sealed lines) lines (lines_of file) (sealed_prefix lines) begins) (sealed_again lines))
