-- What texts of records are read as.
use Rattle.std.specs.Prelude.{◌≢◌, Result, Ok, Err, IfOk, IfErr}
use Rattle.std.proofs.Common.{◌≡◌, ℕ, ◌<◌, ◌^◌, List, [], ◌∷◌, ◌++◌, length, refl, sym, ap, ◌∙◌, subst, arith, append_assoc, length-append}
use Rattle.std.specs.Fmt.{decimal}
use Rattle.std.proofs.lemmas.Fmt.{decimal_injective}
use Rattle.std.proofs.lemmas.List.Elements.{All-append, All-cons, All-nil}
use Rattle.hx_units.specs.Cuts.{Lacks}
use Rattle.hx_units.proofs.Decimals.{lacks-decimal}
use Rattle.hx_units.proofs.Splits.{same_split, none_split}
use Rattle.hx_journal.specs.Lines.{IsLine, text_of, lines_of}
use Rattle.hx_journal.specs.Records.{IsRecord}
use Rattle.hx_journal.proofs.Lines.{lines_of-text}
use Rattle.hx_fenced_log.specs.declared.terms.head.Head.{Head}
use Rattle.hx_fenced_log.specs.declared.terms.record.RecordError.{RecordError}
use Rattle.hx_fenced_log.specs.declared.terms.record.RecordError.TheVariants.{Number, Line, Unended}
use Rattle.hx_fenced_log.specs.declared.terms.text.TextError.{TextError}
use Rattle.hx_fenced_log.specs.declared.terms.text.TextError.TheVariants as fault
use Rattle.hx_fenced_log.specs.Records.{Record, IsHead}
use Rattle.hx_fenced_log.specs.Lines.{AreTapeLines, AreTheLines, IsBadLine, IsUnended, HasReserved, IsRecordFault, IsOfLog}
use Rattle.hx_fenced_log.specs.Texts.{head_line, spelled, HasBadLines, IsTextFault, IsReadAs}
use Rattle.hx_fenced_log.proofs.Fronts.{are_lines}

-- ---- words

word_lacks : (n : ℕ) → n < 10 ^ 14 → Lacks 32 (decimal n)
word_lacks n lt = lacks-decimal 32 n (omega arith) (omega (arith, lt))

-- a text without a space begins with no word
pub no_word : (text rest : List ℕ) (n : ℕ) → Lacks 32 text → text ≡ decimal n ++ (32 ∷ rest) → ⊥
no_word text rest n lacks is = none_split 32 (decimal n) rest (subst (Lacks 32) is lacks)

-- what stands in front of the first space is the word
pub first_word : (text digits rest more : List ℕ) (n : ℕ) → text ≡ digits ++ 32 ∷ rest → Lacks 32 digits → n < 10 ^ 14 → text ≡ decimal n ++ (32 ∷ more) → (digits ≡ decimal n) × (rest ≡ more)
first_word text digits rest more n cut lacks lt is = same_split 32 digits rest (decimal n) more lacks (word_lacks n lt) (sym cut ∙ is)

-- two numbers in front of a space are one
pub next_word : (text rest more : List ℕ) (m n : ℕ) → m < 10 ^ 14 → n < 10 ^ 14 → text ≡ decimal m ++ (32 ∷ rest) → text ≡ decimal n ++ (32 ∷ more) → (m ≡ n) × (rest ≡ more)
next_word text rest more m n lm ln here there =
    let cut = first_word text (decimal m) rest more n here (word_lacks m lm) ln there in
    (decimal_injective m n (omega (arith, lm)) (omega (arith, ln)) cut.0, cut.1)

pub same_number : (text : List ℕ) (m n : ℕ) → m < 10 ^ 14 → n < 10 ^ 14 → text ≡ decimal m → text ≡ decimal n → m ≡ n
same_number text m n lm ln here there = decimal_injective m n (omega (arith, lm)) (omega (arith, ln)) (sym here ∙ there)

-- what stands after the mark of a first line
pub after_mark : (line rest : List ℕ) (head : Head) → line ≡ 35 ∷ rest → line ≡ head_line head
    → rest ≡ decimal head.number ++ (32 ∷ (decimal head.term ++ (32 ∷ (decimal head.writer ++ (32 ∷ decimal head.index)))))
after_mark line rest head here there = cc (here, there)

-- heads of the same four numbers are one
pub same_fields : (a b : Head) → a.number ≡ b.number → a.term ≡ b.term → a.writer ≡ b.writer → a.index ≡ b.index → a ≡ b
same_fields a b p q r s = λ i. record { number = p i; term = q i; writer = r i; index = s i }

pub same_head : (line : List ℕ) (a b : Head) → IsHead a → IsHead b → line ≡ head_line a → line ≡ head_line b → a ≡ b
same_head line a b good fine here there =
    let tail_a = decimal a.number ++ (32 ∷ (decimal a.term ++ (32 ∷ (decimal a.writer ++ (32 ∷ decimal a.index))))) in
    let later = after_mark line tail_a b here there in
    let first = next_word tail_a _ _ a.number b.number good.number.1 fine.number.1 refl later in
    let second = next_word _ _ _ a.term b.term good.term.1 fine.term.1 refl first.1 in
    let third = next_word _ _ _ a.writer b.writer good.writer.1 fine.writer.1 refl second.1 in
    same_fields a b first.0 second.0 third.0 (same_number _ a.index b.index good.index.1 fine.index.1 refl third.1)

-- ---- a head, word by word

-- what stands after its words
abbrev from_index : Head → List ℕ
from_index head = decimal head.index

abbrev from_writer : Head → List ℕ
from_writer head = decimal head.writer ++ (32 ∷ from_index head)

abbrev from_term : Head → List ℕ
from_term head = decimal head.term ++ (32 ∷ from_writer head)

pub after_number : (line text rest : List ℕ) (n : ℕ) (head : Head) → line ≡ 35 ∷ text → (n < 10 ^ 14) × (text ≡ decimal n ++ (32 ∷ rest)) → IsHead head → line ≡ head_line head
    → (n ≡ head.number) × (rest ≡ decimal head.term ++ (32 ∷ (decimal head.writer ++ (32 ∷ decimal head.index))))
after_number line text rest n head marked word good is =
    next_word text rest (from_term head) n head.number word.0 good.number.1 word.1 (after_mark line text head marked is)

pub after_term : (text rest : List ℕ) (n : ℕ) (head : Head) → (n < 10 ^ 14) × (text ≡ decimal n ++ (32 ∷ rest)) → IsHead head
    → text ≡ decimal head.term ++ (32 ∷ (decimal head.writer ++ (32 ∷ decimal head.index)))
    → (n ≡ head.term) × (rest ≡ decimal head.writer ++ (32 ∷ decimal head.index))
after_term text rest n head word good is = next_word text rest (from_writer head) n head.term word.0 good.term.1 word.1 is

pub after_writer : (text rest : List ℕ) (n : ℕ) (head : Head) → (n < 10 ^ 14) × (text ≡ decimal n ++ (32 ∷ rest)) → IsHead head
    → text ≡ decimal head.writer ++ (32 ∷ decimal head.index)
    → (n ≡ head.writer) × (rest ≡ decimal head.index)
after_writer text rest n head word good is = next_word text rest (from_index head) n head.writer word.0 good.writer.1 word.1 is

pub after_index : (text : List ℕ) (n : ℕ) (head : Head) → (n < 10 ^ 14) × (text ≡ decimal n) → IsHead head → text ≡ decimal head.index → n ≡ head.index
after_index text n head word good is = same_number text n head.index word.0 good.index.1 word.1 is

-- a head of the same numbers is as good
pub good_head : (head other : Head) → IsHead head → other.number ≡ head.number → other.term ≡ head.term → other.writer ≡ head.writer → other.index ≡ head.index → IsHead other
good_head head other good p q r s = subst IsHead (sym (same_fields other head p q r s)) good

-- ---- lines

pub line_lacks : (line : List ℕ) → IsLine line → Lacks 10 line
line_lacks [] is = All-nil (λ b. b ≢ 10)
line_lacks (b ∷ line) is = All-cons (λ b. b ≢ 10) b line is.0.1 (line_lacks line is.1)

number_lacks : (n : ℕ) → n < 10 ^ 14 → Lacks 10 (decimal n)
number_lacks n lt = lacks-decimal 10 n (omega arith) (omega (arith, lt))

word_and : (n : ℕ) (rest : List ℕ) → n < 10 ^ 14 → Lacks 10 rest → Lacks 10 (decimal n ++ (32 ∷ rest))
word_and n rest lt lacks = All-append (λ b. b ≢ 10) (decimal n) (32 ∷ rest) (number_lacks n lt) (All-cons (λ b. b ≢ 10) 32 rest (λ e. absurd (omega (arith, e))) lacks)

-- a first line has no line feed
pub head_lacks : (head : Head) → IsHead head → Lacks 10 (head_line head)
head_lacks head good =
    All-cons (λ b. b ≢ 10) 35 _ (λ e. absurd (omega (arith, e)))
    (word_and head.number _ good.number.1 (word_and head.term _ good.term.1 (word_and head.writer _ good.writer.1 (number_lacks head.index good.index.1))))

-- lines in front of others are their first ones
pub record After (rest : List ℕ) : Type 0 where
  pub lines : List (List ℕ)
  pub is : rest ≡ text_of lines
  pub good : AreTapeLines lines

after_front : (front lines : List (List ℕ)) (rest : List ℕ) → AreTapeLines front → AreTapeLines lines → text_of front ++ rest ≡ text_of lines → After rest
after_front [] lines rest p q e = record { lines = lines; is = e; good = q }
after_front (f ∷ front) [] rest p q e =
    let none : length ((f ++ 10 ∷ text_of front) ++ rest) ≡ 0 = ap length e in
    absurd (omega (arith, none, length-append (f ++ 10 ∷ text_of front) rest, length-append f (10 ∷ text_of front)))
after_front (f ∷ front) (l ∷ lines) rest p q e =
    after_front front lines rest p.1 q.1
    (same_split 10 f (text_of front ++ rest) l (text_of lines) (line_lacks f p.0.0) (line_lacks l q.0.0) (sym (append_assoc f (10 ∷ text_of front) rest) ∙ e)).1

pub no_bad_line : (lines : List (List ℕ)) (number : ℕ) → AreTapeLines lines → IsBadLine (text_of lines) number → ⊥
no_bad_line lines number good h = at (after_front h.stands.front lines (h.line ++ 10 ∷ h.later) h.stands.lines good (sym h.stands.is))
  where
    among : (more : List (List ℕ)) → AreTapeLines more → h.line ++ 10 ∷ h.later ≡ text_of more → ⊥
    among [] fine e = let none : length (h.line ++ 10 ∷ h.later) ≡ 0 = ap length e in omega (arith, none, length-append h.line (10 ∷ h.later))
    among (l ∷ more) fine e =
        let same = same_split 10 h.line h.later l (text_of more) h.ends (line_lacks l fine.0.0) e in
        h.bad (subst IsRecord (sym same.0) fine.0)

    at : After (h.line ++ 10 ∷ h.later) → ⊥
    at b = among b.lines b.good b.is

pub no_unended : (lines : List (List ℕ)) → AreTapeLines lines → IsUnended (text_of lines) → ⊥
no_unended lines good h = at (after_front h.stands.front lines h.rest h.stands.lines good (sym h.stands.is))
  where
    among : (more : List (List ℕ)) → h.rest ≡ text_of more → ⊥
    among [] e = h.some e
    among (l ∷ more) e = none_split 10 l (text_of more) (subst (Lacks 10) e h.ends)

    at : After h.rest → ⊥
    at b = among b.lines b.is

pub are_the_lines : (lines : List (List ℕ)) → AreTapeLines lines → AreTheLines (text_of lines) (length lines)
are_the_lines lines good =
    let same = lines_of-text lines (are_lines lines good) in
    record {
      is = ap text_of (sym same);
      lines = subst AreTapeLines (sym same) good;
      counted = ap length (sym same);
    }

-- ---- records

-- the first line of a text, and what stands after it
record Cut (text : List ℕ) (a b x y : List ℕ) : Type 0 where
  front : a ≡ b
  later : x ≡ y

first_line : (text a b x y : List ℕ) → text ≡ a ++ 10 ∷ x → text ≡ b ++ (10 ∷ y) → Lacks 10 a → Lacks 10 b → Cut text a b x y
first_line text a b x y here there p q = let same = same_split 10 a x b y p q (sym here ∙ there) in record { front = same.0; later = same.1 }

pub same_record : (text : List ℕ) (a b : Record) → IsOfLog a → IsOfLog b → text ≡ spelled a → text ≡ spelled b → a ≡ b
same_record text a b good fine here there =
    let cut = first_line text (head_line a.head) (head_line b.head) (text_of a.lines) (text_of b.lines) here there (head_lacks a.head good.head) (head_lacks b.head fine.head) in
    let head = same_head (head_line a.head) a.head b.head good.head fine.head refl cut.front in
    let lines : a.lines ≡ b.lines = sym (lines_of-text a.lines (are_lines a.lines good.lines)) ∙ ap lines_of cut.later ∙ lines_of-text b.lines (are_lines b.lines fine.lines) in
    λ i. record { head = head i; lines = lines i }

bad_lines : (error : RecordError) (text : List ℕ) (r : Record) → HasBadLines text error → IsOfLog r → text ≡ spelled r → ⊥
bad_lines error text r h good is = by_error error (subst (λ (l : List ℕ). IsRecordFault h.head l error) cut.later h.bad)
  where
    cut : Cut text (head_line h.head) (head_line r.head) h.later (text_of r.lines)
    cut = first_line text (head_line h.head) (head_line r.head) h.later (text_of r.lines) h.is is (head_lacks h.head h.good) (head_lacks r.head good.head)

    same : h.head ≡ r.head
    same = same_head (head_line h.head) h.head r.head h.good good.head refl cut.front

    by_error : (e : RecordError) → IsRecordFault h.head (text_of r.lines) e → ⊥
    by_error Number bad = bad (length r.lines) h.good (are_the_lines r.lines good.lines) (subst (λ (k : Head). HasReserved k (length r.lines)) (sym same) good.indices)
    by_error (Line number) bad = no_bad_line r.lines number good.lines bad.1
    by_error Unended bad = no_unended r.lines good.lines bad.1

pub fault_is_none : (error : TextError) (text : List ℕ) (r : Record) → IsTextFault text error → IsOfLog r → text ≡ spelled r → error ≡ fault.NoMemory
fault_is_none fault.NoLine text r h good is = absurd (none_split 10 (head_line r.head) (text_of r.lines) (subst (Lacks 10) is h))
fault_is_none fault.Head text r h good is =
    absurd (h.none r.head good.head (first_line text h.line (head_line r.head) h.later (text_of r.lines) h.is is h.ends (head_lacks r.head good.head)).front)
fault_is_none (fault.Lines error) text r h good is = absurd (bad_lines error text r h good is)
fault_is_none fault.NoMemory text r h good is = refl

pub read_as : (result : Result Record TextError) (text : List ℕ) → IfOk result (λ r. IsOfLog r × (text ≡ spelled r)) → IfErr result (IsTextFault text)
    → (r : Record) → IsOfLog r → text ≡ spelled r → IsReadAs result r
read_as (Ok found) text ok bad r good is = same_record text found r ok.0 good ok.1 is
read_as (Err error) text ok bad r good is = fault_is_none error text r bad good is
