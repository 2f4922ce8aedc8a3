-- What is taken of the texts of records.
use Rattle.std.specs.Prelude.{◌≢◌, Result, Ok, Err, IfOk, IfErr}
use Rattle.std.specs.List.{AllByRecursion}
use Rattle.std.proofs.Common.{◌≡◌, ℕ, ◌+◌, ◌-◌, ◌≤◌, Bool, true, false, List, [], ◌∷◌, ◌++◌, length, take, drop, refl, sym, ap, ◌∙◌, subst, arith, append_assoc, length-append}
use Rattle.std.proofs.Math.Seq.{take-append_seam}
use Rattle.std.proofs.lemmas.List.{append-nil}
use Rattle.std.proofs.lemmas.List.Elements.{All-head, All-tail}
use Rattle.std.proofs.lemmas.Bool.{false_from_ne_true}
use Rattle.hx_units.specs.Cuts.{Lacks}
use Rattle.hx_journal.specs.Lines.{text_of}
use Rattle.hx_journal.specs.Records.{is_mark}
use Rattle.hx_fenced_log.specs.declared.terms.copy.RecordsError.{RecordsError}
use Rattle.hx_fenced_log.specs.declared.terms.copy.RecordsError.TheVariants as refusal
use Rattle.hx_fenced_log.specs.declared.terms.copy.WholeRecords.{WholeRecords}
use Rattle.hx_fenced_log.specs.declared.terms.text.TextError.{TextError}
use Rattle.hx_fenced_log.specs.declared.terms.text.TextError.TheVariants as fault
use Rattle.hx_fenced_log.specs.Records.{Record}
use Rattle.hx_fenced_log.specs.Lines.{AreTapeLines, IsOfLog}
use Rattle.hx_fenced_log.specs.Texts.{head_line, spelled, IsTextFault}
use Rattle.hx_fenced_log.specs.Copies.{texts_of, BeginsNone, IsCut, AreWhole, AreAllWhole, IsRecordsFault, AreTaken}
use Rattle.hx_fenced_log.proofs.Spelling.{line_lacks, head_lacks, same_record, fault_is_none}

-- ---- marks

true_false : (b : Bool) → b ≡ true → b ≡ false → ⊥
true_false b p q = cc

-- what stands after a line does not change how it begins
same_mark : (line more other : List ℕ) → is_mark (line ++ 10 ∷ more) ≡ is_mark (line ++ 10 ∷ other)
same_mark [] more other = refl
same_mark (b ∷ line) more other = refl

-- ---- where none begins

-- in front of a line feed that no mark follows
after_line : (line more : List ℕ) → Lacks 10 line → is_mark more ≡ false → BeginsNone more → BeginsNone (line ++ 10 ∷ more)
after_line [] more lacks mark none = (λ _. mark, none)
after_line (b ∷ line) more lacks mark none = (
  λ e. absurd (All-head (λ n. n ≢ 10) b line lacks e),
  after_line line more (All-tail (λ n. n ≢ 10) b line lacks) mark none,
)

lacks_none : (line : List ℕ) → Lacks 10 line → BeginsNone line
lacks_none [] lacks = tt
lacks_none (b ∷ line) lacks = (λ e. absurd (All-head (λ n. n ≢ 10) b line lacks e), lacks_none line (All-tail (λ n. n ≢ 10) b line lacks))

-- if a mark follows a line feed, one begins
begins_one : (line rest : List ℕ) → BeginsNone (line ++ 10 ∷ rest) → is_mark rest ≡ true → ⊥
begins_one [] rest none mark = true_false (is_mark rest) mark (none.0 refl)
begins_one (b ∷ line) rest none mark = begins_one line rest none.1 mark

-- ---- cuts

cut_at : (line front rest text : List ℕ) → text ≡ front ++ rest → front ≡ line ++ 10 ∷ [] → text ≡ line ++ 10 ∷ rest
cut_at line front rest text is ends = is ∙ ap (λ (l : List ℕ). l ++ rest) ends ∙ append_assoc line (10 ∷ []) rest

-- a text that is cut has a second record
pub cut_or_none : (text front rest : List ℕ) → IsCut text front rest → BeginsNone text → ⊥
cut_or_none text front rest cut none =
    begins_one cut.ends.0 rest (subst BeginsNone (cut_at cut.ends.0 front rest text cut.is cut.ends.1) none) cut.next

same_line : (line other rest later : List ℕ) → BeginsNone (line ++ 10 ∷ []) → BeginsNone (other ++ 10 ∷ []) → is_mark rest ≡ true → is_mark later ≡ true
    → line ++ 10 ∷ rest ≡ other ++ 10 ∷ later → (line ≡ other) × (rest ≡ later)
same_line [] [] rest later p q m n e = (refl, cc)
same_line [] (b ∷ other) rest later p q m n e =
    let feed : b ≡ 10 = cc in
    let there : rest ≡ other ++ 10 ∷ later = cc in
    absurd (true_false (is_mark (other ++ 10 ∷ [])) (same_mark other [] later ∙ sym (ap is_mark there) ∙ m) (q.0 feed))
same_line (b ∷ line) [] rest later p q m n e =
    let feed : b ≡ 10 = cc in
    let there : later ≡ line ++ 10 ∷ rest = cc in
    absurd (true_false (is_mark (line ++ 10 ∷ [])) (same_mark line [] rest ∙ sym (ap is_mark there) ∙ n) (p.0 feed))
same_line (b ∷ line) (c ∷ other) rest later p q m n e =
    let first : b ≡ c = cc in
    let others : line ++ 10 ∷ rest ≡ other ++ 10 ∷ later = cc in
    let same = same_line line other rest later p.1 q.1 m n others in
    ((λ i. first i ∷ same.0 i), same.1)

-- a text is cut at one index
pub one_cut : (text front other rest later : List ℕ) → IsCut text front rest → IsCut text other later → (front ≡ other) × (rest ≡ later)
one_cut text front other rest later a b =
    let same = same_line a.ends.0 b.ends.0 rest later (subst BeginsNone a.ends.1 a.one) (subst BeginsNone b.ends.1 b.one) a.next b.next
    (sym (cut_at a.ends.0 front rest text a.is a.ends.1) ∙ cut_at b.ends.0 other later text b.is b.ends.1) in
    (a.ends.1 ∙ ap (λ (l : List ℕ). l ++ 10 ∷ []) same.0 ∙ sym b.ends.1, same.1)

-- ---- the text of a record

line_mark : (line more : List ℕ) → is_mark line ≡ false → is_mark (line ++ 10 ∷ more) ≡ false
line_mark [] more mark = refl
line_mark (b ∷ line) more mark = mark

lines_mark : (lines : List (List ℕ)) → AreTapeLines lines → is_mark (text_of lines) ≡ false
lines_mark [] good = refl
lines_mark (l ∷ lines) good = line_mark l (text_of lines) good.0.1

lines_none : (lines : List (List ℕ)) → AreTapeLines lines → BeginsNone (text_of lines)
lines_none [] good = tt
lines_none (l ∷ lines) good = after_line l (text_of lines) (line_lacks l good.0.0) (lines_mark lines good.1) (lines_none lines good.1)

lines_end : (line : List ℕ) (lines : List (List ℕ)) → (last : List ℕ) × (line ++ 10 ∷ text_of lines ≡ last ++ 10 ∷ [])
lines_end line [] = (line, refl)
lines_end line (l ∷ lines) =
    let rest = lines_end (line ++ 10 ∷ l) lines in
    (rest.0, sym (append_assoc line (10 ∷ l) (10 ∷ text_of lines)) ∙ rest.1)

record_none : (r : Record) → IsOfLog r → BeginsNone (spelled r)
record_none r good = after_line (head_line r.head) (text_of r.lines) (head_lacks r.head good.head) (lines_mark r.lines good.lines) (lines_none r.lines good.lines)

-- if a mark follows it, the text is cut after it
record_cut : (r : Record) (rest : List ℕ) → IsOfLog r → is_mark rest ≡ true → IsCut (spelled r ++ rest) (spelled r) rest
record_cut r rest good mark = record { is = refl; ends = lines_end (head_line r.head) r.lines; one = record_none r good; next = mark }

-- ---- records in front of a text

pub texts_push : (rs : List Record) (r : Record) → texts_of (rs ++ r ∷ []) ≡ texts_of rs ++ spelled r
texts_push [] r = append-nil (spelled r)
texts_push (x ∷ rs) r = ap (λ (l : List ℕ). spelled x ++ l) (texts_push rs r) ∙ sym (append_assoc (spelled x) (texts_of rs) (spelled r))

of_log_append : (rs : List Record) (r : Record) → AllByRecursion IsOfLog rs → IsOfLog r → AllByRecursion IsOfLog (rs ++ r ∷ [])
of_log_append [] r all good = (good, tt)
of_log_append (x ∷ rs) r all good = (all.0, of_log_append rs r all.1 good)

-- one more
pub one_whole : (text : List ℕ) (rs : List Record) (rest piece others : List ℕ) (r : Record) → AreWhole text rs rest → IsCut rest piece others → IsOfLog r → piece ≡ spelled r
    → AreWhole text (rs ++ r ∷ []) others
one_whole text rs rest piece others r h cut good is = record {
  is =
      h.is ∙ ap (λ (l : List ℕ). texts_of rs ++ l) (cut.is ∙ ap (λ (l : List ℕ). l ++ others) is)
      ∙ sym (append_assoc (texts_of rs) (spelled r) others)
      ∙ ap (λ (l : List ℕ). l ++ others) (sym (texts_push rs r));
  of_log = of_log_append rs r h.of_log good;
  next = λ _. cut.next;
}

-- a mark stands after the first
next_mark : (r : Record) (rs : List Record) (rest : List ℕ) → (r ∷ rs ≢ [] → is_mark rest ≡ true) → is_mark (texts_of rs ++ rest) ≡ true
next_mark r [] rest next = next (λ e. cc)
next_mark r (x ∷ rs) rest next = refl

-- after the first stand the others
others : (text : List ℕ) (r : Record) (rs : List Record) (rest : List ℕ) → AreWhole text (r ∷ rs) rest → AreWhole (texts_of rs ++ rest) rs rest
others text r rs rest h = record { is = refl; of_log = h.of_log.1; next = λ some. h.next (λ e. cc) }

first_cut : (text : List ℕ) (r : Record) (rs : List Record) (rest : List ℕ) → AreWhole text (r ∷ rs) rest → IsCut text (spelled r) (texts_of rs ++ rest)
first_cut text r rs rest h =
    subst (λ (l : List ℕ). IsCut l (spelled r) (texts_of rs ++ rest)) (sym (h.is ∙ append_assoc (spelled r) (texts_of rs) rest))
    (record_cut r (texts_of rs ++ rest) h.of_log.0 (next_mark r rs rest h.next))

-- a text has one list of whole records
same_whole : (text : List ℕ) (rs qs : List Record) (rest later : List ℕ) → AreAllWhole text rs rest → AreAllWhole text qs later → rs ≡ qs
same_whole text [] [] rest later a b = refl
same_whole text [] (q ∷ qs) rest later a b = absurd (cut_or_none text _ _ (first_cut text q qs later b.0) (subst BeginsNone (sym a.0.is) a.1))
same_whole text (r ∷ rs) [] rest later a b = absurd (cut_or_none text _ _ (first_cut text r rs rest a.0) (subst BeginsNone (sym b.0.is) b.1))
same_whole text (r ∷ rs) (q ∷ qs) rest later a b =
    let cut = one_cut text _ _ _ _ (first_cut text r rs rest a.0) (first_cut text q qs later b.0) in
    let first : r ≡ q = same_record (spelled r) r q a.0.of_log.0 b.0.of_log.0 refl cut.0 in
    let more : rs ≡ qs = same_whole (texts_of rs ++ rest) rs qs rest later (others text r rs rest a.0, a.1)
    (subst (λ (l : List ℕ). AreWhole l qs later) (sym cut.1) (others text q qs later b.0), b.1) in
    λ i. first i ∷ more i

-- nor has it whole records if a piece of it is none
no_bad_piece : (text found piece later rest : List ℕ) (before rs : List Record) (error : TextError) → AreWhole text before found → IsCut found piece later → IsTextFault piece error
    → AreAllWhole text rs rest → error ≡ fault.NoMemory
no_bad_piece text found piece later rest [] [] error h cut bad b =
    absurd (cut_or_none text piece later (subst (λ (l : List ℕ). IsCut l piece later) (sym h.is) cut) (subst BeginsNone (sym b.0.is) b.1))
no_bad_piece text found piece later rest [] (r ∷ rs) error h cut bad b =
    let same = one_cut text _ _ _ _ (subst (λ (l : List ℕ). IsCut l piece later) (sym h.is) cut) (first_cut text r rs rest b.0) in
    fault_is_none error piece r bad b.0.of_log.0 same.0
no_bad_piece text found piece later rest (x ∷ before) [] error h cut bad b =
    absurd (cut_or_none text _ _ (first_cut text x before found h) (subst BeginsNone (sym b.0.is) b.1))
no_bad_piece text found piece later rest (x ∷ before) (r ∷ rs) error h cut bad b =
    let same = one_cut text _ _ _ _ (first_cut text x before found h) (first_cut text r rs rest b.0) in
    no_bad_piece (texts_of before ++ found) found piece later rest before rs error (others text x before found h) cut bad
    (subst (λ (l : List ℕ). AreWhole l rs rest) (sym same.1) (others text r rs rest b.0), b.1)

pub taken : (result : Result WholeRecords RecordsError) (text : List ℕ) → IfOk result (λ found. AreAllWhole text found.records.items (drop found.len text)) → IfErr result (IsRecordsFault text)
    → (rs : List Record) (rest : List ℕ) → AreAllWhole text rs rest → AreTaken result rs
taken (Ok found) text ok bad rs rest h = same_whole text found.records.items rs _ rest ok h
taken (Err (refusal.Damaged index error)) text ok bad rs rest h =
    absurd (bad.known (no_bad_piece text bad.found bad.piece bad.later rest bad.before rs error bad.whole bad.cut bad.bad h))
taken (Err refusal.NoMemory) text ok bad rs rest h = refl

-- ---- the first record of a text, line by line

-- These lines stand in front of the rest of a text, and no record begins after them but the rest.
pub record Passed (text : List ℕ) (len : ℕ) (rest : List ℕ) : Type 0 where
  pub front : List ℕ
  pub is : text ≡ front ++ rest
  pub counted : len ≡ length front
  pub passes : (more : List ℕ) → BeginsNone more → (is_mark more ≡ true → is_mark rest ≡ true) → BeginsNone (front ++ more)

pub none_passed : (text : List ℕ) → Passed text 0 text
none_passed text = record { front = []; is = refl; counted = refl; passes = λ more none mark. none }

longer : (text front rest line others : List ℕ) → text ≡ front ++ rest → rest ≡ line ++ 10 ∷ others → text ≡ (front ++ (line ++ 10 ∷ [])) ++ others
longer text front rest line others is cut =
    is ∙ ap (λ (l : List ℕ). front ++ l) (cut ∙ sym (append_assoc line (10 ∷ []) others)) ∙ sym (append_assoc front (line ++ 10 ∷ []) others)

counted_on : (len : ℕ) (front line : List ℕ) → len ≡ length front → len + (length line + 1) ≡ length (front ++ (line ++ 10 ∷ []))
counted_on len front line is = omega (arith, is, length-append front (line ++ 10 ∷ []), length-append line (10 ∷ []))

-- one more line, after which none begins
pub line_passed : (text : List ℕ) (len : ℕ) (rest line others : List ℕ) → Passed text len rest → rest ≡ line ++ 10 ∷ others → Lacks 10 line → is_mark others ≡ false
    → Passed text (len + (length line + 1)) others
line_passed text len rest line others h cut lacks mark = record {
  front = h.front ++ (line ++ 10 ∷ []);
  is = longer text h.front rest line others h.is cut;
  counted = counted_on len h.front line h.counted;
  passes = λ more none same.
      let unmarked : is_mark more ≡ false = false_from_ne_true (is_mark more) (λ m. true_false (is_mark others) (same m) mark) in
      let passed : BeginsNone (h.front ++ (line ++ 10 ∷ more)) =
      h.passes (line ++ 10 ∷ more) (after_line line more lacks unmarked none) (λ m. ap is_mark cut ∙ same_mark line others more ∙ m) in
      let there : (h.front ++ (line ++ 10 ∷ [])) ++ more ≡ h.front ++ (line ++ 10 ∷ more) =
      append_assoc h.front (line ++ 10 ∷ []) more ∙ ap (λ (l : List ℕ). h.front ++ l) (append_assoc line (10 ∷ []) more) in
      subst BeginsNone (sym there) passed;
}

-- if a mark follows, the text is cut
pub line_cuts : (text : List ℕ) (len end : ℕ) (rest line others : List ℕ) → Passed text len rest → rest ≡ line ++ 10 ∷ others → Lacks 10 line → is_mark others ≡ true → end ≡ len + (length line + 1)
    → IsCut text (take end text) others
line_cuts text len end rest line others h cut lacks mark at =
    subst (λ (l : List ℕ). IsCut text l others) (sym front_is) (record {
      is = longer text h.front rest line others h.is cut;
      ends = (h.front ++ line, sym (append_assoc h.front line (10 ∷ [])));
      one = h.passes (line ++ 10 ∷ []) (after_line line [] lacks refl tt) (λ m. ap is_mark cut ∙ same_mark line others [] ∙ m);
      next = mark;
    })
  where
    front_is : take end text ≡ h.front ++ (line ++ 10 ∷ [])
    front_is =
        ap (λ (n : ℕ). take n text) (at ∙ counted_on len h.front line h.counted)
        ∙ ap (λ (l : List ℕ). take (length (h.front ++ (line ++ 10 ∷ []))) l) (longer text h.front rest line others h.is cut)
        ∙ take-append_seam (h.front ++ (line ++ 10 ∷ [])) others

-- if no line is left, none begins
pub none_begins : (text : List ℕ) (len : ℕ) (rest : List ℕ) → Passed text len rest → Lacks 10 rest → BeginsNone text
none_begins text len rest h lacks = subst BeginsNone (sym h.is) (h.passes rest (lacks_none rest lacks) (λ m. m))
