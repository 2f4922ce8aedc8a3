-- What is known of a log.
use Rattle.std.specs.Prelude.{Some, slice_get}
use Rattle.std.proofs.Common.{◌≡◌, ℕ, zero, suc, get_or, ◌+◌, ◌-◌, ◌<◌, ◌≤◌, ◌^◌, List, [], ◌∷◌, ◌++◌, length, take, drop, sym, ap, ◌∙◌, subst, arith, length-append, append_assoc}
use Rattle.std.proofs.Math.Seq.{drop-append_seam}
use Rattle.std.proofs.lemmas.List.{drop_all, take_more}
use Rattle.hx_journal.specs.Lines.{lines_of, text_of}
use Rattle.hx_journal.proofs.Lines.{lines_of-text}
use Rattle.hx_fenced_log.specs.declared.terms.head.Head.{Head}
use Rattle.hx_fenced_log.specs.Lines.{IsOfLog}
use Rattle.hx_fenced_log.specs.Records.{Record}
use Rattle.hx_fenced_log.proofs.Fronts.{are_lines}
use Rattle.hx_fenced_log.specs.Logs.{AreNumbered}
use Rattle.hx_fenced_log.proofs.Standing.{numbered_push}
use Rattle.hx_etcd_log.specs.Notes.{record_of}
use Rattle.hx_etcd_log.specs.Inside.{IsTelling}

-- ---- records

-- a record is its head and the text of its lines
pub same_lines : (a : Record) → IsOfLog a → lines_of (text_of a.lines) ≡ a.lines
same_lines a h = lines_of-text a.lines (are_lines a.lines h.lines)

pub same_record : (a b : Record) → IsOfLog a → IsOfLog b → a.head ≡ b.head → text_of a.lines ≡ text_of b.lines → a ≡ b
same_record a b good fine head text =
    let lines : a.lines ≡ b.lines = sym (same_lines a good) ∙ ap lines_of text ∙ same_lines b fine in
    λ i. record { head = head i; lines = lines i }

-- a record as it is noted
pub noted_record : (r : Record) (h : Head) (text none : List ℕ) → h ≡ r.head → text ≡ text_of r.lines → IsOfLog r
    → record_of ((h.number ∷ h.term ∷ h.writer ∷ h.index ∷ []), text, none) ≡ r
noted_record r h text none head is good =
    let lines : lines_of text ≡ r.lines = ap lines_of is ∙ same_lines r good in
    λ i. record { head = head i; lines = lines i }

-- one more record is noted
pub noted_more : (before old now records : List Record) (i : ℕ) (r : Record) → i < length records → r ≡ get_or records i r → old ≡ before ++ take i records → now ≡ old ++ r ∷ []
    → now ≡ before ++ take (i + 1) records
noted_more before old now records i r lt is old_is now_is =
    now_is
    ∙ ap (λ (l : List Record). l ++ r ∷ []) old_is
    ∙ append_assoc before (take i records) (r ∷ [])
    ∙ ap (λ (l : List Record). before ++ l) (ap (λ (x : Record). take i records ++ x ∷ []) is ∙ sym (take_more records i r lt))

-- ---- numbers

number_at : (n i : ℕ) (rs : List Record) (r : Record) → AreNumbered n rs → Some r ≡ slice_get rs i → (r.head.number ≡ n + i) × (0 < length rs)
number_at n i [] r h is = absurd (cc (is))
number_at n zero (x ∷ rs) r h is = let same : r ≡ x = cc (is) in (ap (λ (a : Record). a.head.number) same ∙ omega (arith, h.0), omega arith)
number_at n (suc i) (x ∷ rs) r h is = (omega (arith, (number_at (n + 1) i rs r h.1 is).0), omega arith)

pub last_number : (before : ℕ) (rs : List Record) (r : Record) → AreNumbered (before + 1) rs → Some r ≡ slice_get rs (length rs - 1) → r.head.number ≡ before + length rs
last_number before rs r h is = let at = number_at (before + 1) (length rs - 1) rs r h is in omega (arith, at.0, at.1)

numbered_from : (m n : ℕ) (rs : List Record) → m ≡ n → AreNumbered m rs → AreNumbered n rs
numbered_from m n rs e h = subst (λ (k : ℕ). AreNumbered k rs) e h

pub numbered_append : (n : ℕ) (rs more : List Record) → AreNumbered n rs → AreNumbered (n + length rs) more → AreNumbered n (rs ++ more)
numbered_append n [] more h k = numbered_from (n + 0) n more (omega arith) k
numbered_append n (r ∷ rs) more h k = (h.0, numbered_append (n + 1) rs more h.1 (numbered_from _ _ more (omega arith) k))

-- ---- what is reported

one_known : (records page : List Record) (count : ℕ) (r : Record) → IsTelling records count page → r.head.number ≡ length records + 1 → r.head.number < 10 ^ 14
    → IsTelling (records ++ r ∷ []) r.head.number []
one_known records page count r h number few =
    let size : length (records ++ r ∷ []) ≡ length records + 1 = length-append records (r ∷ []) in
    let all : length (records ++ r ∷ []) ≤ r.head.number - 0 = omega (arith, size, number) in
    record {
      counted = number ∙ sym size;
      few = few;
      numbered = numbered_push 1 records r h.numbered (omega (arith, number));
      within = omega arith;
      last = sym (drop_all (r.head.number - 0) (records ++ r ∷ []) all);
    }

pub one_reported : (records page all rest : List Record) (count now : ℕ) (r : Record) → IsTelling records count page → r.head.number ≡ length records + 1 → r.head.number < 10 ^ 14
    → now ≡ r.head.number → all ≡ records ++ r ∷ [] → rest ≡ [] → IsTelling all now rest
one_reported records page all rest count now r h number few now_is all_is rest_is =
    let known : IsTelling (records ++ r ∷ []) r.head.number [] = one_known records page count r h number few in
    subst (λ (l : List Record). IsTelling l now rest) (sym all_is)
    (subst (λ (n : ℕ). IsTelling (records ++ r ∷ []) n rest) (sym now_is)
    (subst (λ (l : List Record). IsTelling (records ++ r ∷ []) r.head.number l) (sym rest_is) known))

page_known : (records page more : List Record) (count now : ℕ) → IsTelling records count page → AreNumbered (length records + 1) more → now ≡ count + length more → now < 10 ^ 14
    → IsTelling (records ++ more) now more
page_known records page more count now h numbered is few =
    let index : now - length more ≡ length records = omega (arith, is, h.counted) in
    record {
      counted = omega (arith, is, h.counted, length-append records more);
      few = few;
      numbered = numbered_append 1 records more h.numbered (numbered_from _ _ more (omega arith) numbered);
      within = omega (arith, is);
      last = sym (ap (λ (k : ℕ). drop k (records ++ more)) index ∙ drop-append_seam records more);
    }

pub page_reported : (records page more all : List Record) (count now : ℕ) → IsTelling records count page → AreNumbered (length records + 1) more → now ≡ count + length more → now < 10 ^ 14
    → all ≡ records ++ more → IsTelling all now more
page_reported records page more all count now h numbered is few all_is =
    subst (λ (l : List Record). IsTelling l now more) (sym all_is) (page_known records page more count now h numbered is few)
