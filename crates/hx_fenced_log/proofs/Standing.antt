-- What stands in a log, and how far it is read.
use Rattle.std.proofs.Common.{◌≡◌, ◌≢◌, ◌&&◌, ◌||◌, eqb, ltb, ℕ, zero, suc, ◌+◌, ◌-◌, ◌<◌, ◌≤◌, List, [], ◌∷◌, ◌++◌, length, take, drop, get_or, Bool, true, false, cond, refl, sym, ap, ◌∙◌, subst, arith, append_assoc}
use Rattle.std.proofs.lemmas.Bool.Decides.{nat_tests}
use Rattle.std.proofs.lemmas.List.{append-nil, length-take-le, take_more}
use Rattle.std.specs.Prelude.{Result, Ok, Err, OnOk}
use mathlib.Core.List.{IsPrefix}
use Rattle.hx_journal.specs.Lines.{text_of}
use Rattle.hx_journal.proofs.Lines.{text_of-append}
use Rattle.hx_journal.proofs.Recovery.{no_text}
use Rattle.hx_fenced_log.specs.declared.terms.head.Head.{Head}
use Rattle.hx_fenced_log.specs.declared.terms.reading.Reading.{Reading}
use Rattle.hx_fenced_log.specs.declared.terms.reading.Verdict.{Verdict}
use Rattle.hx_fenced_log.specs.declared.terms.reading.Verdict.TheVariants as verdict
use Rattle.hx_fenced_log.specs.declared.terms.record.RecordError.TheVariants as lines
use Rattle.hx_fenced_log.specs.Lines.{AreTapeLines}
use Rattle.hx_fenced_log.specs.Records.{Record}
use Rattle.hx_fenced_log.specs.Terms.{IsReason, is_later, is_by_who_stands, counts, start, after, after_all, taking, passing, taken, next_of, takeover_of}
use Rattle.hx_fenced_log.proofs.Fronts.{are_append}
use Rattle.hx_fenced_log.proofs.Taking.{next_counts, takeover_counts, after-counted, taken_append}
use Rattle.hx_fenced_log.specs.declared.log.writer.LogWriter.{LogWriter}
use Rattle.hx_fenced_log.specs.Logs.{AreNumbered, Stands}
use Rattle.hx_fenced_log.specs.Writers.{IsAt, Follows, Keeps, TakesOver}
use Rattle.hx_fenced_log.specs.declared.log.error.LogError.TheVariants as refusal
use Rattle.hx_fenced_log.specs.declared.log.error.KeepError.TheVariants as fault
use Rattle.hx_units.proofs.Prefixes.{prefix_trans}

-- ---- numbers

pub numbered_push : (n : ℕ) (rs : List Record) (r : Record) → AreNumbered n rs → r.head.number ≡ n + length rs → AreNumbered n (rs ++ r ∷ [])
numbered_push n [] r h e = (omega (arith, e), tt)
numbered_push n (x ∷ rs) r h e = (h.0, numbered_push (n + 1) rs r h.1 (omega (arith, e)))

pub numbered_drop : (n k : ℕ) (rs : List Record) → AreNumbered n rs → AreNumbered (n + k) (drop k rs)
numbered_drop n zero rs h = let same : n ≡ n + zero = omega arith in subst (λ (m : ℕ). AreNumbered m rs) same h
numbered_drop n (suc k) [] h = tt
numbered_drop n (suc k) (r ∷ rs) h =
    let same : n + 1 + k ≡ n + suc k = omega arith in
    subst (λ (m : ℕ). AreNumbered m (drop k rs)) same (numbered_drop (n + 1) k rs h.1)

pub numbered_at : (n i : ℕ) (rs : List Record) (d : Record) → AreNumbered n rs → i < length rs → (get_or rs i d).head.number ≡ n + i
numbered_at n i [] d h lt = absurd (omega (arith, lt))
numbered_at n zero (r ∷ rs) d h lt = omega (arith, h.0)
numbered_at n (suc i) (r ∷ rs) d h lt = omega (arith, numbered_at (n + 1) i rs d h.1 (omega (arith, lt)))

number_after : (at : Reading) (r : Record) → (after at r).number ≡ at.number + 1
number_after at r = by_test (counts at r.head)
  where
    by_test : (b : Bool) → (cond b (taking at r) (passing at)).number ≡ at.number + 1
    by_test true = refl
    by_test false = refl

pub number_after_all : (at : Reading) (rs : List Record) → (after_all at rs).number ≡ at.number + length rs
number_after_all at [] = omega arith
number_after_all at (r ∷ rs) = omega (arith, number_after at r, number_after_all (after at r) rs)

-- ---- reading on

pub after_more : (at : Reading) (xs ys : List Record) → after_all at (xs ++ ys) ≡ after_all (after_all at xs) ys
after_more at [] ys = refl
after_more at (x ∷ xs) ys = after_more (after at x) xs ys

-- one record more is read
pub read_more : (at : Reading) (rs : List Record) (i : ℕ) (d : Record) → i < length rs → after_all at (take (i + 1) rs) ≡ after (after_all at (take i rs)) (get_or rs i d)
read_more at rs i d lt = ap (after_all at) (take_more rs i d lt) ∙ after_more at (take i rs) (get_or rs i d ∷ [])

-- its number is the one at which the reading stands
pub next_number : (at now : Reading) (rs : List Record) (i : ℕ) (d : Record) → AreNumbered at.number rs → i < length rs → now ≡ after_all at (take i rs) → (get_or rs i d).head.number ≡ now.number
next_number at now rs i d numbered lt is =
    let many : length (take i rs) ≡ i = length-take-le i rs (omega (arith, lt)) in
    let number_is : now.number ≡ at.number + length (take i rs) = ap (λ (a : Reading). a.number) is ∙ number_after_all at (take i rs) in
    omega (arith, many, number_is, numbered_at at.number i rs d numbered lt)

-- if it counts, its lines are taken
pub text_more : (at : Reading) (rs : List Record) (i : ℕ) (d : Record) (text : List ℕ) → i < length rs → counts (after_all at (take i rs)) (get_or rs i d).head ≡ true → text ≡ text_of (taken at (take i rs))
    → text ++ text_of (get_or rs i d).lines ≡ text_of (taken at (take (i + 1) rs))
text_more at rs i d text lt it_does is =
    let r = get_or rs i d in
    let front = take i rs in
    let here : taken (after_all at front) (r ∷ []) ≡ r.lines = ap (λ (b : Bool). cond b r.lines [] ++ []) it_does ∙ append-nil r.lines in
    ap (λ (l : List ℕ). l ++ text_of r.lines) is
    ∙ sym (text_of-append (taken at front) r.lines)
    ∙ ap (λ (l : List (List ℕ)). text_of (taken at front ++ l)) (sym here)
    ∙ ap text_of (sym (taken_append at front (r ∷ [])))
    ∙ ap (λ (l : List Record). text_of (taken at l)) (sym (take_more rs i d lt))

-- if it is passed over, none are
pub text_same : (at : Reading) (rs : List Record) (i : ℕ) (d : Record) (text : List ℕ) → i < length rs → counts (after_all at (take i rs)) (get_or rs i d).head ≡ false → text ≡ text_of (taken at (take i rs))
    → text ≡ text_of (taken at (take (i + 1) rs))
text_same at rs i d text lt it_does_not is =
    let r = get_or rs i d in
    let front = take i rs in
    let here : taken (after_all at front) (r ∷ []) ≡ [] = ap (λ (b : Bool). cond b r.lines [] ++ []) it_does_not in
    is
    ∙ ap text_of (sym (append-nil (taken at front)))
    ∙ ap (λ (l : List (List ℕ)). text_of (taken at front ++ l)) (sym here)
    ∙ ap text_of (sym (taken_append at front (r ∷ [])))
    ∙ ap (λ (l : List Record). text_of (taken at l)) (sym (take_more rs i d lt))

-- whether or not, they are lines of a tape
pub lines_more : (at : Reading) (rs : List Record) (i : ℕ) (d : Record) → i < length rs → AreTapeLines (taken at (take i rs)) → AreTapeLines (get_or rs i d).lines → AreTapeLines (taken at (take (i + 1) rs))
lines_more at rs i d lt front good =
    let r = get_or rs i d in
    let read = take i rs in
    subst AreTapeLines (sym (ap (taken at) (take_more rs i d lt) ∙ taken_append at read (r ∷ [])))
    (are_append (taken at read) (taken (after_all at read) (r ∷ [])) front (are_append (cond (counts (after_all at read) r.head) r.lines []) [] (by_test (counts (after_all at read) r.head)) tt))
  where
    by_test : (b : Bool) → AreTapeLines (cond b (get_or rs i d).lines [])
    by_test true = good
    by_test false = tt

-- ---- a record of those that are read

module _ (at : Reading) (rs : List Record) (i : ℕ) (now : Reading) (r : Record) (lt : i < length rs) (is : r ≡ get_or rs i r) (now_is : now ≡ after_all at (take i rs)) where
  pub reads_on : (next : Reading) → next ≡ after now r → next ≡ after_all at (take (i + 1) rs)
  reads_on next next_is = next_is ∙ ap (λ (a : Reading). after a r) now_is ∙ ap (after (after_all at (take i rs))) is ∙ sym (read_more at rs i r lt)

  as_there : counts (after_all at (take i rs)) (get_or rs i r).head ≡ counts now r.head
  as_there = ap (λ (a : Reading). counts a (get_or rs i r).head) (sym now_is) ∙ ap (λ (x : Record). counts now x.head) (sym is)

  pub lines_on : AreTapeLines (taken at (take i rs)) → AreTapeLines r.lines → AreTapeLines (taken at (take (i + 1) rs))
  lines_on front good = lines_more at rs i r lt front (subst (λ (x : Record). AreTapeLines x.lines) is good)

  pub adds : (old new : List ℕ) → counts now r.head ≡ true → old ≡ text_of (taken at (take i rs)) → new ≡ old ++ text_of r.lines → new ≡ text_of (taken at (take (i + 1) rs))
  adds old new it_does old_is new_is = new_is ∙ ap (λ (x : Record). old ++ text_of x.lines) is ∙ text_more at rs i r old lt (as_there ∙ it_does) old_is

  pub adds_none : (old new : List ℕ) → counts now r.head ≡ false → old ≡ text_of (taken at (take i rs)) → new ≡ old → new ≡ text_of (taken at (take (i + 1) rs))
  adds_none old new it_does_not old_is new_is = new_is ∙ text_same at rs i r old lt (as_there ∙ it_does_not) old_is

-- ---- what is passed over

earlier : (p w : Bool) (a b : ℕ) → b < a → (p && (ltb a b || (eqb b a && w))) ≡ false
earlier p w a b lt = grind (arith, nat_tests)

of_another : (p : Bool) (a b x y : ℕ) → b ≡ a → x ≢ y → (p && (ltb a b || (eqb b a && eqb x y))) ≡ false
of_another p a b x y same ne = grind (arith, nat_tests)

elsewhere : (q : Bool) (x y : ℕ) → x ≢ y → (eqb x y && q) ≡ false
elsewhere q x y ne = grind (arith, nat_tests)

-- a record does not count for which there is another reason
pub is_passed_over : (at : Reading) (head : Head) (v : Verdict) → IsReason at head v → v ≢ verdict.Counts → counts at head ≡ false
is_passed_over at head verdict.Counts h ne = absurd (ne refl)
is_passed_over at head verdict.EarlierTerm h ne = earlier (eqb head.index at.index) (eqb head.writer at.writer) at.term head.term h
is_passed_over at head verdict.OtherWriter h ne = of_another (eqb head.index at.index) at.term head.term head.writer at.writer h.0 h.1
is_passed_over at head verdict.OtherIndex h ne = elsewhere (is_later at head || is_by_who_stands at head) head.index at.index h.1

-- ---- beginnings

-- two beginnings of a list that are as long are one
same_front : {A : Type 0} (a b all : List A) → IsPrefix a all → IsPrefix b all → length a ≡ length b → a ≡ b
same_front [] [] all p q e = refl
same_front [] (y ∷ b) all p q e = absurd (omega (arith, e))
same_front (x ∷ a) [] all p q e = absurd (omega (arith, e))
same_front (x ∷ a) (y ∷ b) [] p q e = absurd (cc (p.1))
same_front (x ∷ a) (y ∷ b) (z ∷ all) p q e =
    let head : x ≡ y = cc (p.1, q.1) in
    let first : IsPrefix a all = (p.0, cc (p.1)) in
    let second : IsPrefix b all = (q.0, cc (q.1)) in
    let rest = same_front a b all first second (omega (arith, e)) in
    λ i. head i ∷ rest i

front_of : {A : Type 0} (a b all : List A) → IsPrefix (a ++ b) all → IsPrefix a all
front_of a b all p = (b ++ p.0, sym (append_assoc a b p.0) ∙ p.1)

-- ---- a writer

-- the next record stands after what is read
pub durable_at : (old new known : List Record) (at now : Reading) (r : Record) → IsAt old known at → IsPrefix old new → Stands new r → r.head.number ≡ at.number → now ≡ after at r
    → IsAt new (known ++ r ∷ []) now
durable_at old new known at now r h grows stands number is =
    let number_is : at.number ≡ 1 + length known = ap (λ (a : Reading). a.number) h.reading ∙ number_after_all start known in
    let size : length known ≡ length stands.front = omega (arith, number_is, number, stands.numbered) in
    let same : known ≡ stands.front = same_front known stands.front new (prefix_trans known old new h.begins grows) (front_of stands.front (r ∷ []) new stands.is) size in
    record {
      begins = subst (λ (l : List Record). IsPrefix (l ++ r ∷ []) new) (sym same) stands.is;
      reading = is ∙ ap (λ (a : Reading). after a r) h.reading ∙ sym (after_more start known (r ∷ []));
    }

-- the lines of one more record that counts
reported_more : (known : List Record) (at : Reading) (r : Record) → at ≡ after_all start known → counts at r.head ≡ true → taken start (known ++ r ∷ []) ≡ taken start known ++ r.lines
reported_more known at r is it_does =
    taken_append start known (r ∷ [])
    ∙ ap (λ (l : List (List ℕ)). taken start known ++ l)
    (ap (λ (b : Bool). cond b r.lines [] ++ []) (ap (λ (a : Reading). counts a r.head) (sym is) ∙ it_does) ∙ append-nil r.lines)

pub keeps : (old new known : List Record) (a b : LogWriter) (r : Record) (text : List ℕ) → IsAt old known a.reading → IsPrefix old new → Stands new r → a.reading.writer ≡ a.writer → r.head ≡ next_of a.reading
    → b.reading ≡ after a.reading r → AreTapeLines r.lines → text ≡ text_of r.lines → Keeps new known a b text
keeps old new known a b r text h grows stands active head is good text_is =
    let it_does : counts a.reading r.head ≡ true = ap (counts a.reading) head ∙ next_counts a.reading in
    record {
      durable = r;
      at = durable_at old new known a.reading b.reading r h grows stands (ap (λ (k : Head). k.number) head) is;
      by = ap (λ (k : Head). k.writer) head ∙ active;
      counts_now = it_does;
      lines = good;
      text_is = text_is;
      reported = reported_more known a.reading r h.reading it_does;
    }

pub takes_over : (old new known : List Record) (a b : LogWriter) (r : Record) → IsAt old known a.reading → IsPrefix old new → Stands new r → r.head ≡ takeover_of a.writer a.reading
    → b.reading ≡ after a.reading r → b.writer ≡ a.writer → [] ≡ text_of r.lines → TakesOver new known a b
takes_over old new known a b r h grows stands head is who none =
    let it_does : counts a.reading r.head ≡ true = ap (counts a.reading) head ∙ (takeover_counts a.reading a.writer).0 in
    let now : b.reading ≡ taking a.reading r = is ∙ after-counted a.reading r it_does in
    record {
      durable = r;
      at = durable_at old new known a.reading b.reading r h grows stands (ap (λ (k : Head). k.number) head) is;
      active = ap (λ (c : Reading). c.writer) now ∙ ap (λ (k : Head). k.writer) head ∙ sym who;
      same = who;
      term = ap (λ (c : Reading). c.term) now ∙ ap (λ (k : Head). k.term) head;
      reported = reported_more known a.reading r h.reading it_does ∙ ap (λ (l : List (List ℕ)). taken start known ++ l) (no_text r.lines none) ∙ append-nil (taken start known);
    }

-- records from the next number on stand after what is read
pub follows : (old new known more : List Record) (at now : Reading) (text : List ℕ) → IsAt old known at → IsPrefix old new → IsPrefix more (drop (at.number - 1) new)
    → now ≡ after_all at more → AreTapeLines (taken at more) → text ≡ text_of (taken at more) → Follows new known at now text
follows old new known more at now text h grows later is good text_is =
    let number_is : at.number ≡ 1 + length known = ap (λ (a : Reading). a.number) h.reading ∙ number_after_all start known in
    let index : at.number - 1 ≡ length known = omega (arith, number_is) in
    let begins = prefix_trans known old new h.begins grows in
    let rest : drop (at.number - 1) new ≡ begins.0 =
    ap (λ (k : ℕ). drop k new) index ∙ ap (drop (length known)) (sym begins.1) ∙ drop_front known begins.0 in
    record {
      more = more;
      at = record {
        begins = (later.0, append_assoc known more later.0 ∙ ap (λ (l : List Record). known ++ l) (later.1 ∙ rest) ∙ begins.1);
        reading = is ∙ ap (λ (a : Reading). after_all a more) h.reading ∙ sym (after_more start known more);
      };
      lines = good;
      text_is = text_is;
      reported = taken_append start known more ∙ ap (λ (a : Reading). taken start known ++ taken a more) (sym h.reading);
    }
  where
    drop_front : (xs ys : List Record) → drop (length xs) (xs ++ ys) ≡ ys
    drop_front [] ys = refl
    drop_front (x ∷ xs) ys = drop_front xs ys

-- a reader that stands where it stood has read nothing
pub none_more : (at now : Reading) (more : List Record) → now ≡ after_all at more → now.number ≡ at.number → more ≡ []
none_more at now [] is same = refl
none_more at now (r ∷ more) is same =
    let number : now.number ≡ at.number + length (r ∷ more) = ap (λ (a : Reading). a.number) is ∙ number_after_all at (r ∷ more) in
    absurd (omega (arith, number, same))

-- ---- what goes wrong

-- ---- a log in memory

-- ---- what a call gives

pub durable_ok : {T E : Type 0} (result : Result T E) (old new : List Record) (a b : LogWriter) (r : Record) (text : List ℕ) → IsPrefix old new → a.reading.writer ≡ a.writer → r.head ≡ next_of a.reading → AreTapeLines r.lines → text ≡ text_of r.lines
    → OnOk result (b.reading ≡ after a.reading r) → OnOk result (Stands new r) → OnOk result ((known : List Record) → IsAt old known a.reading → Keeps new known a b text)
durable_ok (Ok x) old new a b r text grows active head good text_is is stands = λ known h. keeps old new known a b r text h grows stands active head is good text_is
durable_ok (Err e) old new a b r text grows active head good text_is is stands = tt

pub took_over_ok : {T E : Type 0} (result : Result T E) (old new : List Record) (a b : LogWriter) (r : Record) → IsPrefix old new → r.head ≡ takeover_of a.writer a.reading → b.writer ≡ a.writer → [] ≡ text_of r.lines
    → OnOk result (b.reading ≡ after a.reading r) → OnOk result (Stands new r) → OnOk result ((known : List Record) → IsAt old known a.reading → TakesOver new known a b)
took_over_ok (Ok x) old new a b r grows head who none is stands = λ known h. takes_over old new known a b r h grows stands head is who none
took_over_ok (Err e) old new a b r grows head who none is stands = tt
