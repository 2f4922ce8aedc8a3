-- What the calls of a journal and of a reader leave.
use Rattle.std.specs.Prelude.{Result, Ok, Err, IfOk, OnOk, OnErr, Option, None, Some, is_some, false}
use Rattle.std.proofs.Common.{◌≡◌, ℕ, ◌<◌, ◌≤◌, List, [], ◌∷◌, ◌++◌, length, refl, sym, ap, ◌∙◌, subst, append_assoc, arith}
use Rattle.std.proofs.lemmas.List.{append-nil}
use mathlib.Core.List.{IsPrefix}
use Rattle.hx_journal.specs.Lines.{text_of, lines_of}
use Rattle.hx_journal.specs.Records.{IsRecord}
use Rattle.hx_journal.specs.Crashes.{Leaves}
use Rattle.hx_journal.proofs.Lines.{lines_of-text, text_of-append}
use Rattle.hx_fenced_log.specs.Lines.{AreTapeLines}
use Rattle.hx_fenced_log.specs.Records.{Record}
use Rattle.hx_fenced_log.proofs.Fronts.{are_lines, are_append}
use Rattle.hx_fenced_log.specs.WriterFaults.{IsKeepFault}
use Rattle.hx_fenced_log.specs.declared.log.error.KeepError.{KeepError}
use Rattle.hx_fenced_log.specs.declared.log.writer.LogWriter.{LogWriter}
use Rattle.hx_fenced_log.specs.Writers.{IsAt, Follows, Keeps}
use Rattle.hx_fenced_log.specs.JournalStates.{count_read, read_of, HasRead, taken_of, TellsMore, IsActive}
use Rattle.hx_fenced_log.specs.JournalFaults.{IsClosedBy}
use Rattle.hx_fenced_log.specs.Stops.{IsLeftSince}
use Rattle.hx_fenced_log.proofs.Known.{number_is, still_read, same_taken, tells_more, read_on, durable_read, durable_is, durable_lines, durable_taken, durable_count, durable_writer}
use Rattle.hx_fenced_log.proofs.Leaving.{unmoved_leaves, durable_leaves}
use Rattle.hx_units.proofs.Prefixes.{prefix_self}

-- ---- a reader that reads on

module _ (old new : List Record) (a b : LogWriter) (h : HasRead old a.reading) (grows : IsPrefix old new) where
  pub same_writer_read : b ≡ a → HasRead new b.reading
  same_writer_read same = subst (λ (w : LogWriter). HasRead new w.reading) (sym same) (still_read old new a.reading grows h)

  pub same_writer_taken : b ≡ a → taken_of new b.reading ≡ taken_of old a.reading
  same_writer_taken same = ap (λ (w : LogWriter). taken_of new w.reading) same ∙ same_taken old new a.reading grows h

  pub followed : {T E : Type 0} (result : Result T E) (items : T → List ℕ) → IfOk result (λ t. (known : List Record) → IsAt old known a.reading → Follows new known a.reading b.reading (items t)) → OnErr result (b ≡ a) → HasRead new b.reading
  followed (Ok t) items ok err = read_on old new a.reading b.reading (items t) h (ok (read_of old a.reading) h)
  followed (Err e) items ok err = same_writer_read err

  pub tells : {T E : Type 0} (result : Result T E) (items : T → List ℕ) → IfOk result (λ t. (known : List Record) → IsAt old known a.reading → Follows new known a.reading b.reading (items t))
      → IfOk result (λ t. TellsMore (taken_of old a.reading) (taken_of new b.reading) (items t))
  tells (Ok t) items ok = tells_more old new a.reading b.reading (items t) h (ok (read_of old a.reading) h)
  tells (Err e) items ok = tt

  -- a reader that has read no more records read all that stood there
  pub none_more : {T E : Type 0} (result : Result T E) (items : T → List ℕ) → IfOk result (λ t. (known : List Record) → IsAt old known a.reading → Follows new known a.reading b.reading (items t))
      → OnOk result (b.reading.number ≡ a.reading.number → length old < a.reading.number)
      → OnOk result (count_read b.reading ≡ count_read a.reading → length old ≤ count_read a.reading)
  none_more (Ok t) items ok some = λ same.
      let now = number_is new b.reading (read_on old new a.reading b.reading (items t) h (ok (read_of old a.reading) h)) in
      let before = number_is old a.reading h in
      omega (arith, before, some (omega (arith, before, now, same)))
  none_more (Err e) items ok some = tt

  pub tells_same : {T E : Type 0} (result : Result T E) → OnErr result (b ≡ a) → OnErr result (taken_of new b.reading ≡ taken_of old a.reading)
  tells_same (Ok t) err = tt
  tells_same (Err e) err = same_writer_taken err

-- ---- a line that is appended

-- a line more is a text more
text_more : (lines : List (List ℕ)) (line : List ℕ) → text_of (lines ++ line ∷ []) ≡ text_of lines ++ line ++ 10 ∷ []
text_more lines line = text_of-append lines (line ∷ []) ∙ sym (append_assoc (text_of lines) line (10 ∷ []))

pub line_added : (text line : List ℕ) → text ≡ text_of (lines_of text) → AreTapeLines (lines_of text) → IsRecord line → lines_of (text ++ line ++ 10 ∷ []) ≡ lines_of text ++ line ∷ []
line_added text line is lines good =
    let all = lines_of text ++ line ∷ [] in
    ap (λ (l : List ℕ). lines_of (l ++ line ++ 10 ∷ [])) is
    ∙ ap lines_of (sym (text_more (lines_of text) line))
    ∙ lines_of-text all (are_lines all (are_append (lines_of text) (line ∷ []) lines (good, tt)))

pub appends : (log : List Record) (w : LogWriter) (text line more : List ℕ) → IsActive log w text → IsRecord line → more ≡ text ++ line ++ 10 ∷ [] → IsActive log w more
appends log w text line more h good is =
    let added : lines_of more ≡ lines_of text ++ line ∷ [] = ap lines_of is ∙ line_added text line h.text_is h.lines good in
    record {
      read = h.read;
      active = h.active;
      text_is = is ∙ ap (λ (l : List ℕ). l ++ line ++ 10 ∷ []) h.text_is ∙ sym (text_more (lines_of text) line) ∙ ap text_of (sym added);
      lines = subst AreTapeLines (sym added) (are_append (lines_of text) (line ∷ []) h.lines (good, tt));
    }

pub appended_more : (before : List (List ℕ)) (log : List Record) (w : LogWriter) (text line more : List ℕ) → IsActive log w text → IsRecord line → more ≡ text ++ line ++ 10 ∷ [] → before ++ lines_of more ≡ (before ++ lines_of text) ++ line ∷ []
appended_more before log w text line more h good is =
    ap (λ (l : List (List ℕ)). before ++ l) (ap lines_of is ∙ line_added text line h.text_is h.lines good)
    ∙ sym (append_assoc before (lines_of text) (line ∷ []))

pub append_leaves : (log : List Record) (w : LogWriter) (text line more : List ℕ) → IsActive log w text → IsRecord line → more ≡ text ++ line ++ 10 ∷ []
    → Leaves (count_read w.reading) (count_read w.reading) (IsLeftSince log w (lines_of text)) (IsLeftSince log w (lines_of more)) (taken_of log w.reading) ((taken_of log w.reading ++ lines_of text) ++ line ∷ [])
append_leaves log w text line more h good is =
    let durable = taken_of log w.reading in
    unmoved_leaves log log w (lines_of text) (lines_of more) ((durable ++ lines_of text) ++ line ∷ []) h.read (prefix_self log) h.active
    (subst (λ (l : List (List ℕ)). IsPrefix (durable ++ lines_of more) l) (appended_more durable log w text line more h good is) (prefix_self (durable ++ lines_of more)))

-- ---- a `keep` that failed

module _ (old new : List Record) (a b : LogWriter) (text : List ℕ) (h : IsActive old a text) (grows : IsPrefix old new) (same : b ≡ a) where
  pub still_active : IsActive new b text
  still_active = record {
    read = same_writer_read old new a b h.read grows same;
    active = ap (λ (w : LogWriter). w.reading.writer) same ∙ h.active ∙ ap (λ (w : LogWriter). w.writer) (sym same);
    text_is = h.text_is;
    lines = h.lines;
  }

  pub still_durable : taken_of new b.reading ≡ taken_of old a.reading
  still_durable = same_writer_taken old new a b h.read grows same

  pub refused_leaves : Leaves (count_read a.reading) (count_read b.reading) (IsLeftSince old a (lines_of text)) (IsLeftSince new b (lines_of text)) (taken_of old a.reading) (taken_of old a.reading ++ lines_of text)
  refused_leaves =
      let durable = taken_of old a.reading in
      subst (λ (w : LogWriter). Leaves (count_read a.reading) (count_read w.reading) (IsLeftSince old a (lines_of text)) (IsLeftSince new w (lines_of text)) durable (durable ++ lines_of text)) (sym same)
      (unmoved_leaves old new a (lines_of text) (lines_of text) (durable ++ lines_of text) h.read grows h.active (prefix_self (durable ++ lines_of text)))

-- ---- a `keep` that is Ok

module _ (old new : List Record) (a b : LogWriter) (text none : List ℕ) (h : IsActive old a text) (grows : IsPrefix old new) (who : b.writer ≡ a.writer)
    (copy : List ℕ) (copied : copy ≡ text) (keeps : Keeps new (read_of old a.reading) a b copy) (cleared : none ≡ []) where
  it : Keeps new (read_of old a.reading) a b text
  it = subst (λ (t : List ℕ). Keeps new (read_of old a.reading) a b t) copied keeps

  pub stays_active : IsActive new b none
  stays_active = record {
    read = durable_read old new a b text it;
    active = durable_writer old new a b text it h.read who;
    text_is = subst (λ (l : List ℕ). l ≡ text_of (lines_of l)) (sym cleared) refl;
    lines = subst (λ (l : List ℕ). AreTapeLines (lines_of l)) (sym cleared) tt;
  }

  pub keeps_more : taken_of new b.reading ≡ taken_of old a.reading ++ lines_of text
  keeps_more = durable_taken old new a b text it

  pub keeps_all : taken_of new b.reading ++ lines_of none ≡ taken_of old a.reading ++ lines_of text
  keeps_all = ap (λ (l : List ℕ). taken_of new b.reading ++ lines_of l) cleared ∙ append-nil (taken_of new b.reading) ∙ keeps_more

  pub keeps_leaves : Leaves (count_read a.reading) (count_read b.reading) (IsLeftSince old a (lines_of text)) (IsLeftSince new b (lines_of none)) (taken_of old a.reading) (taken_of old a.reading ++ lines_of text)
  keeps_leaves =
      let durable = taken_of old a.reading in
      let lines = durable_lines old new a b text it h.text_is in
      subst (λ (l : List ℕ). Leaves (count_read a.reading) (count_read b.reading) (IsLeftSince old a (lines_of text)) (IsLeftSince new b (lines_of l)) durable (durable ++ lines_of text)) (sym cleared)
      (durable_leaves old new a b (lines_of text) it.durable h.read grows h.active who (durable_read old new a b text it) (durable_writer old new a b text it h.read who) (durable_is old new a b text it)
      (durable_count old new a b text it h.read) lines keeps_more)

-- ---- a fault

none_of : (fault : Option KeepError) → is_some fault ≡ false → fault ≡ None
none_of None e = refl
none_of (Some error) e = absurd (cc (e))

pub closed_by : (before later : List Record) (w : LogWriter) (text copy : List ℕ) (old : Option KeepError) (error : KeepError) → text ≡ text_of (lines_of text) → copy ≡ text → is_some old ≡ false → IsKeepFault before later w copy error
    → IsClosedBy before later w (text_of (lines_of text)) old (Some error)
closed_by before later w text copy old error is copied unclosed reason = record {
  error = error;
  was_open = none_of old unclosed;
  fault = refl;
  reason = subst (λ (l : List ℕ). IsKeepFault before later w l error) (copied ∙ is) reason;
}
