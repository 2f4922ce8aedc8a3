-- What a process may report after its calls.
use Rattle.std.proofs.Common.{◌≡◌, inl, inr, ℕ, List, [], ◌∷◌, ◌++◌, refl, sym, ap, ◌∙◌, subst, append_assoc}
use Rattle.std.proofs.lemmas.List.{append-nil}
use mathlib.Core.List.{IsPrefix}
use Rattle.hx_journal.specs.Lines.{text_of}
use Rattle.hx_journal.proofs.Lines.{text_of-append}
use Rattle.hx_fenced_log.specs.declared.terms.reading.Reading.{Reading}
use Rattle.hx_fenced_log.specs.Records.{Record}
use Rattle.hx_fenced_log.specs.Terms.{start, taken}
use Rattle.hx_fenced_log.proofs.Taking.{one_is_ahead, two_beginnings}
use Rattle.hx_fenced_log.specs.declared.log.writer.LogWriter.{LogWriter}
use Rattle.hx_fenced_log.specs.Writers.{IsAt}
use Rattle.hx_fenced_log.specs.Calls.{Call, Followed, Durable, TookOver, Failed, text_by, Does, Called, AreCalls, log_after, text_of_calls, HasReported}
use Rattle.hx_fenced_log.specs.LogLaws.{NoneIsReportedOtherwise, OneTakesFirst, WhatIsReadStands}
use Rattle.hx_units.proofs.Prefixes.{prefix_trans}

-- how far a log is read, and the text that may be reported of it
record MayTell (log : List Record) (at : Reading) (text : List ℕ) : Type 0 where
  known : List Record
  is_at : IsAt log known at
  is : text ≡ text_of (taken start known)

-- the text of a log's first records
record IsOfFront (log : List Record) (text : List ℕ) : Type 0 where
  known : List Record
  begins : IsPrefix known log
  is : text ≡ text_of (taken start known)

pub stands_on : WhatIsReadStands
stands_on earlier later known at grows h = record { begins = prefix_trans known earlier later h.begins grows; reading = h.reading }

-- these lines, too, may be reported
reported_on : (known : List Record) (text more : List ℕ) (all : List Record) (lines : List (List ℕ)) → text ≡ text_of (taken start known) → more ≡ text_of lines → taken start all ≡ taken start known ++ lines
    → text ++ more ≡ text_of (taken start all)
reported_on known text more all lines is more_is reported =
    ap (λ (l : List ℕ). l ++ more) is
    ∙ ap (λ (l : List ℕ). text_of (taken start known) ++ l) more_is
    ∙ sym (text_of-append (taken start known) lines)
    ∙ ap text_of (sym reported)

one_call : (log before rest_after : List Record) (old new : LogWriter) (call : Call) (text : List ℕ) → MayTell log old.reading text → IsPrefix log before → IsPrefix before rest_after → Does before rest_after old new call
    → MayTell rest_after new.reading (text ++ text_by call)
one_call log before rest_after old new (Followed more) text h waits grows does =
    let f = does h.known (stands_on log before h.known old.reading waits h.is_at) in
    record { known = h.known ++ f.more; is_at = f.at; is = reported_on h.known text more (h.known ++ f.more) (taken old.reading f.more) h.is f.text_is f.reported }
one_call log before rest_after old new (Durable more) text h waits grows does =
    let k = does h.known (stands_on log before h.known old.reading waits h.is_at) in
    record { known = h.known ++ k.durable ∷ []; is_at = k.at; is = reported_on h.known text more (h.known ++ k.durable ∷ []) k.durable.lines h.is k.text_is k.reported }
one_call log before rest_after old new TookOver text h waits grows does =
    let t = does h.known (stands_on log before h.known old.reading waits h.is_at) in
    record { known = h.known ++ t.durable ∷ []; is_at = t.at; is = append-nil text ∙ h.is ∙ ap text_of (sym t.reported) }
one_call log before rest_after old new Failed text h waits grows does =
    let here = stands_on log rest_after h.known old.reading (prefix_trans log before rest_after waits grows) h.is_at in
    record {
      known = h.known;
      is_at = subst (λ (w : LogWriter). IsAt rest_after h.known w.reading) (sym does) here;
      is = append-nil text ∙ h.is;
    }

all_calls : (log : List Record) (writer : LogWriter) (calls : List Called) (text : List ℕ) → MayTell log writer.reading text → AreCalls log writer calls → IsOfFront (log_after log calls) (text ++ text_of_calls calls)
all_calls log writer [] text h are = record { known = h.known; begins = h.is_at.begins; is = append-nil text ∙ h.is }
all_calls log writer (c ∷ calls) text h are =
    let next = one_call log c.before c.later writer c.writer c.call text h are.0 are.1 are.2 in
    let rest = all_calls c.later c.writer calls (text ++ text_by c.call) next are.3 in
    record { known = rest.known; begins = rest.begins; is = sym (append_assoc text (text_by c.call) (text_of_calls calls)) ∙ rest.is }

-- what is reported begins what may be reported of the log
record IsReported (committed : List Record) (reported : List ℕ) : Type 0 where
  known : List Record
  begins : IsPrefix known committed
  is : IsPrefix reported (text_of (taken start known))

reported_of : (committed : List Record) (reported : List ℕ) → HasReported committed reported → IsReported committed reported
reported_of committed reported h =
    let none : MayTell [] h.writer.reading [] = record { known = []; is_at = record { begins = ([], refl); reading = h.began }; is = refl } in
    let all = all_calls [] h.writer h.calls [] none h.are_calls in
    record {
      known = all.known;
      begins = prefix_trans all.known (log_after [] h.calls) committed all.begins h.of_log;
      is = subst (λ (l : List ℕ). IsPrefix reported l) all.is h.reported_is;
    }

text_begins : (a b : List (List ℕ)) → IsPrefix a b → IsPrefix (text_of a) (text_of b)
text_begins a b p = (text_of p.0, sym (text_of-append a p.0) ∙ ap text_of p.1)

pub one_takes_first : OneTakesFirst
one_takes_first committed known1 known2 p q = one_is_ahead start known1 known2 committed p q

pub none_otherwise : NoneIsReportedOtherwise
none_otherwise committed one other p q =
    let a = reported_of committed one p in
    let b = reported_of committed other q in
    let one_text = text_of (taken start a.known) in
    let other_text = text_of (taken start b.known) in
    elim (one_takes_first committed a.known b.known a.begins b.begins) [
      | inl before ↦ two_beginnings one other other_text (prefix_trans one one_text other_text a.is (text_begins (taken start a.known) (taken start b.known) before)) b.is
      | inr before ↦ two_beginnings one other one_text a.is (prefix_trans other other_text one_text b.is (text_begins (taken start b.known) (taken start a.known) before))
    ]
