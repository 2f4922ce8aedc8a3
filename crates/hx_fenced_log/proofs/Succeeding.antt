-- What the next active writer has read.
use Rattle.std.proofs.Common.{◌≡◌, inl, inr, ℕ, ◌≤◌, List, ◌++◌, take, drop, sym, ap, ◌∙◌, subst, arith}
use Rattle.std.proofs.lemmas.List.{take-append-drop, take-take, get_or_past}
use mathlib.Core.List.{IsPrefix}
use Rattle.std.specs.List.{AllByRecursion}
use Rattle.hx_fenced_log.specs.declared.terms.reading.Reading.{Reading}
use Rattle.hx_fenced_log.specs.Records.{Record}
use Rattle.hx_fenced_log.specs.Terms.{start, after_all, taken}
use Rattle.hx_fenced_log.proofs.Taking.{taken_grows, two_beginnings}
use Rattle.hx_fenced_log.proofs.Standing.{after_more}
use Rattle.hx_fenced_log.specs.JournalStates.{count_read, read_of, HasRead, taken_of}
use Rattle.hx_fenced_log.specs.Stops.{next_record, IsSentIfOwn, IsLeft, sent_then}
use Rattle.hx_fenced_log.specs.JournalLaws.{NothingDurableIsLost, TheNextReadsWhatIsLeft}
use Rattle.hx_fenced_log.proofs.Known.{many_read}
use Rattle.hx_fenced_log.proofs.Leaving.{rise}

-- a reader that has read more stands in no earlier term
no_earlier_term : (log : List Record) (less more : Reading) → HasRead log less → HasRead log more → IsPrefix (read_of log less) (read_of log more) → less.term ≤ more.term
no_earlier_term log less more h k p =
    let on : after_all start (read_of log more) ≡ after_all (after_all start (read_of log less)) p.0 = ap (after_all start) (sym p.1) ∙ after_more start (read_of log less) p.0 in
    omega (arith, rise (after_all start (read_of log less)) p.0, ap (λ (r : Reading). r.term) on, ap (λ (r : Reading). r.term) h.reading, ap (λ (r : Reading). r.term) k.reading)

pub nothing_lost : NothingDurableIsLost
nothing_lost log earlier later h k lt = elim (two_beginnings (read_of log earlier) (read_of log later) log h.begins k.begins) [
  | inl first ↦ taken_grows start (read_of log earlier) (read_of log later) first
  | inr other ↦ absurd (omega (arith, lt, no_earlier_term log later earlier k h other))
]

pub next_reads : TheNextReadsWhatIsLeft
next_reads log w waiting next h k same further own =
    let count = count_read w.reading in
    let read = read_of log w.reading in
    let all = read_of log next in
    let size = many_read log read w.reading h in
    let front : take count all ≡ read = take-take count (count_read next) log further in
    let parts : read ++ drop count all ≡ all = ap (λ (l : List Record). l ++ drop count all) (sym front) ∙ take-append-drop count all in
    let here : (after_all start read).term ≡ w.reading.term = ap (λ (r : Reading). r.term) (sym h.reading) in
    let there : (after_all start (read ++ drop count all)).term ≡ next.term = ap (λ (l : List Record). (after_all start l).term) parts ∙ ap (λ (r : Reading). r.term) (sym k.reading) in
    let sent : next_record w.reading waiting ≡ sent_then log w.reading waiting count = sym (get_or_past read count (next_record w.reading waiting) (omega (arith, size))) in
    let left : IsLeft w.writer read (next_record w.reading waiting) (taken_of log next) = record {
      others = drop count all;
      same_term = there ∙ same ∙ sym here;
      own = subst (λ (t : ℕ). AllByRecursion (IsSentIfOwn w.writer t (next_record w.reading waiting)) (drop count all)) (sym here) own;
      is = ap (taken start) (sym parts);
    } in
    record {
      count = count;
      since = omega arith;
      until = omega arith;
      left = subst (λ (r : Record). IsLeft w.writer read r (taken_of log next)) sent left;
    }
