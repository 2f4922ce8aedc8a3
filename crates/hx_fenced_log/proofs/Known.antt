-- What is read of a log as it grows.
use Rattle.std.proofs.Common.{◌≡◌, ℕ, ◌+◌, List, [], ◌∷◌, ◌++◌, length, take, true, cond, refl, sym, ap, ◌∙◌, subst, arith, length-append}
use Rattle.std.proofs.Math.Seq.{take-append_seam}
use mathlib.Core.List.{IsPrefix}
use Rattle.hx_journal.specs.Lines.{text_of, lines_of}
use Rattle.hx_journal.proofs.Lines.{lines_of-text}
use Rattle.hx_fenced_log.specs.declared.terms.reading.Reading.{Reading}
use Rattle.hx_fenced_log.specs.Records.{Record}
use Rattle.hx_fenced_log.specs.Terms.{counts, start, after_all, taking, passing, taken}
use Rattle.hx_fenced_log.proofs.Fronts.{are_lines}
use Rattle.hx_fenced_log.specs.declared.log.writer.LogWriter.{LogWriter}
use Rattle.hx_fenced_log.specs.Writers.{IsAt, Follows, Keeps, TakesOver}
use Rattle.hx_fenced_log.proofs.Standing.{after_more, number_after_all}
use Rattle.hx_fenced_log.specs.JournalStates.{count_read, read_of, HasRead, taken_of, TellsMore}
use Rattle.hx_units.proofs.Prefixes.{prefix_trans}

front_of : {A : Type 0} (xs ys : List A) → IsPrefix xs ys → take (length xs) ys ≡ xs
front_of xs ys p = ap (take (length xs)) (sym p.1) ∙ take-append_seam xs p.0

-- the number of records read is the number of records known
pub many_read : (log known : List Record) (at : Reading) → IsAt log known at → count_read at ≡ length known
many_read log known at h =
    let number_is : at.number ≡ 1 + length known = ap (λ (a : Reading). a.number) h.reading ∙ number_after_all start known in
    omega (arith, number_is)

pub number_is : (log : List Record) (at : Reading) → HasRead log at → at.number ≡ 1 + length (read_of log at)
number_is log at h = ap (λ (a : Reading). a.number) h.reading ∙ number_after_all start (read_of log at)

-- and they are those
pub read_is : (log known : List Record) (at : Reading) → IsAt log known at → read_of log at ≡ known
read_is log known at h = ap (λ (n : ℕ). take n log) (many_read log known at h) ∙ front_of known log h.begins

pub has_read : (log known : List Record) (at : Reading) → IsAt log known at → HasRead log at
has_read log known at h = subst (λ (l : List Record). IsAt log l at) (sym (read_is log known at h)) h

pub stays_at : (old new known : List Record) (at : Reading) → IsPrefix old new → IsAt old known at → IsAt new known at
stays_at old new known at grows h = record { begins = prefix_trans known old new h.begins grows; reading = h.reading }

-- a log that grows is read as far
pub still_read : (old new : List Record) (at : Reading) → IsPrefix old new → HasRead old at → HasRead new at
still_read old new at grows h = has_read new (read_of old at) at (stays_at old new (read_of old at) at grows h)

pub same_read : (old new : List Record) (at : Reading) → IsPrefix old new → HasRead old at → read_of new at ≡ read_of old at
same_read old new at grows h = read_is new (read_of old at) at (stays_at old new (read_of old at) at grows h)

pub same_taken : (old new : List Record) (at : Reading) → IsPrefix old new → HasRead old at → taken_of new at ≡ taken_of old at
same_taken old new at grows h = ap (taken start) (same_read old new at grows h)

-- if nothing is read, nothing is known
pub none_read : (log : List Record) → HasRead log start
none_read log = has_read log [] start (record { begins = (log, refl); reading = refl })

-- ---- what a writer's calls read

pub tells_more : (old new : List Record) (before now : Reading) (text : List ℕ) → HasRead old before → Follows new (read_of old before) before now text → TellsMore (taken_of old before) (taken_of new now) text
tells_more old new before now text h f = record {
  more = taken before f.more;
  now_is = ap (taken start) (read_is new (read_of old before ++ f.more) now f.at) ∙ f.reported;
  text_is = f.text_is;
  lines_are = ap lines_of f.text_is ∙ lines_of-text (taken before f.more) (are_lines (taken before f.more) f.lines);
}

pub read_on : (old new : List Record) (before now : Reading) (text : List ℕ) → HasRead old before → Follows new (read_of old before) before now text → HasRead new now
read_on old new before now text h f = has_read new (read_of old before ++ f.more) now f.at

pub took_over : (old new : List Record) (a b : LogWriter) → TakesOver new (read_of old a.reading) a b → HasRead new b.reading
took_over old new a b t = has_read new (read_of old a.reading ++ t.durable ∷ []) b.reading t.at

pub took_over_taken : (old new : List Record) (a b : LogWriter) → TakesOver new (read_of old a.reading) a b → taken_of new b.reading ≡ taken_of old a.reading
took_over_taken old new a b t = ap (taken start) (read_is new (read_of old a.reading ++ t.durable ∷ []) b.reading t.at) ∙ t.reported

-- ---- a `keep` that is Ok

module _ (old new : List Record) (a b : LogWriter) (text : List ℕ) (k : Keeps new (read_of old a.reading) a b text) where
  pub durable_read : HasRead new b.reading
  durable_read = has_read new (read_of old a.reading ++ k.durable ∷ []) b.reading k.at

  pub durable_is : read_of new b.reading ≡ read_of old a.reading ++ k.durable ∷ []
  durable_is = read_is new (read_of old a.reading ++ k.durable ∷ []) b.reading k.at

  pub durable_lines : text ≡ text_of (lines_of text) → k.durable.lines ≡ lines_of text
  durable_lines is = sym (lines_of-text k.durable.lines (are_lines k.durable.lines k.lines)) ∙ ap lines_of (sym k.text_is)

  pub durable_taken : taken_of new b.reading ≡ taken_of old a.reading ++ lines_of text
  durable_taken =
      ap (taken start) durable_is ∙ k.reported
      ∙ ap (λ (l : List (List ℕ)). taken_of old a.reading ++ l) (sym (lines_of-text k.durable.lines (are_lines k.durable.lines k.lines)) ∙ ap lines_of (sym k.text_is))

  pub durable_count : HasRead old a.reading → count_read b.reading ≡ count_read a.reading + 1
  durable_count h =
      omega (arith, many_read new (read_of old a.reading ++ k.durable ∷ []) b.reading k.at, many_read old (read_of old a.reading) a.reading h, length-append (read_of old a.reading) (k.durable ∷ []))

  -- the writer's term stands on
  pub durable_writer : HasRead old a.reading → b.writer ≡ a.writer → b.reading.writer ≡ b.writer
  durable_writer h who =
      let here : counts (after_all start (read_of old a.reading)) k.durable.head ≡ true = ap (λ (r : Reading). counts r k.durable.head) (sym h.reading) ∙ k.counts_now in
      let now : b.reading ≡ taking (after_all start (read_of old a.reading)) k.durable =
      k.at.reading ∙ after_more start (read_of old a.reading) (k.durable ∷ [])
      ∙ ap (λ t. cond t (taking (after_all start (read_of old a.reading)) k.durable) (passing (after_all start (read_of old a.reading)))) here in
      ap (λ (r : Reading). r.writer) now ∙ k.by ∙ sym who
