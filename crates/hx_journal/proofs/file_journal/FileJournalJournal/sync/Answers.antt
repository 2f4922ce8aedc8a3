use Rattle.std.proofs.Common.{◌≡◌, ◌++◌, ◌∷◌, [], List, ℕ, true, length, sym, ◌∙◌, ap, subst, arith}
use Rattle.hx_journal.specs.Lines.{IsLine, lines_of}
use Rattle.hx_journal.specs.Records.{is_mark, records_of, sealed}
use Rattle.hx_journal.specs.Crashes.{Leaves}
use Rattle.hx_journal.specs.Files.{stored, appended, HasBetween}
use Rattle.hx_journal.specs.Blocks.{left_of}
use Rattle.hx_journal.proofs.Copying.{few_of}
use Rattle.hx_journal.proofs.Appending.{block_whole, count_added, in_records, recovers_old, sealed_sync}
use Rattle.hx_journal.proofs.file_journal.FileJournalJournal.sync.Goals as goal

pub returns-then-records-eq0-clause-any_moment : goal.returns-then-records-eq0-clause-any_moment
returns-then-records-eq0-clause-any_moment g c = λ is.
    let unclosed : c.self.inside.lines.is_open ≡ true = ap (λ j. j.is_open) c.self.view_is ∙ is in
    let s = c.self.invariant unclosed in
    let it = in_records g.D.Device.moment g.D.Device.left_since c.self.inside.lines.device c.sync.new.self.device (HasBetween g.D.Device.seen c.self.inside.lines)
    (records_of (stored g.D.Device.seen c.self.inside.lines)) (records_of (appended g.D.Device.seen c.self.inside.lines)) (c.sync.ensures.any_moment unclosed)
    (λ f between. recovers_old (stored g.D.Device.seen c.self.inside.lines) c.self.inside.lines.waiting f s.whole between) in
    subst (λ j. Leaves (g.D.Device.moment j.device) (g.D.Device.moment c.sync.new.self.device) (left_of (g.D.Device.left_since j.device)) (left_of (g.D.Device.left_since c.sync.new.self.device))
    (records_of (stored g.D.Device.seen j)) (records_of (appended g.D.Device.seen j))) c.self.view_is it

pub overflow_add-first : goal.overflow_add-first
overflow_add-first g c =
    let unclosed : c.self.inside.lines.is_open ≡ true = sym c.is_open.ensures ∙ c.if-not-is_open.false in
    omega (arith, (c.self.invariant unclosed).number, few_of (stored g.D.Device.seen c.self.inside.lines), c.waiting-records.ensures.small unclosed)

pub append-requires : goal.append-requires
append-requires g c = subst IsLine (sym c.deref.ensures.value) c.in_ok-sum.ensures.is_line

pub returns-in_err-sync-clause-any_moment : goal.returns-in_err-sync-clause-any_moment
returns-in_err-sync-clause-any_moment g c = λ _.
    let unclosed : c.self.inside.lines.is_open ≡ true = sym c.is_open.ensures ∙ c.if-not-is_open.false in
    let it = sealed_sync g.D.Device.moment g.D.Device.left_since g.D.Device.seen c.self.inside.lines c.append.new.self c.sync-2.new.self.device c.deref.result.now (c.self.invariant unclosed).whole
    (ap is_mark c.deref.ensures.value ∙ c.in_ok-sum.ensures.is_mark) c.append.ensures.disk c.in_ok-append.ensures.added.1 (c.sync-2.ensures.any_moment (c.append.ensures.same ∙ unclosed)) in
    subst (λ j. Leaves (g.D.Device.moment j.device) (g.D.Device.moment c.sync-2.new.self.device) (left_of (g.D.Device.left_since j.device)) (left_of (g.D.Device.left_since c.sync-2.new.self.device))
    (records_of (stored g.D.Device.seen j)) (records_of (appended g.D.Device.seen j))) c.self.view_is it

pub overflow_add-self : goal.overflow_add-self
overflow_add-self g c =
    let unclosed : c.self.inside.lines.is_open ≡ true = sym c.is_open.ensures ∙ c.if-not-is_open.false in
    omega (arith, (c.self.invariant unclosed).number, few_of (stored g.D.Device.seen c.self.inside.lines), c.waiting-records.ensures.small unclosed, c.waiting-records.ensures.count unclosed)

pub invariant_of-self-2 : goal.invariant_of-self-2
invariant_of-self-2 g c = λ _.
    let unclosed : c.self.inside.lines.is_open ≡ true = sym c.is_open.ensures ∙ c.if-not-is_open.false in
    let s = c.self.invariant unclosed in
    let old = stored g.D.Device.seen c.self.inside.lines in
    let waits = c.self.inside.lines.waiting in
    let mark = c.deref.result.now in
    let marked : is_mark mark ≡ true = ap is_mark c.deref.ensures.value ∙ c.in_ok-sum.ensures.is_mark in
    let synced = c.in_ok-sync.ensures.synced in
    let is : stored g.D.Device.seen c.sync-2.new.self ≡ old ++ (waits ++ mark ∷ []) =
    synced.1 ∙ ap (λ d. lines_of (g.D.Device.seen d) ++ c.append.new.self.waiting) c.append.ensures.disk ∙ ap (λ (l : List (List ℕ)). old ++ l) c.in_ok-append.ensures.added.1 in
    record {
      whole = ap sealed is ∙ block_whole old waits mark marked ∙ sym is;
      waiting = ap records_of synced.2 ∙ sym synced.2;
      number = omega (arith, s.number, c.waiting-records.ensures.count unclosed, count_added old waits mark marked s.waiting, ap (λ (l : List (List ℕ)). length (records_of l)) is);
    }

pub returns-clause-any_moment : goal.returns-clause-any_moment
returns-clause-any_moment g c = λ _.
    let unclosed : c.self.inside.lines.is_open ≡ true = sym c.is_open.ensures ∙ c.if-not-is_open.false in
    let it = sealed_sync g.D.Device.moment g.D.Device.left_since g.D.Device.seen c.self.inside.lines c.append.new.self c.sync-2.new.self.device c.deref.result.now (c.self.invariant unclosed).whole
    (ap is_mark c.deref.ensures.value ∙ c.in_ok-sum.ensures.is_mark) c.append.ensures.disk c.in_ok-append.ensures.added.1 (c.sync-2.ensures.any_moment (c.append.ensures.same ∙ unclosed)) in
    subst (λ j. Leaves (g.D.Device.moment j.device) (g.D.Device.moment c.sync-2.new.self.device) (left_of (g.D.Device.left_since j.device)) (left_of (g.D.Device.left_since c.sync-2.new.self.device))
    (records_of (stored g.D.Device.seen j)) (records_of (appended g.D.Device.seen j))) c.self.view_is it
