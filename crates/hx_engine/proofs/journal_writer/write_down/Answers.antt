use Rattle.std.proofs.Common.{List, ℕ, ◌≡◌, ◌∙◌, ◌++◌, ◌∷◌, [], ◌+◌, take, sym, subst, arith, append-nil}
use mathlib.Core.List.{IsPrefix}
use Rattle.hx_journal.specs.Records.{IsRecord}
use Rattle.hx_engine.proofs.HeldLaws.{leaves_then, one_record, record_at, some_records}
use Rattle.hx_engine.proofs.journal_writer.write_down.Goals as goal

pub returns-in_err-append-clause-any_moment : goal.returns-in_err-append-clause-any_moment
returns-in_err-append-clause-any_moment g c =
    let start = g.J.Journal.appended c.args.journal.now in
    let records : List (List ℕ) = c.args.records.now in
    let i = c.loop-index.index in
    let inv = c.loop-index.invariant in
    let one : g.J.Journal.appended c.loop-index.journal ++ c.get.result.now ∷ [] ≡ start ++ take (i + 1) records =
    (λ k. inv.appended k ++ c.get.ensures k ∷ []) ∙ one_record start records i (omega arith) in
    leaves_then _ _ _ _ _ _ _ _ _ _ _ inv.leaves (c.append.ensures.any_moment inv.opened) inv.durable ([], append-nil _) (subst (λ l. IsPrefix l (start ++ records)) (sym one) (some_records start records (i + 1)))

pub loop-index-preserved : goal.loop-index-preserved
loop-index-preserved g c =
    let start = g.J.Journal.appended c.args.journal.now in
    let records : List (List ℕ) = c.args.records.now in
    let i = c.loop-index.index in
    let inv = c.loop-index.invariant in
    let one : g.J.Journal.appended c.loop-index.journal ++ c.get.result.now ∷ [] ≡ start ++ take (i + 1) records =
    (λ k. inv.appended k ++ c.get.ensures k ∷ []) ∙ one_record start records i (omega arith) in
    record {
      appended = c.in_ok-append.ensures.appended ∙ one;
      durable = c.append.ensures.durable ∙ inv.durable;
      opened = c.append.ensures.still ∙ inv.opened;
      leaves = leaves_then _ _ _ _ _ _ _ _ _ _ _ inv.leaves (c.append.ensures.any_moment inv.opened) inv.durable ([], append-nil _) (subst (λ l. IsPrefix l (start ++ records)) (sym one) (some_records start records (i + 1)));
    }

pub append-requires : goal.append-requires
append-requires g c = record {
  record_is = subst (λ (bytes : List ℕ). IsRecord bytes) (sym c.get.ensures) (record_at c.args.records.now c.loop-index.index (omega arith) c.requires.records);
}
