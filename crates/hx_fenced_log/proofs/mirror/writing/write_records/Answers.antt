use Rattle.std.specs.Prelude.{Result, Ok, Err, OnOk}
use Rattle.std.proofs.Common.{◌≡◌, ◌++◌, ◌∙◌, List, ℕ}
use Rattle.hx_journal.specs.Lines.{lines_of}
use Rattle.hx_fenced_log.proofs.HalfWritten.{next_written, all_written}
use Rattle.hx_fenced_log.proofs.mirror.writing.write_records.Goals as goal

pub append-requires : goal.append-requires
append-requires g c = record {
  record_is =
      (next_written (g.M.Journal.appended c.args.mirror.now) (g.M.Journal.appended c.loop-line.mirror) (g.M.Journal.appended c.loop-line.mirror) (lines_of c.args.text.now) c.loop-line.rest.now c.in-Some.line.now c.in-Some.others.now c.loop-line.invariant
      c.in-Some.ensures.some.1 c.in-Some.ensures.some.0).0;
}

pub loop-line-preserved : goal.loop-line-preserved
loop-line-preserved g c =
    (next_written (g.M.Journal.appended c.args.mirror.now) (g.M.Journal.appended c.loop-line.mirror) (g.M.Journal.appended c.append.new.self) (lines_of c.args.text.now) c.loop-line.rest.now c.in-Some.line.now c.in-Some.others.now c.loop-line.invariant
    c.in-Some.ensures.some.1 c.in-Some.ensures.some.0).1 c.in_ok-append.ensures.appended

on_ok : {T E : Type 0} (result : Result T E) (p q r : List (List ℕ)) → q ≡ r → OnOk result (p ≡ q) → OnOk result (p ≡ r)
on_ok (Ok t) p q r e h = h ∙ e
on_ok (Err t) p q r e h = tt

pub returns-clause-appended : goal.returns-clause-appended
returns-clause-appended g c =
    on_ok c.sync.result (g.M.Journal.appended c.sync.new.self) (g.M.Journal.appended c.loop-line.mirror) (g.M.Journal.appended c.args.mirror.now ++ lines_of c.args.text.now)
    (all_written (g.M.Journal.appended c.args.mirror.now) (g.M.Journal.appended c.loop-line.mirror) (lines_of c.args.text.now) c.loop-line.rest.now c.loop-line.invariant c.in_default.ensures.none) c.sync.ensures.appended
