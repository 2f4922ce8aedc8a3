use Rattle.std.proofs.Common.{length, arith, sym, ap, ◌∙◌, rules}
use Rattle.std.proofs.lemmas.Result.{err_from_is_err_and, IfOk-weaker, IfErr-weaker}
use Rattle.hx_replay.specs.declared.run.Counts.{Counts}
use Rattle.hx_replay.specs.Whole.{ReplaysAll, StopsAt}
use Rattle.hx_replay.proofs.Runs.{replays_counts}
use Rattle.hx_replay.proofs.PieceByPiece.{so_far_counts, ends_well, ends_in_line, stops_in_text, stops_at_start, stops_in_read, stops_after_turns, starts_so}
use Rattle.hx_replay_parallel.proofs.AfterTurns.{stops_later_turns, stops_long_after, so_far_after}
use Rattle.hx_replay_parallel.proofs.replaying_ahead.replay_ahead.Goals as goal

pub returns-in_err-copy-clause-err : goal.returns-in_err-copy-clause-err
returns-in_err-copy-clause-err g c =
    let p = err_from_is_err_and c.from_residual.result c.from_residual.ensures.1 in
    rw (p.1, p.2) (stops_at_start c.args.setup.now (g.R.Read.remaining c.args.reader.now) (g.W.Write.contents c.args.writer.now))

pub returns-in_err-run-clause-err : goal.returns-in_err-run-clause-err
returns-in_err-run-clause-err g c =
    let p = err_from_is_err_and c.from_residual-in_err-run.result c.from_residual-in_err-run.ensures.1 in
    rw (p.1, p.2) (stops_at_start c.args.setup.now (g.R.Read.remaining c.args.reader.now) (g.W.Write.contents c.args.writer.now))

pub returns-in_err-pending-clause-err : goal.returns-in_err-pending-clause-err
returns-in_err-pending-clause-err g c =
    let p = err_from_is_err_and c.from_residual-in_err-pending.result c.from_residual-in_err-pending.ensures.1 in
    rw (p.1, p.2) (stops_at_start c.args.setup.now (g.R.Read.remaining c.args.reader.now) (g.W.Write.contents c.args.writer.now))

pub loop-init : goal.loop-init
loop-init g c = starts_so c.args.setup.now c.in_ok-copy.field-0 c.in_ok-run.run' c.in_ok-pending.pending _ _ c.in_ok-copy.ensures.equal c.in_ok-copy.ensures.is_setup c.in_ok-run.ensures c.in_ok-pending.ensures

pub returns-then-counts-gt-MOST_LINES-clause-err : goal.returns-then-counts-gt-MOST_LINES-clause-err
returns-then-counts-gt-MOST_LINES-clause-err g c = stops_after_turns c.args.setup.now _ _ _ _ c.loop.run c.loop.pending c.loop.invariant

pub returns-in_err-read-clause-err : goal.returns-in_err-read-clause-err
returns-in_err-read-clause-err g c =
    let p = err_from_is_err_and c.from_residual-in_err-read.result c.from_residual-in_err-read.ensures.1 in
    rw (p.1, p.2, c.in_err-read.ensures.err.0) (stops_in_read c.args.setup.now _ _ _ _ _ c.loop.run c.loop.pending c.loop.invariant c.in_err-read.ensures.err.2)

pub returns-then-not-branch-clause-ok : goal.returns-then-not-branch-clause-ok
returns-then-not-branch-clause-ok g c =
    let end = c.in_ok-read.ensures.end (search rules) in
    let same = ap length (c.text.ensures ∙ end.0) in
    IfOk-weaker c.finish.result _ (λ counts. ReplaysAll c.args.setup.now counts _ _ _ _)
    (λ y p. rw (p.0, c.counts-then-not-branch.ensures) (ends_well c.args.setup.now _ _ _ _ _ c.loop.run c.loop.pending c.loop.invariant end.1 end.2 (sym same ∙ p.1))) c.finish.ensures.ok

pub returns-then-not-branch-clause-err : goal.returns-then-not-branch-clause-err
returns-then-not-branch-clause-err g c =
    let end = c.in_ok-read.ensures.end (search rules) in
    let same = ap length (c.text.ensures ∙ end.0) in
    IfErr-weaker c.finish.result _ (λ e. StopsAt c.args.setup.now e _ _ _ _)
    (λ y p. rw (p.0, c.counts-then-not-branch.ensures) (ends_in_line c.args.setup.now _ _ _ _ _ c.loop.run c.loop.pending c.loop.invariant end.1 end.2 (omega (arith, same, p.1)))) c.finish.ensures.err

pub apply_many-requires-clause-few : goal.apply_many-requires-clause-few
apply_many-requires-clause-few g c κs within = so_far_counts _ _ _ _ _ _ _ c.loop.invariant

pub returns-in_err-apply_many-clause-err : goal.returns-in_err-apply_many-clause-err
returns-in_err-apply_many-clause-err g c =
    let p = err_from_is_err_and c.from_residual-in_err-apply_many.result c.from_residual-in_err-apply_many.ensures.1 in
    let piece = c.in_ok-read.ensures.piece in
    rw (p.1, p.2) (stops_in_text _ _ _ _ _ _ _ _ _ _ _ _ c.loop.invariant piece.2 piece.1 c.in_err-apply_many.ensures.err)

pub apply_lines-requires-clause-events : goal.apply_lines-requires-clause-events
apply_lines-requires-clause-events g c =
    let counted = replays_counts _ _ _ _ _ _ c.in_ok-apply_many.ensures.ok (so_far_counts _ _ _ _ _ _ _ c.loop.invariant) in
    omega (arith, counted.0, ap length c.text-in-loop.ensures, c.in_ok-read.ensures.fits, ap (λ (x : Counts). x.events) c.counts.ensures)

pub apply_lines-requires-clause-few : goal.apply_lines-requires-clause-few
apply_lines-requires-clause-few g c = (replays_counts _ _ _ _ _ _ c.in_ok-apply_many.ensures.ok (so_far_counts _ _ _ _ _ _ _ c.loop.invariant)).1

pub returns-in_err-rest-clause-err : goal.returns-in_err-rest-clause-err
returns-in_err-rest-clause-err g c =
    let p = err_from_is_err_and c.from_residual-in_err-rest.result c.from_residual-in_err-rest.ensures.1 in
    let piece = c.in_ok-read.ensures.piece in
    let stops = rw c.text-in-loop.ensures at c.in_err-rest.ensures.err in
    rw (p.1, p.2) (stops_later_turns _ _ _ _ _ _ _ _ _ _ _ _ _ _ _ c.loop.invariant piece.2 piece.1 c.in_ok-apply_many.ensures.ok stops)

pub keep_rest-requires-clause-events : goal.keep_rest-requires-clause-events
keep_rest-requires-clause-events g c =
    let turns = replays_counts _ _ _ _ _ _ c.in_ok-apply_many.ensures.ok (so_far_counts _ _ _ _ _ _ _ c.loop.invariant) in
    let counted = replays_counts _ _ _ _ _ _ c.in_ok-rest.ensures.ok.0 turns.1 in
    omega (arith, turns.0, counted.0, ap length c.text-in-loop.ensures, c.in_ok-read.ensures.fits, ap (λ (x : Counts). x.events) c.counts-in-loop.ensures, ap (λ (x : Counts). x.events) c.counts.ensures)

pub returns-in_err-keep_rest-clause-err : goal.returns-in_err-keep_rest-clause-err
returns-in_err-keep_rest-clause-err g c =
    let p = err_from_is_err_and c.from_residual-in_err-keep_rest.result c.from_residual-in_err-keep_rest.ensures.1 in
    let piece = c.in_ok-read.ensures.piece in
    let long = c.in_err-keep_rest.ensures.err in
    let lines = rw c.text-in-loop.ensures at c.in_ok-rest.ensures.ok in
    rw (p.1, p.2, long.0, c.counts-in-loop.ensures) (stops_long_after _ _ _ _ _ _ _ _ _ _ _ _ _ _ _ _ c.loop.invariant piece.2 piece.1 c.in_ok-apply_many.ensures.ok lines.0 lines.1 long.1)

pub loop-preserved : goal.loop-preserved
loop-preserved g c =
    let piece = c.in_ok-read.ensures.piece in
    let retained = c.in_ok-keep_rest.ensures.ok in
    let lines = rw c.text-in-loop.ensures at c.in_ok-rest.ensures.ok in
    so_far_after _ _ _ _ _ _ _ _ _ _ _ _ _ _ _ _ _ c.loop.invariant piece.2 piece.1 c.in_ok-apply_many.ensures.ok lines.0 lines.1 retained.0 retained.1

pub returns-clause-err : goal.returns-clause-err
returns-clause-err g c = stops_after_turns c.args.setup.now _ _ _ _ c.loop.run c.loop.pending c.loop.invariant
