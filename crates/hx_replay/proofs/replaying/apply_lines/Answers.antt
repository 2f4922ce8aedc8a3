use Rattle.std.proofs.Common.{arith}
use Rattle.std.proofs.lemmas.Result.{err_from_is_err_and}
use Rattle.hx_replay.proofs.Gathering.{gathers_none, gathers_counts, gathers_more, all_written, stops_gathering, stops_sending}
use Rattle.hx_replay.proofs.replaying.apply_lines.Goals as goal

pub loop-line-init : goal.loop-line-init
loop-line-init g c = gathers_none c.args.run.now c.args.text.now c.clear.new.self (g.W.Write.contents c.args.writer.now) c.clear.ensures

pub apply-requires-clause-events : goal.apply-requires-clause-events
apply-requires-clause-events g c = omega (arith, gathers_counts _ _ _ _ _ _ _ c.loop-line.invariant c.requires.few)

pub apply-requires-clause-few : goal.apply-requires-clause-few
apply-requires-clause-few g c = (gathers_counts _ _ _ _ _ _ _ c.loop-line.invariant c.requires.few).1

pub returns-in-Err-clause-err : goal.returns-in-Err-clause-err
returns-in-Err-clause-err g c = c.write_before.ensures _ _ _ _ _ _ _ _ c.loop-line.invariant c.in-Some.ensures.some.0 c.in-Some.ensures.some.1 c.in-Err.ensures.faults c.in-Err.ensures.retained

pub loop-line-preserved : goal.loop-line-preserved
loop-line-preserved g c = gathers_more _ _ _ _ _ _ _ _ _ _ _ c.loop-line.invariant c.in-Some.ensures.some.0 c.in_default-apply.ensures.ok

pub returns-in_err-write_outcome-clause-err : goal.returns-in_err-write_outcome-clause-err
returns-in_err-write_outcome-clause-err g c =
    let p = err_from_is_err_and c.from_residual.result c.from_residual.ensures.1 in
    rw (p.1, p.2) (stops_gathering _ _ _ _ _ _ _ _ _ c.loop-line.invariant c.in_err-write_outcome.ensures.err c.in_err-write_outcome.ensures.fault)

pub returns-in_err-send_out-clause-err : goal.returns-in_err-send_out-clause-err
returns-in_err-send_out-clause-err g c =
    let p = err_from_is_err_and c.from_residual-in_err-send_out.result c.from_residual-in_err-send_out.ensures.1 in
    let all = all_written _ _ _ _ _ _ _ _ c.loop-line.invariant c.in_ok-write_outcome.ensures.ok in
    rw (p.1, p.2, c.in_err-send_out.ensures.write) (stops_sending _ _ _ _ _ _ _ all c.in_err-send_out.ensures.retained)
