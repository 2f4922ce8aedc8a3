use Rattle.std.proofs.Common.{arith}
use Rattle.std.proofs.lemmas.Result.{err_from_is_err_and, on_ok_weaker, IfErr-weaker}
use Rattle.rtrb.specs.Ring.{received, known_items, sent}
use Rattle.hx_replay.proofs.Runs.{replays_none, stops_without_memory}
use Rattle.hx_replay_parallel.proofs.Turning.{at_turn_counts}
use Rattle.hx_replay_parallel.proofs.TurnEnds.{applies_some, stops_writing, writes_longer, writes_after, written_all, fails_then, rests_then, applies_last, all_sent}
use Rattle.hx_replay_parallel.proofs.two_threads.apply_turns.Goals as goal

pub returns-in_err-to_apply-clause-err : goal.returns-in_err-to_apply-clause-err
returns-in_err-to_apply-clause-err g c =
    let p = err_from_is_err_and c.from_residual.result c.from_residual.ensures.1 in
    rw (p.1, p.2) (stops_without_memory _ _ _ _ _ _ (replays_none c.args.run.now c.args.pending.now (g.W.Write.contents c.args.writer.now)))

pub returns-in_err-to_write-clause-err : goal.returns-in_err-to_write-clause-err
returns-in_err-to_write-clause-err g c =
    let p = err_from_is_err_and c.from_residual-in_err-to_write.result c.from_residual-in_err-to_write.ensures.1 in
    rw (p.1, p.2) (stops_without_memory _ _ _ _ _ _ (replays_none c.args.run.now c.args.pending.now (g.W.Write.contents c.args.writer.now)))

pub returns-in_err-wrote-clause-err : goal.returns-in_err-wrote-clause-err
returns-in_err-wrote-clause-err g c =
    let p = err_from_is_err_and c.from_residual-in_err-wrote.result c.from_residual-in_err-wrote.ensures.1 in
    let both = c.apply_and_write-wrote in
    let unwritten = c.slots_beside-unwritten_count.ensures in
    let unapplied = c.slots_beside-unapplied_count.ensures in
    let outputs = all_sent (received both.new.rings.unwritten) _ (known_items c.slots_beside-unwritten_count.new.self) (sent both.new.rings.to_write) _ unwritten.looked.1 unwritten.producer.1 unwritten.fifo in
    let all = all_sent (received both.new.rings.unapplied) _ (known_items c.slots_beside-unapplied_count.new.self) (sent both.new.rings.to_apply) _ unapplied.looked.1 unapplied.producer.1 unapplied.fifo in
    let wrote = rw c.in_err-wrote.was at both.ensures.err in
    let read = rw c.in_err-wrote.was at both.ensures.read in
    let fault = rw c.in_err-wrote.was at both.ensures.fault in
    let some = applies_some _ c.args.run.now both.new.run (received both.new.rings.unapplied) (sent both.new.rings.to_write) both.new.turns.telling both.ensures.applied both.ensures.failed in
    rw (p.1, p.2) (stops_writing c.args.run.now c.args.pending.now (sent both.new.rings.to_apply) (received both.new.rings.unapplied) (known_items c.slots_beside-unapplied_count.new.self) (sent both.new.rings.to_write) read.0 _ _ _ read.1 all some (writes_longer _ _ (sent both.new.rings.to_write) (received both.new.rings.unwritten) (known_items c.slots_beside-unwritten_count.new.self) outputs wrote) fault)

pub returns-in_err-write_rest-clause-err : goal.returns-in_err-write_rest-clause-err
returns-in_err-write_rest-clause-err g c =
    let p = err_from_is_err_and c.from_residual-in_err-write_rest.result c.from_residual-in_err-write_rest.ensures.1 in
    let both = c.apply_and_write-wrote in
    let unwritten = c.slots_beside-unwritten_count.ensures in
    let unapplied = c.slots_beside-unapplied_count.ensures in
    let outputs = all_sent (received both.new.rings.unwritten) _ (known_items c.slots_beside-unwritten_count.new.self) (sent both.new.rings.to_write) _ unwritten.looked.1 unwritten.producer.1 unwritten.fifo in
    let all = all_sent (received both.new.rings.unapplied) _ (known_items c.slots_beside-unapplied_count.new.self) (sent both.new.rings.to_apply) _ unapplied.looked.1 unapplied.producer.1 unapplied.fifo in
    let wrote = rw c.in_ok-wrote.was at both.ensures.wrote in
    let ahead = rw c.in_ok-wrote.was at both.ensures.ahead in
    let some = applies_some _ c.args.run.now both.new.run (received both.new.rings.unapplied) (sent both.new.rings.to_write) both.new.turns.telling both.ensures.applied both.ensures.failed in
    rw (p.1, p.2) (stops_writing c.args.run.now c.args.pending.now (sent both.new.rings.to_apply) (received both.new.rings.unapplied) (known_items c.slots_beside-unapplied_count.new.self) (sent both.new.rings.to_write) both.new.pending _ _ _ ahead all some (writes_after _ _ _ (sent both.new.rings.to_write) (received both.new.rings.unwritten) (known_items c.slots_beside-unwritten_count.new.self) outputs wrote c.in_err-write_rest.ensures.err) c.in_err-write_rest.ensures.fault)

pub returns-in-Err-clause-err : goal.returns-in-Err-clause-err
returns-in-Err-clause-err g c =
    let both = c.apply_and_write-wrote in
    let unwritten = c.slots_beside-unwritten_count.ensures in
    let unapplied = c.slots_beside-unapplied_count.ensures in
    let outputs = all_sent (received both.new.rings.unwritten) _ (known_items c.slots_beside-unwritten_count.new.self) (sent both.new.rings.to_write) _ unwritten.looked.1 unwritten.producer.1 unwritten.fifo in
    let all = all_sent (received both.new.rings.unapplied) _ (known_items c.slots_beside-unapplied_count.new.self) (sent both.new.rings.to_apply) _ unapplied.looked.1 unapplied.producer.1 unapplied.fifo in
    let wrote = rw c.in_ok-wrote.was at both.ensures.wrote in
    let ahead = rw c.in_ok-wrote.was at both.ensures.ahead in
    let failed = rw c.in-Err.is at both.ensures.failed in
    let done = written_all _ _ _ (sent both.new.rings.to_write) (received both.new.rings.unwritten) (known_items c.slots_beside-unwritten_count.new.self) outputs wrote c.in_ok-write_rest.ensures.ok in
    let f = fails_then c.args.run.now c.args.pending.now (sent both.new.rings.to_apply) (received both.new.rings.unapplied) (known_items c.slots_beside-unapplied_count.new.self) (sent both.new.rings.to_write) both.new.pending _ _ both.new.turns.telling c.in-Err.error ahead all failed done in
    c.write_before.ensures c.args.run.now f.at c.args.pending.now f.gathered f.rest f.text f.others (g.W.Write.contents c.args.writer.now) f.gathers f.cut f.lacks f.faults f.outputs

pub apply_rest-requires-clause-events : goal.apply_rest-requires-clause-events
apply_rest-requires-clause-events g c =
    let both = c.apply_and_write-wrote in
    let unwritten = c.slots_beside-unwritten_count.ensures in
    let unapplied = c.slots_beside-unapplied_count.ensures in
    let outputs = all_sent (received both.new.rings.unwritten) _ (known_items c.slots_beside-unwritten_count.new.self) (sent both.new.rings.to_write) _ unwritten.looked.1 unwritten.producer.1 unwritten.fifo in
    let all = all_sent (received both.new.rings.unapplied) _ (known_items c.slots_beside-unapplied_count.new.self) (sent both.new.rings.to_apply) _ unapplied.looked.1 unapplied.producer.1 unapplied.fifo in
    let wrote = rw c.in_ok-wrote.was at both.ensures.wrote in
    let ahead = rw c.in_ok-wrote.was at both.ensures.ahead in
    let applied = rw c.in_default.is at both.ensures.applied in
    let done = written_all _ _ _ (sent both.new.rings.to_write) (received both.new.rings.unwritten) (known_items c.slots_beside-unwritten_count.new.self) outputs wrote c.in_ok-write_rest.ensures.ok in
    let rests = rests_then c.args.run.now both.new.run c.args.pending.now (sent both.new.rings.to_apply) (received both.new.rings.unapplied) (known_items c.slots_beside-unapplied_count.new.self) (sent both.new.rings.to_write) both.new.pending _ _ ahead all applied done in
    let counts = at_turn_counts _ _ _ _ _ _ _ _ rests c.requires.few in
    omega (arith, counts.0, c.requires.events, c.requires.fits)

pub apply_rest-requires-clause-few : goal.apply_rest-requires-clause-few
apply_rest-requires-clause-few g c =
    let both = c.apply_and_write-wrote in
    let unwritten = c.slots_beside-unwritten_count.ensures in
    let unapplied = c.slots_beside-unapplied_count.ensures in
    let outputs = all_sent (received both.new.rings.unwritten) _ (known_items c.slots_beside-unwritten_count.new.self) (sent both.new.rings.to_write) _ unwritten.looked.1 unwritten.producer.1 unwritten.fifo in
    let all = all_sent (received both.new.rings.unapplied) _ (known_items c.slots_beside-unapplied_count.new.self) (sent both.new.rings.to_apply) _ unapplied.looked.1 unapplied.producer.1 unapplied.fifo in
    let wrote = rw c.in_ok-wrote.was at both.ensures.wrote in
    let ahead = rw c.in_ok-wrote.was at both.ensures.ahead in
    let applied = rw c.in_default.is at both.ensures.applied in
    let done = written_all _ _ _ (sent both.new.rings.to_write) (received both.new.rings.unwritten) (known_items c.slots_beside-unwritten_count.new.self) outputs wrote c.in_ok-write_rest.ensures.ok in
    let rests = rests_then c.args.run.now both.new.run c.args.pending.now (sent both.new.rings.to_apply) (received both.new.rings.unapplied) (known_items c.slots_beside-unapplied_count.new.self) (sent both.new.rings.to_write) both.new.pending _ _ ahead all applied done in
    (at_turn_counts _ _ _ _ _ _ _ _ rests c.requires.few).1

pub apply_rest-requires-clause-read : goal.apply_rest-requires-clause-read
apply_rest-requires-clause-read g c =
    let both = c.apply_and_write-wrote in
    let unwritten = c.slots_beside-unwritten_count.ensures in
    let unapplied = c.slots_beside-unapplied_count.ensures in
    let outputs = all_sent (received both.new.rings.unwritten) _ (known_items c.slots_beside-unwritten_count.new.self) (sent both.new.rings.to_write) _ unwritten.looked.1 unwritten.producer.1 unwritten.fifo in
    let all = all_sent (received both.new.rings.unapplied) _ (known_items c.slots_beside-unapplied_count.new.self) (sent both.new.rings.to_apply) _ unapplied.looked.1 unapplied.producer.1 unapplied.fifo in
    let wrote = rw c.in_ok-wrote.was at both.ensures.wrote in
    let ahead = rw c.in_ok-wrote.was at both.ensures.ahead in
    let applied = rw c.in_default.is at both.ensures.applied in
    let done = written_all _ _ _ (sent both.new.rings.to_write) (received both.new.rings.unwritten) (known_items c.slots_beside-unwritten_count.new.self) outputs wrote c.in_ok-write_rest.ensures.ok in
    let rests = rests_then c.args.run.now both.new.run c.args.pending.now (sent both.new.rings.to_apply) (received both.new.rings.unapplied) (known_items c.slots_beside-unapplied_count.new.self) (sent both.new.rings.to_write) both.new.pending _ _ ahead all applied done in
    (rests.ahead.entries, rests.ahead.are)

pub returns-clause-ok : goal.returns-clause-ok
returns-clause-ok g c =
    let both = c.apply_and_write-wrote in
    let unwritten = c.slots_beside-unwritten_count.ensures in
    let unapplied = c.slots_beside-unapplied_count.ensures in
    let outputs = all_sent (received both.new.rings.unwritten) _ (known_items c.slots_beside-unwritten_count.new.self) (sent both.new.rings.to_write) _ unwritten.looked.1 unwritten.producer.1 unwritten.fifo in
    let all = all_sent (received both.new.rings.unapplied) _ (known_items c.slots_beside-unapplied_count.new.self) (sent both.new.rings.to_apply) _ unapplied.looked.1 unapplied.producer.1 unapplied.fifo in
    let wrote = rw c.in_ok-wrote.was at both.ensures.wrote in
    let ahead = rw c.in_ok-wrote.was at both.ensures.ahead in
    let applied = rw c.in_default.is at both.ensures.applied in
    let done = written_all _ _ _ (sent both.new.rings.to_write) (received both.new.rings.unwritten) (known_items c.slots_beside-unwritten_count.new.self) outputs wrote c.in_ok-write_rest.ensures.ok in
    let rests = rests_then c.args.run.now both.new.run c.args.pending.now (sent both.new.rings.to_apply) (received both.new.rings.unapplied) (known_items c.slots_beside-unapplied_count.new.self) (sent both.new.rings.to_write) both.new.pending _ _ ahead all applied done in
    on_ok_weaker c.apply_rest.result (λ h. applies_last _ _ c.args.pending.now _ _ both.new.pending (h c.args.run.now c.args.pending.now both.new.pending (g.W.Write.contents c.args.writer.now) rests)) c.apply_rest.ensures.ok

pub returns-clause-err : goal.returns-clause-err
returns-clause-err g c =
    let both = c.apply_and_write-wrote in
    let unwritten = c.slots_beside-unwritten_count.ensures in
    let unapplied = c.slots_beside-unapplied_count.ensures in
    let outputs = all_sent (received both.new.rings.unwritten) _ (known_items c.slots_beside-unwritten_count.new.self) (sent both.new.rings.to_write) _ unwritten.looked.1 unwritten.producer.1 unwritten.fifo in
    let all = all_sent (received both.new.rings.unapplied) _ (known_items c.slots_beside-unapplied_count.new.self) (sent both.new.rings.to_apply) _ unapplied.looked.1 unapplied.producer.1 unapplied.fifo in
    let wrote = rw c.in_ok-wrote.was at both.ensures.wrote in
    let ahead = rw c.in_ok-wrote.was at both.ensures.ahead in
    let applied = rw c.in_default.is at both.ensures.applied in
    let done = written_all _ _ _ (sent both.new.rings.to_write) (received both.new.rings.unwritten) (known_items c.slots_beside-unwritten_count.new.self) outputs wrote c.in_ok-write_rest.ensures.ok in
    let rests = rests_then c.args.run.now both.new.run c.args.pending.now (sent both.new.rings.to_apply) (received both.new.rings.unapplied) (known_items c.slots_beside-unapplied_count.new.self) (sent both.new.rings.to_write) both.new.pending _ _ ahead all applied done in
    IfErr-weaker c.apply_rest.result _ _ (λ e h. h c.args.run.now c.args.pending.now both.new.pending (g.W.Write.contents c.args.writer.now) rests) c.apply_rest.ensures.err
