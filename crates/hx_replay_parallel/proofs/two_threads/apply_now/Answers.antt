use Rattle.std.proofs.lemmas.Result.{on_ok_weaker}
use Rattle.hx_replay_parallel.proofs.TurnEnds.{now_applied, now_counts, now_fails, now_unwritten_if}
use Rattle.hx_replay_parallel.proofs.two_threads.apply_now.Goals as goal

pub returns-in-Ok-clause-ok : goal.returns-in-Ok-clause-ok
returns-in-Ok-clause-ok g c =
    let applied = rw c.in-Ok.is at c.apply_all.ensures.ok in
    on_ok_weaker c.write_outcome.result (λ wrote old all text w others t. now_applied old c.args.run.now c.apply_all.new.run all w _ _ c.apply_all.new.telling c.args.events.now others text t applied wrote) c.write_outcome.ensures.ok

pub returns-in-Ok-clause-counts : goal.returns-in-Ok-clause-counts
returns-in-Ok-clause-counts g c =
    let applied = rw c.in-Ok.is at c.apply_all.ensures.ok in
    let read = c.requires.read in
    on_ok_weaker c.write_outcome.result (λ wrote. now_counts c.args.run.now c.apply_all.new.run read.0 c.args.events.now c.apply_all.new.telling read.1 (applied read.0 read.1) c.requires.few) c.write_outcome.ensures.ok

pub returns-in-Ok-clause-err : goal.returns-in-Ok-clause-err
returns-in-Ok-clause-err g c =
    let applied = rw c.in-Ok.is at c.apply_all.ensures.ok in
    now_unwritten_if c.write_outcome.result c.args.run.now c.apply_all.new.run _ _ c.apply_all.new.telling c.args.events.now applied c.write_outcome.ensures.err c.write_outcome.ensures.fault

pub returns-in-Err-clause-err : goal.returns-in-Err-clause-err
returns-in-Err-clause-err g c = λ old all text w others t.
    let failed = rw c.in-Err.is at c.apply_all.ensures.err in
    let f = now_fails old c.args.run.now all w _ c.apply_all.new.telling c.args.events.now others text c.in-Err.error t failed in
    c.write_before.ensures old f.at all f.gathered f.rest f.text f.others w f.gathers f.cut f.lacks f.faults f.outputs
