use Rattle.std.proofs.lemmas.Result.{err_from_is_err_and}
use Rattle.hx_members.proofs.BadLines.{some_there}
use Rattle.hx_replay_parallel.proofs.Turning.{fails_without_memory}
use Rattle.hx_replay_parallel.proofs.market_thread.apply_all.Goals as goal

pub returns-in_err-take_all-clause-err : goal.returns-in_err-take_all-clause-err
returns-in_err-take_all-clause-err g c =
    let p = err_from_is_err_and c.from_residual.result c.from_residual.ensures.1 in
    rw (p.1, p.2) (λ es are. fails_without_memory c.args.run.now es c.args.events.now _ are (some_there _ c.if-is_empty.ensures))

pub returns-clause-ok : goal.returns-clause-ok
returns-clause-ok g c = rw c.in_ok-take_all.ensures.ok c.apply_each-applied.ensures.ok
