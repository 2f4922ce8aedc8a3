use Rattle.std.proofs.Common.{List, [], ◌∷◌, ◌++◌, length, ap, arith}
use Rattle.std.proofs.lemmas.Result.{err_from_is_err_and}
use Rattle.rtrb.specs.Ring.{known_items}
use Rattle.hx_replay_parallel.specs.declared.batch.Batch.{Batch}
use Rattle.hx_replay.proofs.Spelled.{writes_from}
use Rattle.hx_replay_parallel.proofs.TurnEnds.{writes_longer, written_one, written_in_one, one_less}
use Rattle.hx_replay_parallel.proofs.two_threads.write_rest.Goals as goal

pub returns-in_err-write_outcome-clause-err : goal.returns-in_err-write_outcome-clause-err
returns-in_err-write_outcome-clause-err g c =
    let p = err_from_is_err_and c.from_residual.result c.from_residual.ensures.1 in
    let turn = c.pop_known-turn.result in
    let written : List Batch = c.loop.invariant.1.0 in
    let others : List Batch = known_items c.pop_known-turn.new.self in
    let all : List Batch = known_items c.args.unwritten.now in
    let one = one_less all written (known_items c.loop.unwritten) turn others c.pop_known-turn.ensures.received.1 c.loop.invariant.1.1 in
    rw p.1 (writes_longer _ _ all (written ++ turn ∷ []) others one (written_in_one _ _ _ written turn c.in_err-write_outcome.ensures.err.0 c.loop.invariant.1.2 c.in_err-write_outcome.ensures.err.1))

pub returns-in_err-push-clause-err : goal.returns-in_err-push-clause-err
returns-in_err-push-clause-err g c =
    let p = err_from_is_err_and c.from_residual-in_err-push.result c.from_residual-in_err-push.ensures.1 in
    let turn = c.pop_known-turn.result in
    let written : List Batch = c.loop.invariant.1.0 in
    let others : List Batch = known_items c.pop_known-turn.new.self in
    let all : List Batch = known_items c.args.unwritten.now in
    let one = one_less all written (known_items c.loop.unwritten) turn others c.pop_known-turn.ensures.received.1 c.loop.invariant.1.1 in
    rw p.1 (writes_longer _ _ all (written ++ turn ∷ []) others one ([], writes_from _ _ _ (written_one _ _ _ written turn c.loop.invariant.1.2 c.in_ok-write_outcome.ensures.ok)))

pub loop-preserved : goal.loop-preserved
loop-preserved g c =
    let popped = c.pop_known-turn.ensures.received.1 in
    let turn = c.pop_known-turn.result in
    let written : List Batch = c.loop.invariant.1.0 in
    let others : List Batch = known_items c.pop_known-turn.new.self in (
      omega (arith, c.loop.invariant.0, ap length popped),
      (
        written ++ turn ∷ [],
        one_less (known_items c.args.unwritten.now) written (known_items c.loop.unwritten) turn others popped c.loop.invariant.1.1,
        written_one _ _ _ written turn c.loop.invariant.1.2 c.in_ok-write_outcome.ensures.ok,
      ),
    )
