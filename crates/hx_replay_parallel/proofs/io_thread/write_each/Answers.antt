use Rattle.std.proofs.Common.{refl}
use Rattle.std.proofs.lemmas.Result.{err_from_is_err_and}
use Rattle.rtrb.specs.Ring.{sent}
use Rattle.hx_replay_parallel.proofs.TurnLists.{same_consumer_on, same_producer_on}
use Rattle.hx_replay_parallel.proofs.Sending.{writes_first, writes_same, writes_turn, sent_first, sent_same, sent_turn, sent_all, may_follow}
use Rattle.hx_replay_parallel.proofs.io_thread.write_each.Goals.{then-is_empty+in_ok-push+else-out-eq0, else-is_empty}
use Rattle.hx_replay_parallel.proofs.io_thread.write_each.Goals as goal

pub loop-init : goal.loop-init
loop-init g c = record {
  coming = ((refl, refl, refl, refl), refl);
  going = ((refl, refl, refl, refl), refl);
  wrote = writes_first _ _ _ c.requires.none c.requires.spelled;
  ahead = sent_first _ _ c.requires.first;
}

pub returns-in_default-clause-coming : goal.returns-in_default-clause-coming
returns-in_default-clause-coming g c = same_consumer_on c.args.coming.now c.loop.coming c.wait_next.new.coming c.loop.invariant.coming c.wait_next.ensures.coming

pub returns-in_default-clause-going : goal.returns-in_default-clause-going
returns-in_default-clause-going g c = same_producer_on c.args.going.now c.loop.going c.wait_next.new.going c.loop.invariant.going c.wait_next.ensures.going.0

pub returns-in_default-clause-wrote : goal.returns-in_default-clause-wrote
returns-in_default-clause-wrote g c = writes_same _ _ _ _ c.loop.spelled c.in_default.ensures.none c.loop.invariant.wrote

pub returns-in_default-clause-ahead : goal.returns-in_default-clause-ahead
returns-in_default-clause-ahead g c = sent_same _ _ _ _ c.wait_next.ensures.going.1 c.loop.invariant.ahead

pub returns-in_err-spell_output-clause-coming : goal.returns-in_err-spell_output-clause-coming
returns-in_err-spell_output-clause-coming g c = same_consumer_on c.args.coming.now c.loop.coming c.wait_next.new.coming c.loop.invariant.coming c.wait_next.ensures.coming

pub returns-in_err-spell_output-clause-going : goal.returns-in_err-spell_output-clause-going
returns-in_err-spell_output-clause-going g c = same_producer_on c.args.going.now c.loop.going c.wait_next.new.going c.loop.invariant.going c.wait_next.ensures.going.0

pub returns-in_err-spell_output-clause-err : goal.returns-in_err-spell_output-clause-err
returns-in_err-spell_output-clause-err g c =
    let p = err_from_is_err_and c.from_residual.result c.from_residual.ensures.1 in
    rw p.1 (c.in_err-spell_output.ensures.err.0, writes_turn _ _ _ _ _ c.in-Some.turn _ c.in_err-spell_output.ensures.err.0 c.in-Some.ensures.some.0 c.loop.invariant.wrote c.in_err-spell_output.ensures.err.1)

pub returns-in_err-spell_output-clause-read : goal.returns-in_err-spell_output-clause-read
returns-in_err-spell_output-clause-read g c =
    let p = err_from_is_err_and c.from_residual.result c.from_residual.ensures.1 in
    rw p.1 (c.loop.pending, sent_same _ _ _ _ c.wait_next.ensures.going.1 c.loop.invariant.ahead)

pub returns-in_err-read-clause-coming : goal.returns-in_err-read-clause-coming
returns-in_err-read-clause-coming g c = same_consumer_on c.args.coming.now c.loop.coming c.wait_next.new.coming c.loop.invariant.coming c.wait_next.ensures.coming

pub returns-in_err-read-clause-going : goal.returns-in_err-read-clause-going
returns-in_err-read-clause-going g c = same_producer_on c.args.going.now c.loop.going c.wait_next.new.going c.loop.invariant.going c.wait_next.ensures.going.0

pub returns-in_err-read-clause-err : goal.returns-in_err-read-clause-err
returns-in_err-read-clause-err g c =
    let p = err_from_is_err_and c.from_residual-in_err-read.result c.from_residual-in_err-read.ensures.1 in
    rw p.1 (c.spell_output.new.lines, writes_turn _ _ _ _ _ c.in-Some.turn _ c.spell_output.new.lines c.in-Some.ensures.some.0 c.loop.invariant.wrote c.in_ok-spell_output.ensures.ok)

pub returns-in_err-read-clause-read : goal.returns-in_err-read-clause-read
returns-in_err-read-clause-read g c =
    let p = err_from_is_err_and c.from_residual-in_err-read.result c.from_residual-in_err-read.ensures.1 in
    let here = sent_same _ _ _ _ c.wait_next.ensures.going.1 c.loop.invariant.ahead in
    rw p.1 (c.loop.pending, here)

pub returns-in_err-push-clause-coming : goal.returns-in_err-push-clause-coming
returns-in_err-push-clause-coming g c = same_consumer_on c.args.coming.now c.loop.coming c.wait_next.new.coming c.loop.invariant.coming c.wait_next.ensures.coming

pub returns-in_err-push-clause-going : goal.returns-in_err-push-clause-going
returns-in_err-push-clause-going g c = same_producer_on c.args.going.now c.loop.going c.wait_next.new.going c.loop.invariant.going c.wait_next.ensures.going.0

pub returns-in_err-push-clause-err : goal.returns-in_err-push-clause-err
returns-in_err-push-clause-err g c =
    let p = err_from_is_err_and c.from_residual-in_err-push.result c.from_residual-in_err-push.ensures.1 in
    rw p.1 (c.spell_output.new.lines, writes_turn _ _ _ _ _ c.in-Some.turn _ c.spell_output.new.lines c.in-Some.ensures.some.0 c.loop.invariant.wrote c.in_ok-spell_output.ensures.ok)

pub returns-in_err-push-clause-read : goal.returns-in_err-push-clause-read
returns-in_err-push-clause-read g c =
    let p = err_from_is_err_and c.from_residual-in_err-push.result c.from_residual-in_err-push.ensures.1 in
    let here = sent_same _ _ _ _ c.wait_next.ensures.going.1 c.loop.invariant.ahead in
    let none = c.is_empty.ensures.0 c.if-is_empty.true in
    rw p.1 (c.read.new.pending, sent_all _ _ _ _ _ none here c.in_ok-read.ensures.ok)

pub returns-then-out-eq0-clause-coming : goal.returns-then-out-eq0-clause-coming
returns-then-out-eq0-clause-coming g c = same_consumer_on c.args.coming.now c.loop.coming c.wait_next.new.coming c.loop.invariant.coming c.wait_next.ensures.coming

pub returns-then-out-eq0-clause-going : goal.returns-then-out-eq0-clause-going
returns-then-out-eq0-clause-going g c = same_producer_on c.args.going.now c.loop.going c.wait_next.new.going c.loop.invariant.going c.wait_next.ensures.going.0

pub returns-then-out-eq0-clause-wrote : goal.returns-then-out-eq0-clause-wrote
returns-then-out-eq0-clause-wrote g c = writes_turn _ _ _ _ _ c.in-Some.turn _ c.spell_output.new.lines c.in-Some.ensures.some.0 c.loop.invariant.wrote c.in_ok-spell_output.ensures.ok

pub returns-then-out-eq0-clause-ahead : goal.returns-then-out-eq0-clause-ahead
returns-then-out-eq0-clause-ahead g c =
    let here = sent_same _ _ _ _ c.wait_next.ensures.going.1 c.loop.invariant.ahead in
    let none = c.is_empty.ensures.0 c.if-is_empty.true in
    sent_all _ _ _ _ _ none here c.in_ok-read.ensures.ok

pub push_reserved-requires : goal.push_reserved-requires
push_reserved-requires g c =
    let here = sent_same _ _ _ _ c.wait_next.ensures.going.1 c.loop.invariant.ahead in
    (c.in-Some.ensures.some.2, may_follow _ _ _ _ _ c.requires.fits here c.in_ok-read.ensures.ok)

pub loop-preserved : goal.loop-preserved
loop-preserved g c =
    let coming = same_consumer_on c.args.coming.now c.loop.coming c.wait_next.new.coming c.loop.invariant.coming c.wait_next.ensures.coming in
    let going = same_producer_on c.args.going.now c.loop.going c.wait_next.new.going c.loop.invariant.going c.wait_next.ensures.going.0 in
    let wrote = writes_turn _ _ _ _ _ c.in-Some.turn _ c.spell_output.new.lines c.in-Some.ensures.some.0 c.loop.invariant.wrote c.in_ok-spell_output.ensures.ok in
    let here = sent_same _ _ _ _ c.wait_next.ensures.going.1 c.loop.invariant.ahead in
    elim c.if-is_empty.branch [
      | then-is_empty+in_ok-push+else-out-eq0 w ↦ rw w.going-is (record {
        coming = coming;
        going = going;
        wrote = wrote;
        ahead = sent_all _ _ _ _ _ (c.is_empty.ensures.0 w.if-is_empty.true) here c.in_ok-read.ensures.ok;
      })
      | else-is_empty w ↦ rw w.going-is (record {
        coming = coming;
        going = same_producer_on c.args.going.now c.wait_next.new.going w.push_reserved.new.self going w.push_reserved.ensures.ring;
        wrote = wrote;
        ahead = sent_turn _ _ (sent w.push_reserved.new.self) _ _ _ w.push_reserved.ensures.sent.0 here c.in_ok-read.ensures.ok;
      })
    ]

pub returns-clause-coming : goal.returns-clause-coming
returns-clause-coming g c = c.loop.invariant.coming

pub returns-clause-going : goal.returns-clause-going
returns-clause-going g c = c.loop.invariant.going

pub returns-clause-wrote : goal.returns-clause-wrote
returns-clause-wrote g c = c.loop.invariant.wrote

pub returns-clause-ahead : goal.returns-clause-ahead
returns-clause-ahead g c = c.loop.invariant.ahead
