use Rattle.std.proofs.Common.{length, refl, ap, arith}
use Rattle.rtrb.specs.Ring.{received, sent}
use Rattle.hx_replay_parallel.specs.declared.batch.Batch.{Batch}
use Rattle.hx_replay_parallel.proofs.TurnLists.{same_consumer_on, same_producer_on}
use Rattle.hx_replay_parallel.proofs.TurnsOfPlayer.{came_none, came_counts, came_next, came_last}
use Rattle.hx_replay_parallel.proofs.market_thread.apply_coming.Goals as goal

pub loop-init : goal.loop-init
loop-init g c = (((refl, refl, refl, refl), refl), ((refl, refl, refl, refl), refl), came_none c.args.run.now (received c.args.coming.now) (sent c.args.going.now) c.requires.first c.requires.outputs)

pub returns-then-is_empty-clause-ok : goal.returns-then-is_empty-clause-ok
returns-then-is_empty-clause-ok g c =
    came_last c.args.run.now c.loop.run (received c.loop.coming) (sent c.loop.going) (received c.wait_next.new.coming) (sent c.wait_next.new.going) c.in-Some.turn c.loop.invariant.2 c.in-Some.ensures.some.0 (c.is_empty.ensures.0 c.if-is_empty.true) c.wait_next.ensures.going.1

pub apply_all-requires-clause-events : goal.apply_all-requires-clause-events
apply_all-requires-clause-events g c =
    let counts = came_counts c.args.run.now c.loop.run (received c.loop.coming) (sent c.loop.going) c.loop.invariant.2 c.requires.few in
    omega (arith, counts.0, c.in-Some.ensures.some.1.few, c.requires.events, ap length c.events.ensures)

pub apply_all-requires-clause-few : goal.apply_all-requires-clause-few
apply_all-requires-clause-few g c = (came_counts c.args.run.now c.loop.run (received c.loop.coming) (sent c.loop.going) c.loop.invariant.2 c.requires.few).1

pub loop-preserved : goal.loop-preserved
loop-preserved g c =
    let retained = c.loop.invariant in
    let still = c.wait_next.ensures.going in
    let last : Batch = record { ahead = c.in-Some.turn.ahead; outputs = c.swap.new.x } in
    let going = same_producer_on c.args.going.now c.loop.going c.wait_next.new.going retained.1 still.0 in (
      same_consumer_on c.args.coming.now c.loop.coming c.wait_next.new.coming retained.0 c.wait_next.ensures.coming,
      same_producer_on c.args.going.now c.wait_next.new.going c.push_reserved.new.self going c.push_reserved.ensures.ring,
      came_next c.args.run.now c.loop.run c.apply_all.new.run (received c.loop.coming) (sent c.loop.going) (received c.wait_next.new.coming) (sent c.wait_next.new.going) (sent c.push_reserved.new.self) c.in-Some.turn last c.apply_all.new.telling retained.2
          c.in-Some.ensures.some.1 c.in-Some.ensures.some.0 (λ es are. c.in_ok-apply_all.ensures.ok es (rw c.events.ensures are)) still.1 c.push_reserved.ensures.sent.0 c.swap.ensures.x_after,
    )
