use Rattle.hx_serve.proofs.publishing.Publishing.drain.Goals as goal
use Rattle.hx_units.proofs.Prefixes.{prefix_trans}

pub returns-then-not-publish-clause-known : goal.returns-then-not-publish-clause-known
returns-then-not-publish-clause-known g c = prefix_trans _ _ _ c.loop.invariant c.publish.ensures.known

pub returns-then-not-publish-clause-all : goal.returns-then-not-publish-clause-all
returns-then-not-publish-clause-all g c = λ yes. c.publish.ensures.all c.if-not-publish.true

pub loop-preserved : goal.loop-preserved
loop-preserved g c = prefix_trans _ _ _ c.loop.invariant c.publish.ensures.known
