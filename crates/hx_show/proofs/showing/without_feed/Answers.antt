use Rattle.hx_show.proofs.Texts.{cut_fed, cut_unfed}
use Rattle.hx_show.proofs.showing.without_feed.Goals as goal

pub returns-then-last-eq10 : goal.returns-then-last-eq10
returns-then-last-eq10 c = cut_fed c.args.line.now c.in-Some.front.now c.in-Some.last.now c.requires c.in-Some.ensures.cases.0 c.if-last-eq10.true

pub returns : goal.returns
returns c = cut_unfed c.args.line.now c.in-Some.front.now c.in-Some.last.now c.requires c.in-Some.ensures.cases.0 c.if-last-eq10.false
