use Rattle.hx_show.proofs.Cuts.{cut_some, cut_else}
use Rattle.hx_show.proofs.reading.cut.Goals as goal

pub returns-clause-some : goal.returns-clause-some
returns-clause-some c = cut_some 32 c.args.text.now c.split_once.result c.split_once.ensures.some

pub returns-clause-none : goal.returns-clause-none
returns-clause-none c = cut_else 32 c.args.text.now c.split_once.result c.split_once.ensures.none
