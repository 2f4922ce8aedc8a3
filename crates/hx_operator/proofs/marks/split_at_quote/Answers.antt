use Rattle.hx_operator.proofs.Cuts.{cut_some, cut_none}
use Rattle.hx_operator.proofs.marks.split_at_quote.Goals as goal

pub returns-clause-some : goal.returns-clause-some
returns-clause-some c = cut_some 34 c.args.text.now c.split_once.result c.split_once.ensures.some

pub returns-clause-none : goal.returns-clause-none
returns-clause-none c = cut_none 34 c.args.text.now c.split_once.result c.split_once.ensures.none
