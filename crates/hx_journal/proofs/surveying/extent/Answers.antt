use Rattle.hx_journal.proofs.Fronts.{front_alone, count_alone}
use Rattle.hx_journal.proofs.surveying.extent.Goals as goal

pub returns-clause-front : goal.returns-clause-front
returns-clause-front c = front_alone c.args.text.now _ _ c.measure-end-2.ensures.inside c.measure-end-2.ensures.front

pub returns-clause-count : goal.returns-clause-count
returns-clause-count c = count_alone c.args.text.now _ _ c.measure-end-2.ensures.inside c.measure-end-2.ensures.front _ c.measure-end-2.ensures.count
