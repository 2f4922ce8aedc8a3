use Rattle.hx_setup.proofs.Words.{too_large}
use Rattle.hx_setup.proofs.fields.number.Goals as goal

pub returns-clause-none : goal.returns-clause-none
returns-clause-none c =
    let read = c.in_ok-read_number.ensures.some in
    too_large c.args.text.now c.in_ok-read_number.field-0 c.try_from.result c.ok.result read.0 read.1 c.try_from.ensures c.ok.ensures.value
