use Rattle.std.proofs.Common.{ap, is_some, true, false}
use Rattle.hx_reader.proofs.Fits.{unknown_as}
use Rattle.hx_reader.proofs.changes.delete.Goals as goal

pub returns-in_default-clause-cause : goal.returns-in_default-clause-cause
returns-in_default-clause-cause c = unknown_as c.args.reference c.args.table.now.orders.entries c.number_of.result false c.number_of.ensures.found (ap is_some c.in_default.is)

pub returns-clause-fits : goal.returns-clause-fits
returns-clause-fits c = unknown_as c.args.reference c.args.table.now.orders.entries c.number_of.result true c.number_of.ensures.found (ap is_some c.in-Some.is)
