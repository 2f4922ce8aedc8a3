use Rattle.std.proofs.Common.{sym, ◌∙◌}
use Rattle.hx_reader.proofs.Fits.{clash_as}
use Rattle.hx_reader.proofs.changes.is_taken.Goals as goal

pub returns-clause-clash : goal.returns-clause-clash
returns-clause-clash c =
    c.is_some.ensures
    ∙ sym (clash_as c.args.reference c.args.original c.args.table.now.orders.entries c.number_of.result c.if-reference-original.false c.number_of.ensures.found)
