use Rattle.std.proofs.Common.{subst, sym, ◌∙◌}
use Rattle.hx_reader.specs.Tables.{IsFound}
use Rattle.hx_reader.proofs.Tables.{found_none, found_same}
use Rattle.hx_reader.proofs.changes.order.Goals as goal

pub returns-in-Some : goal.returns-in-Some
returns-in-Some c =
    let es = c.args.table.now.orders.entries in
    let found = subst (IsFound es c.args.reference) c.in-Some.is c.number_of.ensures.found in
    c.get.ensures.value ∙ sym (found_same c.args.reference c.in-Some.number es found.0)

pub returns-in-None : goal.returns-in-None
returns-in-None c =
    let es = c.args.table.now.orders.entries in
    sym (found_none c.args.reference es (subst (IsFound es c.args.reference) c.in-None.is c.number_of.ensures.found))
