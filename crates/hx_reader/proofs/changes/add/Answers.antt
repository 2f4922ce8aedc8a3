use Rattle.std.proofs.Common.{sym, ◌∙◌, true, false, None, ◌≡◌}
use Rattle.hx_reader.specs.Faults.{if_known}
use Rattle.hx_reader.specs.Tables.{book_in}
use Rattle.hx_reader.proofs.Fits.{known_as, cause_none, on_ok}
use Rattle.hx_reader.proofs.changes.add.Goals as goal

pub returns-then-is_some-clause-cause : goal.returns-then-is_some-clause-cause
returns-then-is_some-clause-cause c =
    known_as c.args.order.reference c.args.table.now.orders.entries c.number_of.result true c.number_of.ensures.found (sym c.is_some.ensures ∙ c.if-is_some.true)

pub returns-clause-fits : goal.returns-clause-fits
returns-clause-fits c =
    on_ok c.append.result (if_known c.args.order.reference (book_in c.args.table.now) ≡ None)
    (known_as c.args.order.reference c.args.table.now.orders.entries c.number_of.result false c.number_of.ensures.found (sym c.is_some.ensures ∙ c.if-is_some.false))

pub returns-clause-cause : goal.returns-clause-cause
returns-clause-cause c =
    cause_none c.append.result (if_known c.args.order.reference (book_in c.args.table.now)) c.append.ensures.cause
    (known_as c.args.order.reference c.args.table.now.orders.entries c.number_of.result false c.number_of.ensures.found (sym c.is_some.ensures ∙ c.if-is_some.false))
