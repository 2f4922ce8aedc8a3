use Rattle.std.proofs.Common.{sym}
use Rattle.hx_book.proofs.Next.{none_found}
use Rattle.hx_book.proofs.list_book.order_in.Goals as goal

pub returns-in-None-clause-exact : goal.returns-in-None-clause-exact
returns-in-None-clause-exact c = sym (none_found c.args.key.0 c.args.entries.now c.in-None.ensures)
