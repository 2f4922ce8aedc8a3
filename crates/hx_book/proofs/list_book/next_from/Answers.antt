use Rattle.std.proofs.Common.{Some}
use Rattle.hx_book.proofs.Orders.{result_ranked}
use Rattle.hx_book.proofs.list_book.next_from.Goals as goal

pub returns-in-Some-clause-ranked : goal.returns-in-Some-clause-ranked
returns-in-Some-clause-ranked c = result_ranked c.next_in.result c.args.terms.now (Some c.in-Some.key) c.args.entries.now c.next_in.ensures
