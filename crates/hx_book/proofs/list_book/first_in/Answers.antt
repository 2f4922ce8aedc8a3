use Rattle.std.proofs.Common.{◌∙◌}
use Rattle.hx_book.proofs.Next.{next-none}
use Rattle.hx_book.proofs.list_book.first_in.Goals as goal

pub returns : goal.returns
returns c = c.first_below.ensures ∙ next-none c.args.terms.now c.args.entries.now
