use Rattle.std.specs.Prelude.{codes}
use Rattle.std.proofs.lemmas.Bool.Decides.{Decides-eqb}
use Rattle.std.proofs.lemmas.Slice.Eq.{strip_prefix_is}
use Rattle.hx_journal.proofs.head.after_tag.Goals as goal
use Rattle.hx_units.proofs.Options.{stripped_rest, stripped_none}

pub returns-clause-some : goal.returns-clause-some
returns-clause-some c = stripped_rest c.strip_prefix.result c.args.line.now (codes "#hx1 ") (strip_prefix_is Decides-eqb c.args.line.now (codes "#hx1 ") c.strip_prefix.result c.strip_prefix.ensures.cases)

pub returns-clause-none : goal.returns-clause-none
returns-clause-none c = stripped_none c.strip_prefix.result c.args.line.now (codes "#hx1 ") (strip_prefix_is Decides-eqb c.args.line.now (codes "#hx1 ") c.strip_prefix.result c.strip_prefix.ensures.cases)
