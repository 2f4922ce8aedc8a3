use Rattle.std.proofs.Common.{refl}
use Rattle.hx_setup.specs.Setups.{is_visible}
use Rattle.hx_setup.proofs.Words.{filled-some, filled-none}
use Rattle.hx_setup.proofs.fields.name.Goals as goal

pub returns-clause-some : goal.returns-clause-some
returns-clause-some c = filled-some is_visible refl c.filled.result c.args.text.now 8 c.filled.ensures c.if-is_empty.ensures c.if-not-are_visible.ensures

pub returns-clause-none : goal.returns-clause-none
returns-clause-none c = filled-none is_visible c.filled.result c.args.text.now 8 c.filled.ensures
