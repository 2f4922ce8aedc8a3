use Rattle.std.proofs.Common.{refl}
use Rattle.std.specs.Char.{is_ascii_alphanumeric}
use Rattle.hx_setup.proofs.Words.{filled-some, filled-none}
use Rattle.hx_setup.proofs.fields.login_name.Goals as goal

pub returns-clause-some : goal.returns-clause-some
returns-clause-some g c = filled-some is_ascii_alphanumeric refl c.filled.result c.args.text.now g.row.N c.filled.ensures c.if-is_empty.ensures c.if-not-are_letters_or_digits.ensures

pub returns-clause-none : goal.returns-clause-none
returns-clause-none g c = filled-none is_ascii_alphanumeric c.filled.result c.args.text.now g.row.N c.filled.ensures
