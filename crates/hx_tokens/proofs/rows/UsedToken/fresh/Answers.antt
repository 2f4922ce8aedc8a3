use Rattle.hx_tokens.specs.Rows.{fresh}
use Rattle.hx_tokens.proofs.rows.UsedToken.fresh.Goals as goal

pub returns : goal.returns
returns c = λ j. fresh (c.of.ensures j) c.args.chain
