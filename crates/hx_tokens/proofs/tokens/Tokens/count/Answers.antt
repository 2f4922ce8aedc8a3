use Rattle.std.proofs.Common.{ap, sym, ◌∙◌, length}
use Rattle.hx_tokens.proofs.TokenLaws.{length-tokens_of}
use Rattle.hx_tokens.proofs.tokens.Tokens.count.Goals as goal

pub returns : goal.returns
returns c = c.len.ensures ∙ sym (length-tokens_of c.self.inside.retained.rows) ∙ ap (λ v. length v.tokens) c.self.view_is
