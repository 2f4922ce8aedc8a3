use Rattle.std.proofs.Common.{ap, sym, ◌∙◌, subst}
use Rattle.std.specs.Option.{IfSome}
use Rattle.hx_tokens.specs.Chains.{entered_of, IsEnteredAt}
use Rattle.hx_tokens.specs.Rows.{row_state, tokens_of}
use Rattle.hx_tokens.specs.Tokens.{state_of}
use Rattle.hx_tokens.proofs.TokenLaws.{row_state-state_of, output-chain}
use Rattle.hx_tokens.proofs.tokens.Tokens.state.Goals as goal

pub returns-clause-state : goal.returns-clause-state
returns-clause-state c =
    c.state.ensures ∙ ap (λ n. row_state n c.self.inside.retained.rows) c.of.ensures ∙ row_state-state_of c.self.inside.retained.rows c.args.member c.args.token.now c.self.invariant
    ∙ ap (λ v. state_of v.tokens v.chains v.keys c.args.member c.args.token.now) c.self.view_is

pub returns-clause-entered : goal.returns-clause-entered
returns-clause-entered c =
    subst (λ v. IfSome c.state.result (λ s. IsEnteredAt v.tokens c.args.member (entered_of v.tokens c.args.member c.args.token.now) s.chain)) c.self.view_is
    (subst (λ o. IfSome o (λ s. IsEnteredAt (tokens_of c.self.inside.retained.rows) c.args.member (entered_of (tokens_of c.self.inside.retained.rows) c.args.member c.args.token.now) s.chain)) (sym (c.state.ensures ∙ ap (λ n. row_state n c.self.inside.retained.rows) c.of.ensures))
    (output-chain c.self.inside.retained.rows c.args.member c.args.token.now c.self.invariant))
