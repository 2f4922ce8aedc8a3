use Rattle.std.proofs.Common.{◌≡◌, ap, sym, ◌∙◌, subst}
use Rattle.std.specs.Option.{IfSome}
use Rattle.hx_tokens.specs.declared.name.Name.{Name}
use Rattle.hx_tokens.specs.Chains.{index_of}
use Rattle.hx_tokens.specs.Rows.{tokens_of}
use Rattle.hx_tokens.specs.Tokens.{name_at}
use Rattle.hx_tokens.proofs.TokenLaws.{name_at-row, name_at-index}
use Rattle.hx_tokens.proofs.tokens.Tokens.name_at.Goals as goal

pub returns-clause-name : goal.returns-clause-name
returns-clause-name c =
    c.name_at.ensures ∙ name_at-row c.self.inside.retained.rows c.args.index
    ∙ ap (λ v. name_at v.tokens c.args.index) c.self.view_is

pub returns-clause-reserved : goal.returns-clause-reserved
returns-clause-reserved c =
    let rows = c.self.inside.retained.rows in
    subst (λ v. IfSome c.name_at.result (λ (name : Name). index_of v.tokens name.member name.token ≡ c.args.index)) c.self.view_is
    (subst (λ o. IfSome o (λ (name : Name). index_of (tokens_of rows) name.member name.token ≡ c.args.index)) (sym (c.name_at.ensures ∙ name_at-row rows c.args.index))
    (name_at-index (tokens_of rows) c.args.index c.self.invariant.distinct))
