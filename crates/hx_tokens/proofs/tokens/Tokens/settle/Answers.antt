use Rattle.std.proofs.Common.{◌≡◌, Some, None, ap, sym, ◌∙◌, subst, slice_set}
use Rattle.std.proofs.lemmas.Option.{same_Some}
use Rattle.hx_tokens.specs.Chains.{is_used, index_of}
use Rattle.hx_tokens.specs.Rows.{row_index, tokens_of, chains_of, live_keys_of, IsSound}
use Rattle.hx_tokens.proofs.TokenLaws.{row_index-used}
use Rattle.hx_tokens.proofs.UpdateLaws.{tokens_of-settled, live_keys_of-settled, chains_of-settled, sound-settled}
use Rattle.hx_tokens.proofs.tokens.Tokens.settle.Goals as goal

pub invariant_of-self : goal.invariant_of-self
invariant_of-self c = subst IsSound (sym c.settle.ensures.rows) (sound-settled c.in-Some.index c.args.key c.self.inside.retained.rows c.self.invariant)

pub returns-in-Some-clause-tokens : goal.returns-in-Some-clause-tokens
returns-in-Some-clause-tokens c = ap tokens_of c.settle.ensures.rows ∙ tokens_of-settled c.in-Some.index c.args.key c.self.inside.retained.rows ∙ ap (λ v. v.tokens) c.self.view_is

pub returns-in-Some-clause-chains : goal.returns-in-Some-clause-chains
returns-in-Some-clause-chains c = ap chains_of c.settle.ensures.rows ∙ chains_of-settled c.in-Some.index c.args.key c.self.inside.retained.rows ∙ ap (λ v. v.chains) c.self.view_is

pub returns-in-Some-clause-keys : goal.returns-in-Some-clause-keys
returns-in-Some-clause-keys c =
    let rows = c.self.inside.retained.rows in
    let m = c.args.member in
    let t = c.args.token.now in
    let used = ap (λ v. is_used v.tokens m t) c.self.view_is ∙ c.requires.used in
    let index = same_Some c.in-Some.index (index_of (tokens_of rows) m t) (sym c.in-Some.is ∙ c.last_or_index.ensures ∙ ap (λ n. row_index n rows) c.of.ensures ∙ row_index-used m t rows used) in
    ap live_keys_of c.settle.ensures.rows ∙ live_keys_of-settled c.in-Some.index c.args.key rows
    ∙ ap (λ n. slice_set (live_keys_of rows) n c.args.key) index ∙ ap (λ v. slice_set v.keys (index_of v.tokens m t) c.args.key) c.self.view_is

pub returns-in_default-clause-keys : goal.returns-in_default-clause-keys
returns-in_default-clause-keys c =
    let rows = c.self.inside.retained.rows in
    let m = c.args.member in
    let t = c.args.token.now in
    let used = ap (λ v. is_used v.tokens m t) c.self.view_is ∙ c.requires.used in
    absurd (let z : None ≡ Some (index_of (tokens_of rows) m t) = sym c.in_default.is ∙ c.last_or_index.ensures ∙ ap (λ n. row_index n rows) c.of.ensures ∙ row_index-used m t rows used in cc)
