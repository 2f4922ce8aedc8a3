use Rattle.std.proofs.Common.{◌++◌, ◌∷◌, [], None, ap, sym, ◌∙◌, subst, length}
use Rattle.hx_tokens.specs.Chains.{is_used, entered_used, entered_chain}
use Rattle.hx_tokens.specs.Rows.{name_of, fresh, tokens_of, chains_of, live_keys_of, IsSound}
use Rattle.hx_tokens.proofs.PushLaws.{entered_row, sound-entered, tokens_of-pushed, live_keys_of-pushed, chains-entered}
use Rattle.hx_tokens.proofs.tokens.Tokens.consume.Goals as goal

pub invariant_of-self : goal.invariant_of-self
invariant_of-self c =
    let rows = c.self.inside.retained.rows in
    let new = c.push.ensures.rows (name_of c.args.member c.args.token.now) (ap (λ v. v.reserved) c.self.view_is ∙ c.requires.reserved) ∙ ap (λ u. rows ++ (name_of c.args.member c.args.token.now, u) ∷ []) (c.fresh.ensures ∙ ap (λ n. fresh c.args.token.now n) c.len-chain.ensures) in
    subst IsSound (sym new) (sound-entered rows c.args.member c.args.token.now c.self.invariant (ap (λ v. is_used v.tokens c.args.member c.args.token.now) c.self.view_is ∙ c.requires.unused))

pub returns-clause-tokens : goal.returns-clause-tokens
returns-clause-tokens c =
    let rows = c.self.inside.retained.rows in
    let new = c.push.ensures.rows (name_of c.args.member c.args.token.now) (ap (λ v. v.reserved) c.self.view_is ∙ c.requires.reserved) ∙ ap (λ u. rows ++ (name_of c.args.member c.args.token.now, u) ∷ []) (c.fresh.ensures ∙ ap (λ n. fresh c.args.token.now n) c.len-chain.ensures) in
    ap tokens_of new ∙ tokens_of-pushed rows (entered_row c.args.member c.args.token.now (length rows)) ∙ ap (λ v. v.tokens ++ entered_used c.args.member c.args.token.now ∷ []) c.self.view_is

pub returns-clause-chains : goal.returns-clause-chains
returns-clause-chains c =
    let rows = c.self.inside.retained.rows in
    let new = c.push.ensures.rows (name_of c.args.member c.args.token.now) (ap (λ v. v.reserved) c.self.view_is ∙ c.requires.reserved) ∙ ap (λ u. rows ++ (name_of c.args.member c.args.token.now, u) ∷ []) (c.fresh.ensures ∙ ap (λ n. fresh c.args.token.now n) c.len-chain.ensures) in
    ap chains_of new ∙ chains-entered rows c.args.member c.args.token.now ∙ ap (λ v. v.chains ++ entered_chain c.args.member c.args.token.now ∷ []) c.self.view_is

pub returns-clause-keys : goal.returns-clause-keys
returns-clause-keys c =
    let rows = c.self.inside.retained.rows in
    let new = c.push.ensures.rows (name_of c.args.member c.args.token.now) (ap (λ v. v.reserved) c.self.view_is ∙ c.requires.reserved) ∙ ap (λ u. rows ++ (name_of c.args.member c.args.token.now, u) ∷ []) (c.fresh.ensures ∙ ap (λ n. fresh c.args.token.now n) c.len-chain.ensures) in
    ap live_keys_of new ∙ live_keys_of-pushed rows (entered_row c.args.member c.args.token.now (length rows)) ∙ ap (λ v. v.keys ++ None ∷ []) c.self.view_is
