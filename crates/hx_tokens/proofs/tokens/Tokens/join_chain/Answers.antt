use Rattle.std.proofs.Common.{◌++◌, ◌∷◌, [], None, ap, sym, ◌∙◌, subst}
use Rattle.std.specs.Option.{option_map_or}
use Rattle.hx_tokens.specs.Chains.{is_used, replacing_used, entered_at, IsEnteredAt}
use Rattle.hx_tokens.specs.Rows.{name_of, fresh, tokens_of, chains_of, live_keys_of, IsSound}
use Rattle.hx_tokens.proofs.PushLaws.{joined_row, sound-joined, tokens_of-pushed, live_keys_of-pushed, chains-joined}
use Rattle.hx_tokens.proofs.tokens.Tokens.join_chain.Goals as goal

pub invariant_of-self : goal.invariant_of-self
invariant_of-self c =
    let rows = c.self.inside.retained.rows in
    let e = c.requires.there.0 in
    let there : IsEnteredAt (tokens_of rows) c.args.member e c.args.chain = subst (λ v. IsEnteredAt v.tokens c.args.member e c.args.chain) (sym c.self.view_is) c.requires.there.1 in
    let at = c.entered-entered.ensures ∙ ap (λ o. option_map_or (λ u. u.entered) o c.args.token.now) there in
    let new = c.push.ensures.rows (name_of c.args.member c.args.token.now) (ap (λ v. v.reserved) c.self.view_is ∙ c.requires.reserved) ∙ ap (λ u. rows ++ (name_of c.args.member c.args.token.now, u) ∷ []) (c.fresh.ensures ∙ ap (λ t. fresh t c.args.chain) at) in
    subst IsSound (sym new)
    (sound-joined rows c.args.member c.args.token.now e c.args.chain c.self.invariant (ap (λ v. is_used v.tokens c.args.member c.args.token.now) c.self.view_is ∙ c.requires.unused) there)

pub returns-clause-tokens : goal.returns-clause-tokens
returns-clause-tokens c =
    let rows = c.self.inside.retained.rows in
    let new = c.push.ensures.rows (name_of c.args.member c.args.token.now) (ap (λ v. v.reserved) c.self.view_is ∙ c.requires.reserved) ∙ ap (λ u. rows ++ (name_of c.args.member c.args.token.now, u) ∷ []) (c.fresh.ensures ∙ ap (λ t. fresh t c.args.chain) c.entered-entered.ensures) in
    ap tokens_of new ∙ tokens_of-pushed rows (joined_row c.args.member c.args.token.now (entered_at (tokens_of rows) c.args.chain c.args.token.now) c.args.chain)
    ∙ ap (λ v. v.tokens ++ replacing_used c.args.member c.args.token.now (entered_at v.tokens c.args.chain c.args.token.now) ∷ []) c.self.view_is

pub returns-clause-chains : goal.returns-clause-chains
returns-clause-chains c =
    let rows = c.self.inside.retained.rows in
    let e = c.requires.there.0 in
    let there : IsEnteredAt (tokens_of rows) c.args.member e c.args.chain = subst (λ v. IsEnteredAt v.tokens c.args.member e c.args.chain) (sym c.self.view_is) c.requires.there.1 in
    let at = c.entered-entered.ensures ∙ ap (λ o. option_map_or (λ u. u.entered) o c.args.token.now) there in
    let new = c.push.ensures.rows (name_of c.args.member c.args.token.now) (ap (λ v. v.reserved) c.self.view_is ∙ c.requires.reserved) ∙ ap (λ u. rows ++ (name_of c.args.member c.args.token.now, u) ∷ []) (c.fresh.ensures ∙ ap (λ t. fresh t c.args.chain) at) in
    ap chains_of new ∙ chains-joined rows c.args.member c.args.token.now e c.args.chain (ap (λ v. is_used v.tokens c.args.member c.args.token.now) c.self.view_is ∙ c.requires.unused) there
    ∙ ap (λ v. v.chains) c.self.view_is

pub returns-clause-keys : goal.returns-clause-keys
returns-clause-keys c =
    let rows = c.self.inside.retained.rows in
    let new = c.push.ensures.rows (name_of c.args.member c.args.token.now) (ap (λ v. v.reserved) c.self.view_is ∙ c.requires.reserved) ∙ ap (λ u. rows ++ (name_of c.args.member c.args.token.now, u) ∷ []) (c.fresh.ensures ∙ ap (λ t. fresh t c.args.chain) c.entered-entered.ensures) in
    ap live_keys_of new ∙ live_keys_of-pushed rows (joined_row c.args.member c.args.token.now (entered_at (tokens_of rows) c.args.chain c.args.token.now) c.args.chain) ∙ ap (λ v. v.keys ++ None ∷ []) c.self.view_is
