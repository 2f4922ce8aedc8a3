use Rattle.std.proofs.Common.{◌+◌, ◌<◌, ◌^◌, ap, sym, ◌∙◌, subst}
use Rattle.std.specs.Option.{option_map_or}
use Rattle.hx_tokens.specs.Chains.{executed_by, executed_at, noted_at, IsEnteredAt}
use Rattle.hx_tokens.specs.Rows.{tokens_of, chains_of, live_keys_of, IsSound}
use Rattle.hx_tokens.proofs.TokenLaws.{chain-row, executed-chain}
use Rattle.hx_tokens.proofs.UpdateLaws.{tokens_of-noted, live_keys_of-noted, chains_of-noted, sound-noted}
use Rattle.hx_tokens.proofs.tokens.Tokens.note.Goals as goal

pub note-requires : goal.note-requires
note-requires c =
    let rows = c.self.inside.retained.rows in
    let m = c.requires.there.0 in
    let e = c.requires.there.1.0 in
    let there : IsEnteredAt (tokens_of rows) m e c.args.chain = subst (λ v. IsEnteredAt v.tokens m e c.args.chain) (sym c.self.view_is) c.requires.there.1.1 in
    let row = chain-row rows m e c.args.chain c.self.invariant.distinct there in
    let sum : executed_at (tokens_of rows) (chains_of rows) c.args.chain + c.args.shares < 2 ^ 32 = subst (λ v. executed_at v.tokens v.chains c.args.chain + c.args.shares < 2 ^ 32) (sym c.self.view_is) c.requires.fits in (
      row.row,
      row.stands,
      subst (λ n. n + c.args.shares < 2 ^ 32) (ap (λ o. option_map_or (λ u. executed_by (chains_of rows) u.member u.entered) o 0) there ∙ sym (executed-chain rows m e c.args.chain row)) sum,
    )

pub invariant_of-self : goal.invariant_of-self
invariant_of-self c = subst IsSound (sym c.note.ensures.rows) (sound-noted c.args.chain c.args.shares c.args.displayed c.self.inside.retained.rows c.self.invariant)

pub returns-clause-tokens : goal.returns-clause-tokens
returns-clause-tokens c = ap tokens_of c.note.ensures.rows ∙ tokens_of-noted c.args.chain c.args.shares c.args.displayed c.self.inside.retained.rows ∙ ap (λ v. v.tokens) c.self.view_is

pub returns-clause-chains : goal.returns-clause-chains
returns-clause-chains c =
    let rows = c.self.inside.retained.rows in
    let m = c.requires.there.0 in
    let e = c.requires.there.1.0 in
    let there : IsEnteredAt (tokens_of rows) m e c.args.chain = subst (λ v. IsEnteredAt v.tokens m e c.args.chain) (sym c.self.view_is) c.requires.there.1.1 in
    let row = chain-row rows m e c.args.chain c.self.invariant.distinct there in
    ap chains_of c.note.ensures.rows ∙ chains_of-noted rows m e c.args.chain c.args.shares c.args.displayed c.self.invariant.distinct there row
    ∙ ap (λ v. noted_at v.tokens c.args.chain c.args.shares c.args.displayed v.chains) c.self.view_is

pub returns-clause-keys : goal.returns-clause-keys
returns-clause-keys c = ap live_keys_of c.note.ensures.rows ∙ live_keys_of-noted c.args.chain c.args.shares c.args.displayed c.self.inside.retained.rows ∙ ap (λ v. v.keys) c.self.view_is
