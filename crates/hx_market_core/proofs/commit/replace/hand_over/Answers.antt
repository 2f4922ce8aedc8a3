use Rattle.std.proofs.Common.{◌≡◌, ℕ, List, ◌∷◌, [], ◌++◌, Option, None, true, ap, ◌∙◌, subst, sym}
use Rattle.hx_units.specs.declared.names.Token.{Token}
use Rattle.hx_book.specs.declared.order.Live.{Live}
use Rattle.hx_book.specs.Book.{lives, without}
use Rattle.hx_members.specs.Chains.{Used, is_used, index_of, entered_of, entered_at, replacing_used}
use Rattle.hx_rules.specs.Removal.{others}
use Rattle.hx_market_core.specs.Effects.{IsOnly, IsUnused}
use Rattle.hx_market_core.specs.MarketModel.{MarketState}
use Rattle.hx_market_core.specs.OrderKeys.{AreKeyed, AreBefore}
use Rattle.hx_market_core.specs.Prepared.{IsChainOf}
use Rattle.hx_market_core.proofs.OrderKeys.{keyed_without, keyed_pushed, before_new}
use Rattle.hx_market_core.proofs.OrdersByToken.{has_found, others_lives}
use Rattle.hx_market_core.proofs.Replacements.{entered_there}
use Rattle.hx_day.proofs.UsedTokens.{used-last}
use Rattle.hx_market_core.proofs.commit.replace.hand_over.Goals as goal

pub remove-requires : goal.remove-requires
remove-requires g c =
    let old = c.args.old.now in
    has_found old.key.0 old.order (g.B.Book.orders c.state.inside.book) (subst (λ (v : MarketState). IsOnly v.orders c.args.member c.args.existing.now old) (sym c.state.view_is) c.requires.only).found

pub join_chain-requires-clause-there : goal.join_chain-requires-clause-there
join_chain-requires-clause-there g c =
    let chain : IsChainOf c.state.inside.tokens.tokens c.args.member c.args.existing.now c.args.old.now.order.chain = subst (λ (v : MarketState). IsChainOf v.market.tokens c.args.member c.args.existing.now c.args.old.now.order.chain) (sym c.state.view_is) c.requires.chain in
    (entered_of c.state.inside.tokens.tokens c.args.member c.args.existing.now, chain)

pub invariant_of-state : goal.invariant_of-state
invariant_of-state g c =
    let s = c.state.inside in
    let orders = g.B.Book.orders s.book in
    let t = c.args.replacement.now in
    let u : Used = replacing_used c.args.member t (entered_at s.tokens.tokens c.args.old.now.order.chain t) in
    subst (λ (ts : List Used). AreKeyed ts c.join_chain.new.self.keys (g.B.Book.orders c.remove.new.self)) (sym c.join_chain.ensures.tokens)
    (subst (λ (ks : List (Option ℕ)). AreKeyed (s.tokens.tokens ++ u ∷ []) ks (g.B.Book.orders c.remove.new.self)) (sym c.join_chain.ensures.keys)
    (subst (λ (xs : List Live). AreKeyed (s.tokens.tokens ++ u ∷ []) (s.tokens.keys ++ None ∷ []) xs) (sym c.remove.ensures.orders)
    (keyed_pushed s.tokens.tokens s.tokens.keys u (without c.args.old.now.key.0 orders) (keyed_without s.tokens.tokens s.tokens.keys c.args.old.now.key.0 orders c.state.invariant))))

pub returns-clause-market : goal.returns-clause-market
returns-clause-market g c =
    let s = c.state.inside in
    let orders = g.B.Book.orders s.book in
    let old = c.args.old.now in
    let t = c.args.replacement.now in
    let only : IsOnly orders c.args.member c.args.existing.now old = subst (λ (v : MarketState). IsOnly v.orders c.args.member c.args.existing.now old) (sym c.state.view_is) c.requires.only in
    let chain : IsChainOf s.tokens.tokens c.args.member c.args.existing.now old.order.chain = subst (λ (v : MarketState). IsChainOf v.market.tokens c.args.member c.args.existing.now old.order.chain) (sym c.state.view_is) c.requires.chain in
    let live : lives (g.B.Book.orders c.remove.new.self) ≡ others c.args.member c.args.existing.now (lives orders) =
    ap lives c.remove.ensures.orders ∙ others_lives c.args.member c.args.existing.now old.key.0 orders only.only only.differ in
    let tokens : c.join_chain.new.self.tokens ≡ s.tokens.tokens ++ replacing_used c.args.member t (entered_of s.tokens.tokens c.args.member c.args.existing.now) ∷ [] =
    c.join_chain.ensures.tokens ∙ ap (λ (z : Token). s.tokens.tokens ++ replacing_used c.args.member t z ∷ []) (entered_there s.tokens.tokens c.args.member (entered_of s.tokens.tokens c.args.member c.args.existing.now) t old.order.chain chain) in
    let chains = c.join_chain.ensures.chains in
    rw (← c.state.view_is) (cc)

pub returns-clause-used : goal.returns-clause-used
returns-clause-used g c =
    let tokens = c.state.inside.tokens in
    let t = c.args.replacement.now in
    subst (λ (ts : List Used). is_used ts c.args.member t ≡ true) (sym c.join_chain.ensures.tokens) (used-last tokens.tokens c.args.member t (entered_at tokens.tokens c.args.old.now.order.chain t))

pub returns-clause-before : goal.returns-clause-before
returns-clause-before g c =
    let tokens = c.state.inside.tokens in
    let orders = g.B.Book.orders c.state.inside.book in
    let key = c.args.old.now.key.0 in
    let t = c.args.replacement.now in
    let u : Used = replacing_used c.args.member t (entered_at tokens.tokens c.args.old.now.order.chain t) in
    let unused : IsUnused tokens.tokens c.args.member t = subst (λ (v : MarketState). IsUnused v.market.tokens c.args.member t) (sym c.state.view_is) c.requires.unused in
    subst (λ (ts : List Used). AreBefore ts (index_of ts c.args.member t) (g.B.Book.orders c.remove.new.self)) (sym c.join_chain.ensures.tokens)
    (subst (λ (xs : List Live). AreBefore (tokens.tokens ++ u ∷ []) (index_of (tokens.tokens ++ u ∷ []) c.args.member t) xs) (sym c.remove.ensures.orders)
    (before_new tokens.tokens tokens.keys u (without key orders) (keyed_without tokens.tokens tokens.keys key orders c.state.invariant) unused))
