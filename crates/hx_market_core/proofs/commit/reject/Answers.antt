use Rattle.std.proofs.Common.{ℕ, List, ◌∷◌, [], ◌++◌, Option, sym, subst}
use Rattle.hx_members.specs.Chains.{Used, entered_used}
use Rattle.hx_market_core.specs.OrderKeys.{AreKeyed}
use Rattle.hx_market_core.proofs.OrderKeys.{keyed_pushed}
use Rattle.hx_market_core.proofs.commit.reject.Goals as goal

pub invariant_of-state : goal.invariant_of-state
invariant_of-state g c =
    let s = c.state.inside in
    let orders = g.B.Book.orders s.book in
    let u : Used = entered_used c.args.effect.now.member c.args.effect.now.token in
    subst (λ (ts : List Used). AreKeyed ts c.consume.new.self.keys orders) (sym c.consume.ensures.tokens)
    (subst (λ (ks : List (Option ℕ)). AreKeyed (s.tokens.tokens ++ u ∷ []) ks orders) (sym c.consume.ensures.keys) (keyed_pushed s.tokens.tokens s.tokens.keys u orders c.state.invariant))
