use Rattle.std.proofs.Common.{slice_get, ap, ◌∙◌}
use Rattle.hx_members.specs.Chains.{entered_of}
use Rattle.hx_market_tests.proofs.tests.setups.join.Goals as goal

pub join_chain-requires-clause-there : goal.join_chain-requires-clause-there
join_chain-requires-clause-there c =
    (entered_of c.args.tokens.now.tokens c.args.member c.args.first.now, ap (λ l. slice_get l c.in-Some.state.chain) c.reserve.ensures.tokens ∙ c.in-Some.ensures.entered)
