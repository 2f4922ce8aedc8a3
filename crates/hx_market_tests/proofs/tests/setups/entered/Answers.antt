use Rattle.std.proofs.Common.{◌++◌, ◌∷◌, [], slice_get, ap, ◌∙◌}
use Rattle.hx_members.specs.Chains.{entered_used}
use Rattle.hx_market_tests.proofs.tests.setups.entered.Goals as goal

pub note-requires-clause-there : goal.note-requires-clause-there
note-requires-clause-there c =
    (c.args.member, (c.args.first.now, ap (λ l. slice_get l 0) (c.consume.ensures.tokens ∙ ap (λ l. l ++ entered_used c.args.member c.args.first.now ∷ []) (c.reserve.ensures.tokens ∙ c.new-tokens.ensures.tokens))))
