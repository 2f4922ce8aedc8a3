use Rattle.std.proofs.Common.{◌≡◌, ℕ, Option, subst, ◌∙◌}
use Rattle.std.specs.Option.{IfSome}
use Rattle.hx_market_core.proofs.Rejections.{passes}
use Rattle.hx_market_core.proofs.decision.enter.accepted_enter.Goals as goal

pub unwrap-requires-2 : goal.unwrap-requires-2
unwrap-requires-2 c = c.of.ensures.exists.1 (passes c.args.setup.now c.args.phase c.args.halted.now c.args.enter c.requires.passes).price

pub returns-clause-is_accepted_enter : goal.returns-clause-is_accepted_enter
returns-clause-is_accepted_enter c = record {
  locate = c.requires.locate ∙ c.unwrap.ensures;
  side = c.side_of.ensures;
  price = subst (λ (o : Option ℕ). IfSome o (λ p. p ≡ c.args.enter.price)) c.unwrap-2.ensures c.of.ensures.value;
  firm = c.resolved_firm.ensures;
  shares = (passes c.args.setup.now c.args.phase c.args.halted.now c.args.enter c.requires.passes).shares;
  time = c.requires.time;
}
