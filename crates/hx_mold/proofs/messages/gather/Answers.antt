use Rattle.std.proofs.Common.{List, ℕ, ap, sym, subst, arith}
use Rattle.hx_mold.specs.Fronts.{wanted}
use Rattle.hx_mold.specs.Filling.{Fills}
use Rattle.hx_mold.proofs.Fronts.{gathers}
use Rattle.hx_mold.proofs.messages.gather.Goals as goal

pub returns-clause-some : goal.returns-clause-some
returns-clause-some g c = (
  omega (arith, c.if-first-eq0.false),
  gathers c.args.session c.args.first c.args.most c.collect-count.result _ c.collect-count.new.body.items c.finish.result.items c.finish.ensures.head (omega (arith, c.if-count-eq0.false))
      (subst (λ (ms : List (List ℕ)). Fills c.collect-count.result c.collect-count.new.body.items (wanted c.args.first c.args.most ms)) (ap g.M.Messages.messages (sym c.collect-count.ensures.same)) c.collect-count.ensures.fills) c.finish.ensures.items,
)
