use Rattle.std.proofs.Common.{List, sym, subst}
use Rattle.hx_fenced_log.specs.Records.{Record}
use Rattle.hx_fenced_log.specs.Copies.{AreWhole}
use Rattle.hx_fenced_log.proofs.Copies.{one_whole}
use Rattle.hx_fenced_log.proofs.terms.copy.read_all.Goals as goal

pub loop-piece-preserved : goal.loop-piece-preserved
loop-piece-preserved c =
    subst (λ (l : List Record). AreWhole c.args.text.now l c.in-Some.others.now) (sym c.in_ok-push-in-Ok.ensures.items)
    (one_whole _ _ _ _ _ c.in-Ok.found c.loop-piece.invariant c.in-Some.ensures.some c.in-Ok.ensures.ok.0 c.in-Ok.ensures.ok.1)
