use mir.Syntax.{of_param}
use Rattle.std.proofs.Common.{true}
use denote.Param.Send.{Quiet-if}
use Rattle.hx_serve.proofs.workers.fn.work.join+arg3.Goals as goal

-- what the call sends is what the closure was sent with
pub trade-traded-requires-send-V : goal.trade-traded-requires-send-V
trade-traded-requires-send-V g c κs within =
    let sent = c.requires.1.1.1.1.1.1.1.0 in
    record { owned = sent.owned; leaving = λ k. Quiet-if (k (of_param 0)) _ _ (sent.leaving (λ x. true)) (λ x w. tt) }

pub trade-traded-requires-send-J : goal.trade-traded-requires-send-J
trade-traded-requires-send-J g c κs within =
    let sent = c.requires.1.1.1.1.1.1.1.1 in
    record { owned = sent.owned; leaving = λ k. Quiet-if (k (of_param 1)) _ _ (sent.leaving (λ x. true)) (λ x w. tt) }

pub trade-traded-requires-send-C : goal.trade-traded-requires-send-C
trade-traded-requires-send-C g c κs within =
    let sent = c.requires.1.1.1.1.1.1.1.2 in
    record { owned = sent.owned; leaving = λ k. Quiet-if (k (of_param 2)) _ _ (sent.leaving (λ x. true)) (λ x w. tt) }
