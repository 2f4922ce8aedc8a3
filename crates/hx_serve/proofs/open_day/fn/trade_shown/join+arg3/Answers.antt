use mir.Syntax.{of_param}
use Rattle.std.proofs.Common.{true}
use denote.Param.Send.{Quiet-if}
use Rattle.hx_serve.proofs.open_day.fn.trade_shown.join+arg3.Goals as goal

-- what the call sends is what the closure was sent with
pub trade-closed-requires-send-V : goal.trade-closed-requires-send-V
trade-closed-requires-send-V g c κs within =
    let sent = c.requires.1.1.1.1.1.1.0 in
    record { owned = sent.owned; leaving = λ k. Quiet-if (k (of_param 0)) _ _ (sent.leaving (λ x. true)) (λ x w. tt) }

pub trade-closed-requires-send-J : goal.trade-closed-requires-send-J
trade-closed-requires-send-J g c κs within =
    let sent = c.requires.1.1.1.1.1.1.1 in
    record { owned = sent.owned; leaving = λ k. Quiet-if (k (of_param 1)) _ _ (sent.leaving (λ x. true)) (λ x w. tt) }

pub trade-closed-requires-send-R : goal.trade-closed-requires-send-R
trade-closed-requires-send-R g c κs within =
    let sent = c.requires.1.1.1.1.1.1.2 in
    record { owned = sent.owned; leaving = λ k. Quiet-if (k (of_param 4)) _ _ (sent.leaving (λ x. true)) (λ x w. tt) }
