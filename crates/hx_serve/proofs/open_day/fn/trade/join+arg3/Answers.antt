use mir.Syntax.{of_param}
use Rattle.std.proofs.Common.{true}
use denote.Param.Send.{Quiet-if}
use Rattle.hx_serve.proofs.open_day.fn.trade.join+arg3.Goals as goal

-- what the call sends is what the closure was sent with
pub attend-requires-send-V : goal.attend-requires-send-V
attend-requires-send-V g c κs within =
    let sent = c.requires.1.1.1.1.1.1.0 in
    record { owned = sent.owned; leaving = λ k. Quiet-if (k (of_param 0)) _ _ (sent.leaving (λ x. true)) (λ x w. tt) }

pub attend-requires-send-J : goal.attend-requires-send-J
attend-requires-send-J g c κs within =
    let sent = c.requires.1.1.1.1.1.1.1 in
    record { owned = sent.owned; leaving = λ k. Quiet-if (k (of_param 1)) _ _ (sent.leaving (λ x. true)) (λ x w. tt) }

pub attend-requires-send-R : goal.attend-requires-send-R
attend-requires-send-R g c κs within =
    let sent = c.requires.1.1.1.1.1.1.2 in
    record { owned = sent.owned; leaving = λ k. Quiet-if (k (of_param 4)) _ _ (sent.leaving (λ x. true)) (λ x w. tt) }
