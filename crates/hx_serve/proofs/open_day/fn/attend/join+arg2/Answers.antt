use mir.Syntax.{of_param}
use Rattle.std.proofs.Common.{true}
use denote.Param.Send.{Quiet-if}
use Rattle.hx_serve.proofs.open_day.fn.attend.join+arg2.Goals as goal

-- what the call sends is what the closure was sent with
pub serve_slot_workers-passes-requires-send-V : goal.serve_slot_workers-passes-requires-send-V
serve_slot_workers-passes-requires-send-V g c κs within =
    let sent = c.requires.1.1.1.1.1.0 in
    record { owned = sent.owned; leaving = λ k. Quiet-if (k (of_param 0)) _ _ (sent.leaving (λ x. true)) (λ x w. tt) }

pub serve_slot_workers-passes-requires-send-J : goal.serve_slot_workers-passes-requires-send-J
serve_slot_workers-passes-requires-send-J g c κs within =
    let sent = c.requires.1.1.1.1.1.1 in
    record { owned = sent.owned; leaving = λ k. Quiet-if (k (of_param 1)) _ _ (sent.leaving (λ x. true)) (λ x w. tt) }
