use mir.Syntax.{of_param}
use Rattle.std.proofs.Common.{true, option_map}
use denote.Param.Send.{Quiet-if}
use Rattle.hx_serve.proofs.Passes.{same_there}
use Rattle.hx_serve.proofs.slot_workers.serve_slots.Goals as goal

-- what the closure asks of the types that it shares is what the function asks of them
pub for_each_mut-requires-clause-accepts : goal.for_each_mut-requires-clause-accepts
for_each_mut-requires-clause-accepts g c κs within =
    let b = c.type_bounds in
    λ i p less same. (
      (
        record { owned = b.send-V.owned; leaving = λ k. Quiet-if (k (of_param 0)) _ _ (λ x w. tt) (λ x w. tt) },
        record { owned = b.send-J.owned; leaving = λ k. Quiet-if (k (of_param 1)) _ _ (λ x w. tt) (λ x w. tt) },
        record { shared = b.sync-V.shared },
        record { shared = b.sync-G.shared },
        record { shared = b.sync-B.shared },
        record { shared = b.sync-T.shared },
      ),
      (
        record { owned = b.send-V.owned; leaving = λ k. Quiet-if (k (of_param 0)) _ _ (λ x w. tt) (λ x w. tt) },
        record { owned = b.send-J.owned; leaving = λ k. Quiet-if (k (of_param 1)) _ _ (λ x w. tt) (λ x w. tt) },
        record { shared = b.sync-V.shared },
        record { shared = b.sync-G.shared },
        record { shared = b.sync-B.shared },
        record { shared = b.sync-T.shared },
      ),
    )

pub returns-clause-each : goal.returns-clause-each
returns-clause-each g c = λ i d less.
    let change = (c.for_each_mut.ensures i d less).1 in
    same_there (λ s. option_map (λ p. p.pass.number) s.worker) change.argument_is change.left change.call
