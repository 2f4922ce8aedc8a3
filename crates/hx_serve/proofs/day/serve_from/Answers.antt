use Rattle.std.proofs.Common.{List, IfOk, subst}
use mathlib.Core.List.{IsPrefix}
use Rattle.hx_rules.specs.declared.event.Event.{Event}
use Rattle.hx_desk.specs.Entries.{restored}
use Rattle.hx_serve.proofs.day.serve_from.Goals as goal

-- the applied events are those of the journal
pub returns-clause-begins : goal.returns-clause-begins
returns-clause-begins g c =
    subst (λ (events : List Event). IfOk c.serve_applied_from.result (λ day. IsPrefix (restored events) day.history.items))
    c.in_ok-beginning.ensures.events c.serve_applied_from.ensures.begins
