use mathlib.Core.List.{IsPrefix}
use Rattle.hx_serve.proofs.publishing.Publishing.drain.Given as goal

abbrev pub invariant-loop : goal.invariant-loop
invariant-loop g l = IsPrefix l.fn.self.publisher.messages.known l.self.publisher.messages.known
