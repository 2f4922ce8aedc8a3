use Rattle.hx_day.proofs.Due.{IsWalked}
use Rattle.hx_day.proofs.expiries.Expiries.indices_until.Given as goal

abbrev pub invariant-loop-entry : goal.invariant-loop-entry
invariant-loop-entry l = IsWalked l.self l.entry-iterator l.time l.indices.items
