use Rattle.std.proofs.Common.{length, true}
use Rattle.hx_sessions.specs.Asked.{CarriesOn}
use Rattle.hx_sessions.proofs.Passes.{IsLeft}
use Rattle.hx_sessions.proofs.inbound.submit_all.Given as goal

abbrev pub invariant-turns : goal.invariant-turns
invariant-turns g l = record {
  pass : CarriesOn true l.fn.sender.pass l.sender.pass;
  sent : IsLeft l.fn.sender.pass l.sender.pass l.fn.events.items l.left.items;
}

abbrev pub decreases-turns : goal.decreases-turns
decreases-turns g l = length l.left.items
