use Rattle.std.proofs.Common.{◌≡◌, ◌++◌, ℕ, List, [], false, length}
use Rattle.hx_sessions.specs.declared.intake.Intake.TheVariants as intakes
use Rattle.hx_sessions.specs.Asked.{AreMessages}
use Rattle.hx_sessions.proofs.Taking.{Upto}
use Rattle.hx_sessions.proofs.inbound.gather.Given as goal

abbrev pub invariant-loop-packet : goal.invariant-loop-packet
invariant-loop-packet g l = record {
  all : l.yielded ++ l.packet-iterator.rest.items ≡ l.fn.packets.items;
  left : l.packet-iterator.rest.len ≡ length l.packet-iterator.rest.items;
  silent : l.may_send ≡ false → l.events.items ≡ [];
  live : l.intake ≡ intakes.Open;
  upto : (texts : List (List ℕ)) × AreMessages l.member l.events.items texts × Upto l.fn.packets.items l.packet-iterator.rest.items texts;
}
