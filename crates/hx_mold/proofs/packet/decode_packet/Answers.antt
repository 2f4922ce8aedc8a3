use Rattle.std.proofs.Common.{◌∙◌, ap, arith}
use Rattle.hx_mold.specs.Reading.{packet_of}
use Rattle.hx_mold.proofs.Codecs.{packet_spelled, packet_again}
use Rattle.hx_mold.proofs.packet.decode_packet.Goals as goal

pub returns-clause-found : goal.returns-clause-found
returns-clause-found c = rw c.read.ensures (packet_spelled c.args.bytes.now (λ i. omega (arith, c.type_inv.bytes i)))

pub returns-clause-only : goal.returns-clause-only
returns-clause-only c = λ p spells. c.read.ensures ∙ ap packet_of spells.1 ∙ packet_again p spells.0
