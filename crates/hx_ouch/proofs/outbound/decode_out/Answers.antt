use Rattle.std.proofs.Common.{ap, ◌∙◌, arith}
use Rattle.hx_ouch.specs.Outbound.{outbound_of}
use Rattle.hx_ouch.proofs.OutboundLaws.{outbound_again, outbound_spelled, outbound_readable}
use Rattle.hx_ouch.proofs.outbound.decode_out.Goals as goal

pub returns-clause-readable : goal.returns-clause-readable
returns-clause-readable c = rw c.read.ensures (outbound_readable c.args.bytes.now)

pub returns-clause-found : goal.returns-clause-found
returns-clause-found c = rw c.read.ensures (outbound_spelled c.args.bytes.now (λ i. omega (arith, c.type_inv.bytes i)))

pub returns-clause-only : goal.returns-clause-only
returns-clause-only c = λ m fits e. c.read.ensures ∙ ap outbound_of e ∙ outbound_again m fits
