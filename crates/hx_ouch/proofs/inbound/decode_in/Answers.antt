use Rattle.std.proofs.Common.{ap, ◌∙◌, arith}
use Rattle.hx_ouch.specs.Inbound.{inbound_of}
use Rattle.hx_ouch.proofs.InboundLaws.{inbound_again, inbound_spelled, inbound_readable}
use Rattle.hx_ouch.proofs.inbound.decode_in.Goals as goal

pub returns-clause-readable : goal.returns-clause-readable
returns-clause-readable c = rw c.read.ensures (inbound_readable c.args.bytes.now)

pub returns-clause-found : goal.returns-clause-found
returns-clause-found c = rw c.read.ensures (inbound_spelled c.args.bytes.now (λ i. omega (arith, c.type_inv.bytes i)))

pub returns-clause-only : goal.returns-clause-only
returns-clause-only c = λ m fits e. c.read.ensures ∙ ap inbound_of e ∙ inbound_again m fits
