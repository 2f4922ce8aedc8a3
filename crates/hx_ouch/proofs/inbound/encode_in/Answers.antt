use Rattle.std.proofs.Common.{ap, ◌∙◌}
use Rattle.hx_ouch.specs.Inbound.{inbound_of}
use Rattle.hx_ouch.proofs.InboundLaws.{inbound_again}
use Rattle.hx_ouch.proofs.inbound.encode_in.Goals as goal

pub returns-clause-again : goal.returns-clause-again
returns-clause-again c = ap inbound_of c.write.ensures.bytes ∙ inbound_again c.args.message.now c.write.ensures.fits
