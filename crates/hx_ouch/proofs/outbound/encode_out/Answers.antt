use Rattle.std.proofs.Common.{ap, ◌∙◌}
use Rattle.hx_ouch.specs.Outbound.{outbound_of}
use Rattle.hx_ouch.proofs.OutboundLaws.{outbound_again}
use Rattle.hx_ouch.proofs.outbound.encode_out.Goals as goal

pub returns-clause-again : goal.returns-clause-again
returns-clause-again c = ap outbound_of c.write.ensures.bytes ∙ outbound_again c.args.message.now c.write.ensures.fits
