use Rattle.std.proofs.Common.{◌∙◌, ap, arith}
use Rattle.hx_mold.specs.Reading.{request_of}
use Rattle.hx_mold.proofs.Codecs.{request_spelled, request_again}
use Rattle.hx_mold.proofs.request.decode_request.Goals as goal

pub returns-clause-found : goal.returns-clause-found
returns-clause-found c = rw c.read.ensures (request_spelled c.args.bytes.now (λ i. omega (arith, c.type_inv.bytes i)))

pub returns-clause-only : goal.returns-clause-only
returns-clause-only c = λ r spells. c.read.ensures ∙ ap request_of spells.1 ∙ request_again r spells.0
