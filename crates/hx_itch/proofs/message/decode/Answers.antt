use Rattle.std.proofs.Common.{arith}
use Rattle.hx_itch.proofs.MessageLaws.{feed_time_fits, feed_readable}
use Rattle.hx_itch.proofs.message.decode.Goals as goal

pub returns-clause-readable : goal.returns-clause-readable
returns-clause-readable c = rw c.read.ensures (feed_readable c.args.bytes.now)

pub returns-clause-time : goal.returns-clause-time
returns-clause-time c = rw c.read.ensures (feed_time_fits c.args.bytes.now (λ i. omega (arith, c.type_inv.bytes i)))
