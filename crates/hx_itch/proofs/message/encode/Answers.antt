use Rattle.std.proofs.Common.{ap, ◌∙◌}
use Rattle.hx_itch.specs.Message.{feed_message_of}
use Rattle.hx_itch.proofs.MessageLaws.{feed_again}
use Rattle.hx_itch.proofs.message.encode.Goals as goal

pub returns-clause-again : goal.returns-clause-again
returns-clause-again c = ap feed_message_of c.write.ensures.bytes ∙ feed_again c.args.message.now c.write.ensures.fits
