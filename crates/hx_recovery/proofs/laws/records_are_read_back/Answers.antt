use Rattle.hx_recovery.proofs.Records.{sent_is_read_back, read_is_resumed}
use Rattle.hx_recovery.proofs.laws.records_are_read_back.Goals as goal

pub returns : goal.returns
returns c = record { sent = sent_is_read_back; resumed = read_is_resumed }
