use Rattle.hx_tape_lines.proofs.Sent.{sent_is_known, one_event}
use Rattle.hx_tape_lines.proofs.laws.a_record_is_of_one_event.Goals as goal

pub returns-clause-known : goal.returns-clause-known
returns-clause-known c = sent_is_known

pub returns-clause-read : goal.returns-clause-read
returns-clause-read c = one_event
