use denote.Param.Send.{sendable}
use Rattle.std.proofs.Crossing.{crosses}
use Rattle.hx_etcd_log.proofs.Sent.{copied_log_send}
use Rattle.hx_fenced_log.proofs.JournalSent.{journal_send}
use Rattle.hx_tape.proofs.hosting.host_logged.Goals as goal

-- the journal goes to the threads of the day
pub host_shown-requires-send-J : goal.host_shown-requires-send-J
host_shown-requires-send-J g c κs within = search (sendable, crosses, journal_send, copied_log_send)
