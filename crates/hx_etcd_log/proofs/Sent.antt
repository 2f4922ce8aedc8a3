-- The records reported to a client may go to another thread, and so may a log whose nodes may. `search` does not look
-- as deep by itself: a caller that sends a log lists these.
use denote.RattleType.{RattleType}
use denote.Struct.Declared as declared
use denote.Param.Send.{IsSend, sendable, view_send, struct_send, recorded_send}
use Rattle.std.proofs.Crossing.{crosses}
use Rattle.hx_etcd_log.specs.contracts.copied.CopiedLog as copied_log
use Rattle.hx_etcd_log.specs.contracts.log.EtcdLog as etcd_log
use Rattle.hx_etcd_log.specs.contracts.noted.Noted as noted
use Rattle.hx_etcd_log.specs.contracts.reported.Reported as reported
use Rattle.hx_etcd_log.specs.contracts.reported.Reported.TheInside as inside

pub noted_send : IsSend noted.the_row
noted_send = search sendable

inside_send : IsSend inside.the_row
inside_send = search (sendable, crosses, noted_send) depth 20

pub reported_send : IsSend reported.the_row
reported_send = view_send _ _ _ _ _ inside_send

module _ (T : RattleType) (sends : IsSend T) where
  field_send : IsSend (etcd_log.the_field T).row
  field_send =
      struct_send (declared.shape (etcd_log.the_type T))
      (search (sendable, crosses), (sends, (noted_send, (reported_send, (search (sendable, crosses), tt)))))

module _ (P N : RattleType) (copy : IsSend P) (sends : IsSend N) where
  pub copied_log_send : IsSend (copied_log.the_row P N)
  copied_log_send =
      recorded_send _ _ _ (copied_log.the_type P N).to_one
      (struct_send (declared.shape (copied_log.the_type P N)) (copy, (field_send N sends, tt)))
