-- A journal with a mirror may go to another thread, if both may.
use denote.RattleType.{RattleType}
use denote.Struct.Declared as declared
use denote.Param.Send.{IsSend, sendable, view_send, struct_send, recorded_send}
use Rattle.std.proofs.Crossing.{crosses}
use Rattle.hx_journal.specs.declared.journal.Journal.{Ghosts}
use Rattle.hx_fenced_log.specs.contracts.mirror.mirrored.MirroredJournal as mirrored
use Rattle.hx_fenced_log.specs.contracts.mirror.mirrored.MirroredJournal.TheInside as inside

module _ (J M : RattleType) (g : Ghosts J.Denot) (h : Ghosts M.Denot) (sends : IsSend J) (mirror_sends : IsSend M) where
  inside_send : IsSend (inside.the_row J M g h)
  inside_send =
      recorded_send _ _ _ (inside.the_type J M g h).to_one
      (struct_send (declared.shape (inside.the_type J M g h)) (sends, (mirror_sends, (search (sendable, crosses) depth 20, (search (sendable, crosses), (search (sendable, crosses) depth 20, tt))))))

  pub mirrored_send : IsSend (mirrored.the_row J M g h)
  mirrored_send = view_send _ _ _ _ _ inside_send
