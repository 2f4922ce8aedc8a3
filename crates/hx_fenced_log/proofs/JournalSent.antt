-- A journal over a log may go to another thread, if the log may: `search` does not look as deep by
-- itself.
use denote.RattleType.{RattleType}
use denote.Struct.Declared as declared
use denote.Param.Send.{IsSend, sendable, view_send, struct_send, recorded_send}
use Rattle.std.proofs.Crossing.{crosses}
use Rattle.hx_fenced_log.specs.declared.log.Log.{Ghosts}
use Rattle.hx_fenced_log.specs.contracts.log.writer.LogWriter as writer
use Rattle.hx_fenced_log.specs.contracts.log.error.KeepError as keep_error
use Rattle.hx_fenced_log.specs.contracts.journal.log_journal.LogJournal as journal
use Rattle.hx_fenced_log.specs.contracts.journal.log_journal.LogJournal.TheInside as inside

writer_send : IsSend (writer.the_field).row
writer_send = search (sendable, crosses) depth 20

error_send : IsSend keep_error.the_row
error_send = search (sendable, crosses) depth 20

module _ (T : RattleType) (g : Ghosts T.Denot) (sends : IsSend T) where
  inside_send : IsSend (inside.the_row T g)
  inside_send =
      recorded_send _ _ _ (inside.the_type T g).to_one
      (struct_send (declared.shape (inside.the_type T g)) (
        search (sendable, crosses),
        (
          sends,
          (
            writer_send,
            (
              search (sendable, crosses) depth 20,
              (search (sendable, crosses, error_send) depth 20, tt),
            ),
          ),
        ),
      ))

  pub journal_send : IsSend (journal.the_row T g)
  journal_send = view_send _ _ _ _ _ inside_send
