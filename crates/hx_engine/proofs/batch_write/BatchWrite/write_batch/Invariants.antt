use Rattle.std.proofs.Common.{[], length, drop}
use Rattle.hx_engine.proofs.batch_write.BatchWrite.write_batch.Given as goal

-- what the receipt knows beyond the durable entries
abbrev pub ghosts-make_all_durable : goal.ghosts-make_all_durable
ghosts-make_all_durable g a = record { entries = drop (length a.journal_writer.writer.published) a.knows.now.known; left = [] }
