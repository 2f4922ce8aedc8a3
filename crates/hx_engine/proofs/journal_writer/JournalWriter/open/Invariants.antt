use Rattle.std.proofs.Common.{[]}
use Rattle.hx_engine.specs.Journals.{unspoken}
use Rattle.hx_engine.proofs.journal_writer.JournalWriter.open.Given as goal

-- the entries that were durable before
abbrev pub ghosts-write_before : goal.ghosts-write_before
ghosts-write_before g a = record { entries = unspoken a.desk.now.history; left = [] }
