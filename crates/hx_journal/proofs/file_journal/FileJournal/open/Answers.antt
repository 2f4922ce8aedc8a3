use Rattle.std.proofs.Common.{sym}
use Rattle.hx_journal.proofs.Recovery.{no_blocks}
use Rattle.hx_journal.proofs.file_journal.FileJournal.open.Goals as goal

pub begin-requires-clause-empty : goal.begin-requires-clause-empty
begin-requires-clause-empty g c =
    rw (sym c.requires.read) (no_blocks c.args.text.now c.measure-end.result.0 c.if-end-eq0.true c.measure-end.ensures.front)
