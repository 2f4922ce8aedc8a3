-- What a record of a log is made of.
use Rattle.hx_journal.specs.Lines.{lines_of}
use Rattle.hx_fenced_log.specs.declared.terms.record.LogRecord.TheInside.{Inside}
use Rattle.hx_fenced_log.specs.Records.{Record, IsHead}
use Rattle.hx_fenced_log.specs.Lines.{AreTheLines, HasReserved}

abbrev pub record_of : Inside → Record
record_of r = record { head = r.head; lines = lines_of r.text.items }

-- its head may be in a log, its text is lines, they are counted, and their indices are numbers
pub record IsRecordInside (r : Inside) : Type 0 where
  pub head : IsHead r.head
  pub lines : AreTheLines r.text.items r.count
  pub indices : HasReserved r.head r.count
