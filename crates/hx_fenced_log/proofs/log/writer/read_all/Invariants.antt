use Rattle.std.proofs.Common.{◌≡◌, take}
use Rattle.hx_journal.specs.Lines.{text_of}
use Rattle.hx_fenced_log.specs.Lines.{AreTapeLines}
use Rattle.hx_fenced_log.specs.Terms.{after_all, taken}
use Rattle.hx_fenced_log.proofs.log.writer.read_all.Given as goal

-- the first `found-index` records are read, and the text is the lines that are taken of them, each
-- one of a tape
abbrev pub invariant-loop-found : goal.invariant-loop-found
invariant-loop-found l = record {
  reading : l.reading ≡ after_all l.fn.reading (take l.found-index l.records);
  lines : AreTapeLines (taken l.fn.reading (take l.found-index l.records));
  text : l.text.items ≡ text_of (taken l.fn.reading (take l.found-index l.records));
}
