use Rattle.std.proofs.Common.{◌≡◌, ◌++◌, take, true}
use Rattle.hx_journal.specs.Crashes.{Leaves}
use Rattle.hx_engine.proofs.journal_writer.write_down.Given as goal

abbrev pub invariant-loop-index : goal.invariant-loop-index
invariant-loop-index g l = record {
  appended : g.J.Journal.appended l.journal ≡ g.J.Journal.appended l.fn.journal ++ take l.index l.records;
  durable : g.J.Journal.durable l.journal ≡ g.J.Journal.durable l.fn.journal;
  opened : g.J.Journal.is_open l.journal ≡ true;
  leaves : Leaves (g.J.Journal.moment l.fn.journal) (g.J.Journal.moment l.journal) (g.J.Journal.left_since l.fn.journal) (g.J.Journal.left_since l.journal) (g.J.Journal.durable l.fn.journal)
      (g.J.Journal.appended l.fn.journal ++ l.records);
}
