use Rattle.std.proofs.Common.{arith}
use Rattle.hx_engine.specs.Journals.{record_texts}
use Rattle.hx_crash_tests.proofs.Restored.{all_written}
use Rattle.hx_crash_tests.proofs.tests.resuming.journal_of.Goals as goal

pub returns-clause-records : goal.returns-clause-records
returns-clause-records c =
    all_written (record_texts c.loop-event.records.items) c.args.events.now c.loop-event.event-index (omega (arith, c.loop-event-test.false)) c.loop-event.invariant
