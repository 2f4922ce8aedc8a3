use Rattle.std.proofs.Common.{refl}
use Rattle.hx_journal.specs.Lines.{lines_of}
use Rattle.hx_recovery.proofs.Reading.{tape_records}
use Rattle.hx_recovery.proofs.going_on.events_of.Goals as goal

pub returns-clause-records : goal.returns-clause-records
returns-clause-records g c =
    tape_records c.in_ok-events.events.items c.args.tape.now (lines_of c.args.tape.now) c.in_ok-events.ensures refl
