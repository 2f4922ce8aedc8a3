use Rattle.hx_day_log.proofs.Mirrored.{beside_first}
use Rattle.hx_day_log.proofs.mirrored_day.MirroredDay.new.Goals as goal

pub invariant_of-result : goal.invariant_of-result
invariant_of-result g c = λ is.
    beside_first g.M.Journal.appended g.M.Journal.durable g.M.Journal.is_open c.args.beside.journal c.args.beside.events.items (g.D.Applies.applied c.args.day) c.requires.new c.args.beside.appended c.args.beside.durable c.args.beside.opened
