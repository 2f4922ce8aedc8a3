use Rattle.std.proofs.Common.{sym, ap, ◌∙◌}
use Rattle.hx_levels.specs.Levels.{level_at}
use Rattle.hx_levels.specs.Sizes.{size_in}
use Rattle.hx_levels.proofs.Sizes.{sizes_same, size_left}
use Rattle.hx_levels.proofs.level_book.sides.Sides.leave_level.Goals as goal

pub invariant_of-self-clause-sized : goal.invariant_of-self-clause-sized
invariant_of-self-clause-sized c =
    let was = c.args.self.now in
    sizes_same was.levels c.leave_queue-left.new.self c.args.at was.sizes.entries c.leave_queue-left.ensures.others
    (λ n. size_left c.args.shown c.leave_queue-left.result n (level_at was.levels c.args.at) ∙ ap (size_in n) (sym c.leave_queue-left.ensures.changed))
    was.sized
