use Rattle.std.proofs.Common.{◌-◌, ◌∙◌}
use Rattle.hx_reader.proofs.LevelKeyLaws.{apart}
use Rattle.hx_reader.proofs.levels.leave.Goals as goal

pub returns-then-level-gt1-clause-others : goal.returns-then-level-gt1-clause-others
returns-then-level-gt1-clause-others c = λ q h.
    ((c.get_mut.follows.holds (record { shares = c.unwrap-level.result.now.shares - c.args.shares; orders = c.unwrap-level.result.now.orders - 1 })).3 c.requires.there).2 q (apart c.args.at q h)

pub returns-clause-others : goal.returns-clause-others
returns-clause-others c = λ q h.
    c.remove.ensures.updates.2 q (apart c.args.at q h)
    ∙ ((c.get_mut.follows.holds c.unwrap-level.result.now).3 c.requires.there).2 q (apart c.args.at q h)
