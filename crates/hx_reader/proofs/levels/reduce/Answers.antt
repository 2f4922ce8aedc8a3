use Rattle.std.proofs.Common.{◌-◌}
use Rattle.hx_reader.proofs.LevelKeyLaws.{apart}
use Rattle.hx_reader.proofs.levels.reduce.Goals as goal

pub returns-clause-others : goal.returns-clause-others
returns-clause-others c = λ q h.
    ((c.get_mut.follows.holds (record { shares = c.unwrap-level.result.now.shares - c.args.shares; orders = c.unwrap-level.result.now.orders })).3 c.requires.there).2 q (apart c.args.at q h)
