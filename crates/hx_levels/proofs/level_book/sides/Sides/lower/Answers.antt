use Rattle.std.proofs.Common.{sym, subst}
use Rattle.hx_levels.specs.Sizes.{AreSizes}
use Rattle.hx_levels.proofs.Sizes.{sizes_lowered}
use Rattle.hx_levels.proofs.level_book.sides.Sides.lower.Goals as goal

pub invariant_of-self-clause-sized : goal.invariant_of-self-clause-sized
invariant_of-self-clause-sized c =
    let was = c.args.self.now in
    subst (AreSizes c.lower.new.self) (sym c.renew.ensures.entries)
    (sizes_lowered was.levels c.lower.new.self c.args.at c.size_rank.result was.sizes.entries c.size_rank.ensures.level_key c.lower.ensures.others was.sized
    c.args.most c.requires c.lower.ensures.changed)
