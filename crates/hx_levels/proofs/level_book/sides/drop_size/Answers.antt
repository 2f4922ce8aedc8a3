use Rattle.std.proofs.Common.{◌≡◌, sym, subst, arith}
use Rattle.hx_levels.specs.LevelKeys.{level_key_number}
use Rattle.hx_levels.proofs.Sizes.{without_free}
use Rattle.hx_ranked.specs.Ranked.{IsFree}
use Rattle.hx_levels.proofs.level_book.sides.drop_size.Goals as goal

-- there is no entry to be taken out
pub returns-else-most-gt0-clause-entries : goal.returns-else-most-gt0-clause-entries
returns-else-most-gt0-clause-entries c =
    let none : c.args.most ≡ 0 = (let h = c.if-most-gt0.false in omega arith) in
    sym (without_free (level_key_number c.args.at) c.args.sizes.now.entries
    (subst (λ r. IsFree r c.args.sizes.now.entries) c.size_rank-rank.ensures.number (c.requires none c.size_rank-rank.result c.size_rank-rank.ensures.level_key)))
