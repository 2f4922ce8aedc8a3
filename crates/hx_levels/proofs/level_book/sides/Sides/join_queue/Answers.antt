use Rattle.std.proofs.Common.{◌≡◌, ◌<◌, sym, ap, ◌∙◌, subst, arith}
use Rattle.hx_levels.specs.OrderLinks.{ends_with}
use Rattle.hx_levels.specs.Levels.{level_at, ends_in}
use Rattle.hx_levels.specs.Sizes.{size_in, AreSizes}
use Rattle.hx_levels.proofs.Sizes.{sizes_same, size_stays, sizes_first, sizes_next}
use Rattle.hx_levels.proofs.level_book.sides.Sides.join_queue.Goals as goal

-- the order has no more shares than another of its level
pub invariant_of-self-clause-sized : goal.invariant_of-self-clause-sized
invariant_of-self-clause-sized c =
    let was = c.args.self.now in
    let ends = ends_with c.args.key (ends_in c.args.shown (level_at was.levels c.args.at)) in
    sizes_same was.levels c.join_queue-last.new.self c.args.at was.sizes.entries c.join_queue-last.ensures.others
    (λ n. size_stays c.args.shown ends c.args.shares c.join_queue-last.result.1 n (level_at was.levels c.args.at) c.join_queue-last.ensures.most c.if-shares-most.true
    ∙ ap (size_in n) (sym c.join_queue-last.ensures.changed))
    was.sized

-- it has more
pub invariant_of-self-then-most-gt0-clause-sized : goal.invariant_of-self-then-most-gt0-clause-sized
invariant_of-self-then-most-gt0-clause-sized c =
    let was = c.args.self.now in
    let ends = ends_with c.args.key (ends_in c.args.shown (level_at was.levels c.args.at)) in
    let more : c.join_queue-last.result.1 < c.args.shares = (let h = c.if-shares-most.false in omega arith) in
    let some : 0 < c.join_queue-last.result.1 = (let h = c.if-most-gt0.true in omega arith) in
    subst (AreSizes c.join_queue-last.new.self) (sym c.renew.ensures.entries)
    (sizes_next was.levels c.join_queue-last.new.self c.args.at c.size_rank-rank.result was.sizes.entries c.size_rank-rank.ensures.level_key c.join_queue-last.ensures.others was.sized
    c.args.shown ends c.args.shares c.join_queue-last.result.1 c.requires.level c.join_queue-last.ensures.changed c.join_queue-last.ensures.most more some)

-- it is the first that has shares
pub invariant_of-self-2-clause-sized : goal.invariant_of-self-2-clause-sized
invariant_of-self-2-clause-sized c =
    let was = c.args.self.now in
    let ends = ends_with c.args.key (ends_in c.args.shown (level_at was.levels c.args.at)) in
    let more : c.join_queue-last.result.1 < c.args.shares = (let h = c.if-shares-most.false in omega arith) in
    let none : c.join_queue-last.result.1 ≡ 0 = (let h = c.if-most-gt0.false in omega arith) in
    subst (AreSizes c.join_queue-last.new.self) (sym c.insert.ensures)
    (sizes_first was.levels c.join_queue-last.new.self c.args.at c.size_rank-rank.result was.sizes.entries c.size_rank-rank.ensures.level_key c.join_queue-last.ensures.others was.sized
    c.args.shown ends c.args.shares c.join_queue-last.result.1 c.requires.level c.join_queue-last.ensures.changed c.join_queue-last.ensures.most more none)
