use Rattle.std.proofs.Common.{None, sym, subst}
use Rattle.hx_levels.specs.LevelKeys.{LevelKey}
use Rattle.hx_levels.specs.Levels.{FindsLarge}
use Rattle.hx_book.specs.Book.{ranked}
use Rattle.hx_levels.specs.LevelBook.{with_room, walked, contra, unconditional}
use Rattle.hx_levels.specs.Walks.{IsNextLarge}
use Rattle.hx_levels.proofs.LevelNext.{queued}
use Rattle.hx_levels.proofs.LargeNext.{large_first, plain_sized}
use Rattle.hx_levels.proofs.level_book.LevelBook.first_queued.Goals as goal

pub returns-clause-next : goal.returns-clause-next
returns-clause-next c =
    let terms = c.args.terms.now in
    let i = c.self.inside in
    let found = c.first_large.result in
    subst (λ v. IsNextLarge None c.args.least (ranked terms (unconditional v.orders)) c.as_key.result) c.self.view_is
    (subst (IsNextLarge None c.args.least (ranked terms (unconditional (walked i.linked_orders i.time)))) (sym c.as_key.ensures)
    (large_first i.linked_orders i.sides.levels i.retained (unconditional (walked i.linked_orders i.time))
    (queued i.linked_orders i.sides.levels i.time i.reserved i.retained i.next (with_room i.conditional i.sides.sizes) (walked i.linked_orders i.time) c.self.invariant)
    (plain_sized i.sides.levels (walked i.linked_orders i.time) c.self.invariant.sized) terms c.args.least found
    (subst (λ n. FindsLarge i.sides.levels (contra terms 0) n c.args.least found) c.contra_of-level_key.ensures.limit
    (subst (λ (r : LevelKey). FindsLarge i.sides.levels r c.contra_of-level_key.result.1 c.args.least found) c.contra_of-level_key.ensures.level_key c.first_large.ensures))))
