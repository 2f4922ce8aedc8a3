use Rattle.std.proofs.Common.{◌&&◌, Bool, sym, ap, subst}
use Rattle.std.specs.Prelude.{IfOk}
use Rattle.hx_ranked.specs.Contents.{Contents as Ranked}
use Rattle.hx_levels.specs.LevelBook.{line, walked, with_room, HaveAtMost, IsBook}
use Rattle.hx_levels.proofs.Tightened.{tightened}
use Rattle.hx_levels.proofs.level_book.LevelBook.tighten_next.Goals as goal

pub invariant_of-self : goal.invariant_of-self
invariant_of-self c =
    let i = c.self.inside in
    let at = c.in-Some.at in
    let tight : (shown : Bool) → HaveAtMost c.in-Ok.most (line at shown c.args.self.now.orders) =
    subst (λ o. IfOk o (λ most. (shown : Bool) → HaveAtMost most (line at shown c.args.self.now.orders))) c.in-Ok.is c.most_at.ensures.most in
    let new : IsBook i.linked_orders c.lower.new.self.levels i.time i.reserved i.retained i.next (with_room i.conditional i.sides.sizes) (walked i.linked_orders i.time) =
    tightened i.linked_orders i.sides.levels c.lower.new.self.levels i.time i.reserved i.retained i.next (with_room i.conditional i.sides.sizes) (walked i.linked_orders i.time)
    at c.in-Ok.most c.self.invariant c.lower.ensures.changed c.lower.ensures.others
    (λ shown. subst (λ v. HaveAtMost c.in-Ok.most (line at shown v.orders)) (sym c.self.view_is) (tight shown)) in
    subst (λ (b : Bool). IsBook i.linked_orders c.lower.new.self.levels i.time i.reserved i.retained i.next (record { entries = i.conditional.entries; has_room = i.conditional.has_room && b }) (walked i.linked_orders i.time)) (sym c.lower.ensures.room) new
