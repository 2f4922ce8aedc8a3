use Rattle.std.proofs.Common.{◌≡◌, true, Some, Bor, sym, ap, ◌∙◌, subst}
use Rattle.std.specs.List.{find}
use Rattle.std.specs.Option.{IfSome, is_some, option_copied}
use Rattle.hx_book.specs.declared.order.Live.{Live}
use Rattle.hx_book.specs.declared.order.Order.{Order}
use Rattle.hx_book.specs.Lists.{head_of, after_first}
use Rattle.hx_book.specs.Book.{is_under, has_key}
use Rattle.hx_levels.specs.LevelBook.{with_room, keys_of, line, walked}
use Rattle.hx_levels.proofs.Present.{is_some-map}
use Rattle.hx_levels.proofs.LevelNext.{queued}
use Rattle.hx_levels.proofs.Lines.{in_line, line_after}
use Rattle.hx_levels.proofs.level_book.LevelBook.step_in_line.Goals as goal

same_order : {x y : Order} → Some x ≡ Some y → x ≡ y
same_order h = cc

pub unwrap-requires : goal.unwrap-requires
unwrap-requires c =
    let i = c.self.inside in
    let q = queued i.linked_orders i.sides.levels i.time i.reserved i.retained i.next (with_room i.conditional i.sides.sizes) (walked i.linked_orders i.time) c.self.invariant in
    let has : has_key c.args.key (line c.args.at c.args.shown (walked i.linked_orders i.time)) ≡ true = subst (λ v. has_key c.args.key (line c.args.at c.args.shown v.orders) ≡ true) (sym c.self.view_is) c.requires in
    let e = in_line i.linked_orders i.sides.levels i.retained (walked i.linked_orders i.time) q c.args.at c.args.shown c.args.key has in
    sym (is_some-map (λ (x : Bor Order). x.now) c.order.result) ∙ ap is_some (c.order.ensures ∙ e.stored)

pub returns-clause-shares : goal.returns-clause-shares
returns-clause-shares c =
    let i = c.self.inside in
    let q = queued i.linked_orders i.sides.levels i.time i.reserved i.retained i.next (with_room i.conditional i.sides.sizes) (walked i.linked_orders i.time) c.self.invariant in
    let has : has_key c.args.key (line c.args.at c.args.shown (walked i.linked_orders i.time)) ≡ true = subst (λ v. has_key c.args.key (line c.args.at c.args.shown v.orders) ≡ true) (sym c.self.view_is) c.requires in
    let e = in_line i.linked_orders i.sides.levels i.retained (walked i.linked_orders i.time) q c.args.at c.args.shown c.args.key has in
    let order : c.unwrap.result.now ≡ e.live.order = same_order (sym (ap option_copied c.unwrap.ensures) ∙ c.order.ensures ∙ e.stored) in
    subst (λ v. IfSome (find (is_under c.args.key) (line c.args.at c.args.shown v.orders)) (λ (live : Live). c.unwrap.result.now.shares ≡ live.order.shares)) c.self.view_is
    (subst (λ o. IfSome o (λ (live : Live). c.unwrap.result.now.shares ≡ live.order.shares)) (sym e.found) (ap (λ (o : Order). o.shares) order))

pub returns-clause-next : goal.returns-clause-next
returns-clause-next c =
    let i = c.self.inside in
    let q = queued i.linked_orders i.sides.levels i.time i.reserved i.retained i.next (with_room i.conditional i.sides.sizes) (walked i.linked_orders i.time) c.self.invariant in
    let has : has_key c.args.key (line c.args.at c.args.shown (walked i.linked_orders i.time)) ≡ true = subst (λ v. has_key c.args.key (line c.args.at c.args.shown v.orders) ≡ true) (sym c.self.view_is) c.requires in
    line_after i.linked_orders i.sides.levels i.retained (walked i.linked_orders i.time) q c.args.at c.args.shown c.args.key has c.links.result.queue c.links.ensures.queue
    ∙ ap (λ v. head_of (keys_of (after_first (is_under c.args.key) (line c.args.at c.args.shown v.orders)))) c.self.view_is
