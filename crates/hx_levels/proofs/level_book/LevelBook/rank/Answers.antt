use Rattle.std.proofs.Common.{◌≡◌, ◌<◌, ◌^◌, true, Bor, sym, ap, ◌∙◌, subst}
use Rattle.std.specs.List.{find}
use Rattle.std.specs.Option.{is_some, option_map, option_copied, IfSome}
use Rattle.std.proofs.lemmas.Option.{same_Some}
use Rattle.hx_book.specs.declared.order.Order.{Order}
use Rattle.hx_levels.specs.declared.level_book.linked_orders.LinkedOrder.{LinkedOrder}
use Rattle.hx_book.specs.Book.{has_key, is_under, terms_of}
use Rattle.hx_levels.specs.LevelBook.{with_room, walked, rank_at, rank_of, level_key_of, number_in}
use Rattle.hx_levels.proofs.Present.{is_some-map}
use Rattle.hx_levels.proofs.LevelNext.{linked_order_found}
use Rattle.hx_levels.proofs.Numbers.{number-is}
use Rattle.hx_levels.proofs.Removed.{number_small, not_under}
use Rattle.hx_levels.proofs.level_book.LevelBook.rank.Goals as goal

pub unwrap-order-requires : goal.unwrap-order-requires
unwrap-order-requires c =
    let i = c.self.inside in
    let h : has_key c.args.key.0 (walked i.linked_orders i.time) ≡ true = ap (λ v. has_key c.args.key.0 v.orders) c.self.view_is ∙ c.requires in
    let f = linked_order_found i.linked_orders i.sides.levels i.time i.reserved i.retained i.next (with_room i.conditional i.sides.sizes) (walked i.linked_orders i.time) c.self.invariant c.args.key.0 h in
    sym (is_some-map (λ (x : Bor Order). x.now) c.order.result) ∙ ap is_some (c.order.ensures ∙ ap (option_map (λ (n : LinkedOrder). n.order)) f.stored)

pub rank_at-requires : goal.rank_at-requires
rank_at-requires c =
    let i = c.self.inside in
    let h : has_key c.args.key.0 (walked i.linked_orders i.time) ≡ true = ap (λ v. has_key c.args.key.0 v.orders) c.self.view_is ∙ c.requires in
    let f = linked_order_found i.linked_orders i.sides.levels i.time i.reserved i.retained i.next (with_room i.conditional i.sides.sizes) (walked i.linked_orders i.time) c.self.invariant c.args.key.0 h in
    let number : f.linked_order.number ≡ c.links.result.number = same_Some _ _ (sym (ap (option_map (λ (n : LinkedOrder). n.number)) f.stored) ∙ c.links.ensures.number) in
    subst (λ n. n < 2 ^ 63) number (number_small i.linked_orders i.sides.levels i.time i.reserved i.retained i.next (with_room i.conditional i.sides.sizes) (walked i.linked_orders i.time) c.args.key.0 f.linked_order c.self.invariant h f.stored)

pub returns-clause-exact : goal.returns-clause-exact
returns-clause-exact c =
    let i = c.self.inside in
    let key = c.args.key.0 in
    let h : has_key key (walked i.linked_orders i.time) ≡ true = ap (λ v. has_key key v.orders) c.self.view_is ∙ c.requires in
    let f = linked_order_found i.linked_orders i.sides.levels i.time i.reserved i.retained i.next (with_room i.conditional i.sides.sizes) (walked i.linked_orders i.time) c.self.invariant key h in
    let number : c.links.result.number ≡ number_in i.linked_orders f.live.key.0 =
    same_Some _ _ (sym c.links.ensures.number ∙ ap (option_map (λ (n : LinkedOrder). n.number)) f.stored) ∙ sym (number-is i.linked_orders key f.linked_order f.stored) ∙ ap (number_in i.linked_orders) (sym (not_under key (walked i.linked_orders i.time) f.live f.found)) in
    let order : c.unwrap-order.result.now ≡ f.live.order =
    same_Some _ _ (sym (ap option_copied c.unwrap-order.ensures) ∙ c.order.ensures ∙ ap (option_map (λ (n : LinkedOrder). n.order)) f.stored) ∙ f.order in
    let is : c.rank_at.result ≡ rank_of (number_in i.linked_orders) f.live =
    c.rank_at.ensures.rank ∙ ap (λ r. rank_at r c.unwrap-order.result.now.shown c.links.result.number) c.level_key_of.ensures.level_key
    ∙ ap (λ (o : Order). rank_at (level_key_of (terms_of o)) o.shown c.links.result.number) order
    ∙ ap (rank_at (level_key_of (terms_of f.live.order)) f.live.order.shown) number in
    subst (λ v. IfSome (find (is_under key) v.orders) (λ live. c.rank_at.result ≡ rank_of (number_in v.linked_orders) live)) c.self.view_is
    (subst (λ o. IfSome o (λ live. c.rank_at.result ≡ rank_of (number_in i.linked_orders) live)) (sym f.found) is)
