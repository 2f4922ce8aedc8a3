use Rattle.std.proofs.Common.{◌≡◌, ℕ, ◌≤◌, Bool, true, false, ◌&&◌, leb, Bor, refl, sym, ap, ◌∙◌, subst, arith}
use Rattle.std.specs.List.{find}
use Rattle.std.specs.Option.{is_some, option_map, option_copied, IfSome}
use Rattle.std.proofs.lemmas.Bool.Decides.{nat_tests}
use Rattle.std.proofs.lemmas.Option.{same_Some}
use Rattle.hx_book.specs.declared.order.Order.{Order}
use Rattle.hx_levels.specs.declared.level_book.linked_orders.LinkedOrder.{LinkedOrder}
use Rattle.hx_book.specs.Book.{has_key, is_under}
use Rattle.hx_levels.specs.LevelBook.{with_room, walked, rank_of, number_in}
use Rattle.hx_levels.specs.Walks.{is_from}
use Rattle.hx_levels.proofs.Present.{is_some-map}
use Rattle.hx_levels.proofs.LevelNext.{linked_order_found}
use Rattle.hx_levels.proofs.level_book.LevelBook.is_from.Goals as goal

pub unwrap-order-requires : goal.unwrap-order-requires
unwrap-order-requires c =
    let i = c.self.inside in
    let h : has_key c.args.key.0 (walked i.linked_orders i.time) ≡ true = ap (λ v. has_key c.args.key.0 v.orders) c.self.view_is ∙ c.requires in
    let f = linked_order_found i.linked_orders i.sides.levels i.time i.reserved i.retained i.next (with_room i.conditional i.sides.sizes) (walked i.linked_orders i.time) c.self.invariant c.args.key.0 h in
    sym (is_some-map (λ (x : Bor Order). x.now) c.order.result) ∙ ap is_some (c.order.ensures ∙ ap (option_map (λ (n : LinkedOrder). n.order)) f.stored)

pub returns : goal.returns
returns c =
    let i = c.self.inside in
    let key = c.args.key.0 in
    let h : has_key key (walked i.linked_orders i.time) ≡ true = ap (λ v. has_key key v.orders) c.self.view_is ∙ c.requires in
    let f = linked_order_found i.linked_orders i.sides.levels i.time i.reserved i.retained i.next (with_room i.conditional i.sides.sizes) (walked i.linked_orders i.time) c.self.invariant key h in
    let order : c.unwrap-order.result.now ≡ f.live.order =
    same_Some _ _ (sym (ap option_copied c.unwrap-order.ensures) ∙ c.order.ensures ∙ ap (option_map (λ (n : LinkedOrder). n.order)) f.stored) ∙ f.order in
    let rank : c.rank.result ≡ rank_of (number_in i.linked_orders) f.live =
    subst (λ o. IfSome o (λ live. c.rank.result ≡ rank_of (number_in i.linked_orders) live)) f.found
    (subst (λ v. IfSome (find (is_under key) v.orders) (λ live. c.rank.result ≡ rank_of (number_in v.linked_orders) live)) (sym c.self.view_is) c.rank.ensures.exact) in
    let enough : c.args.least ≤ f.live.order.shares = subst (λ (o : Order). c.args.least ≤ o.shares) order c.if-order-least.false in
    let core : leb c.args.from c.rank.result ≡ (leb c.args.from (rank_of (number_in i.linked_orders) f.live) && leb c.args.least f.live.order.shares) =
    ap (leb c.args.from) rank ∙ both (leb c.args.from (rank_of (number_in i.linked_orders) f.live)) (leb c.args.least f.live.order.shares) (reached c.args.least f.live.order.shares enough) in
    subst (λ v. IfSome (find (is_under key) v.orders) (λ live. leb c.args.from c.rank.result ≡ is_from (number_in v.linked_orders) c.args.from c.args.least live)) c.self.view_is
    (subst (λ o. IfSome o (λ live. leb c.args.from c.rank.result ≡ is_from (number_in i.linked_orders) c.args.from c.args.least live)) (sym f.found) core)
  where
    both : (a b : Bool) → b ≡ true → a ≡ (a && b)
    both true b e = sym e
    both false b e = refl

    reached : (a b : ℕ) → a ≤ b → leb a b ≡ true
    reached a b l = grind (arith, nat_tests)
