use Rattle.std.proofs.Common.{◌≡◌, ◌+◌, Bool, false, List, Option, Some, None, refl, sym, ap, ◌∙◌, subst}
use Rattle.std.specs.List.{find}
use Rattle.std.specs.Option.{IfSome, option_map}
use Rattle.hx_book.specs.declared.order.Key.{Key}
use Rattle.hx_book.specs.declared.order.Live.{Live}
use Rattle.hx_levels.specs.declared.level_book.LevelBook.TheInside.{Inside}
use Rattle.hx_levels.specs.LevelBook.{with_room, walked, number_in, rank_of, IsBook, unconditional}
use Rattle.hx_book.specs.Book.{is_under, order_of, ranked, rest_after, IsRanked, is_conditional, KeysDiffer, next_ready}
use Rattle.hx_levels.specs.Walks.{is_from}
use Rattle.hx_levels.proofs.Walks.{Facts, facts, has_ranked, ready_conditional, ready_plain, plain_start}
use Rattle.hx_levels.proofs.level_book.LevelBook.next_ready.Goals as goal

facts_of : (i : Inside) → IsBook i.linked_orders i.sides.levels i.time i.reserved i.retained i.next (with_room i.conditional i.sides.sizes) (walked i.linked_orders i.time) → Facts (number_in i.linked_orders) i.conditional.entries (walked i.linked_orders i.time)
facts_of i b = facts i.linked_orders i.sides.levels i.time i.reserved i.retained i.next (with_room i.conditional i.sides.sizes) (walked i.linked_orders i.time) b

has : (i : Inside) (orders : List Live) → IsBook i.linked_orders i.sides.levels i.time i.reserved i.retained i.next (with_room i.conditional i.sides.sizes) (walked i.linked_orders i.time) → walked i.linked_orders i.time ≡ orders → KeysDiffer orders
has i orders b e = subst KeysDiffer e b.differ

at_key : (after : Option Key) (key : Key) (P : Key → Type 0) → after ≡ Some key → IfSome after P → P key
at_key after key P e h = subst (λ o. IfSome o P) e h

pub is_conditional-requires : goal.is_conditional-requires
is_conditional-requires c =
    has_ranked c.args.terms.now c.in-Some.key.0 c.args.self.now.orders (has c.self.inside c.args.self.now.orders c.self.invariant (ap (λ v. v.orders) c.self.view_is))
    (at_key c.args.after c.in-Some.key (λ key. IsRanked c.args.terms.now key.0 c.args.self.now.orders) c.in-Some.is c.requires)

pub rank-requires : goal.rank-requires
rank-requires c =
    has_ranked c.args.terms.now c.in-Some.key.0 c.args.self.now.orders (has c.self.inside c.args.self.now.orders c.self.invariant (ap (λ v. v.orders) c.self.view_is))
    (at_key c.args.after c.in-Some.key (λ key. IsRanked c.args.terms.now key.0 c.args.self.now.orders) c.in-Some.is c.requires)

pub returns-in_default : goal.returns-in_default
returns-in_default c =
    let i = c.self.inside in
    let f = facts_of i c.self.invariant in
    c.ready_from.ensures
    ∙ subst (λ v. option_map (λ (y : Live). y.key) (find (is_from (number_in v.linked_orders) 0 c.args.least) (ranked c.args.terms.now (unconditional v.orders))) ≡ next_ready c.args.terms.now None c.args.least v.orders) c.self.view_is
    (ready_plain (number_in i.linked_orders) i.conditional.entries (walked i.linked_orders i.time) f c.args.terms.now None c.args.least tt tt)
    ∙ ap (λ o. next_ready c.args.terms.now o c.args.least c.args.self.now.orders) (sym c.in_default.is)

pub returns-then-is_conditional : goal.returns-then-is_conditional
returns-then-is_conditional c =
    let i = c.self.inside in
    let f = facts_of i c.self.invariant in
    let r : IsRanked c.args.terms.now c.in-Some.key.0 (walked i.linked_orders i.time) = subst (λ v. IsRanked c.args.terms.now c.in-Some.key.0 v.orders) (sym c.self.view_is)
    (at_key c.args.after c.in-Some.key (λ key. IsRanked c.args.terms.now key.0 c.args.self.now.orders) c.in-Some.is c.requires) in
    let e : IfSome (find (is_under c.in-Some.key.0) (walked i.linked_orders i.time)) (λ live. c.rank.result ≡ rank_of (number_in i.linked_orders) live) =
    subst (λ v. IfSome (find (is_under c.in-Some.key.0) v.orders) (λ live. c.rank.result ≡ rank_of (number_in v.linked_orders) live)) (sym c.self.view_is) c.rank.ensures.exact in
    c.ready_from-then-is_conditional.ensures
    ∙ subst (λ v. option_map (λ (y : Live). y.key) (find (is_from (number_in v.linked_orders) (c.rank.result + 1) c.args.least) (ranked c.args.terms.now (unconditional v.orders))) ≡ next_ready c.args.terms.now (Some c.in-Some.key) c.args.least v.orders) c.self.view_is
    (ready_conditional (number_in i.linked_orders) i.conditional.entries (walked i.linked_orders i.time) f c.args.terms.now c.in-Some.key c.args.least c.rank.result r e)
    ∙ ap (λ o. next_ready c.args.terms.now o c.args.least c.args.self.now.orders) (sym c.in-Some.is)

-- an order that is not conditional, as a walk has met it
plain_at : (after : Option Key) (key : Key) (orders : List Live) (result : Bool) → after ≡ Some key → IfSome (order_of key.0 orders) (λ order. result ≡ is_conditional order) → result ≡ false
    → IfSome after (λ k. (a : Live) → find (is_under k.0) orders ≡ Some a → is_conditional a.order ≡ false)
plain_at after key orders result e h f =
    subst (λ o. IfSome o (λ (k : Key). (a : Live) → find (is_under k.0) orders ≡ Some a → is_conditional a.order ≡ false)) (sym e)
    (λ a g. sym (subst (λ (o : Option Live). IfSome (option_map (λ (y : Live). y.order) o) (λ order. result ≡ is_conditional order)) g h) ∙ f)

pub ready_from-requires-2 : goal.ready_from-requires-2
ready_from-requires-2 c =
    let i = c.self.inside in
    let f = facts_of i c.self.invariant in
    at_key c.args.after c.in-Some.key (λ key. IsRanked c.args.terms.now key.0 (unconditional c.args.self.now.orders)) c.in-Some.is
    (subst (λ v. IfSome c.args.after (λ key. IsRanked c.args.terms.now key.0 (unconditional v.orders))) c.self.view_is
    (plain_start (number_in i.linked_orders) i.conditional.entries (walked i.linked_orders i.time) f c.args.terms.now c.args.after
    (subst (λ v. IfSome c.args.after (λ key. IsRanked c.args.terms.now key.0 v.orders)) (sym c.self.view_is) c.requires)
    (subst (λ v. IfSome c.args.after (λ (k : Key). (a : Live) → find (is_under k.0) v.orders ≡ Some a → is_conditional a.order ≡ false)) (sym c.self.view_is)
    (plain_at c.args.after c.in-Some.key c.args.self.now.orders c.is_conditional.result c.in-Some.is c.is_conditional.ensures c.if-is_conditional.false))))

pub returns : goal.returns
returns c =
    let i = c.self.inside in
    let f = facts_of i c.self.invariant in
    let key = c.in-Some.key in
    let r : IsRanked c.args.terms.now key.0 (walked i.linked_orders i.time) = subst (λ v. IsRanked c.args.terms.now key.0 v.orders) (sym c.self.view_is)
    (at_key c.args.after key (λ k. IsRanked c.args.terms.now k.0 c.args.self.now.orders) c.in-Some.is c.requires) in
    let plain : (a : Live) → find (is_under key.0) (walked i.linked_orders i.time) ≡ Some a → is_conditional a.order ≡ false =
    subst (λ v. (a : Live) → find (is_under key.0) v.orders ≡ Some a → is_conditional a.order ≡ false) (sym c.self.view_is)
    (plain_at (Some key) key c.args.self.now.orders c.is_conditional.result refl c.is_conditional.ensures c.if-is_conditional.false) in
    c.ready_from-2.ensures
    ∙ subst (λ v. option_map (λ (y : Live). y.key) (find (is_from (number_in v.linked_orders) 0 c.args.least) (rest_after (Some key) (ranked c.args.terms.now (unconditional v.orders)))) ≡ next_ready c.args.terms.now (Some key) c.args.least v.orders) c.self.view_is
    (ready_plain (number_in i.linked_orders) i.conditional.entries (walked i.linked_orders i.time) f c.args.terms.now (Some key) c.args.least r plain)
    ∙ ap (λ o. next_ready c.args.terms.now o c.args.least c.args.self.now.orders) (sym c.in-Some.is)
