use Rattle.std.proofs.Common.{◌≡◌, ◌≤◌, ◌<◌, Some, None, sym, ap, ◌∙◌, subst}
use Rattle.std.specs.List.{find}
use Rattle.std.specs.Option.{IfSome, option_map}
use Rattle.hx_levels.specs.declared.level_book.LevelBook.TheInside.{Inside}
use Rattle.hx_levels.specs.LevelBook.{with_room, walked, number_in, entry_of, IsBook}
use Rattle.hx_book.specs.Book.{ranked, rest_after, IsRanked, is_conditional, KeysDiffer}
use Rattle.hx_levels.specs.Walks.{rank_after}
use Rattle.hx_levels.proofs.Walks.{Facts, facts, if_ranked, conditional_found, conditional_past, conditional_none}
use Rattle.hx_ranked.specs.Ranked.{is_from}
use Rattle.hx_levels.proofs.level_book.LevelBook.next_conditional.Goals as goal

facts_of : (i : Inside) → IsBook i.linked_orders i.sides.levels i.time i.reserved i.retained i.next (with_room i.conditional i.sides.sizes) (walked i.linked_orders i.time) → Facts (number_in i.linked_orders) i.conditional.entries (walked i.linked_orders i.time)
facts_of i b = facts i.linked_orders i.sides.levels i.time i.reserved i.retained i.next (with_room i.conditional i.sides.sizes) (walked i.linked_orders i.time) b

pub rank_after-from-requires : goal.rank_after-from-requires
rank_after-from-requires c =
    if_ranked c.args.terms.now c.args.after c.args.self.now.orders (subst (λ v. KeysDiffer v.orders) c.self.view_is c.self.invariant.differ) c.requires

pub returns-in-Some : goal.returns-in-Some
returns-in-Some c =
    let i = c.self.inside in
    let f = facts_of i c.self.invariant in
    let r : IfSome c.args.after (λ key. IsRanked c.args.terms.now key.0 (walked i.linked_orders i.time)) = subst (λ v. IfSome c.args.after (λ key. IsRanked c.args.terms.now key.0 v.orders)) (sym c.self.view_is) c.requires in
    let from : c.rank_after-from.result ≡ rank_after (number_in i.linked_orders) c.args.terms.now c.args.after (walked i.linked_orders i.time) =
    c.rank_after-from.ensures ∙ ap (λ v. rank_after (number_in v.linked_orders) c.args.terms.now c.args.after v.orders) (sym c.self.view_is) in
    subst (λ v. Some c.in-Some.entry ≡ option_map (entry_of (number_in v.linked_orders)) (find (λ y. is_conditional y.order) (rest_after c.args.after (ranked c.args.terms.now v.orders)))) c.self.view_is
    (conditional_found (number_in i.linked_orders) i.conditional.entries (walked i.linked_orders i.time) f c.args.terms.now c.args.after r c.last_rank-last.ensures.small c.in-Some.entry
    (ap (λ m. find (is_from m) i.conditional.entries) (sym from) ∙ sym c.first_from.ensures.exact ∙ c.in-Some.is) c.first_from.ensures.rising
    (subst (λ m. c.in-Some.entry.rank ≤ m) c.last_rank-last.ensures.rank c.if-entry-last.true))

pub returns-in_default : goal.returns-in_default
returns-in_default c =
    let i = c.self.inside in
    let f = facts_of i c.self.invariant in
    let r : IfSome c.args.after (λ key. IsRanked c.args.terms.now key.0 (walked i.linked_orders i.time)) = subst (λ v. IfSome c.args.after (λ key. IsRanked c.args.terms.now key.0 v.orders)) (sym c.self.view_is) c.requires in
    let from : c.rank_after-from.result ≡ rank_after (number_in i.linked_orders) c.args.terms.now c.args.after (walked i.linked_orders i.time) =
    c.rank_after-from.ensures ∙ ap (λ v. rank_after (number_in v.linked_orders) c.args.terms.now c.args.after v.orders) (sym c.self.view_is) in
    subst (λ v. None ≡ option_map (entry_of (number_in v.linked_orders)) (find (λ y. is_conditional y.order) (rest_after c.args.after (ranked c.args.terms.now v.orders)))) c.self.view_is
    (conditional_past (number_in i.linked_orders) i.conditional.entries (walked i.linked_orders i.time) f c.args.terms.now c.args.after r c.last_rank-last.ensures.small c.in-Some.entry
    (ap (λ m. find (is_from m) i.conditional.entries) (sym from) ∙ sym c.first_from.ensures.exact ∙ c.in-Some.is) c.first_from.ensures.rising
    (subst (λ m. m < c.in-Some.entry.rank) c.last_rank-last.ensures.rank c.if-entry-last.false))

pub returns-in_default-2 : goal.returns-in_default-2
returns-in_default-2 c =
    let i = c.self.inside in
    let f = facts_of i c.self.invariant in
    let r : IfSome c.args.after (λ key. IsRanked c.args.terms.now key.0 (walked i.linked_orders i.time)) = subst (λ v. IfSome c.args.after (λ key. IsRanked c.args.terms.now key.0 v.orders)) (sym c.self.view_is) c.requires in
    let from : c.rank_after-from.result ≡ rank_after (number_in i.linked_orders) c.args.terms.now c.args.after (walked i.linked_orders i.time) =
    c.rank_after-from.ensures ∙ ap (λ v. rank_after (number_in v.linked_orders) c.args.terms.now c.args.after v.orders) (sym c.self.view_is) in
    subst (λ v. None ≡ option_map (entry_of (number_in v.linked_orders)) (find (λ y. is_conditional y.order) (rest_after c.args.after (ranked c.args.terms.now v.orders)))) c.self.view_is
    (conditional_none (number_in i.linked_orders) i.conditional.entries (walked i.linked_orders i.time) f c.args.terms.now c.args.after r c.last_rank-last.ensures.small
    (ap (λ m. find (is_from m) i.conditional.entries) (sym from) ∙ sym c.first_from.ensures.exact ∙ c.in_default.is))
