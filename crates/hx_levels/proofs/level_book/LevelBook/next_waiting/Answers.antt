use Rattle.std.proofs.Common.{true, false, Bool, ◌≡◌, ◌&&◌, leb, length, List, [], ◌∷◌, None, refl, sym, ap, ◌∙◌, subst, arith}
use Rattle.std.specs.List.{find}
use Rattle.std.specs.Option.{IfSome, option_map}
use Rattle.hx_levels.specs.declared.level_book.LevelBook.TheInside.{Inside}
use Rattle.hx_levels.specs.LevelBook.{with_room, walked, number_in, entry_of, least_of, rank_of, IsBook}
use Rattle.hx_book.specs.Book.{is_conditional, ranked, rest_after, IsRanked, KeysDiffer}
use Rattle.hx_levels.specs.Walks.{rank_after, rank_until, is_waiting_until}
use Rattle.hx_levels.proofs.Walks.{Facts, facts, if_ranked, waiting_found, last_above, none_waits}
use Rattle.hx_ranked.specs.declared.entry.Entry.{Entry}
use Rattle.hx_ranked.specs.Ranked.{first_within_of}
use Rattle.hx_levels.proofs.level_book.LevelBook.next_waiting.Goals as goal

facts_of : (i : Inside) → IsBook i.linked_orders i.sides.levels i.time i.reserved i.retained i.next (with_room i.conditional i.sides.sizes) (walked i.linked_orders i.time) → Facts (number_in i.linked_orders) i.conditional.entries (walked i.linked_orders i.time)
facts_of i b = facts i.linked_orders i.sides.levels i.time i.reserved i.retained i.next (with_room i.conditional i.sides.sizes) (walked i.linked_orders i.time) b

no_entries : (xs : List Entry) → length xs ≡ 0 → xs ≡ []
no_entries [] e = refl
no_entries (x ∷ xs) e = absurd (omega arith)

pub rank_after-from-requires : goal.rank_after-from-requires
rank_after-from-requires c =
    if_ranked c.args.terms.now c.args.after c.args.self.now.orders (subst (λ v. KeysDiffer v.orders) c.self.view_is c.self.invariant.differ) c.requires.after

pub returns-then-len-eq0 : goal.returns-then-len-eq0
returns-then-len-eq0 c =
    let i = c.self.inside in
    let f = facts_of i c.self.invariant in
    subst (λ v. None ≡ option_map (entry_of (number_in v.linked_orders)) (find (is_waiting_until (number_in v.linked_orders) (rank_until (number_in v.linked_orders) c.args.terms.now c.args.ready v.orders) c.args.left c.args.least) (rest_after c.args.after (ranked c.args.terms.now v.orders)))) c.self.view_is
    (sym (ap (option_map (entry_of (number_in i.linked_orders)))
    (none_waits (number_in i.linked_orders) i.conditional.entries (walked i.linked_orders i.time) f c.args.terms.now (no_entries i.conditional.entries (sym c.len.ensures ∙ c.if-len-eq0.true))
    (is_waiting_until (number_in i.linked_orders) (rank_until (number_in i.linked_orders) c.args.terms.now c.args.ready (walked i.linked_orders i.time)) c.args.left c.args.least)
    (λ y e. not_that (leb (rank_of (number_in i.linked_orders) y) (rank_until (number_in i.linked_orders) c.args.terms.now c.args.ready (walked i.linked_orders i.time))) (is_conditional y.order) (leb (least_of y.order) c.args.left && leb c.args.least y.order.shares) e) c.args.after)))
  where
    not_that : (a b d : Bool) → b ≡ false → (a && (b && d)) ≡ false
    not_that true true d e = cc
    not_that true false d e = refl
    not_that false b d e = refl

pub rank_until-last-requires : goal.rank_until-last-requires
rank_until-last-requires c =
    if_ranked c.args.terms.now c.args.ready c.args.self.now.orders (subst (λ v. KeysDiffer v.orders) c.self.view_is c.self.invariant.differ) c.requires.ready

pub returns : goal.returns
returns c =
    let i = c.self.inside in
    let f = facts_of i c.self.invariant in
    let r : IfSome c.args.after (λ key. IsRanked c.args.terms.now key.0 (walked i.linked_orders i.time)) = subst (λ v. IfSome c.args.after (λ key. IsRanked c.args.terms.now key.0 v.orders)) (sym c.self.view_is) c.requires.after in
    let from : c.rank_after-from.result ≡ rank_after (number_in i.linked_orders) c.args.terms.now c.args.after (walked i.linked_orders i.time) =
    c.rank_after-from.ensures ∙ ap (λ v. rank_after (number_in v.linked_orders) c.args.terms.now c.args.after v.orders) (sym c.self.view_is) in
    subst (λ v. c.first_within.result ≡ option_map (entry_of (number_in v.linked_orders)) (find (is_waiting_until (number_in v.linked_orders) (rank_until (number_in v.linked_orders) c.args.terms.now c.args.ready v.orders) c.args.left c.args.least) (rest_after c.args.after (ranked c.args.terms.now v.orders)))) c.self.view_is
    (waiting_found (number_in i.linked_orders) i.conditional.entries (walked i.linked_orders i.time) f c.args.terms.now c.args.after r c.rank_until-last.ensures.small
    (rank_until (number_in i.linked_orders) c.args.terms.now c.args.ready (walked i.linked_orders i.time)) c.args.left c.args.least
    (last_above (number_in i.linked_orders) i.conditional.entries (walked i.linked_orders i.time) f c.args.terms.now c.args.ready
    (subst (λ v. IfSome c.args.ready (λ key. IsRanked c.args.terms.now key.0 v.orders)) (sym c.self.view_is) c.requires.ready)) c.first_within.result
    (c.first_within.ensures.exact ∙ ap (λ m. first_within_of m c.rank_until-last.result c.args.left c.args.least i.conditional.entries) from
    ∙ ap (λ m. first_within_of (rank_after (number_in i.linked_orders) c.args.terms.now c.args.after (walked i.linked_orders i.time)) m c.args.left c.args.least i.conditional.entries)
    (c.rank_until-last.ensures.rank ∙ ap (λ v. rank_until (number_in v.linked_orders) c.args.terms.now c.args.ready v.orders) (sym c.self.view_is)))
    c.first_within.ensures.rising)
