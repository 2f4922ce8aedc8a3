use Rattle.std.proofs.Common.{Some, sym, ◌∙◌}
use Rattle.std.proofs.lemmas.Bool.{cond-true, cond-false}
use Rattle.hx_book.specs.Book.{is_ready}
use Rattle.hx_levels.specs.LevelBook.{number_in}
use Rattle.hx_levels.proofs.Walks.{facts_at, if_ranked, next_ranked, crossing_none, crossing_some}
use Rattle.hx_levels.proofs.level_book.LevelBook.next_crossing.Goals as goal

pub is_before-requires : goal.is_before-requires
is_before-requires c =
    let now = c.args.self.now in
    let f = facts_at c.self.inside now c.self.invariant c.self.view_is in
    if_ranked c.args.terms.now c.next_ready-ready.result now.orders f.differ
    (next_ranked (number_in now.linked_orders) c.self.inside.conditional.entries now.orders f c.args.terms.now c.args.after (is_ready 0) c.next_ready-ready.result c.next_ready-ready.ensures)

pub returns-then-is_before-clause-exact : goal.returns-then-is_before-clause-exact
returns-then-is_before-clause-exact c =
    let now = c.args.self.now in
    let f = facts_at c.self.inside now c.self.invariant c.self.view_is in
    sym (cond-true c.is_before.result (Some (record { 0 = c.in-Some.entry.key })) c.next_ready-ready.result c.if-is_before.true)
    ∙ crossing_some (number_in now.linked_orders) c.self.inside.conditional.entries now.orders f c.args.terms.now c.args.after c.in-Some.entry c.next_ready-ready.result c.is_before.result
    (sym c.in-Some.is ∙ c.next_conditional.ensures) c.next_ready-ready.ensures (record { none = c.is_before.ensures.none; some = c.is_before.ensures.some })

pub returns-clause-exact : goal.returns-clause-exact
returns-clause-exact c =
    let now = c.args.self.now in
    let f = facts_at c.self.inside now c.self.invariant c.self.view_is in
    sym (cond-false c.is_before.result (Some (record { 0 = c.in-Some.entry.key })) c.next_ready-ready.result c.if-is_before.false)
    ∙ crossing_some (number_in now.linked_orders) c.self.inside.conditional.entries now.orders f c.args.terms.now c.args.after c.in-Some.entry c.next_ready-ready.result c.is_before.result
    (sym c.in-Some.is ∙ c.next_conditional.ensures) c.next_ready-ready.ensures (record { none = c.is_before.ensures.none; some = c.is_before.ensures.some })

pub returns-in_default-clause-exact : goal.returns-in_default-clause-exact
returns-in_default-clause-exact c =
    let now = c.args.self.now in
    let f = facts_at c.self.inside now c.self.invariant c.self.view_is in
    crossing_none (number_in now.linked_orders) c.self.inside.conditional.entries now.orders f c.args.terms.now c.args.after c.next_ready-ready.result (sym c.in_default.is ∙ c.next_conditional.ensures) c.next_ready-ready.ensures
