use Rattle.std.proofs.Common.{◌<◌, true, Some, refl, sym, ap, ◌∙◌, subst}
use Rattle.hx_book.specs.Book.{is_ready, next_ready}
use Rattle.hx_levels.specs.LevelBook.{number_in}
use Rattle.hx_levels.proofs.Walks.{facts_at, next_ranked, entry_ranked, still_ready, found_before, walk_none, walk_some, met_walk, none_for_few}
use Rattle.hx_levels.specs.Walks.{is_waiting}
use Rattle.hx_levels.proofs.level_book.LevelBook.walk_on.Goals as goal

pub returns-then-left-least-clause-exact : goal.returns-then-left-least-clause-exact
returns-then-left-least-clause-exact c =
    none_for_few c.args.terms.now c.args.walk.now.after c.args.self.now.orders c.args.left c.args.minimum (subst (λ m. c.args.left < m) c.at_least_one-least.ensures c.if-left-least.true)

pub next_waiting-requires-clause-ready : goal.next_waiting-requires-clause-ready
next_waiting-requires-clause-ready c =
    let now = c.args.self.now in
    let f = facts_at c.self.inside now c.self.invariant c.self.view_is in
    next_ranked (number_in now.linked_orders) c.self.inside.conditional.entries now.orders f c.args.terms.now c.args.walk.now.after (is_ready c.at_least_one-least.result) c.known_ready-ready.result c.known_ready-ready.ensures

pub returns-in_default-clause-exact : goal.returns-in_default-clause-exact
returns-in_default-clause-exact c =
    let now = c.args.self.now in
    let f = facts_at c.self.inside now c.self.invariant c.self.view_is in
    c.meet.ensures.next
    ∙ walk_none (number_in now.linked_orders) c.self.inside.conditional.entries now.orders f c.args.terms.now c.args.walk.now.after c.args.left c.args.minimum c.at_least_one-least.result c.known_ready-ready.result
    c.at_least_one-least.ensures c.if-left-least.false (sym c.in_default.is ∙ c.next_waiting.ensures) c.known_ready-ready.ensures

pub returns-in_default-clause-walk : goal.returns-in_default-clause-walk
returns-in_default-clause-walk c =
    let now = c.args.self.now in
    let f = facts_at c.self.inside now c.self.invariant c.self.view_is in
    met_walk (number_in now.linked_orders) c.self.inside.conditional.entries now.orders f c.args.terms.now c.args.walk.now c.meet.new.walk c.args.left c.args.minimum c.known_ready-ready.result c.requires
    (walk_none (number_in now.linked_orders) c.self.inside.conditional.entries now.orders f c.args.terms.now c.args.walk.now.after c.args.left c.args.minimum c.at_least_one-least.result c.known_ready-ready.result
    c.at_least_one-least.ensures c.if-left-least.false (sym c.in_default.is ∙ c.next_waiting.ensures) c.known_ready-ready.ensures)
    c.meet.ensures.some c.meet.ensures.none

pub returns-clause-exact : goal.returns-clause-exact
returns-clause-exact c =
    let now = c.args.self.now in
    let f = facts_at c.self.inside now c.self.invariant c.self.view_is in
    let w = found_before (number_in now.linked_orders) c.self.inside.conditional.entries now.orders f c.args.terms.now c.args.walk.now.after c.args.left c.at_least_one-least.result c.in-Some.entry c.known_ready-ready.result
    c.known_ready-ready.ensures (sym c.in-Some.is ∙ c.next_waiting.ensures) in
    walk_some (number_in now.linked_orders) c.self.inside.conditional.entries now.orders f c.args.terms.now c.args.walk.now.after c.args.left c.args.minimum c.at_least_one-least.result c.in-Some.entry c.known_ready-ready.result
    c.at_least_one-least.ensures c.if-left-least.false w.0 c.known_ready-ready.ensures w.1

pub returns-clause-walk : goal.returns-clause-walk
returns-clause-walk c =
    let now = c.args.self.now in
    let f = facts_at c.self.inside now c.self.invariant c.self.view_is in
    let w = found_before (number_in now.linked_orders) c.self.inside.conditional.entries now.orders f c.args.terms.now c.args.walk.now.after c.args.left c.at_least_one-least.result c.in-Some.entry c.known_ready-ready.result
    c.known_ready-ready.ensures (sym c.in-Some.is ∙ c.next_waiting.ensures) in
    record {
      ranked = entry_ranked (number_in now.linked_orders) c.self.inside.conditional.entries now.orders f c.args.terms.now c.args.walk.now.after (is_waiting c.args.left c.at_least_one-least.result) c.in-Some.entry w.0;
      ahead = still_ready (number_in now.linked_orders) c.self.inside.conditional.entries now.orders f c.args.terms.now c.args.walk.now.after c.requires.ranked (is_waiting c.args.left c.at_least_one-least.result) c.at_least_one-least.result
          c.in-Some.entry c.known_ready-ready.result true w.0 c.known_ready-ready.ensures w.1 refl
          ∙ ap (λ m. next_ready c.args.terms.now (Some (record { 0 = c.in-Some.entry.key })) m now.orders) c.at_least_one-least.ensures;
    }
