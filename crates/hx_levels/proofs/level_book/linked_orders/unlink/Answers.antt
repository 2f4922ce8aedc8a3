use Rattle.std.proofs.Common.{◌≡◌, ℕ, Option, Some, None, refl, ap, ◌∙◌}
use Rattle.std.specs.Option.{option_map}
use Rattle.slab.specs.Slab.{get}
use Rattle.hx_levels.specs.declared.level_book.linked_orders.LinkedOrder.{LinkedOrder}
use Rattle.hx_levels.specs.OrderLinks.{after_at, before_at, on_time, on_queue, unlinked}
use Rattle.hx_levels.proofs.level_book.linked_orders.unlink.Goals as goal

-- the four links that are written, one after the other
at_once : (out : LinkedOrder) (k : ℕ) (o : Option LinkedOrder)
    → option_map (on_time (before_at out.time.after out.time.before k)) (option_map (on_time (after_at out.time.before out.time.after k))
    (option_map (on_queue (before_at out.queue.after out.queue.before k)) (option_map (on_queue (after_at out.queue.before out.queue.after k)) o)))
    ≡ option_map (unlinked out k) o
at_once out k None = refl
at_once out k (Some linked_order) = refl

pub returns-clause-others : goal.returns-clause-others
returns-clause-others c = λ k n.
    let out = c.take_out-linked_order.result in
    c.set_time_before.ensures.changed k
    ∙ ap (option_map (on_time (before_at out.time.after out.time.before k))) (c.set_time_after.ensures.changed k
    ∙ ap (option_map (on_time (after_at out.time.before out.time.after k))) (c.set_queue_before.ensures.changed k
    ∙ ap (option_map (on_queue (before_at out.queue.after out.queue.before k))) (c.set_queue_after.ensures.changed k
    ∙ ap (option_map (on_queue (after_at out.queue.before out.queue.after k))) (c.take_out-linked_order.ensures.others k n))))
    ∙ at_once out k (get c.args.linked_orders.now k)
