use Rattle.std.proofs.Common.{◌≡◌, ◌∙◌, ℕ, ◌<◌, ◌-◌, ◌+◌, ◌++◌, ◌∷◌, [], List, length, take, ap, sym, arith, append_assoc, get_or}
use Rattle.std.proofs.lemmas.List.{length-set}
use Rattle.hx_rules.specs.declared.event.Event.{Event}
use Rattle.hx_engine.specs.Passes.{Sent, placed}
use Rattle.hx_engine.proofs.Refusing.{one_placed, event_at, events_after}
use Rattle.hx_engine.proofs.submitting.move_first.Goals as goal

pub loop-i-preserved : goal.loop-i-preserved
loop-i-preserved c =
    let inv = c.loop-i.invariant in
    let was : List Event = c.args.events.now.items in
    let i = c.loop-i.i in
    let later = c.args.last - c.args.count in
    let event : Event = c.replace-event.result in
    let l : i < length c.loop-i.events.items = omega (arith, inv.as_many, c.requires.inside) in
    let m : i < length was = omega (arith, l, inv.as_many) in
    let is : event ≡ get_or was i event = event_at c.loop-i.events.items was i event l m (c.replace-event.ensures.value ∙ c.index_mut.ensures.value ∙ ap (get_or c.loop-i.events.items i) (sym c.replace-event.ensures.value)) inv.rest in
    record {
      added = c.push_reserved.ensures.items ∙ ap (λ (s : List Sent). s ++ (later + i + 1, event) ∷ []) inv.added ∙ append_assoc c.args.sent.now.items (placed later (take i was)) ((later + i + 1, event) ∷ [])
          ∙ ap (λ (s : List Sent). c.args.sent.now.items ++ s) (sym (one_placed later was i event m is));
      room = omega (arith, inv.room, c.push_reserved.ensures.len, c.push_reserved.ensures.capacity, m);
      rest = events_after c.loop-i.events.items was i _ inv.rest;
      as_many = length-set c.loop-i.events.items i _ ∙ inv.as_many;
    }
