use Rattle.std.proofs.Common.{◌≡◌, ap, ◌∙◌, length, filter_map, option_map, rules}
use Rattle.hx_serve.proofs.Passes.{same_in_all}
use Rattle.hx_serve.proofs.slot_workers.serve_slot_workers.Goals as goal
use Rattle.hx_units.proofs.Lists.{take-all_written}

pub returns : goal.returns
returns g c =
    let items = c.args.slot_workers.slots.items in
    let olds = c.deref_mut.result.now in
    let news = c.serve_slots.new.slots in
    let same : length news ≡ length items = c.serve_slots.ensures.len ∙ ap length c.deref_mut.ensures.value in
    let few : c.args.slot_workers.slots.len ≡ length news = search rules in
    let stay = same_in_all (λ s. option_map (λ p. p.pass.number) s.worker) olds news c.serve_slots.ensures.len c.serve_slots.ensures.each in
    c.take_all.ensures
    ∙ ap (filter_map (λ s. option_map (λ p. p.pass.number) s.worker)) (take-all_written c.args.slot_workers.slots.len news items same few)
    ∙ stay
    ∙ ap (filter_map (λ s. option_map (λ p. p.pass.number) s.worker)) c.deref_mut.ensures.value
