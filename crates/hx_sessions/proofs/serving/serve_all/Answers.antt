use Rattle.std.proofs.Common.{rules, ◌≡◌, length, filter_map, refl, ap, ◌∙◌}
use lib.ListN.{length-map}
use Rattle.hx_sessions.proofs.Slots.{served_all}
use Rattle.hx_sessions.proofs.serving.serve_all.Goals as goal
use Rattle.hx_units.proofs.Lists.{take-all_written}

pub returns-clause-ok : goal.returns-clause-ok
returns-clause-ok g c =
    let filled = c.deref_mut.ensures.value ∙ c.wait_all.ensures in
    let items = c.wait_all.new.slots.items in
    let news = c.serve_slots.new.slots in
    let same : length news ≡ length items = c.serve_slots.ensures.len ∙ ap length c.deref_mut.ensures.value in
    let few : c.wait_all.new.slots.len ≡ length news = search rules in
    let count : length news ≡ length c.args.parts.items = same ∙ ap length c.wait_all.ensures ∙ length-map c.args.parts.items _ in
    served_all _ _ _ (λ s. s.waiting) (λ s. s.served) g.V.Venue.setup c.args.logins.now.setup.now c.args.logins.now.copies.now c.args.parts.items _ news _ (λ p. refl) filled count
    (c.take_all.ensures ∙ ap (filter_map (λ s. s.served)) (take-all_written c.wait_all.new.slots.len news items same few)) c.serve_slots.ensures.each
