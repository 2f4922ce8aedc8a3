use Rattle.std.proofs.Common.{◌≡◌, ◌∷◌, ◌++◌, [], length, filter_map, map, option_map, sym, ap, ◌∙◌, arith, append_assoc, append-nil, length-append}
use Rattle.std.proofs.lemmas.List.{nil_from_length}
use Rattle.std.proofs.lemmas.List.Elements.{filter_map-append}
use Rattle.std.specs.List.{cons_option}
use Rattle.hx_serve.proofs.slot_workers.take_all.Goals as goal

pub put-requires : goal.put-requires
put-requires g c =
    let inv = c.loop-slot.invariant in
    omega (arith, inv.few, inv.total, inv.room, c.requires.room, c.in-Some.ensures.steps.1)

pub loop-slot-preserved : goal.loop-slot-preserved
loop-slot-preserved g c =
    let inv = c.loop-slot.invariant in
    let steps = c.in-Some.ensures.steps in
    let slot = c.in-Some.slot in
    let done = c.loop-slot.yielded in
    let rest = c.next.new.self.rest.items in
    let more = length-append done (slot ∷ []) in record {
      all = append_assoc done (slot ∷ []) rest ∙ ap (λ l. done ++ l) (sym steps.0) ∙ inv.all;
      left = omega (arith, inv.left, steps.1, ap length steps.0);
      total = omega (arith, inv.total, steps.1, more);
      room = c.put.ensures.room ∙ inv.room;
      few = omega (arith, inv.few, c.put.ensures.few, more);
      taken = c.put.ensures.numbers ∙ ap (λ l. l ++ cons_option (option_map (λ p. p.pass.number) slot.worker) []) inv.taken
          ∙ sym (filter_map-append (λ s. option_map (λ p. p.pass.number) s.worker) done (slot ∷ []));
    }

pub returns : goal.returns
returns g c =
    let inv = c.loop-slot.invariant in
    let none : c.loop-slot.slot-iterator.rest.items ≡ [] = nil_from_length c.loop-slot.slot-iterator.rest.items (sym inv.left ∙ c.in-None.ensures.steps.0) in
    let all : c.loop-slot.yielded ≡ c.args.slots.items = sym (append-nil c.loop-slot.yielded) ∙ ap (λ l. c.loop-slot.yielded ++ l) (sym none) ∙ inv.all in
    inv.taken ∙ ap (filter_map (λ s. option_map (λ p. p.pass.number) s.worker)) all
