use Rattle.std.proofs.Common.{◌≡◌, ◌∷◌, [], arith, refl, ap, ◌∙◌, option_map, filter_map, length-append}
use Rattle.hx_serve.proofs.Passes.{one_more}
use Rattle.hx_serve.proofs.slot_workers.make_slots.Goals as goal

pub loop-pass-preserved : goal.loop-pass-preserved
loop-pass-preserved g c =
    let inv = c.loop-pass.invariant in
    let pushed = c.push_reserved.ensures in
    let longer = length-append c.loop-pass.yielded (c.in-Some.pass ∷ []) in
    let more = one_more (λ s. option_map (λ p. p.pass.number) s.worker) (λ p. p.number) c.loop-pass.slots.items _ c.loop-pass.yielded c.in-Some.pass refl inv.each in
    record {
      next = tt;
      finite = tt;
      log = ap (λ r. r.log) c.split-reader.ensures.same ∙ inv.log;
      room = pushed.capacity ∙ inv.room;
      count = omega (arith, pushed.len, inv.count, longer);
      each = ap (filter_map (λ s. option_map (λ p. p.pass.number) s.worker)) pushed.items ∙ more;
    }
