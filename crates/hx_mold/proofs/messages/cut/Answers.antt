use Rattle.std.proofs.Common.{◌≡◌, ◌+◌, ◌-◌, ◌∙◌, ◌++◌, ◌∷◌, List, ℕ, length, take, drop, map, [], sym, ap, subst, append_assoc, arith}
use Rattle.std.proofs.lemmas.List.{take_all, length-drop, length-map, map-append, append-nil, drop-drop, drop-map, drop_all}
use Rattle.hx_units.specs.Fields.{texts}
use Rattle.hx_mold.specs.Fronts.{CutsInto}
use Rattle.hx_mold.specs.Filling.{Fills}
use Rattle.hx_mold.proofs.Fronts.{cuts_one}
use Rattle.hx_mold.proofs.messages.cut.Goals as goal

pub loop-done-preserved : goal.loop-done-preserved
loop-done-preserved c =
    let ms = texts c.args.messages.now in
    let done = c.loop-done.done in
    let count = c.fill-count.result in
    let rest : texts (take (length c.args.messages.now - done) (drop done c.args.messages.now)) ≡ drop done ms =
    ap texts (take_all (length c.args.messages.now - done) (drop done c.args.messages.now) (omega (arith, length-drop done c.args.messages.now))) ∙ sym (drop-map (λ m. m.items) done c.args.messages.now) in
    let fills : Fills count c.fill-count.new.body.items (drop done ms) = subst (Fills count c.fill-count.new.body.items) rest c.fill-count.ensures in
    let len : length (drop done ms) ≡ length c.args.messages.now - done = omega (arith, length-drop done ms, length-map c.args.messages.now (λ m. m.items)) in
    record {
      within = omega (arith, fills.holds.there, c.loop-done.invariant.within);
      made = λ ps others.
          let at : c.args.first + (done + count) ≡ c.args.first + done + count = omega arith in
          let one = cuts_one c.args.session (c.args.first + done) count (drop done ms) c.fill-count.new.body.items c.finish.result.items ps c.finish.ensures.head fills (omega (arith, c.loop-done-test.true)) c.finish.ensures.items
          (subst (λ (n : ℕ). CutsInto c.args.session n (drop count (drop done ms)) ps) at
          (subst (λ (x : List (List ℕ)). CutsInto c.args.session (c.args.first + (done + count)) x ps) (sym (drop-drop count done ms)) others)) in
          let grown : map (λ p. p.items) c.loop-done.packets.items ++ c.finish.result.items ∷ ps ≡ map (λ p. p.items) c.push.new.self.items ++ ps =
          sym (append_assoc (map (λ p. p.items) c.loop-done.packets.items) (c.finish.result.items ∷ []) ps)
          ∙ ap (λ (x : List (List ℕ)). x ++ ps) (sym (ap (map (λ p. p.items)) c.in_ok-push.ensures.items ∙ map-append (λ p. p.items) c.loop-done.packets.items (c.finish.result ∷ []))) in
          subst (CutsInto c.args.session c.args.first ms) grown (c.loop-done.invariant.made (c.finish.result.items ∷ ps) one);
    }

pub returns-clause-packets : goal.returns-clause-packets
returns-clause-packets c =
    let none : drop c.loop-done.done (texts c.args.messages.now) ≡ [] = drop_all c.loop-done.done (texts c.args.messages.now) (omega (arith, c.loop-done-test.false, length-map c.args.messages.now (λ m. m.items))) in
    subst (CutsInto c.args.session c.args.first (texts c.args.messages.now)) (append-nil (map (λ p. p.items) c.loop-done.packets.items)) (c.loop-done.invariant.made [] none)
