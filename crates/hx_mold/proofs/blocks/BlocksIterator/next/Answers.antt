use Rattle.std.proofs.Common.{◌-◌, ◌<◌, ℕ, List, ◌∷◌, drop, ◌∙◌, sym, ap, arith, rules}
use Rattle.std.proofs.lemmas.Grind.{common_steps}
use Rattle.hx_mold.specs.Counting.{block_len, is_whole, messages_in}
use Rattle.hx_mold.proofs.Laws.{is_whole_step, messages_in_step}
use Rattle.hx_mold.proofs.blocks.BlocksIterator.next.Goals as goal

pub invariant_of-self : goal.invariant_of-self
invariant_of-self c =
    let some : 0 < c.self.inside.left = omega (arith, c.if-self-eq0.false) in
    ap (is_whole (c.self.inside.left - 1)) c.in_ok-message.ensures.some.2 ∙ sym (is_whole_step c.self.inside.left c.self.inside.bytes.now some c.in_ok-message.ensures.some.0) ∙ c.self.invariant

pub returns-clause-steps : goal.returns-clause-steps
returns-clause-steps c =
    let some : 0 < c.self.inside.left = omega (arith, c.if-self-eq0.false) in
    sym c.self.view_is ∙ messages_in_step c.self.inside.left c.self.inside.bytes.now some
    ∙ ap (λ (x : List ℕ). x ∷ messages_in (c.self.inside.left - 1) (drop (block_len c.self.inside.bytes.now) c.self.inside.bytes.now)) (sym c.in_ok-message.ensures.some.1)
    ∙ ap (λ (x : List ℕ). c.in_ok-message.message.now ∷ messages_in (c.self.inside.left - 1) x) (sym c.in_ok-message.ensures.some.2)

pub returns-clause-goes : goal.returns-clause-goes
returns-clause-goes c = rw (returns-clause-steps c) (search (rules, common_steps, refl))
