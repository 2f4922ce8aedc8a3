use Rattle.std.proofs.Common.{take, subst}
use Rattle.hx_desk.specs.InStep.{AreAnswered}
use Rattle.hx_desk.proofs.Answered.{waiting_answered}
use Rattle.hx_desk.proofs.desk.Desk.waiting_members.Goals as goal

pub returns : goal.returns
returns c =
    let i = c.self.inside in
    rw c.deref.ensures.value
    (subst (λ d. AreAnswered d.setup (take d.sealed d.history) d.history i.waiting.items) c.self.view_is (waiting_answered _ _ _ _ i.history.items _ _ i.published_end i.sealed i.writing.items i.waiting.items c.self.invariant))
