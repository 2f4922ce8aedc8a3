use Rattle.std.proofs.Common.{take, subst}
use Rattle.hx_desk.specs.InStep.{AreAnswered}
use Rattle.hx_desk.proofs.Answered.{writing_answered}
use Rattle.hx_desk.proofs.desk.Desk.writing_members.Goals as goal

pub returns : goal.returns
returns c =
    let i = c.self.inside in
    rw c.deref.ensures.value
    (subst (λ d. AreAnswered d.setup (take d.published_end d.history) (take d.sealed d.history) i.writing.items) c.self.view_is (writing_answered _ _ _ _ i.history.items _ _ i.published_end i.sealed i.writing.items i.waiting.items c.self.invariant))
