use Rattle.hx_market.specs.Markets.{Market}
use Rattle.hx_rules.specs.declared.event.Event.{Event}
use Rattle.hx_report.proofs.Struck.{struck_of_him, struck_of_another}
use Rattle.hx_report.proofs.marks.Mark.is_struck.Goals as goal

pub returns-then-self-get : goal.returns-then-self-get
returns-then-self-get c =
    rw c.in-Of.is
    (λ (market : Market) (event : Event) is. struck_of_him c.in-Of.member c.get.result market event c.args.self.now c.get.ensures.value is c.if-self-get.true)

pub returns-else-self-get : goal.returns-else-self-get
returns-else-self-get c =
    rw c.in-Of.is
    (λ (market : Market) (event : Event) is. struck_of_another c.in-Of.member c.get.result market event c.args.self.now c.get.ensures.value is c.if-self-get.false)
