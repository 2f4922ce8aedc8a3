use Rattle.std.proofs.Common.{sym, ap, ◌∙◌, Some, is_some}
use Rattle.hx_ouch.specs.Inbound.{inbound_of}
use Rattle.hx_report.proofs.Begun.{begun_not, begun_new}
use Rattle.hx_report.proofs.census.chain_begun.Goals as goal

pub returns-then-is_some-clause-none : goal.returns-then-is_some-clause-none
returns-then-is_some-clause-none c =
    λ _. begun_not c.args.market.now.market c.args.event.now c.in_ok-member.member c.in-Message.member c.in-Message.time c.in-Message.bytes c.in-Some-Enter.enter c.in-Message.is
    (ap inbound_of (sym c.as_slice.ensures) ∙ sym c.decode_in.ensures.exact ∙ c.in-Some-Enter.is ∙ ap Some c.in-Some-Enter.field-0-is) c.in_ok-member.ensures.value
    (ap is_some (sym c.chain.ensures) ∙ sym c.is_some.ensures ∙ c.if-is_some.true)

pub returns-clause-some : goal.returns-clause-some
returns-clause-some c =
    begun_new c.args.market.now.market c.args.event.now c.in_ok-member.member c.in-Message.member c.in-Message.time c.in-Message.bytes c.in-Some-Enter.enter c.in-Message.is
    (ap inbound_of (sym c.as_slice.ensures) ∙ sym c.decode_in.ensures.exact ∙ c.in-Some-Enter.is ∙ ap Some c.in-Some-Enter.field-0-is) c.in_ok-member.ensures.value
    (ap is_some (sym c.chain.ensures) ∙ sym c.is_some.ensures ∙ c.if-is_some.false)
