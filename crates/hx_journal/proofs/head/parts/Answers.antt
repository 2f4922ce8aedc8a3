use Rattle.hx_journal.proofs.Heading.{if_none, no_session, no_day}
use Rattle.hx_journal.proofs.head.parts.Goals as goal

pub returns-in_err-session-clause-none : goal.returns-in_err-session-clause-none
returns-in_err-session-clause-none c = if_none c.from_residual-in_err-session.result _ (λ session day setup first second third is.
    no_session c.args.line.now c.in_ok-after_tag.field-0.now session day setup c.in_ok-after_tag.ensures.some c.in_err-session.ensures.none is)

pub returns-in_err-day-clause-none : goal.returns-in_err-day-clause-none
returns-in_err-day-clause-none c = if_none c.from_residual-in_err-day.result _ (λ session day setup first second third is.
    no_day c.args.line.now c.in_ok-after_tag.field-0.now c.in_ok-session.session.now c.in_ok-session.rest.now session day setup
    c.in_ok-after_tag.ensures.some c.in_ok-session.ensures.some.0 c.in_ok-session.ensures.some.1 c.in_err-day.ensures.none first is)
