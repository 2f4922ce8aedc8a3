use Rattle.std.proofs.Common.{refl, sym, ◌∙◌}
use Rattle.hx_fenced_log.proofs.Copies.{none_passed, line_passed, line_cuts, none_begins}
use Rattle.hx_fenced_log.proofs.terms.copy.first_record.Goals as goal

pub loop-line-init : goal.loop-line-init
loop-line-init c = none_passed c.args.text.now

pub returns-then-is_mark-clause-some : goal.returns-then-is_mark-clause-some
returns-then-is_mark-clause-some c =
    line_cuts _ c.loop-line.len _ _ c.in-Some.line.now _ c.loop-line.invariant c.in-Some.ensures.some.0 c.in-Some.ensures.some.1 (sym c.is_mark.ensures ∙ c.if-is_mark.true) refl

pub loop-line-preserved : goal.loop-line-preserved
loop-line-preserved c =
    line_passed _ c.loop-line.len _ c.in-Some.line.now _ c.loop-line.invariant c.in-Some.ensures.some.0 c.in-Some.ensures.some.1 (sym c.is_mark.ensures ∙ c.if-is_mark.false)

pub returns-clause-none : goal.returns-clause-none
returns-clause-none c = none_begins _ c.loop-line.len _ c.loop-line.invariant c.in_default.ensures.none
