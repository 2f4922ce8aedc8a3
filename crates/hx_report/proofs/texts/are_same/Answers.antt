use Rattle.std.proofs.Common.{sym, ◌∙◌}
use Rattle.hx_report.proofs.Lines.{meets_on, differ_in_line, are_one, are_two}
use Rattle.hx_report.proofs.texts.are_same.Goals as goal

pub returns-then-ne-clause-differs : goal.returns-then-ne-clause-differs
returns-then-ne-clause-differs c =
    let m = c.loop-line.invariant in
    let n = c.in-Some.ensures.some in
    let o = c.in-Some-next_line.ensures.some in
    λ _. differ_in_line c.args.sieve.now c.args.day.now c.args.struck.now c.loop-line.ahead.now c.loop-line.rest.now c.in-Some.line.now c.in-Some-next_line.theirs.now c.in-Some.others.now
    c.in-Some-next_line.after.now m n o (are_two c.in-Some-next_line.theirs.now c.in-Some.line.now (sym c.ne.ensures ∙ c.if-ne.true))

pub loop-line-preserved : goal.loop-line-preserved
loop-line-preserved c =
    meets_on c.args.sieve.now c.args.day.now c.args.struck.now c.loop-line.ahead.now c.loop-line.rest.now c.in-Some.line.now c.in-Some-next_line.theirs.now c.in-Some.others.now
    c.in-Some-next_line.after.now c.loop-line.invariant c.in-Some.ensures.some c.in-Some-next_line.ensures.some
    (are_one c.in-Some-next_line.theirs.now c.in-Some.line.now (sym c.ne.ensures ∙ c.if-ne.false))
