use Rattle.std.proofs.Common.{◌≡◌, ◌+◌, ◌∷◌, length, arith, sym, ap, ◌∙◌, length-append, rules}
use Rattle.hx_fenced_log.proofs.Fronts.{one_more, all_read, few_read, nothing_left}
use Rattle.hx_fenced_log.proofs.terms.lines.count_lines.Goals as goal

pub overflow_add-count : goal.overflow_add-count
overflow_add-count c =
    let few = few_read c.loop-line.count c.args.text.now c.loop-line.rest.now c.loop-line.invariant in
    let cut : length c.loop-line.rest.now ≡ length c.in-Some.line.now + length (10 ∷ c.in-Some.others.now) =
    ap length c.in-Some.ensures.some.0 ∙ length-append c.in-Some.line.now (10 ∷ c.in-Some.others.now) in
    omega arith

pub loop-line-preserved : goal.loop-line-preserved
loop-line-preserved c =
    one_more c.loop-line.count c.args.text.now c.in-Some.line.now c.in-Some.others.now c.loop-line.rest.now c.loop-line.invariant c.in-Some.ensures.some.0
    (c.is_line.ensures.0 (search rules))

pub returns-clause-ok : goal.returns-clause-ok
returns-clause-ok c = all_read c.loop-line.count c.args.text.now c.loop-line.rest.now c.loop-line.invariant (nothing_left c.loop-line.rest.now (sym c.is_empty.ensures ∙ c.if-not-is_empty.false))
