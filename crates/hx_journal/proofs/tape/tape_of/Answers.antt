use Rattle.std.proofs.Common.{arith}
use Rattle.hx_journal.proofs.Copying.{one_copied, all_copied, few_records}
use Rattle.hx_journal.proofs.tape.tape_of.Goals as goal

pub overflow_add-count : goal.overflow_add-count
overflow_add-count c =
    let cut = c.in-Some.ensures.some in
    let more = one_copied c.args.text.now _ _ c.in-Some.line.now c.in-Some.after.now _ _ _ c.loop-line.invariant cut.1 cut.0 c.in_ok-count.ensures.added c.in_ok-count.ensures.count in
    omega (arith, more.count_is, few_records c.args.text.now c.requires)

pub loop-line-preserved : goal.loop-line-preserved
loop-line-preserved c =
    let cut = c.in-Some.ensures.some in
    one_copied c.args.text.now _ _ c.in-Some.line.now c.in-Some.after.now _ _ _ c.loop-line.invariant cut.1 cut.0 c.in_ok-count.ensures.added c.in_ok-count.ensures.count

pub returns-clause-tape : goal.returns-clause-tape
returns-clause-tape c = (all_copied c.args.text.now _ _ _ c.loop-line.invariant c.in_default.ensures.none).0

pub returns-clause-count : goal.returns-clause-count
returns-clause-count c = (all_copied c.args.text.now _ _ _ c.loop-line.invariant c.in_default.ensures.none).1
