use Rattle.std.proofs.Common.{arith}
use Rattle.hx_journal.proofs.Measuring.{nothing_yet, stops_at_zero, stops_at_end, within_bytes, few_so_far, whole_front, whole_count, line_ends, line_goes_on}
use Rattle.hx_journal.proofs.measure.measure.Goals.{then-b-eq10, else-b-eq10}
use Rattle.hx_journal.proofs.measure.measure.Goals as goal

pub loop-i-init : goal.loop-i-init
loop-i-init c = nothing_yet c.args.bytes.now

pub overflow_add-lines : goal.overflow_add-lines
overflow_add-lines c = omega (arith, few_so_far _ _ _ _ _ c.loop-i.invariant, c.loop-i-test.true)

pub loop-i-preserved : goal.loop-i-preserved
loop-i-preserved c = elim c.if-b-eq10.branch [
  | then-b-eq10 w ↦ rw (w.start-is, w.lines-is, w.whole-is) (line_ends _ _ _ _ _ c.loop-i.invariant c.loop-i-test.true w.if-b-eq10.true w.ends-whole.result w.ends-whole.ensures.mark w.ends-whole.ensures.other)
  | else-b-eq10 w ↦ rw (w.start-is, w.lines-is, w.whole-is) (line_goes_on _ _ _ _ _ c.loop-i.invariant c.loop-i-test.true c.if-b-eq-UNWRITTEN.false w.if-b-eq10.false)
]

pub returns-after-loop-i-clause-inside : goal.returns-after-loop-i-clause-inside
returns-after-loop-i-clause-inside c = within_bytes _ _ _ _ _ c.loop-i.invariant

pub returns-after-loop-i-clause-front : goal.returns-after-loop-i-clause-front
returns-after-loop-i-clause-front c = whole_front _ _ _ _ _ c.loop-i.invariant (stops_at_end _ _ _ _ _ c.loop-i.invariant c.loop-i-test.false)

pub returns-after-loop-i-clause-count : goal.returns-after-loop-i-clause-count
returns-after-loop-i-clause-count c = whole_count _ _ _ _ _ c.loop-i.invariant (stops_at_end _ _ _ _ _ c.loop-i.invariant c.loop-i-test.false)

pub returns-then-b-eq-UNWRITTEN-clause-inside : goal.returns-then-b-eq-UNWRITTEN-clause-inside
returns-then-b-eq-UNWRITTEN-clause-inside c = within_bytes _ _ _ _ _ c.loop-i.invariant

pub returns-then-b-eq-UNWRITTEN-clause-front : goal.returns-then-b-eq-UNWRITTEN-clause-front
returns-then-b-eq-UNWRITTEN-clause-front c = whole_front _ _ _ _ _ c.loop-i.invariant (stops_at_zero _ _ _ _ _ c.loop-i.invariant c.loop-i-test.true c.if-b-eq-UNWRITTEN.true)

pub returns-then-b-eq-UNWRITTEN-clause-count : goal.returns-then-b-eq-UNWRITTEN-clause-count
returns-then-b-eq-UNWRITTEN-clause-count c = whole_count _ _ _ _ _ c.loop-i.invariant (stops_at_zero _ _ _ _ _ c.loop-i.invariant c.loop-i-test.true c.if-b-eq-UNWRITTEN.true)
