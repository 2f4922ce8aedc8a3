use Rattle.std.proofs.Common.{◌<◌, length, arith}
use Rattle.std.proofs.lemmas.List.{length-map}
use Rattle.hx_units.specs.Fields.{texts}
use Rattle.hx_mold.proofs.Fronts.{holds_few, holds_more, fills_full, text_is, not_first}
use Rattle.hx_mold.proofs.messages.fill.Goals as goal

pub returns-then-not-add : goal.returns-then-not-add
returns-then-not-add c =
    let i = c.loop-message.message-index in
    let xs = c.args.messages.now in
    let there : i < length (texts xs) = omega (arith, c.loop-message-test.true, length-map xs (λ m. m.items)) in
    let no = c.add.ensures.no c.if-not-add.true in
    rw (c.loop-message.invariant.count, no.0)
    (fills_full i _ _ _ c.loop-message.invariant.holds there (text_is xs i _ c.loop-message-test.true c.message-item.is) no.1 (not_first _ _ c.if-not-add.true c.add.ensures.first))

pub overflow_add-count : goal.overflow_add-count
overflow_add-count c = omega (arith, holds_few _ _ _ c.loop-message.invariant.holds, c.loop-message.invariant.count)

pub loop-message-preserved : goal.loop-message-preserved
loop-message-preserved c =
    let i = c.loop-message.message-index in
    let xs = c.args.messages.now in
    let there : i < length (texts xs) = omega (arith, c.loop-message-test.true, length-map xs (λ m. m.items)) in
    record {
      holds = holds_more i _ _ _ _ c.loop-message.invariant.holds there (text_is xs i _ c.loop-message-test.true c.message-item.is) (c.add.ensures.yes c.if-not-add.false);
      count = omega (arith, c.loop-message.invariant.count);
    }
