use Rattle.std.proofs.Common.{◌≡◌, ◌<◌, ◌≤◌, ◌∙◌, length, Some, ap, arith}
use Rattle.hx_mold.specs.Fronts.{wanted, message_at}
use Rattle.hx_mold.proofs.Fronts.{holds_more, fills_full, got, not_first, length-wanted}
use Rattle.hx_mold.proofs.messages.collect.Goals as goal

pub returns-then-not-add-clause-fills : goal.returns-then-not-add-clause-fills
returns-then-not-add-clause-fills g c =
    let ms = g.M.Messages.messages c.args.messages.now in
    let k = c.loop-count.count in
    let most : k < c.args.most = c.loop-count-test.true in
    let next : c.loop-count.next ≤ length ms = omega (arith, c.if-next-total.true, c.requires.total) in
    let there : k < length (wanted c.args.first c.args.most ms) = omega (arith, length-wanted c.args.first c.args.most ms, c.loop-count.invariant.next, c.requires.first) in
    let found : Some c.in-Some.message.items ≡ message_at c.loop-count.next ms = c.in-Some.ensures.found ∙ ap (λ source. message_at c.loop-count.next (g.M.Messages.messages source)) c.loop-count.invariant.same in
    let no = c.add.ensures.no c.if-not-add.true in
    rw no.0
    (fills_full k _ _ _ c.loop-count.invariant.holds there (got _ _ k _ _ ms c.requires.first most c.loop-count.invariant.next next found) no.1 (not_first _ _ c.if-not-add.true c.add.ensures.first))

pub loop-count-preserved : goal.loop-count-preserved
loop-count-preserved g c =
    let ms = g.M.Messages.messages c.args.messages.now in
    let k = c.loop-count.count in
    let most : k < c.args.most = c.loop-count-test.true in
    let next : c.loop-count.next ≤ length ms = omega (arith, c.if-next-total.true, c.requires.total) in
    let there : k < length (wanted c.args.first c.args.most ms) = omega (arith, length-wanted c.args.first c.args.most ms, c.loop-count.invariant.next, c.requires.first) in
    let found : Some c.in-Some.message.items ≡ message_at c.loop-count.next ms = c.in-Some.ensures.found ∙ ap (λ source. message_at c.loop-count.next (g.M.Messages.messages source)) c.loop-count.invariant.same in
    record {
      holds = holds_more k _ _ _ _ c.loop-count.invariant.holds there (got _ _ k _ _ ms c.requires.first most c.loop-count.invariant.next next found) (c.add.ensures.yes c.if-not-add.false);
      next = omega (arith, c.loop-count.invariant.next);
      same = c.in-Some.ensures.same ∙ c.loop-count.invariant.same;
    }
