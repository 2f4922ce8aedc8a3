use Rattle.std.proofs.Common.{length, ap, refl, subst, inl, inr, arith, length-drop}
use Rattle.std.proofs.lemmas.List.{take_rest}
use Rattle.hx_soup.specs.Steps.{IsFault}
use Rattle.hx_soup.proofs.Growth.{cuts_more, cuts_whole, has_fault, has_packet, part_has_packet, stream_more, stream_split}
use Rattle.hx_soup.proofs.framer.take_piece.Goals as goal

pub loop-at-preserved-in-More : goal.loop-at-preserved-in-More
loop-at-preserved-in-More c =
    let left = take_rest c.args.piece.now c.loop-at.at in
    (omega (arith, c.loop-at-test.true), rw (stream_more c.args.retained.now.items c.args.piece.now _ c.loop-at.at 1 left) (cuts_more _ _ _ _ _ _ c.loop-at.invariant.1 c.in-More.ensures refl))

pub loop-at-preserved : goal.loop-at-preserved
loop-at-preserved c =
    let left = take_rest c.args.piece.now c.loop-at.at in
    let w = c.in-Whole.ensures in (
      omega (arith, c.loop-at-test.true, w.4, ap length left, length-drop c.loop-at.at c.args.piece.now),
      rw (stream_more c.args.retained.now.items c.args.piece.now _ c.loop-at.at c.in-Whole.count left) (cuts_whole _ _ _ _ _ _ _ c.loop-at.invariant.1 w.0 w.1 w.2 c.in-Ok.ensures.items),
    )

pub returns-in-Fault-eq0-clause-err : goal.returns-in-Fault-eq0-clause-err
returns-in-Fault-eq0-clause-err c =
    let left = take_rest c.args.piece.now c.loop-at.at in
    rw (stream_split c.args.retained.now.items c.args.piece.now _ c.loop-at.at 1 left)
    (has_fault _ _ _ _ _ _ c.loop-at.invariant.1 (subst (IsFault _) c.in-Fault-eq0.field-0-test c.in-Fault-eq0.ensures))

pub returns-in-Fault-clause-err : goal.returns-in-Fault-clause-err
returns-in-Fault-clause-err c =
    let left = take_rest c.args.piece.now c.loop-at.at in (
      elim c.in-Fault.ensures.is_bad [ inl zero ↦ absurd (c.in-Fault.length-test.1 zero) | inr big ↦ big ],
      rw (stream_split c.args.retained.now.items c.args.piece.now _ c.loop-at.at 1 left) (has_fault _ _ _ _ _ _ c.loop-at.invariant.1 c.in-Fault.ensures),
    )

pub returns-in_default-clause-err : goal.returns-in_default-clause-err
returns-in_default-clause-err c =
    let left = take_rest c.args.piece.now c.loop-at.at in
    let w = c.in-Whole.ensures in
    rw (stream_split c.args.retained.now.items c.args.piece.now _ c.loop-at.at 0 left)
    (has_packet _ _ _ _ c.loop-at.invariant.1 (part_has_packet _ _ _ _ w.0 w.1))
