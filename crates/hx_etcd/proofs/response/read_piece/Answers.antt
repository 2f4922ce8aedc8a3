use Rattle.std.proofs.Common.{◌≡◌, ℕ, ◌+◌, ◌-◌, List, ◌++◌, length, take, drop, ap, ◌∙◌, arith, append_assoc, length-drop}
use Rattle.hx_etcd.proofs.Pieces.{part_goes_further, part_pauses, part_comes_to_end}
use Rattle.hx_etcd.proofs.response.read_piece.Goals as goal
use Rattle.hx_units.proofs.Lists.{take-rest}

pub parts-preserved : goal.parts-preserved
parts-preserved c =
    let before = c.parts.invariant in
    let there = take-rest c.parts.at c.args.input.now in
    let step = rw c.in-Data.is at c.in_ok-len.ensures.ok in (
      omega (arith, step.1.within, before.0, ap length there, length-drop c.parts.at c.args.input.now),
      (
        before.1.0 ++ c.of.result.now,
        c.in_ok-extend_from_slice-in-Data.ensures.items ∙ ap (λ (l : List ℕ). l ++ c.of.result.now) before.1.1 ∙ append_assoc c.args.body.now.items before.1.0 c.of.result.now,
        part_goes_further c.args.decoder.now c.parts.decoder c.args.input.now _ c.parts.at before.1.0 before.1.2 there c.decode.new.self c.in-Data.span.end c.of.result.now (rw c.of.ensures step.1),
      ),
    )

pub returns-in-NeedMore-clause-ok : goal.returns-in-NeedMore-clause-ok
returns-in-NeedMore-clause-ok c =
    let before = c.parts.invariant in
    let there = take-rest c.parts.at c.args.input.now in
    let step = rw c.in-NeedMore.is at c.in_ok-len.ensures.ok in
    record {
      within = omega (arith, step.continues.within, before.0, ap length there, length-drop c.parts.at c.args.input.now);
      content = before.1.0;
      added = before.1.1;
      found = part_pauses c.args.decoder.now c.parts.decoder c.args.input.now _ c.parts.at before.1.0 before.1.2 there c.decode.new.self _ step;
    }

pub returns-in-End-clause-ok : goal.returns-in-End-clause-ok
returns-in-End-clause-ok c =
    let before = c.parts.invariant in
    let there = take-rest c.parts.at c.args.input.now in
    let step = rw c.in-End.is at c.in_ok-len.ensures.ok in
    record {
      within = omega (arith, step.within.len_fits, before.0, ap length there, length-drop c.parts.at c.args.input.now);
      content = before.1.0;
      added = before.1.1;
      found = part_comes_to_end c.args.decoder.now c.parts.decoder c.args.input.now _ c.parts.at before.1.0 before.1.2 there _ _ _ step (omega arith);
    }
