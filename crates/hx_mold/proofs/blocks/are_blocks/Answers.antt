use Rattle.std.proofs.Common.{◌-◌, ◌∙◌, sym, ap}
use Rattle.hx_mold.specs.Counting.{is_whole}
use Rattle.hx_mold.proofs.Laws.{is_whole_step}
use Rattle.hx_mold.proofs.blocks.are_blocks.Goals as goal

pub loop-left-preserved : goal.loop-left-preserved
loop-left-preserved c =
    ap (is_whole (c.loop-left.left - 1)) c.in-Some.ensures.some.2 ∙ sym (is_whole_step c.loop-left.left c.loop-left.rest.now c.loop-left-test.true c.in-Some.ensures.some.0) ∙ c.loop-left.invariant
