use Rattle.std.proofs.Common.{◌++◌, [], ◌∷◌}
use Rattle.std.proofs.KnownBytes.{Appends-trans}
use Rattle.hx_serve.specs.LastLine.{tape_of}
use Rattle.hx_serve.proofs.Histories.{one_more}
use Rattle.hx_serve.proofs.history.write_history.Goals as goal

pub loop-entry-preserved : goal.loop-entry-preserved
loop-entry-preserved g c =
    let before = c.loop-entry.invariant in
    let x = c.entry-item.result in (
      before.0 ++ tape_of (x ∷ []),
      Appends-trans _ _ _ before.0 (tape_of (x ∷ [])) before.1 c.in_ok-write_entry.ensures.written,
      one_more c.args.history.now c.loop-entry.entry-index x before.0 _ c.loop-entry-test.true c.entry-item.is before.2,
    )
