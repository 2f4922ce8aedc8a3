use Rattle.std.proofs.Common.{drop, ◌++◌}
use Rattle.hx_replay.specs.Marks.{lines_of, HaveRoomForTimes}
use Rattle.hx_replay.specs.Seen.{texts_of}
use Rattle.hx_replay.proofs.Spelled.{IsSpelled}
use Rattle.hx_replay.proofs.write_output.spell_output.Given as goal

abbrev pub invariant-loop-mark : goal.invariant-loop-mark
invariant-loop-mark g l =
    record {
      spelled : IsSpelled (g.W.Write.contents l.fn.writer) (g.W.Write.contents l.writer) (l.fn.lines ++ l.fn.output) (texts_of (lines_of (drop l.mark-index l.marks) l.feed l.replies)) l.lines;
      times : HaveRoomForTimes l.feed;
    }
