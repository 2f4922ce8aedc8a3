use Rattle.std.proofs.Common.{◌≡◌, ◌+◌, ◌++◌, drop}
use Rattle.std.specs.Vec.{vec_len, vec_capacity}
use Rattle.hx_replay.specs.Marks.{feed_marks}
use Rattle.hx_replay.proofs.unwritten.mark_feed.Given as goal

-- the marks so far, and those of the rest
abbrev pub invariant-loop : goal.invariant-loop
invariant-loop l =
    record {
      len : vec_len l.marks ≡ vec_len l.fn.marks + l.index;
      capacity : vec_capacity l.marks ≡ vec_capacity l.fn.marks;
      number : l.number ≡ l.fn.before + l.index;
      marks : l.marks.items ++ feed_marks l.number (drop l.index l.feed) ≡ l.fn.marks.items ++ feed_marks l.fn.before l.feed;
    }
