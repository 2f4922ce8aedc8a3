use Rattle.std.proofs.Common.{◌≡◌, ℕ, ◌+◌, ◌≤◌, ◌++◌, drop, length, slice_index}
use Rattle.std.specs.Vec.{vec_len, vec_capacity}
use Rattle.hx_replay.specs.Marks.{reply_marks}
use Rattle.hx_replay.specs.Output.{counts_after}
use Rattle.hx_replay.proofs.unwritten.mark_replies.Given as goal

-- the marks so far, and those of the rest, after that many replies more
abbrev pub invariant-loop-member : goal.invariant-loop-member
invariant-loop-member l =
    record {
      len : vec_len l.marks ≡ vec_len l.fn.marks + l.member-index;
      capacity : vec_capacity l.marks ≡ vec_capacity l.fn.marks;
      more : (k : ℕ) → slice_index l.counts k ≤ slice_index l.fn.counts k + l.member-index;
      numbered : length l.counts ≡ 4096;
      counts : counts_after l.counts (drop l.member-index l.replies) ≡ counts_after l.fn.counts l.replies;
      marks : l.marks.items ++ reply_marks l.counts (drop l.member-index l.replies) ≡ l.fn.marks.items ++ reply_marks l.fn.counts l.replies;
    }
