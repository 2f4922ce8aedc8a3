use Rattle.std.proofs.Common.{◌≡◌, ◌++◌, ◌+◌, ◌≤◌, drop, length}
use Rattle.std.specs.Vec.{vec_len, vec_capacity}
use Rattle.hx_market_core.proofs.commit.expire.give_replies.Given as goal

-- the output so far, and the rest, are all; there is room for the rest
abbrev pub invariant-loop-reply : goal.invariant-loop-reply
invariant-loop-reply l =
    record {
      all : l.replies.items ++ drop l.reply-index l.output ≡ l.fn.replies.items ++ l.output;
      room : vec_len l.replies + length (drop l.reply-index l.output) ≤ vec_capacity l.replies;
    }
