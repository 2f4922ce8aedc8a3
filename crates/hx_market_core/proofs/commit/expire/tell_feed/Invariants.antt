use Rattle.std.proofs.Common.{◌≡◌, ◌++◌, ◌+◌, ◌≤◌, drop, length}
use Rattle.std.specs.Vec.{vec_len, vec_capacity}
use Rattle.hx_market_core.proofs.commit.expire.tell_feed.Given as goal

-- the output so far, and the rest, are all; there is room for the rest
abbrev pub invariant-loop-message : goal.invariant-loop-message
invariant-loop-message l =
    record {
      all : l.feed.items ++ drop l.message-index l.output ≡ l.fn.feed.items ++ l.output;
      room : vec_len l.feed + length (drop l.message-index l.output) ≤ vec_capacity l.feed;
    }
