-- The lines that are written for the output of an event.
use Rattle.std.specs.Prelude.{ℕ, ◌+◌, List, [], ◌∷◌, ◌++◌, length, slice_index, codes}
use Rattle.std.specs.Fmt.{decimal}
use Rattle.hex.specs.Hex.{encode_lower}
use Rattle.hx_units.specs.Letters.{space, line_feed}
use Rattle.hx_itch.specs.declared.message.Feed.{Feed}
use Rattle.hx_itch.specs.Message.{feed_bytes}
use Rattle.hx_ouch.specs.declared.outbound.Outbound.{Outbound}
use Rattle.hx_ouch.specs.Outbound.{outbound_bytes}
use Rattle.hx_refs.specs.Numbers.{raised}
use Rattle.hx_market.specs.Outputs.{Reply, EventOutput}

-- message n of the feed
abbrev pub feed_line : ℕ → Feed → List ℕ
feed_line n message =
    codes "F " ++ (decimal n ++ (space ∷ (encode_lower (feed_bytes message) ++ line_feed ∷ [])))

-- reply n to a member
abbrev pub reply_line : (member n : ℕ) → Outbound → List ℕ
reply_line member n reply =
    codes "M " ++ (decimal member
    ++ (space ∷ (decimal n ++ (space ∷ (encode_lower (outbound_bytes reply) ++ line_feed ∷ [])))))

-- messages of the feed, after n others
abbrev pub feed_lines : ℕ → List Feed → List ℕ
feed_lines n [] = []
feed_lines n (message ∷ messages) = feed_line (n + 1) message ++ feed_lines (n + 1) messages

-- replies, given the number of earlier ones of each member
abbrev pub reply_lines : List ℕ → List Reply → List ℕ
reply_lines counts [] = []
reply_lines counts (reply ∷ replies) =
    reply_line reply.0 (slice_index counts reply.0 + 1) reply.1
    ++ reply_lines (raised counts reply.0) replies

-- how many replies each member then has
abbrev pub counts_after : List ℕ → List Reply → List ℕ
counts_after counts [] = counts
counts_after counts (reply ∷ replies) = counts_after (raised counts reply.0) replies

-- the output text of events: for each its messages of the feed, then its replies
abbrev pub outputs_lines : ℕ → List ℕ → List EventOutput → List ℕ
outputs_lines n counts [] = []
outputs_lines n counts (t ∷ ts) =
    (feed_lines n t.feed ++ reply_lines counts t.replies)
    ++ outputs_lines (n + length t.feed) (counts_after counts t.replies) ts
