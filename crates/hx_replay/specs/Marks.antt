-- The output of events, the messages of the feed by themselves and the replies by themselves, and marks of which comes
-- next.
use Rattle.std.specs.Prelude.{ℕ, ◌+◌, ◌<◌, ◌^◌, List, [], ◌∷◌, slice_index}
use Rattle.std.specs.List.{AllByRecursion}
use Rattle.hx_itch.specs.declared.message.Feed.{Feed}
use Rattle.hx_itch.specs.Message.{feed_time}
use Rattle.hx_refs.specs.Numbers.{raised}
use Rattle.hx_market.specs.Outputs.{Reply}
use Rattle.hx_replay.specs.declared.unwritten.Mark.{Mark}
use Rattle.hx_replay.specs.declared.unwritten.Marked.TheVariants as mark
use Rattle.hx_replay.specs.Seen.{Numbered}
use Rattle.hx_replay.specs.Seen.Numbered.{OfFeed, OfMember}

-- the lines that the marks make of messages and replies
abbrev pub lines_of : List Mark → List Feed → List Reply → List Numbered
lines_of [] feed replies = []
lines_of (mark.OfFeed n ∷ marks) [] replies = lines_of marks [] replies
lines_of (mark.OfFeed n ∷ marks) (message ∷ feed) replies =
    OfFeed n message ∷ lines_of marks feed replies
lines_of (mark.OfMember n ∷ marks) feed [] = lines_of marks feed []
lines_of (mark.OfMember n ∷ marks) feed (reply ∷ replies) =
    OfMember reply.0 n reply.1 ∷ lines_of marks feed replies

-- each mark has its message or reply, and none is left
abbrev pub AreMarked : List Mark → List Feed → List Reply → Type 0
AreMarked [] [] [] = Unit {0}
AreMarked [] [] (reply ∷ replies) = ⊥
AreMarked [] (message ∷ feed) replies = ⊥
AreMarked (mark.OfFeed n ∷ marks) [] replies = ⊥
AreMarked (mark.OfFeed n ∷ marks) (message ∷ feed) replies = AreMarked marks feed replies
AreMarked (mark.OfMember n ∷ marks) feed [] = ⊥
AreMarked (mark.OfMember n ∷ marks) feed (reply ∷ replies) = AreMarked marks feed replies

-- the marks of messages of the feed, after n others
abbrev pub feed_marks : ℕ → List Feed → List Mark
feed_marks n [] = []
feed_marks n (message ∷ messages) = mark.OfFeed (n + 1) ∷ feed_marks (n + 1) messages

-- the marks of replies, given the number of earlier ones of each member
abbrev pub reply_marks : List ℕ → List Reply → List Mark
reply_marks counts [] = []
reply_marks counts (reply ∷ replies) =
    mark.OfMember (slice_index counts reply.0 + 1) ∷ reply_marks (raised counts reply.0) replies

-- the times of messages of the feed fit into their six bytes
abbrev pub HaveRoomForTimes : List Feed → Type 0
HaveRoomForTimes feed = AllByRecursion (λ message. feed_time message < 2 ^ 48) feed
