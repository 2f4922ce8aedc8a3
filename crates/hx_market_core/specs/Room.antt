-- Room for the output of an event.
use Rattle.std.specs.Prelude.{◌≡◌, ℕ, ◌+◌, ◌*◌, ◌≤◌, ◌++◌, [], length}
use Rattle.std.specs.Vec.{vec_len, vec_capacity}
use Rattle.hx_rules.specs.declared.output.Output.{Output}
use Rattle.hx_rules.specs.Outputs.{EventOutput}
use Rattle.hx_market_core.specs.declared.effect.Effect.{Effect}
use Rattle.hx_market_core.specs.declared.effect.Effect.TheVariants.{Nothing, Reject, Accept, Fail, Replace, Cancel, End, Halt, Break}

-- room after what is in the lists for `feed` messages of the feed, and `replies` replies
pub record RoomFor (feed replies : ℕ) (out : Output) : Type 0 where
  pub feed_room : vec_len out.feed + feed ≤ vec_capacity out.feed
  pub replies_room : vec_len out.replies + replies ≤ vec_capacity out.replies

-- room for the output of `fills` fills, and for what else an event reports that ends no order
abbrev pub RoomForFills : (fills : ℕ) → Output → Type 0
RoomForFills fills out = RoomFor (fills + 2) (2 * fills + 2) out

-- room for the output of an effect with `fills` fills
abbrev pub HasRoom : Effect → (fills : ℕ) → Output → Type 0
HasRoom Nothing fills out = RoomForFills fills out
HasRoom (Reject r) fills out = RoomForFills fills out
HasRoom (Accept a) fills out = RoomForFills fills out
HasRoom (Fail a) fills out = RoomForFills fills out
HasRoom (Replace a) fills out = RoomForFills fills out
HasRoom (Cancel a) fills out = RoomForFills fills out
HasRoom (End e) fills out = RoomFor (length e.output.feed.items) (length e.output.replies.items) out
HasRoom (Halt h) fills out = RoomForFills fills out
HasRoom (Break b) fills out = RoomForFills fills out

-- `feed` and `replies` slots of the room are taken
pub record TakesRoom (feed replies : ℕ) (old new : Output) : Type 0 where
  pub feed_len : vec_len new.feed ≡ vec_len old.feed + feed
  pub feed_capacity : vec_capacity new.feed ≡ vec_capacity old.feed
  pub replies_len : vec_len new.replies ≡ vec_len old.replies + replies
  pub replies_capacity : vec_capacity new.replies ≡ vec_capacity old.replies

-- lists in which nothing stands yet
pub record IsEmpty (out : Output) : Type 0 where
  pub feed : out.feed.items ≡ []
  pub replies : out.replies.items ≡ []

-- this output is appended to what was in the lists
pub record Tells (old new : Output) (output : EventOutput) : Type 0 where
  pub feed : new.feed.items ≡ old.feed.items ++ output.feed
  pub replies : new.replies.items ≡ old.replies.items ++ output.replies
