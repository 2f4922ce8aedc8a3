-- What an event leaves, and its output.
use Rattle.std.specs.Prelude.{ℕ, List, []}
use Rattle.hx_itch.specs.declared.message.Feed.{Feed}
use Rattle.hx_ouch.specs.declared.outbound.Outbound.{Outbound}
use Rattle.hx_rules.specs.Markets.{Market}

-- a reply, after the member to whom it goes
abbrev pub Reply : Type 0
Reply = ℕ × Outbound

-- the output of an event: the messages of the feed, and the replies, each in order
pub record EventOutput : Type 0 where
  pub feed : List Feed
  pub replies : List Reply

-- what an event does: the market that it leaves, and its output
pub record Outcome : Type 0 where
  pub market : Market
  pub output : EventOutput

-- there is no output
abbrev pub silent : EventOutput
silent = record { feed = []; replies = [] }

-- an event without effect
abbrev pub nothing : Market → Outcome
nothing market = record { market = market; output = silent }
