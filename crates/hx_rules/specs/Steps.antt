-- One step, and whole runs.
use Rattle.std.specs.Prelude.{ℕ, ◌==◌, if◌then◌else◌, List, [], ◌∷◌, ◌++◌, Option, Some, None}
use Rattle.hx_members.specs.Setups.{Setup}
use Rattle.hx_itch.specs.declared.message.Feed.{Feed}
use Rattle.hx_ouch.specs.declared.inbound.Inbound.{Inbound}
use Rattle.hx_ouch.specs.declared.inbound.Inbound.TheVariants.{Enter, Replace, Cancel}
use Rattle.hx_ouch.specs.declared.outbound.Outbound.{Outbound}
use Rattle.hx_ouch.specs.Inbound.{inbound_of}
use Rattle.hx_rules.specs.declared.event.Event.{Event}
use Rattle.hx_rules.specs.declared.event.Event.TheVariants.{Message, Tick, Hours, Halt, Break}
use Rattle.hx_rules.specs.Markets.{Market, opening}
use Rattle.hx_refs.specs.Numbers.{raised}
use Rattle.hx_rules.specs.Outputs.{Reply, EventOutput, Outcome, nothing}
use Rattle.hx_rules.specs.Enter.{enter}
use Rattle.hx_rules.specs.Replace.{replace}
use Rattle.hx_rules.specs.Cancel.{cancel}
use Rattle.hx_rules.specs.Hours.{tick, next_hours}
use Rattle.hx_rules.specs.Halts.{halt}
use Rattle.hx_rules.specs.Breaks.{break_trade}

-- what a member's message does (OUCH 4.2, Inbound Messages). One that is not readable has no effect
abbrev pub receive : Setup → Market → (member time : ℕ) → Option Inbound → Outcome
receive setup market member time None = nothing market
receive setup market member time (Some (Enter e)) = enter setup market member time e
receive setup market member time (Some (Replace r)) = replace setup market member time r
receive setup market member time (Some (Cancel c)) = cancel market member time c

-- what an event does, except for its record
abbrev pub happens : Setup → Market → Event → Outcome
happens setup market (Message member time bytes) =
    receive setup market member time (inbound_of bytes)
happens setup market (Tick time) = tick market time
happens setup market (Hours time code) = next_hours setup market time code
happens setup market (Halt time stock state reason) =
    halt setup market time stock state reason
happens setup market (Break time number) = break_trade market time number

-- the number under which an event is recorded: its member's, or the operator's
abbrev pub sender : Event → ℕ
sender (Message member time bytes) = member
sender (Tick time) = 0
sender (Hours time code) = 0
sender (Halt time stock state reason) = 0
sender (Break time number) = 0

-- the bytes of a member's message; the operator's events have none
abbrev pub message_bytes : Event → List ℕ
message_bytes (Message member time bytes) = bytes
message_bytes (Tick time) = []
message_bytes (Hours time code) = []
message_bytes (Halt time stock state reason) = []
message_bytes (Break time number) = []

-- when the event was
abbrev pub time_of : Event → ℕ
time_of (Message member time bytes) = time
time_of (Tick time) = time
time_of (Hours time code) = time
time_of (Halt time stock state reason) = time
time_of (Break time number) = time

-- the market with the event counted under its number
abbrev pub with_record : Event → Market → Market
with_record event market = record market { recorded = raised market.recorded (sender event) }

-- one step: the next market, and its output
unfoldable pub step : Setup → Market → Event → Outcome
step setup market event = happens setup (with_record event market) event

-- the market after these events
unfoldable pub market_after : Setup → Market → List Event → Market
market_after setup market [] = market
market_after setup market (event ∷ events) =
    market_after setup (step setup market event).market events

-- the output of each of these events
unfoldable pub outputs_from : Setup → Market → List Event → List EventOutput
outputs_from setup market [] = []
outputs_from setup market (event ∷ events) =
    let outcome = step setup market event in
    outcome.output ∷ outputs_from setup outcome.market events

-- the market after a whole history, from the opening market
unfoldable pub run : Setup → List Event → Market
run setup events = market_after setup (opening setup) events

-- the output of each event of a whole history
unfoldable pub output : Setup → List Event → List EventOutput
output setup events = outputs_from setup (opening setup) events

-- the messages of the feed, one after the other
abbrev pub feed_of : List EventOutput → List Feed
feed_of [] = []
feed_of (t ∷ ts) = t.feed ++ feed_of ts

-- the replies to a member, among those of an event
abbrev pub replies_among : (member : ℕ) → List Reply → List Outbound
replies_among member [] = []
replies_among member (r ∷ rs) =
    if r.0 == member then r.1 ∷ replies_among member rs else replies_among member rs

-- the replies to a member, of all events
abbrev pub replies_of : (member : ℕ) → List EventOutput → List Outbound
replies_of member [] = []
replies_of member (t ∷ ts) = replies_among member t.replies ++ replies_of member ts

-- the feed of a whole history
unfoldable pub feed : Setup → List Event → List Feed
feed setup events = feed_of (output setup events)

-- its replies to a member
unfoldable pub replies : Setup → (member : ℕ) → List Event → List Outbound
replies setup member events = replies_of member (output setup events)
