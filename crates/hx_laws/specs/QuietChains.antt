-- Quiet chains, and histories without them.
use Rattle.std.specs.Prelude.{ℕ, Bool, false, if◌then◌else◌, ◌==◌, ◌&&◌, ◌||◌, not, List, [], ◌∷◌, ◌++◌, map, Option, Some, None}
use Rattle.std.specs.List.{filter}
use Rattle.hx_members.specs.Setups.{Setup}
use Rattle.hx_members.specs.Chains.{is_used, is_loud, entered_of}
use Rattle.hx_itch.specs.declared.message.Feed.{Feed}
use Rattle.hx_ouch.specs.declared.inbound.Inbound.{Inbound}
use Rattle.hx_ouch.specs.declared.inbound.Inbound.TheVariants.{Enter, Replace, Cancel}
use Rattle.hx_ouch.specs.declared.outbound.Outbound.{Outbound}
use Rattle.hx_ouch.specs.Inbound.{inbound_of}
use Rattle.hx_rules.specs.Orders.{Token}
use Rattle.hx_rules.specs.declared.event.Event.{Event}
use Rattle.hx_rules.specs.declared.event.Event.TheVariants.{Message, Tick, Hours, Halt, Break}
use Rattle.hx_rules.specs.Markets.{Market}
use Rattle.hx_rules.specs.Outputs.{Reply, EventOutput}
use Rattle.hx_rules.specs.Steps.{run, output}

-- a choice of tokens of members
abbrev pub Choice : Type 0
Choice = ℕ → Token → Bool

-- the member's token is used, and its chain was never displayed and never traded
unfoldable pub is_quiet : Market → Choice
is_quiet market member token =
    is_used market.tokens member token
    && not (is_loud market.chains member (entered_of market.tokens member token))

-- the quiet tokens of one member
unfoldable pub quiet_of_one : (m : ℕ) → Market → Choice
quiet_of_one m market member token = member == m && is_quiet market member token

-- the quiet tokens of all members but one
unfoldable pub quiet_but_one : (p : ℕ) → Market → Choice
quiet_but_one p market member token = not (member == p) && is_quiet market member token

-- whether a readable message of the member bears a chosen token
abbrev pub message_bears : Choice → (member : ℕ) → Option Inbound → Bool
message_bears s member None = false
message_bears s member (Some (Enter e)) = s member e.token
message_bears s member (Some (Replace r)) =
    s member r.existing_token || s member r.replacement_token
message_bears s member (Some (Cancel c)) = s member c.token

-- whether an event bears a chosen token; the operator's bear none
abbrev pub bears : Choice → Event → Bool
bears s (Message member time bytes) = message_bears s member (inbound_of bytes)
bears s (Tick time) = false
bears s (Hours time code) = false
bears s (Halt time stock state reason) = false
bears s (Break time number) = false

-- the events that bear no chosen token
unfoldable pub strike : Choice → List Event → List Event
strike s events = filter (λ e. not (bears s e)) events

-- a history without the messages that bear a quiet token of one member
unfoldable pub strike_one : Setup → (m : ℕ) → List Event → List Event
strike_one setup m events = strike (quiet_of_one m (run setup events)) events

-- of all members
unfoldable pub strike_all : Setup → List Event → List Event
strike_all setup events = strike (is_quiet (run setup events)) events

-- of all members but one
unfoldable pub strike_but : Setup → (p : ℕ) → List Event → List Event
strike_but setup p events = strike (quiet_but_one p (run setup events)) events

-- a line of output: a message of the feed, or a reply to a member
pub data Line : Type 0 where
  ToFeed : (message : Feed) → Line
  ToMember : (member : ℕ) (reply : Outbound) → Line

-- the replies to the members that may be looked at
abbrev pub reply_lines : (ℕ → Bool) → List Reply → List Line
reply_lines may_look [] = []
reply_lines may_look (r ∷ rs) =
    if may_look r.0 then ToMember r.0 r.1 ∷ reply_lines may_look rs else reply_lines may_look rs

-- the lines of an event: the feed's, then the replies'
abbrev pub lines_of : (ℕ → Bool) → EventOutput → List Line
lines_of may_look t = map ToFeed t.feed ++ reply_lines may_look t.replies

-- the lines of all events
abbrev pub lines_of_all : (ℕ → Bool) → List EventOutput → List Line
lines_of_all may_look [] = []
lines_of_all may_look (t ∷ ts) = lines_of may_look t ++ lines_of_all may_look ts

-- every member but one
abbrev pub all_but : (m member : ℕ) → Bool
all_but m member = not (member == m)

-- what everybody but one member sees: the feed, and all replies but those to that member. A line's number is its index
-- among the feed's, or among its member's
unfoldable pub seen : (m : ℕ) → Setup → List Event → List Line
seen m setup events = lines_of_all (all_but m) (output setup events)
