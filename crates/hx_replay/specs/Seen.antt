-- The lines of output, and those that do not go to a member.
use Rattle.std.specs.Prelude.{◌≡◌, ℕ, ◌+◌, ◌==◌, Bool, true, false, not, List, [], ◌∷◌, ◌++◌, map, replicate, slice_index}
use Rattle.std.specs.List.{filter}
use Rattle.hx_units.specs.Limits.{member_numbers}
use Rattle.hx_itch.specs.declared.message.Feed.{Feed}
use Rattle.hx_ouch.specs.declared.outbound.Outbound.{Outbound}
use Rattle.hx_members.specs.Setups.{Setup}
use Rattle.hx_refs.specs.Numbers.{raised}
use Rattle.hx_rules.specs.declared.event.Event.{Event}
use Rattle.hx_market.specs.Steps.{output}
use Rattle.hx_market.specs.QuietChains.{Line, lines_of_all, strike_one}
use Rattle.hx_market.specs.QuietChains.Line.{ToFeed, ToMember}
use Rattle.hx_tape_lines.specs.Text.{Entry}
use Rattle.hx_replay.specs.Output.{feed_line, reply_line}
use Rattle.hx_tape_lines.specs.Events.{event_of}
use Rattle.hx_replay.specs.Run.{start, output_all}

-- a line of output with its number: a message of the feed, or a reply to a member
pub data Numbered : Type 0 where
  OfFeed : (number : ℕ) (message : Feed) → Numbered
  OfMember : (member number : ℕ) (reply : Outbound) → Numbered

-- its text
abbrev pub text_of : Numbered → List ℕ
text_of (OfFeed number message) = feed_line number message
text_of (OfMember member number reply) = reply_line member number reply

abbrev pub texts_of : List Numbered → List ℕ
texts_of [] = []
texts_of (line ∷ lines) = text_of line ++ texts_of lines

-- the lines with their numbers, after n messages of the feed, given the number of earlier replies to each member
abbrev pub numbered : ℕ → List ℕ → List Line → List Numbered
numbered n counts [] = []
numbered n counts (ToFeed message ∷ lines) = OfFeed (n + 1) message ∷ numbered (n + 1) counts lines
numbered n counts (ToMember member reply ∷ lines) =
    OfMember member (slice_index counts member + 1) reply ∷ numbered n (raised counts member) lines

-- all output lines of a history
unfoldable pub output_lines : Setup → List Event → List Numbered
output_lines setup events =
    numbered 0 (replicate member_numbers 0) (lines_of_all (λ member. true) (output setup events))

-- a reply to the member
abbrev pub is_to : ℕ → Numbered → Bool
is_to m (OfFeed number message) = false
is_to m (OfMember member number reply) = member == m

-- the lines that everybody but the member gets
abbrev pub not_to : ℕ → List Numbered → List Numbered
not_to m lines = filter (λ line. not (is_to m line)) lines

-- The headline: the output text of these events is that of the market's lines, and for every member the lines that do
-- not go to it are, numbers included, those of the history without the messages of its quiet chains.
pub record LeavesNoTrace (setup : Setup) (events : List Entry) : Type 0 where
  pub lines : output_all (start setup) events ≡ texts_of (output_lines setup (map event_of events))
  pub same :
      (m : ℕ) → not_to m (output_lines setup (map event_of events))
      ≡ not_to m (output_lines setup (strike_one setup m (map event_of events)))
