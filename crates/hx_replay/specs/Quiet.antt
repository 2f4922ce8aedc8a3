-- What quiet orders leave in the output of a tape: nothing, whichever of them are struck.
use Rattle.std.specs.Prelude.{◌≡◌, ℕ, ◌<◌, ◌||◌, Bool, true, false, List}
use Rattle.std.specs.List.{filter}
use Rattle.hx_units.specs.Limits.{member_numbers}
use Rattle.hx_members.specs.Setups.{Setup}
use Rattle.hx_rules.specs.Orders.{Token}
use Rattle.hx_rules.specs.declared.event.Event.{Event}
use Rattle.hx_market.specs.Steps.{run}
use Rattle.hx_market.specs.QuietChains.{strike, strike_all, strike_but}
use Rattle.hx_laws.specs.Laws.{listed, AreWholeQuietChains}
use Rattle.hx_tape_lines.specs.Text.{Entry}
use Rattle.hx_replay.specs.Grep.{lines_except, lines_of_feed}
use Rattle.hx_replay.specs.Run.{start, output_all, AreEvents}
use Rattle.hx_replay.specs.Seen.{output_lines, not_to, is_to}
use Rattle.hx_replay.specs.Seen.{Numbered}
use Rattle.hx_replay.specs.Seen.Numbered.{OfFeed, OfMember}
use Rattle.hx_replay.specs.Struck.{struck, struck_all}

-- a message of the feed
abbrev pub is_of_feed : Numbered → Bool
is_of_feed (OfFeed number message) = true
is_of_feed (OfMember member number reply) = false

-- the messages of the feed
abbrev pub feed_among : List Numbered → List Numbered
feed_among lines = filter is_of_feed lines

-- the lines that a member gets: the feed, and the replies to it
abbrev pub seen_by : (p : ℕ) → List Numbered → List Numbered
seen_by p lines = filter (λ line. is_of_feed line || is_to p line) lines

-- The general form of the promise, numbers included.
pub record TellsNothing (setup : Setup) (events : List Event) : Type 0 where
  -- any whole quiet chains of a member leave no output to anybody else
  pub part :
      (m : ℕ) (tokens : List Token) → AreWholeQuietChains m tokens (run setup events)
      → not_to m (output_lines setup events)
      ≡ not_to m (output_lines setup (strike (listed m tokens) events))
  -- those of all members, struck at once, leave nothing in the feed
  pub all :
      feed_among (output_lines setup events)
      ≡ feed_among (output_lines setup (strike_all setup events))
  -- and those of all others leave a member nothing, neither in the feed nor in its replies
  pub all_but_one :
      (p : ℕ) → seen_by p (output_lines setup events)
      ≡ seen_by p (output_lines setup (strike_but setup p events))

-- The promise as anybody can check it, on texts: the tape without a member's quiet chains is taken by `replay` too, and
-- `grep -v` of the lines to that member gives the same text of both outputs. The same of the tape without anybody's
-- quiet chains and of the lines of the feed.
pub record TextsTellNothing (setup : Setup) (events : List Entry) : Type 0 where
  pub taken : (m : ℕ) → AreEvents (start setup) (struck setup m events)
  pub same :
      (m : ℕ) → m < member_numbers → lines_except m (output_all (start setup) events)
      ≡ lines_except m (output_all (start setup) (struck setup m events))
  pub all_taken : AreEvents (start setup) (struck_all setup events)
  pub all_same :
      lines_of_feed (output_all (start setup) events)
      ≡ lines_of_feed (output_all (start setup) (struck_all setup events))
