-- A market in partitions: each is a whole exchange with stocks of its own, and shares nothing with
-- another. References, match numbers, tokens, and the numbers of messages and replies are those of
-- one partition: its session says of which.
use Rattle.std.specs.Prelude.{◌≡◌, ℕ, Bool, List, ◌∷◌, ◌++◌, map}
use Rattle.std.specs.List.{AllByRecursion}
use Rattle.hx_members.specs.Setups.{Setup}
use Rattle.hx_itch.specs.declared.message.Feed.{Feed}
use Rattle.hx_rules.specs.declared.event.Event.{Event}
use Rattle.hx_rules.specs.Steps.{run, output, feed}
use Rattle.hx_laws.specs.QuietChains.{Choice, Line, lines_of_all, strike, strike_one, strike_all, seen}
use Rattle.hx_laws.specs.Laws.{AreQuietChains, IsUnknownTo}

-- a partition: what it begins with, and what was recorded in it
pub record Partition : Type 0 where
  pub setup : Setup
  pub history : List Event

-- The output, of each partition for itself.

-- the lines of the feed, and of the replies to the members that may look
abbrev pub output_by : (ℕ → Bool) → List Partition → List (List Line)
output_by may_look partitions = map (λ p. lines_of_all may_look (output p.setup p.history)) partitions

-- what everybody but one member sees
abbrev pub seen_by_all_but : (m : ℕ) → List Partition → List (List Line)
seen_by_all_but m partitions = map (λ p. seen m p.setup p.history) partitions

-- the feeds alone
abbrev pub feeds : List Partition → List (List Feed)
feeds partitions = map (λ p. feed p.setup p.history) partitions

-- What is struck.

-- a partition, and the tokens that are chosen in it
pub record Chosen : Type 0 where
  pub partition : Partition
  pub tokens : Choice

-- the partition without the messages that bear one of them
abbrev pub struck : Chosen → Partition
struck c =
    record { setup = c.partition.setup; history = strike c.tokens c.partition.history }

-- they are those of whole quiet chains, and of no member that may look
pub record IsQuiet (may_look : ℕ → Bool) (c : Chosen) : Type 0 where
  pub chains : AreQuietChains c.tokens (run c.partition.setup c.partition.history)
  pub unknown : IsUnknownTo may_look c.tokens

-- the partition without the messages of a member's quiet chains
abbrev pub without : (m : ℕ) → Partition → Partition
without m p = record { setup = p.setup; history = strike_one p.setup m p.history }

-- without those of all members
abbrev pub without_all : Partition → Partition
without_all p = record { setup = p.setup; history = strike_all p.setup p.history }

-- The laws.

-- quiet chains that are struck in any partitions change no output of any
abbrev pub QuietInAny : Type 0
QuietInAny =
    (may_look : ℕ → Bool) (chosen : List Chosen)
    → AllByRecursion (IsQuiet may_look) chosen
    → output_by may_look (map (λ c. c.partition) chosen) ≡ output_by may_look (map struck chosen)

-- nor do all quiet chains of a member, for everybody else: in all partitions
abbrev pub OneMemberInAll : Type 0
OneMemberInAll =
    (m : ℕ) (partitions : List Partition)
    → seen_by_all_but m partitions ≡ seen_by_all_but m (map (without m) partitions)

-- or in one of them
abbrev pub OneMemberInOne : Type 0
OneMemberInOne =
    (m : ℕ) (before : List Partition) (p : Partition) (later : List Partition)
    → seen_by_all_but m (before ++ p ∷ later)
    ≡ seen_by_all_but m (before ++ without m p ∷ later)

-- nor do those of all members, for the feeds
abbrev pub AllMembersInAll : Type 0
AllMembersInAll =
    (partitions : List Partition) → feeds partitions ≡ feeds (map without_all partitions)
