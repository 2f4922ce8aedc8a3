-- That the feed of a recorded history fits the fields of its messages.
use Rattle.std.specs.Prelude.{◌≡◌, ◌<◌, ◌^◌, List, length, ⊤}
use Rattle.std.specs.List.{AllByRecursion}
use Rattle.hx_itch.specs.Message.{IsFeed}
use Rattle.hx_members.specs.Setups.{Setup}
use Rattle.hx_members.specs.Stock.{Stock}
use Rattle.hx_members.specs.Member.{Member}
use Rattle.hx_rules.specs.declared.event.Event.{Event}
use Rattle.hx_rules.specs.declared.event.Event.TheVariants.{Message, Tick, Hours, Halt, Break}
use Rattle.hx_rules.specs.Steps.{feed}
use Rattle.hx_laws.specs.Recorded.{AreRecorded}

-- a stock's name has 8 bytes, and the tail of its directory message 20
pub record FitsStock (s : Stock) : Type 0 where
  pub symbol : length s.symbol.0 ≡ 8
  pub tail : length s.tail ≡ 20

-- a member's firm has 4 bytes, and so has its limit
pub record FitsMember (m : Member) : Type 0 where
  pub firm : length m.firm.0 ≡ 4
  pub limit : m.limit < 2 ^ 32

-- each value of a setup is one of its type, and 2 bytes number the stocks
pub record FitsSetup (setup : Setup) : Type 0 where
  pub few : length setup.stocks < 2 ^ 16
  pub stocks : AllByRecursion FitsStock setup.stocks
  pub members : AllByRecursion FitsMember setup.members

-- each value that the operator gives is one of its type
abbrev pub FitsEvent : Event → Type 0
FitsEvent (Message member time bytes) = ⊤
FitsEvent (Tick time) = ⊤
FitsEvent (Hours time code) = ⊤
FitsEvent (Halt time stock state reason) = (length stock.0 ≡ 8) × (length reason ≡ 4)
FitsEvent (Break time number) = number < 2 ^ 64

-- each number of the feed of a recorded history fits into its bytes, and each name has its length
abbrev pub FeedFits : Type 0
FeedFits =
    (setup : Setup) (events : List Event)
    → FitsSetup setup → AllByRecursion FitsEvent events → AreRecorded setup events
    → AllByRecursion IsFeed (feed setup events)
