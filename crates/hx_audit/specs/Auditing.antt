-- A history that is taken event by event, to be struck: whose messages go, and what each bears.
use Rattle.std.specs.Prelude.{◌≡◌, ℕ, Bool, false, ◌||◌, List, Option, Some, None}
use Rattle.hx_units.specs.declared.names.Token.{Token}
use Rattle.hx_members.specs.Setups.{Setup, member_of}
use Rattle.hx_rules.specs.declared.event.Event.{Event}
use Rattle.hx_market.specs.Markets.{Market}
use Rattle.hx_market.specs.Steps.{run}
use Rattle.hx_market.specs.QuietChains.{Choice, is_quiet, quiet_of_one}
use Rattle.hx_audit.specs.Recording.{AreRecorded}
use Rattle.hx_audit.specs.declared.bearing.Bearing.{Bearing}
use Rattle.hx_audit.specs.declared.auditor.Whose.{Whose}
use Rattle.hx_audit.specs.declared.auditor.Whose.TheVariants.{Of, OfAll}

-- whose quiet chains are struck: one member's, or those of all
abbrev pub choice_of : Whose → Market → Choice
choice_of (Of m) market = quiet_of_one m market
choice_of OfAll market = is_quiet market

-- one member, whom the setup has not
abbrev pub IsStranger : Setup → Whose → Type 0
IsStranger setup (Of m) = member_of setup m ≡ None
IsStranger setup OfAll = ⊥

-- the token, if there is one, is the member's and chosen
abbrev pub is_chosen : Choice → (member : ℕ) → Option Token → Bool
is_chosen choice member None = false
is_chosen choice member (Some token) = choice member token

-- one of the tokens is chosen
abbrev pub is_borne : Choice → Bearing → Bool
is_borne choice b = is_chosen choice b.member b.first || is_chosen choice b.member b.second

-- an audit as it goes: the setup, the market that has taken the history so far, and whose quiet chains
-- are struck
pub record Audit : Type 0 where
  pub setup : Setup
  pub market : Market
  pub whose : Whose

-- the audit has taken this history, each event of which was accepted at its turn
pub record HasTaken (audit : Audit) (events : List Event) : Type 0 where
  pub recorded : AreRecorded audit.setup events
  pub market_is : audit.market ≡ run audit.setup events
