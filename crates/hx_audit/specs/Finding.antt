-- How the chains of a member are found in a run.
use Rattle.std.specs.Prelude.{◌≡◌, ℕ, ◌==◌, List, [], ◌∷◌, ◌++◌, false, ◌&&◌, Option, Some, None, is_some, unwrap_or, if◌then◌else◌}
use Rattle.std.specs.Map.{lookup}
use Rattle.std.specs.Option.{option_map_or}
use Rattle.hx_market.specs.QuietChains.{Choice}
use Rattle.hx_audit.specs.Listing.{Use}
use Rattle.std.specs.List.{AllByRecursion, list_any}
use Rattle.hx_units.specs.Names.{is_token}
use Rattle.hx_units.specs.declared.names.Token.{Token}
use Rattle.hx_members.specs.Tokens.{facts_of}
use Rattle.hx_ouch.specs.declared.inbound.Inbound.{Inbound}
use Rattle.hx_ouch.specs.declared.inbound.Inbound.TheVariants.{Enter, Replace, Cancel}
use Rattle.hx_ouch.specs.Inbound.{inbound_of}
use Rattle.hx_rules.specs.declared.event.Event.{Event}
use Rattle.hx_rules.specs.declared.event.Event.TheVariants.{Message, Tick, Hours, Halt, Break}
use Rattle.hx_market.specs.Markets.{Market}
use Rattle.hx_market.specs.MarketModel.{chain_facts}
use Rattle.hx_audit.specs.declared.listing.Naming.{Naming}

-- the token that a message would use, and the token whose chain it would join: at an Enter its own
abbrev pub named_by : Option Inbound → Option Naming
named_by None = None
named_by (Some (Enter e)) = Some (record { token = e.token; existing = e.token })
named_by (Some (Replace r)) =
    Some (record { token = r.replacement_token; existing = r.existing_token })
named_by (Some (Cancel c)) = None

-- the same of an event, if it is a message of the member
abbrev pub named : ℕ → Event → Option Naming
named member (Message sender time bytes) =
    if sender == member then named_by (inbound_of bytes) else None
named member (Tick time) = None
named member (Hours time code) = None
named member (Halt time stock state reason) = None
named member (Break time number) = None

-- a use is put to those of its chain, or begins one
abbrev pub with_use : List (Token × List Token) → Token → Token → List (Token × List Token)
with_use [] entered token = (entered, token ∷ []) ∷ []
with_use (g ∷ groups) entered token =
    if is_token entered g.0 then (g.0, g.1 ++ token ∷ []) ∷ groups else g
    ∷ with_use groups entered token

-- what is asked of each of these chains is there
abbrev pub AreOutput : Market → ℕ → List (Token × List Token) → Type 0
AreOutput market member groups =
    AllByRecursion (λ g. chain_facts market.tokens market.chains member g.0
    ≡ Some (facts_of market.chains member g.0)) groups

-- the listed uses of the owner whose entered token is among the chosen ones
abbrev pub in_chains : (owner : ℕ) → (uses chosen : List Use) → Choice
in_chains owner uses chosen member token =
    member == owner
    && option_map_or (λ entered. is_some (lookup (is_token entered) chosen))
    (lookup (is_token token) uses) false

-- the chosen entered tokens are those of the chains of these tokens
abbrev pub AreChosen : (uses chosen : List Use) → List Token → Type 0
AreChosen uses chosen tokens =
    (entered : Token)
    → is_some (lookup (is_token entered) chosen)
    ≡ list_any (λ t. is_token entered (unwrap_or (lookup (is_token t) uses) t)) tokens
