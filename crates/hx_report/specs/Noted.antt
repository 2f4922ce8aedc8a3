-- What is noted of a day in one pass, from which a report counts.
use Rattle.std.specs.Prelude.{◌≡◌, ℕ, ◌==◌, Bool, false, not, if◌then◌else◌, List, [], ◌∷◌, map, Option, Some, None}
use Rattle.std.specs.List.{filter, flat_map}
use Rattle.std.specs.Option.{option_map_or}
use Rattle.hx_units.specs.declared.names.Token.{Token}
use Rattle.hx_members.specs.Setups.{Setup}
use Rattle.hx_members.specs.Chains.{is_used}
use Rattle.hx_ouch.specs.declared.inbound.Inbound.{Inbound}
use Rattle.hx_ouch.specs.declared.inbound.Inbound.TheVariants.{Enter, Replace, Cancel}
use Rattle.hx_ouch.specs.Inbound.{inbound_of}
use Rattle.hx_rules.specs.declared.event.Event.{Event}
use Rattle.hx_rules.specs.declared.event.Event.TheVariants.{Message, Tick, Hours, Halt, Break}
use Rattle.hx_market.specs.Markets.{Market}
use Rattle.hx_market.specs.MarketModel.{chain_facts}
use Rattle.hx_market.specs.Outputs.{Reply, EventOutput}
use Rattle.hx_market.specs.Steps.{run, output, replies_among}
use Rattle.hx_audit.specs.Recording.{AreRecorded}
use Rattle.hx_audit.specs.Facts.{are_loud}
use Rattle.hx_audit.specs.Listing.{uses_of, entered_in, chains_of}
use Rattle.hx_report.specs.declared.census.Begun.{Begun}
use Rattle.hx_report.specs.declared.census.ChainMark.{ChainMark}
use Rattle.hx_report.specs.declared.census.Census.{Census}
use Rattle.hx_report.specs.declared.census.Notes.{Notes}
use Rattle.hx_report.specs.declared.rest.Hidden.{Hidden}
use Rattle.hx_report.specs.declared.rest.Rested.{Rested}
use Rattle.hx_report.specs.Counts.{is_execution, hidden_in, left_by}

-- the members that traded

-- the members to which these replies report an execution, once for each
abbrev pub traders_in : List Reply → List ℕ
traders_in [] = []
traders_in (r ∷ replies) =
    if is_execution r.1 then r.0 ∷ traders_in replies else traders_in replies

-- those of a day
abbrev pub traders_of : List EventOutput → List ℕ
traders_of ts = flat_map (λ t. traders_in t.replies) ts

-- ---- what rested hidden

-- what the replies of an event leave of a member's hidden order
abbrev pub rest_of : List Reply → (member : ℕ) → Option Hidden → List Rested
rest_of all member None = []
rest_of all member (Some hidden) =
    record { member = member; shares = left_by hidden (replies_among member all) } ∷ []

-- each hidden order that some of these replies report
abbrev pub rests_among : (all : List Reply) → List Reply → List Rested
rests_among all replies = flat_map (λ r. rest_of all r.0 (hidden_in r.1)) replies

-- those of a day
abbrev pub rests_of : List EventOutput → List Rested
rests_of ts = flat_map (λ t. rests_among t.replies t.replies) ts

-- ---- chains

-- the entered tokens of a member's chains, by first use
abbrev pub entered_by : Market → (member : ℕ) → List Token
entered_by market member = entered_in (uses_of market.tokens member)

-- the chain that a message begins: of a token that is entered, and was not used before
abbrev pub begun_by_message : Market → (member : ℕ) → Option Inbound → Option Begun
begun_by_message market member None = None
begun_by_message market member (Some (Enter e)) =
    if is_used market.tokens member e.token then None
    else Some (record { member = member; entered = e.token })
begun_by_message market member (Some (Replace r)) = None
begun_by_message market member (Some (Cancel c)) = None

-- the chain that an event begins
abbrev pub begun_by : Market → Event → Option Begun
begun_by market (Message member time bytes) = begun_by_message market member (inbound_of bytes)
begun_by market (Tick time) = None
begun_by market (Hours time code) = None
begun_by market (Halt time stock state reason) = None
begun_by market (Break time number) = None

-- the entered tokens of a member's, of these
abbrev pub entered_among : (member : ℕ) → List Begun → List Token
entered_among member begun = map (λ b. b.entered) (filter (λ b. b.member == member) begun)

-- whether each of a member's chains is quiet, of these
abbrev pub quiet_among : (member : ℕ) → List ChainMark → List Bool
quiet_among member chains = map (λ c. c.quiet) (filter (λ c. c.member == member) chains)

-- ---- a day

-- these events were taken, and this was noted of them
pub record HasNoted (notes : Notes) (setup : Setup) (events : List Event) : Type 0 where
  pub setup_is : notes.market.setup ≡ setup
  pub recorded : AreRecorded setup events
  pub market_is : notes.market.market ≡ run setup events
  pub begun_are :
      (member : ℕ) → entered_among member notes.begun.items ≡ entered_by (run setup events) member
  pub rested_are : notes.rested.items ≡ rests_of (output setup events)
  pub traded_are : notes.traded.items ≡ traders_of (output setup events)

-- whether a chain was never displayed and never traded; none of a token that is not used
abbrev pub is_quiet_chain : Market → Begun → Bool
is_quiet_chain market begun =
    option_map_or (λ facts. not (are_loud facts))
    (chain_facts market.tokens market.chains begun.member begun.entered) false

-- the same beside whose it is
abbrev pub chain_mark : Market → Begun → ChainMark
chain_mark market begun = record { member = begun.member; quiet = is_quiet_chain market begun }

-- these are the chains of a day, and whether each is quiet
abbrev pub AreChains : Market → List ChainMark → Type 0
AreChains market chains =
    (member : ℕ)
    → quiet_among member chains ≡ map (λ c. not (are_loud c.facts)) (chains_of market member)

-- what is noted of a whole day
pub record IsCensus (census : Census) (setup : Setup) (events : List Event) : Type 0 where
  pub chains_are : AreChains (run setup events) census.chains.items
  pub rested_are : census.rested.items ≡ rests_of (output setup events)
  pub traded_are : census.traded.items ≡ traders_of (output setup events)
