-- What is refused of a history, and of a list of tokens.
use Rattle.std.specs.Prelude.{◌≡◌, ℕ, List, ◌∷◌, ◌++◌, length, true, false, Option, Some, ⊤, ◌⊎◌}
use Rattle.std.specs.List.{AllByRecursion}
use Rattle.hx_units.specs.declared.names.Token.{Token}
use Rattle.hx_market.specs.QuietChains.{is_quiet}
pub use Rattle.hx_laws.specs.Recorded.{AreAccepted, AreRecorded}
use Rattle.hx_members.specs.Setups.{Setup}
use Rattle.hx_rules.specs.declared.event.Event.{Event}
use Rattle.hx_rules.specs.declared.fault.PrepareError.{PrepareError}
use Rattle.hx_rules.specs.declared.fault.PrepareError.TheVariants.{NoMemory as NoRoom, Limit, NoMember, BadTime}
use Rattle.hx_market.specs.Markets.{Market}
use Rattle.hx_market.specs.Refusals.{refusal, or_no_memory}
use Rattle.hx_market.specs.Steps.{run}
use Rattle.hx_audit.specs.declared.fault.StrikeError.{StrikeError}
use Rattle.hx_audit.specs.declared.fault.StrikeError.TheVariants.{NoMemory, Refused, NotQuiet}

-- those before the event at this index are recorded, and it is refused at its turn, for this reason
pub record IsRefusedAt (setup : Setup) (events : List Event) (index : ℕ)
    (error : PrepareError) : Type 0 where
  pub before : List Event
  pub event : Event
  pub after : List Event
  pub split : events ≡ before ++ event ∷ after
  pub at_position : length before ≡ index
  pub recorded : AreRecorded setup before
  pub refused : refusal setup (run setup before).recorded event ≡ Some error

-- what an error says of a history
abbrev pub Explains : Setup → List Event → StrikeError → Type 0
Explains setup events NoMemory = ⊤
Explains setup events (Refused index error) = IsRefusedAt setup events index error
Explains setup events (NotQuiet token) = ⊥

-- the first of these tokens that is not one of the member's quiet ones
pub record IsFirstLoud (market : Market) (member : ℕ) (tokens : List Token) (token : Token)
    : Type 0 where
  pub before : List Token
  pub after : List Token
  pub split : tokens ≡ before ++ token ∷ after
  pub quiet : AllByRecursion (λ t. is_quiet market member t ≡ true) before
  pub loud : is_quiet market member token ≡ false

-- what an error says of a history and a list of a member's tokens: a refusal comes before a token that
-- is not quiet
abbrev pub ExplainsChains : Setup → List Event → ℕ → List Token → StrikeError → Type 0
ExplainsChains setup events member tokens NoMemory = ⊤
ExplainsChains setup events member tokens (Refused index error) =
    IsRefusedAt setup events index error
ExplainsChains setup events member tokens (NotQuiet token) =
    AreRecorded setup events × IsFirstLoud (run setup events) member tokens token

-- the error of a refusal at an index
abbrev pub error_at : ℕ → PrepareError → StrikeError
error_at index NoRoom = NoMemory
error_at index (Limit member) = Refused index (Limit member)
error_at index NoMember = Refused index NoMember
error_at index BadTime = Refused index BadTime

-- want of memory, or the error of a refusal at an index if there is one
abbrev pub IsErrorAt : ℕ → Option PrepareError → StrikeError → Type 0
IsErrorAt index reason error = (error ≡ NoMemory) ⊎ (error ≡ error_at index (or_no_memory reason))
