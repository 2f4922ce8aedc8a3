-- The events of commands.
use Rattle.std.specs.Prelude.{ℕ, List, [], ◌∷◌, replicate}
use Rattle.hx_units.specs.Letters.{space}
use Rattle.hx_rules.specs.declared.event.Event.{Event}
use Rattle.hx_rules.specs.declared.event.Event.TheVariants as event
use Rattle.hx_rules.specs.Letters.{start_of_messages, start_of_system_hours, start_of_market_hours, end_of_market_hours, end_of_system_hours, end_of_messages, halted_state, trading_state}
use Rattle.hx_operator.specs.declared.command.Command.{Command}
use Rattle.hx_operator.specs.declared.command.Command.TheVariants.{Start, Open, Close, End, Code, Halt, Resume, Break, Tick, Status, Disconnect, Allow, Refuse, Help}

-- no reason is given
abbrev pub no_reason : List ℕ
no_reason = replicate 4 space

-- the events of a command, in this order: there may be none
abbrev pub events_of : Command → (time : ℕ) → List Event
events_of Start time =
    event.Hours time start_of_messages ∷ event.Hours time start_of_system_hours ∷ []
events_of Open time = event.Hours time start_of_market_hours ∷ []
events_of Close time = event.Hours time end_of_market_hours ∷ []
events_of End time = event.Hours time end_of_system_hours ∷ event.Hours time end_of_messages ∷ []
events_of (Code code) time = event.Hours time code ∷ []
events_of (Halt stock reason) time = event.Halt time stock halted_state reason ∷ []
events_of (Resume stock) time = event.Halt time stock trading_state no_reason ∷ []
events_of (Break number) time = event.Break time number ∷ []
events_of Tick time = event.Tick time ∷ []
events_of Status time = []
events_of (Disconnect member) time = []
events_of (Allow member) time = []
events_of (Refuse member) time = []
events_of Help time = []
