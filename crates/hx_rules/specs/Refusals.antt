-- Which events the market refuses, and why.
use Rattle.std.specs.Prelude.{ℕ, Bool, false, if◌then◌else◌, ◌&&◌, nat_le, List, Option, Some, None, slice_index, is_none}
use Rattle.std.specs.Option.{option_map_or}
use Rattle.hx_units.specs.Limits.{day, greatest_member}
use Rattle.hx_members.specs.Setups.{Setup, member_of}
use Rattle.hx_members.specs.Member.{Member}
use Rattle.hx_rules.specs.declared.event.Event.{Event}
use Rattle.hx_rules.specs.declared.event.Event.TheVariants.{Message, Tick, Hours, Halt, Break}
use Rattle.hx_rules.specs.declared.fault.PrepareError.{PrepareError}
use Rattle.hx_rules.specs.declared.fault.PrepareError.TheVariants.{NoMemory, Limit, NoMember, BadTime}
use Rattle.hx_rules.specs.Limits.{operator_limit}
use Rattle.hx_rules.specs.Steps.{sender, time_of}

-- the member of this number, from 1 to 4,095
abbrev pub known_member : Setup → (number : ℕ) → Option Member
known_member setup number =
    if nat_le 1 number && nat_le number greatest_member then member_of setup number else None

-- whether a message comes from nobody of the setup; the other events are the operator's
abbrev pub is_from_stranger : Setup → Event → Bool
is_from_stranger setup (Message member time bytes) = is_none (known_member setup member)
is_from_stranger setup (Tick time) = false
is_from_stranger setup (Hours time code) = false
is_from_stranger setup (Halt time stock state reason) = false
is_from_stranger setup (Break time number) = false

-- how many events may be recorded under the event's number: the member's limit, or the operator's
abbrev pub limit_of : Setup → Event → ℕ
limit_of setup (Message member time bytes) =
    option_map_or (λ m. m.limit) (known_member setup member) 0
limit_of setup (Tick time) = operator_limit
limit_of setup (Hours time code) = operator_limit
limit_of setup (Halt time stock state reason) = operator_limit
limit_of setup (Break time number) = operator_limit

-- why the market refuses an event, with these counts of recorded events of each number: a time that is not within the
-- day, no such member, or a limit that is met
abbrev pub refusal : Setup → List ℕ → Event → Option PrepareError
refusal setup recorded event =
    if nat_le day (time_of event) then Some BadTime
    else (if is_from_stranger setup event then Some NoMember
    else (if nat_le (limit_of setup event) (slice_index recorded (sender event))
    then Some (Limit (sender event))
    else None))

-- the refusal, or want of memory if there is none
abbrev pub or_no_memory : Option PrepareError → PrepareError
or_no_memory None = NoMemory
or_no_memory (Some e) = e
