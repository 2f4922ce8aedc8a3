-- What is written for a tape.
use Rattle.std.specs.Prelude.{◌≡◌, ◌≢◌, ◌⊎◌, ℕ, ◌+◌, ◌*◌, ◌<◌, ◌≤◌, if◌then◌else◌, List, [], ◌∷◌, ◌++◌, length, replicate, slice_index, Option, Some, None}
use Rattle.std.specs.Io.KnownBytes.{Appends}
use Rattle.hx_units.specs.Limits.{member_numbers}
use Rattle.hx_units.specs.Letters.{line_feed}
use Rattle.hx_members.specs.Setups.{Setup}
use Rattle.hx_rules.specs.declared.fault.PrepareError.{PrepareError}
use Rattle.hx_rules.specs.declared.fault.PrepareError.TheVariants as refused
use Rattle.hx_market.specs.Markets.{Market, opening}
use Rattle.hx_market.specs.Outputs.{Outcome}
use Rattle.hx_market.specs.Refusals.{refusal}
use Rattle.hx_market.specs.Steps.{step}
use Rattle.hx_tape_lines.specs.declared.fault.Kind.{Kind}
use Rattle.hx_tape_lines.specs.declared.fault.Kind.TheVariants as kind
use Rattle.hx_replay.specs.declared.fault.TapeError.{TapeError}
use Rattle.hx_replay.specs.declared.fault.TapeError.TheVariants as fault
use Rattle.hx_replay.specs.declared.run.Counts.{Counts}
use Rattle.hx_units.specs.Cuts.{Lacks}
use Rattle.hx_tape_lines.specs.Text.{Entry, IsEntry, line, longest_line, tape}
use Rattle.hx_tape_lines.specs.Events.{event_of, is_unknown}
use Rattle.hx_replay.specs.Output.{feed_lines, reply_lines, counts_after}

-- ---- one event

-- how far a replay is: its market, how many events, messages of the feed and replies there were, and how many of the replies went to each member number
pub record Progress : Type 0 where
  pub setup : Setup
  pub market : Market
  pub events : ℕ
  pub feed : ℕ
  pub replies : ℕ
  pub counts : List ℕ

unfoldable pub start : Setup → Progress
start setup =
    record {
      setup = setup;
      market = opening setup;
      events = 0;
      feed = 0;
      replies = 0;
      counts = replicate member_numbers 0;
    }

-- the kind of fault that a refusal is
abbrev pub kind_of : Option PrepareError → Option Kind
kind_of (Some refused.BadTime) = Some kind.Time
kind_of (Some refused.NoMember) = Some kind.Member
kind_of (Some (refused.Limit member)) = Some kind.Limit
kind_of (Some refused.NoMemory) = None
kind_of None = None

-- the fault of line n if the market refuses its event
abbrev pub fault_of : ℕ → PrepareError → TapeError
fault_of n refused.BadTime = fault.Line n kind.Time
fault_of n refused.NoMember = fault.Line n kind.Member
fault_of n (refused.Limit member) = fault.Line n kind.Limit
fault_of n refused.NoMemory = fault.NoMemory

-- What is wrong with an entry: the operator's bytes say nothing, or the market refuses the event, for its time, its
-- member or that member's limit, in this order.
unfoldable pub check_of : Progress → Entry → Option Kind
check_of p e =
    if is_unknown e then Some kind.Bad else kind_of (refusal p.setup p.market.recorded (event_of e))

abbrev pub outcome_of : Progress → Entry → Outcome
outcome_of p e = step p.setup p.market (event_of e)

-- the output lines of an outcome: those of the feed, then the replies
abbrev pub lines_of : Progress → Outcome → List ℕ
lines_of p o = feed_lines p.feed o.output.feed ++ reply_lines p.counts o.output.replies

-- the progress after an outcome
abbrev pub counted : Progress → Outcome → Progress
counted p o = record {
  setup = p.setup;
  market = o.market;
  events = p.events + 1;
  feed = p.feed + length o.output.feed;
  replies = p.replies + length o.output.replies;
  counts = counts_after p.counts o.output.replies;
}

-- the output lines of an event
unfoldable pub output_of : Progress → Entry → List ℕ
output_of p e = lines_of p (outcome_of p e)

-- the progress after an event
unfoldable pub after : Progress → Entry → Progress
after p e = counted p (outcome_of p e)

-- ---- one line

-- an event that passes the checks
pub record IsEvent (p : Progress) (e : Entry) : Type 0 where
  pub entry : IsEntry e
  pub passes : check_of p e ≡ None

-- the line is that of an event, whose output lines are these
pub record Applies (old new : Progress) (text written : List ℕ) : Type 0 where
  pub entry : Entry
  pub is_event : IsEvent old entry
  pub is_line : text ≡ line entry
  pub output_is : written ≡ output_of old entry
  pub after_is : new ≡ after old entry

-- the first check that a line fails
abbrev pub FailsAs : Progress → Kind → List ℕ → Type 0
FailsAs p k text =
    ((k ≡ kind.Bad) × ((e : Entry) → IsEntry e → text ≢ line e))
    ⊎ ((e : Entry) × IsEntry e × (text ≡ line e) × (check_of p e ≡ Some k))

abbrev pub Faults : Progress → List ℕ → TapeError → Type 0
Faults p text (fault.Line n k) = (n ≡ p.events + 1) × FailsAs p k text
Faults p text fault.NoMemory = Unit {0}
Faults p text fault.Read = ⊥
Faults p text fault.Write = ⊥
Faults p text fault.Turns = ⊥

-- ---- lines

abbrev pub after_all : Progress → List Entry → Progress
after_all p [] = p
after_all p (e ∷ events) = after_all (after p e) events

-- the output text of events
abbrev pub output_all : Progress → List Entry → List ℕ
output_all p [] = []
output_all p (e ∷ events) = output_of p e ++ output_all (after p e) events

-- each passes the checks when its turn comes
abbrev pub AreEvents : Progress → List Entry → Type 0
AreEvents p [] = Unit {0}
AreEvents p (e ∷ events) = IsEvent p e × AreEvents (after p e) events

abbrev pub IsFront : List ℕ → List ℕ → Type 0
IsFront front xs = (rest : List ℕ) × (xs ≡ front ++ rest)

-- the text is that of events and a rest, and the output text of the events was written
pub record Replays (old new : Progress) (text : List ℕ) (w v : Option (List ℕ))
    (rest : List ℕ) : Type 0 where
  pub events : List Entry
  pub are_events : AreEvents old events
  pub text_is : text ≡ tape events ++ rest
  pub after_is : new ≡ after_all old events
  pub wrote : Appends w v (output_all old events)

-- The rest begins with a bad line: a whole line that fails a check, or more than a line's bytes without a line feed,
-- or, if nothing follows, last bytes without one.
abbrev pub BeginsBadly : Type 0 → Progress → Kind → List ℕ → Type 0
BeginsBadly End p k rest =
    ((bad : List ℕ) × (more : List ℕ) × (rest ≡ bad ++ line_feed ∷ more) × Lacks line_feed bad
    × FailsAs p k bad)
    ⊎ ((k ≡ kind.Bad) × Lacks line_feed rest
    × ((longest_line < length rest) ⊎ ((0 < length rest) × End)))

-- where and why a replay ended: after these events, with these bytes read after them and these written
abbrev pub EndsBy : Type 0 → Progress → List Entry → List ℕ → List ℕ → TapeError → Type 0
EndsBy End p events rest written (fault.Line n k) =
    (written ≡ output_all p events) × (n ≡ p.events + length events + 1)
    × BeginsBadly End (after_all p events) k rest
EndsBy End p events rest written fault.NoMemory = IsFront written (output_all p events)
EndsBy End p events rest written fault.Write = IsFront written (output_all p events)
EndsBy End p events rest written fault.Read = (written ≡ output_all p events) × Lacks line_feed rest
EndsBy End p events rest written fault.Turns = (written ≡ output_all p events)
    × Lacks line_feed rest

pub record Stops (End : Type 0) (p : Progress) (text : List ℕ) (w v : Option (List ℕ))
    (e : TapeError) : Type 0 where
  pub events : List Entry
  pub are_events : AreEvents p events
  pub rest : List ℕ
  pub text_is : text ≡ tape events ++ rest
  pub written : List ℕ
  pub wrote : Appends w v written
  pub why : EndsBy End p events rest written e

-- ---- the whole

abbrev pub counts_of : Progress → Counts
counts_of p = record { events = p.events; feed = p.feed; replies = p.replies }

-- ---- numbers that fit

-- each event makes one order at most, and all its messages end one but few, or those of a code of the hours to all members and of all stocks
pub record IsFew (p : Progress) : Type 0 where
  pub stocks : length p.setup.stocks ≤ 1000
  pub members : length p.setup.members ≤ 4095
  pub feed : p.feed + length p.market.live ≤ 1004 * p.events
  pub replies : p.replies + 2 * length p.market.live ≤ 4101 * p.events
  pub numbered : length p.counts ≡ member_numbers
  pub each : (member : ℕ) → slice_index p.counts member ≤ p.replies
