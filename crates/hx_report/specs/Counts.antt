-- What a report counts of a member's day.
use Rattle.std.specs.Prelude.{◌≡◌, ℕ, ◌-◌, ◌==◌, Bool, true, false, not, if◌then◌else◌, List, length, sum_by, count_by, Option, Some, None}
use Rattle.std.specs.Option.{option_map_or}
use Rattle.hx_units.specs.Letters.{letter}
use Rattle.hx_units.specs.Names.{is_token}
use Rattle.hx_units.specs.declared.names.Token.{Token}
use Rattle.hx_members.specs.Setups.{Setup}
use Rattle.hx_ouch.specs.declared.outbound.Outbound.{Outbound}
use Rattle.hx_ouch.specs.declared.outbound.Outbound.TheVariants.{SystemEvent, Accepted, Replaced, Canceled, Executed, Rejected, BrokenTrade}
use Rattle.hx_rules.specs.declared.event.Event.{Event}
use Rattle.hx_market.specs.Markets.{Market}
use Rattle.hx_market.specs.Steps.{run, output, sender, replies, replies_among}
use Rattle.hx_audit.specs.Facts.{are_loud}
use Rattle.hx_audit.specs.Listing.{chains_of}
use Rattle.hx_report.specs.declared.rest.Hidden.{Hidden}
use Rattle.hx_report.specs.declared.rows.Tally.{Tally}
use Rattle.hx_report.specs.Sums.{counted}

-- how many messages a member sent
abbrev pub messages_by : (member : ℕ) → List Event → ℕ
messages_by member events = count_by (λ e. sender e == member) events

-- the number of the member's chains
abbrev pub chains_by : Market → (member : ℕ) → ℕ
chains_by market member = length (chains_of market member)

-- how many of them were never displayed and never traded
abbrev pub quiet_chains_by : Market → (member : ℕ) → ℕ
quiet_chains_by market member = count_by (λ c. not (are_loud c.facts)) (chains_of market member)

-- ---- executions

-- whether a reply reports an execution (OUCH 4.2, Executed)
abbrev pub is_execution : Outbound → Bool
is_execution (SystemEvent m) = false
is_execution (Accepted m) = false
is_execution (Replaced m) = false
is_execution (Canceled m) = false
is_execution (Executed m) = true
is_execution (Rejected m) = false
is_execution (BrokenTrade m) = false

-- the number of executions that were reported to a member
abbrev pub trades_of : Setup → (member : ℕ) → List Event → ℕ
trades_of setup member events = count_by is_execution (replies setup member events)

-- ---- shares that rest hidden

-- the display of an order that is not shown (OUCH 4.2, Display)
abbrev pub non_display : ℕ
non_display = letter "N"

-- an order of this token and of `shares` shares, if it is not shown
abbrev pub hidden_if : (display : ℕ) → Token → (shares : ℕ) → Option Hidden
hidden_if display token shares =
    if display == non_display then Some (record { token = token; shares = shares }) else None

-- the hidden order whose arrival a reply reports: it was accepted, or replaces another
abbrev pub hidden_in : Outbound → Option Hidden
hidden_in (SystemEvent m) = None
hidden_in (Accepted m) = hidden_if m.display m.token m.shares
hidden_in (Replaced m) = hidden_if m.display m.replacement_token m.shares
hidden_in (Canceled m) = None
hidden_in (Executed m) = None
hidden_in (Rejected m) = None
hidden_in (BrokenTrade m) = None

-- the shares that a reply takes off the order of a token
abbrev pub taken_off : Token → Outbound → ℕ
taken_off token (SystemEvent m) = 0
taken_off token (Accepted m) = 0
taken_off token (Replaced m) = 0
taken_off token (Canceled m) = if is_token m.token token then m.shares else 0
taken_off token (Executed m) = if is_token m.token token then m.shares else 0
taken_off token (Rejected m) = 0
taken_off token (BrokenTrade m) = 0

-- what these replies leave of an order
abbrev pub left_by : Hidden → List Outbound → ℕ
left_by hidden replies = hidden.shares - sum_by (taken_off hidden.token) replies

-- what the replies to a member leave of the hidden order that one of them reports
abbrev pub rested_by : List Outbound → Outbound → ℕ
rested_by replies reply = option_map_or (λ hidden. left_by hidden replies) (hidden_in reply) 0

-- the shares that come to rest hidden by an event of these replies to a member
abbrev pub rested_in : List Outbound → ℕ
rested_in replies = sum_by (rested_by replies) replies

-- those of a whole day
abbrev pub rested_of : Setup → (member : ℕ) → List Event → ℕ
rested_of setup member events =
    sum_by (λ t. rested_in (replies_among member t.replies)) (output setup events)

-- ---- all of them

-- what is counted of a member's day
pub record IsTally (setup : Setup) (member : ℕ) (events : List Event) (tally : Tally) : Type 0 where
  pub messages : tally.messages ≡ counted (messages_by member events)
  pub chains : tally.chains ≡ counted (chains_by (run setup events) member)
  pub quiet : tally.quiet ≡ counted (quiet_chains_by (run setup events) member)
  pub rested : tally.rested ≡ counted (rested_of setup member events)
  pub trades : tally.trades ≡ counted (trades_of setup member events)
