-- How an exchange ends.
use Rattle.std.specs.Prelude.{◌≡◌, ◌≢◌, ℕ, ◌+◌, ◌<◌, ◌≤◌, ◌==◌, if◌then◌else◌, Bool, true, false, List, [], ◌∷◌, length}
use Rattle.std.specs.List.{AllByRecursion}
use mathlib.Core.List.{IsPrefix}
use Rattle.hx_blog.specs.Feed.{Entries}
use Rattle.hx_members.specs.Setups.{Setup}
use Rattle.hx_laws.specs.Recorded.{AreRecorded}
use Rattle.hx_market.specs.Steps.{feed}
use Rattle.hx_rules.specs.declared.event.Event.{Event}
use Rattle.hx_desk.specs.declared.entry.Entry.{Entry}
use Rattle.hx_desk.specs.Entries.{restored, events_of, ledger}
use Rattle.hx_desk.specs.Known.{history_of}
use Rattle.hx_engine.specs.Passes.{PassState, sent_in, AreSomeOf}

-- the number of times that the pass of a number is among these
abbrev pub times_given : (number : ℕ) → List PassState → ℕ
times_given number [] = 0
times_given number (p ∷ passes) =
    (if number == p.number then 1 else 0) + times_given number passes

-- each of the passes 1 to n is there exactly once
abbrev pub AreAllOnce : (count : ℕ) → List PassState → Type 0
AreAllOnce count passes =
    (number : ℕ) → 1 ≤ number → number ≤ count → times_given number passes ≡ 1

-- the least pass of 1 to n that is not there exactly once
pub record IsMissing (count : ℕ) (passes : List PassState) (number : ℕ) : Type 0 where
  pub first : 1 ≤ number
  pub last : number ≤ count
  pub not_once : times_given number passes ≢ 1
  pub least : (k : ℕ) → 1 ≤ k → k < number → times_given k passes ≡ 1

-- the number of events that these passes sent
abbrev pub sent_by_all : List PassState → ℕ
sent_by_all [] = 0
sent_by_all (p ∷ passes) = length p.sent + sent_by_all passes

-- an event of one of these passes was admitted, and was never published
abbrev pub is_any_waiting : List PassState → Bool
is_any_waiting [] = false
is_any_waiting (p ∷ passes) = if length p.waiting == 0 then is_any_waiting passes else true

-- The market accepts the history. It begins with the events that were durable before, and has exactly one entry more
-- for each event that the passes sent. What each pass sent are exactly its entries, each once and in order, at their
-- positions in the history. What a pass knew is a beginning of the history with its feed. `messages` is the number of
-- messages of that feed.
pub record IsFinished
    (setup : Setup) (durable_before : List Event) (passes : List PassState) (history : List Entry)
    (messages : ℕ)
    : Type 0 where
  pub accepted : AreRecorded setup (events_of history)
  pub begins : IsPrefix (restored durable_before) history
  pub all : length history ≡ length durable_before + sent_by_all passes
  pub each : AllByRecursion (λ p. p.sent ≡ sent_in p.number history) passes
  pub knew : AllByRecursion (λ p. IsPrefix p.known (ledger setup history)) passes
  pub feed_count : messages ≡ length (feed setup (events_of history))

-- what is known of a pass that was taken back, at all that was published
pub record IsReturned (count : ℕ) (published : Entries Entry) (p : PassState) : Type 0 where
  pub first : 1 ≤ p.number
  pub last : p.number ≤ count
  pub sent : AreSomeOf p.sent (sent_in p.number (history_of published))
  pub knew : IsPrefix p.known published
