-- What the calls of an exchange promise.
use Rattle.std.specs.Prelude.{◌≡◌, ◌↔◌, ℕ, ◌+◌, ◌^◌, ◌<◌, ◌≤◌, List, [], ◌∷◌, ◌++◌, length, take, Bool, true, false, nat_le, Result, Err, Option, Some, None, zero, suc, slice_get}
use Rattle.std.specs.List.{AllByRecursion}
use mathlib.Core.List.{IsPrefix}
use Rattle.hx_blog.specs.Feed.{Entries, feed}
use Rattle.hx_blog.specs.Ends.{ReaderState}
use Rattle.hx_units.specs.Limits.{day}
use Rattle.hx_members.specs.Setups.{Setup}
use Rattle.hx_rules.specs.declared.event.Event.{Event}
use Rattle.hx_market.specs.Refusals.{is_from_stranger}
use Rattle.hx_laws.specs.Recorded.{AreRecorded}
use Rattle.hx_market.specs.Steps.{step, run, time_of}
use Rattle.hx_desk.specs.declared.entry.Entry.{Entry}
use Rattle.hx_desk.specs.declared.entry.Done.{Done}
use Rattle.hx_engine.specs.declared.answers.SubmitError.{SubmitError}
use Rattle.hx_engine.specs.declared.answers.SubmitError.TheVariants.{Refused}
use Rattle.hx_engine.specs.Journals.{unspoken}
use Rattle.hx_desk.specs.declared.fault.DeskError.TheVariants as fault
use Rattle.hx_desk.specs.Rows.{Part}
use Rattle.hx_desk.specs.Entries.{entry_of, events_of, ledger}
use Rattle.hx_desk.specs.Known.{history_of, known_market, known_replies}
use Rattle.hx_desk.specs.Secrecy.{IsFeedWithoutTrace, AreRepliesWithoutTrace}
use Rattle.hx_desk.specs.Desks.{is_over}
use Rattle.hx_engine.specs.declared.answers.News.{News}
use Rattle.hx_engine.specs.Passes.{PassState, sent_by, placed, sent_in, AreSomeOf, StandsAt}

-- The pass sent an event. It knows a history that the market accepts, with the event's entry at `done.place`, after all
-- events that the pass sent before. What the pass knew is a beginning of the history before that entry.
pub record Sends (setup : Setup) (old new : PassState) (event : Event) (done : Done) : Type 0 where
  pub before : List Entry
  pub after : List Entry
  pub knew : IsPrefix old.known (ledger setup before)
  pub knows : new.known ≡ ledger setup (before ++ entry_of old.number event ∷ after)
  pub accepted : AreRecorded setup (events_of (before ++ entry_of old.number event ∷ after))
  pub number : new.number ≡ old.number
  pub sent : new.sent ≡ old.sent ++ (done.place, event) ∷ []
  pub place : done.place ≡ length before + 1
  pub above : AllByRecursion (λ x. x.0 < done.place) old.sent
  pub first : done.first ≡ length (feed (ledger setup before)) + 1
  pub count : done.count ≡ length (step setup (run setup (events_of before)) event).output.feed
  pub idle : (old.waiting ≡ []) × (new.waiting ≡ [])

-- the answer for an event that was recorded after a history
pub record DoneAt (setup : Setup) (before : List Entry) (event : Event) (done : Done) : Type 0 where
  pub place : done.place ≡ length before + 1
  pub first : done.first ≡ length (feed (ledger setup before)) + 1
  pub count : done.count ≡ length (step setup (run setup (events_of before)) event).output.feed

-- the answer for the last of a pass's events, the first of which was recorded after a history
abbrev pub LastDone :
    Setup → (number : ℕ) → (before : List Entry) → List Event → Done → Type 0
LastDone setup number before events done =
    (earlier : List Event) (event : Event)
    → events ≡ earlier ++ event ∷ []
    → DoneAt setup (before ++ sent_by number earlier) event done

-- The pass sent these events, one after another. It knows a history that the market accepts, with their entries next to
-- each other, after all events that the pass sent before. What the pass knew is a beginning of the history before those
-- entries.
pub record SendsAll
    (setup : Setup) (old new : PassState) (events : List Event) (done : Done)
    : Type 0 where
  pub before : List Entry
  pub after : List Entry
  pub knew : IsPrefix old.known (ledger setup before)
  pub knows : new.known ≡ ledger setup (before ++ (sent_by old.number events ++ after))
  pub accepted : AreRecorded setup (events_of (before ++ (sent_by old.number events ++ after)))
  pub number : new.number ≡ old.number
  pub sent : new.sent ≡ old.sent ++ placed (length before) events
  pub above : AllByRecursion (λ x. x.0 < length before + 1) old.sent
  pub place : done.place ≡ length before + length events
  pub last : LastDone setup old.number before events done
  pub idle : (old.waiting ≡ []) × (new.waiting ≡ [])

-- The pass is as before, except that events of it may wait from now on.
pub record Stays (old new : PassState) : Type 0 where
  pub number : new.number ≡ old.number
  pub sent : new.sent ≡ old.sent
  pub known : new.known ≡ old.known

-- The pass sent the first `count` of these events; if `count` is zero, the pass is as before.
abbrev pub SendsFirst :
    Setup → (old new : PassState) → List Event → (count : ℕ) → Type 0
SendsFirst setup old new events zero = Stays old new
SendsFirst setup old new events (suc n) =
    (done : Done) × SendsAll setup old new (take (suc n) events) done

-- The events were admitted after a history; what is known is a beginning of that history.
pub record Enters
    (setup : Setup) (number : ℕ) (events : List Event) (known : Entries Entry)
    (entered : Entries Entry)
    (done : Done)
    : Type 0 where
  pub before : List Entry
  pub knew : IsPrefix known (ledger setup before)
  pub written : entered ≡ unspoken (before ++ sent_by number events)
  pub place : done.place ≡ length before + length events
  pub last : LastDone setup number before events done

-- The market accepts the history, which begins with what was entered. It is published at least up to `position`, and
-- exactly what is published is known.
pub record Settles
    (setup : Setup) (position : ℕ) (entered old new : Entries Entry)
    : Type 0 where
  pub history : List Entry
  pub published_end : ℕ
  pub begins : IsPrefix entered (unspoken history)
  pub far : position ≤ published_end
  pub knew : IsPrefix old new
  pub knows : new ≡ ledger setup (take published_end history)
  pub accepted : AreRecorded setup (events_of history)

-- a time that is not within the day
abbrev pub is_bad_time : Event → Bool
is_bad_time event = nat_le day (time_of event)

-- The event is refused for its time exactly if its time is not within the day, and for its member exactly if its time
-- is within the day and the setup has no such member.
pub record IsRefusedOutright
    (setup : Setup) (event : Event) (result : Result Done SubmitError)
    : Type 0 where
  pub bad_time : (result ≡ Err (Refused fault.BadTime)) ↔ (is_bad_time event ≡ true)
  pub no_member :
      (result ≡ Err (Refused fault.NoMember))
      ↔ ((is_bad_time event ≡ false) × (is_from_stranger setup event ≡ true))

-- an event that is refused neither for its time nor for its member
abbrev pub IsInOrder : Setup → Event → Type 0
IsInOrder setup event =
    (is_bad_time event ≡ false) × (is_from_stranger setup event ≡ false)

-- Of these events the pass sent the first, one at least, and the rest is left. Those that it sent were refused neither
-- for their time nor for their member.
pub record SendsTurn
    (setup : Setup) (old new : PassState) (events rest : List Event) (done : Done)
    : Type 0 where
  pub sent : List Event
  pub splits : events ≡ sent ++ rest
  pub some : 0 < length sent
  pub sends : SendsAll setup old new sent done
  pub in_order : AllByRecursion (IsInOrder setup) sent

-- The first `count` of the events were refused neither for their time nor for their member. If none is refused, `count`
-- is at least one; else the event after them is refused, for its time or its member exactly if these are wrong.
abbrev pub AreAdmittedUpTo :
    Setup → List Event → (count : ℕ) → (refused : Option SubmitError) → Type 0
AreAdmittedUpTo setup events count None =
    (0 < count) × (count ≤ length events) × AllByRecursion (IsInOrder setup) (take count events)
AreAdmittedUpTo setup events count (Some error) =
    (count < length events)
    × AllByRecursion (IsInOrder setup) (take count events)
    × ((event : Event) → slice_get events count ≡ Some event
    → IsRefusedOutright setup event (Err error))

-- the pass knows as much or more, and is as before otherwise
pub record LearnsMore (old new : PassState) : Type 0 where
  pub number : new.number ≡ old.number
  pub sent : new.sent ≡ old.sent
  pub known : IsPrefix old.known new.known

-- The market accepts the history, which is exactly what the reader and the pass know. The events of the pass are among
-- its entries under its number, each at its own position in the history, in their order. The feed that the reader knows,
-- of which it has read a beginning, discloses nothing of quiet chains.
pub record IsAudit
    (setup : Setup) (history : List Entry) (reader : ReaderState Entry) (pass : PassState)
    : Type 0 where
  pub accepted : AreRecorded setup (events_of history)
  pub reader_knows : reader.known ≡ ledger setup history
  pub pass_knows : pass.known ≡ ledger setup history
  pub sent : AreSomeOf pass.sent (sent_in pass.number history)
  pub stand : AllByRecursion (StandsAt pass.number history) pass.sent
  pub secret : IsFeedWithoutTrace setup (events_of history) (feed reader.known)

-- The rows are this part of the replies to a member up to what is known, and disclose nothing of others' quiet chains.
abbrev pub AreKnownReplies :
    Setup → (member : ℕ) → (known : Entries Entry) → Part → List (List ℕ) → Type 0
AreKnownReplies setup member known part rows =
    AreRepliesWithoutTrace setup (events_of (history_of known)) member part rows

-- The number of replies that a member has up to what is known, and whether the market is past code C, the last of the
-- hours codes.
pub record IsNews (setup : Setup) (member : ℕ) (known : Entries Entry) (news : News) : Type 0 where
  pub replies : news.replies ≡ length (known_replies setup member known)
  pub few : news.replies < 2 ^ 63
  pub ended : news.ended ≡ is_over (known_market setup known)
