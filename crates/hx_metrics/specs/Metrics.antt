-- The figures of a venue as metrics: a row each, by the naming rules of Prometheus (base units, and
-- the suffix `_total` for what is counted). What is not known is left out.
use Prim.Native.String.{String}
use Rattle.std.specs.Prelude.{ℕ, Bool, List, [], ◌++◌, ◌==◌, Option, Some, None, option_map, codes}
use Rattle.std.specs.Fmt.{decimal}
use Rattle.hx_metrics.specs.declared.rows.Kind.TheVariants.{Counter, Gauge}
use Rattle.hx_metrics.specs.declared.phase.Hours.{Hours}
use Rattle.hx_metrics.specs.declared.phase.Hours.TheVariants.{StartOfMessages, StartOfSystemHours, StartOfMarketHours, EndOfMarketHours, EndOfSystemHours, EndOfMessages}
use Rattle.hx_metrics.specs.declared.figures.Figures.{Figures}
use Rattle.hx_metrics.specs.Hours.{letter_of}
use Rattle.hx_metrics.specs.Rows.{title, row, sample, seconds, flag}

-- a number that only grows, and one that goes up and down
abbrev pub counter : (name help : String) → Option ℕ → List ℕ
counter name help n = row (codes name) Counter (codes help) (option_map decimal n)

abbrev pub gauge : (name help : String) → Option ℕ → List ℕ
gauge name help n = row (codes name) Gauge (codes help) (option_map decimal n)

-- seconds, of which the nanoseconds are known
abbrev pub seconds_counter : (name help : String) → (nanos : Option ℕ) → List ℕ
seconds_counter name help nanos = row (codes name) Counter (codes help) (option_map seconds nanos)

abbrev pub seconds_gauge : (name help : String) → (nanos : Option ℕ) → List ℕ
seconds_gauge name help nanos = row (codes name) Gauge (codes help) (option_map seconds nanos)

-- whether something holds
abbrev pub flag_gauge : (name help : String) → Option Bool → List ℕ
flag_gauge name help holds = row (codes name) Gauge (codes help) (option_map flag holds)

-- the sample of a code of the hours: 1 at the last one
abbrev pub state : (code last : Hours) → List ℕ
state code last =
    sample (codes "hx_system_event") (letter_of code) (flag (letter_of code == letter_of last))

abbrev pub hours_rows : Option Hours → List ℕ
hours_rows None = []
hours_rows (Some last) =
    title (codes "hx_system_event") Gauge (codes "1 at the last code of the hours, else 0.")
    ++ state StartOfMessages last ++ state StartOfSystemHours last
    ++ state StartOfMarketHours last ++ state EndOfMarketHours last
    ++ state EndOfSystemHours last ++ state EndOfMessages last

abbrev pub session_rows : Figures → List ℕ
session_rows f =
    gauge "hx_sessions" "Sessions that are logged in." f.sessions
    ++ gauge "hx_places" "Sessions that can be logged in at a time." f.slots
    ++ gauge "hx_places_left" "Places that are free." f.slots_left

abbrev pub login_rows : Figures → List ℕ
login_rows f =
    counter "hx_logins_accepted_total" "Logins that were accepted." f.logins_accepted
    ++ counter "hx_logins_refused_total" "Logins that were refused." f.logins_refused
    ++ counter "hx_closed_at_door_total" "Connections closed before their login." f.closed_at_acceptor

abbrev pub event_rows : Figures → List ℕ
event_rows f =
    counter "hx_events_total" "Events that are recorded." f.events
    ++ counter "hx_replies_total" "Replies to members." f.replies
    ++ seconds_gauge "hx_last_event_age_seconds" "Seconds since the last event." f.last_event_age
    ++ hours_rows f.phase

abbrev pub feed_rows : Figures → List ℕ
feed_rows f =
    counter "hx_feed_messages_total" "Messages of the feed." f.feed_messages
    ++ gauge "hx_feed_slots_left" "Messages that the feed has room for." f.feed_slots_left

abbrev pub request_rows : Figures → List ℕ
request_rows f =
    counter "hx_requests_answered_total" "Requests that were answered." f.requests_answered
    ++ counter "hx_requests_refused_total" "Requests that were not answered." f.requests_refused

abbrev pub journal_rows : Figures → List ℕ
journal_rows f =
    gauge "hx_journal_waiting_events" "Events that wait for the journal." f.journal_waiting
    ++ counter "hx_journal_syncs_total" "Syncs of the journal." f.journal_syncs
    ++ seconds_counter "hx_journal_sync_seconds_total" "Seconds of all syncs." f.journal_sync_time
    ++ flag_gauge "hx_journal_full" "1 while the journal waits for room, else 0." f.journal_full

abbrev pub metrics_text : Figures → List ℕ
metrics_text f =
    session_rows f ++ login_rows f ++ event_rows f
    ++ feed_rows f ++ request_rows f ++ journal_rows f
