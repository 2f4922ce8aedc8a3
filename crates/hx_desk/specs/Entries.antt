-- Histories, and what is published of them.
use Rattle.std.specs.Prelude.{ℕ, List, [], ◌∷◌, map}
use Rattle.hx_blog.specs.Feed.{Entries}
use Rattle.hx_itch.specs.declared.message.Feed.{Feed}
use Rattle.hx_itch.specs.Message.{feed_bytes}
use Rattle.hx_members.specs.Setups.{Setup}
use Rattle.hx_rules.specs.declared.event.Event.{Event}
use Rattle.hx_market.specs.Markets.{Market, opening}
use Rattle.hx_market.specs.Steps.{step}
use Rattle.hx_desk.specs.declared.entry.Entry.{Entry}

-- an event, sent by the pass of this number
abbrev pub entry_of : (pass : ℕ) → Event → Entry
entry_of pass event = record { pass = pass; event = event }

-- the history of events that no pass sent
abbrev pub restored : List Event → List Entry
restored events = map (entry_of 0) events

-- the events of a history
abbrev pub events_of : List Entry → List Event
events_of history = map (λ e. e.event) history

-- the bytes of messages of the feed (TotalView-ITCH 5.0, Message Formats)
abbrev pub feed_spelled : List Feed → List (List ℕ)
feed_spelled messages = map feed_bytes messages

-- the entries of a history from a market on, each with the feed messages of its event
unfoldable pub ledger_from : Setup → Market → List Entry → Entries Entry
ledger_from setup market [] = []
ledger_from setup market (e ∷ es) =
    let outcome = step setup market e.event in
    (e, feed_spelled outcome.output.feed) ∷ ledger_from setup outcome.market es

-- what is published of a history: each entry with the feed messages of its event
unfoldable pub ledger : Setup → List Entry → Entries Entry
ledger setup history = ledger_from setup (opening setup) history
