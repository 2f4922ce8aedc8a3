-- What an end of the log knows of the history.
use Rattle.std.specs.Prelude.{◌<◌, ◌^◌, ◌≡◌, ℕ, ◌+◌, List, length, map}
use mathlib.Core.List.{IsPrefix}
use Rattle.hx_blog.specs.Feed.{Entries, feed}
use Rattle.hx_blog.specs.Ends.{ReaderState, got}
use Rattle.hx_members.specs.Setups.{Setup}
use Rattle.hx_market.specs.Markets.{Market}
use Rattle.hx_market.specs.Steps.{run, replies}
use Rattle.hx_desk.specs.declared.entry.Entry.{Entry}
use Rattle.hx_desk.specs.Rows.{replies_spelled}
use Rattle.hx_desk.specs.Entries.{events_of, ledger}

-- the history in the entries of the log
abbrev pub history_of : Entries Entry → List Entry
history_of known = map (λ e. e.0) known

-- what is known is exactly a history with its feed
abbrev pub IsWhole : Setup → (known : Entries Entry) → Type 0
IsWhole setup known = known ≡ ledger setup (history_of known)

-- the market after what is known
abbrev pub known_market : Setup → (known : Entries Entry) → Market
known_market setup known = run setup (events_of (history_of known))

-- the replies to a member up to what is known, in bytes
abbrev pub known_replies : Setup → (member : ℕ) → (known : Entries Entry) → List (List ℕ)
known_replies setup member known =
    replies_spelled (replies setup member (events_of (history_of known)))

-- the replies are so few that their numbers fit a signed word
abbrev pub AreFew : Setup → (member : ℕ) → (known : Entries Entry) → Type 0
AreFew setup member known = length (known_replies setup member known) < 2 ^ 63

-- the replies of a longer history begin with those of a shorter
abbrev pub RepliesGrow : Type 0
RepliesGrow =
    (setup : Setup) (member : ℕ) (shorter longer : Entries Entry)
    → IsPrefix shorter longer
    → IsPrefix (known_replies setup member shorter) (known_replies setup member longer)

-- the reader loaded the count and knows from then on all that is published, of which it knew a
-- beginning; what it has read stays
pub record CatchesUp (old new : ReaderState Entry) : Type 0 where
  pub log : new.log ≡ old.log
  pub known : IsPrefix old.known new.known
  pub seen : new.seen ≡ length (feed new.known)
  pub loads : new.loads ≡ old.loads + 1
  pub read : new.read ≡ old.read
  pub got_before : got new ≡ got old
