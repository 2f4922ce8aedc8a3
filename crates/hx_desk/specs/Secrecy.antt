-- What the feed and the replies to a member do not disclose.
use Rattle.std.specs.Prelude.{◌≡◌, ◌≢◌, ℕ, false, List}
use Rattle.hx_members.specs.Setups.{Setup}
use Rattle.hx_rules.specs.declared.event.Event.{Event}
use Rattle.hx_market.specs.Orders.{Token}
use Rattle.hx_market.specs.Steps.{run, feed, replies}
use Rattle.hx_market.specs.QuietChains.{Choice, strike, strike_one, strike_all, strike_but}
use Rattle.hx_market.specs.Laws.{AreQuietChains, listed, AreWholeQuietChains}
use Rattle.hx_desk.specs.Rows.{Part, replies_spelled}
use Rattle.hx_desk.specs.Entries.{feed_spelled}

-- The messages are the feed of these events, in bytes, and also the feed of the events without the messages of quiet
-- chains: of any choice of whole ones, of any part of one member's, of all of one member's, and of all of all members'.
pub record IsFeedWithoutTrace
    (setup : Setup) (events : List Event) (messages : List (List ℕ))
    : Type 0 where
  pub exact : messages ≡ feed_spelled (feed setup events)
  pub any_choice :
      (chosen : Choice)
      → AreQuietChains chosen (run setup events)
      → messages ≡ feed_spelled (feed setup (strike chosen events))
  pub any_part :
      (member : ℕ) (tokens : List Token)
      → AreWholeQuietChains member tokens (run setup events)
      → messages ≡ feed_spelled (feed setup (strike (listed member tokens) events))
  pub one_member :
      (member : ℕ) → messages ≡ feed_spelled (feed setup (strike_one setup member events))
  pub all_members : messages ≡ feed_spelled (feed setup (strike_all setup events))

-- The rows are this part of a member's replies to these events, in bytes, and also of the replies to the events without
-- the messages of quiet chains: of any choice of whole ones of other members, of any part of another member's, of all
-- of another member's, and of all of everybody else's.
pub record AreRepliesWithoutTrace
    (setup : Setup) (events : List Event) (reader : ℕ) (part : Part) (rows : List (List ℕ))
    : Type 0 where
  pub exact : rows ≡ part (replies_spelled (replies setup reader events))
  pub any_choice :
      (chosen : Choice)
      → AreQuietChains chosen (run setup events)
      → ((token : Token) → chosen reader token ≡ false)
      → rows ≡ part (replies_spelled (replies setup reader (strike chosen events)))
  pub any_part :
      (member : ℕ) (tokens : List Token)
      → reader ≢ member
      → AreWholeQuietChains member tokens (run setup events)
      → rows ≡ part (replies_spelled (replies setup reader (strike (listed member tokens) events)))
  pub one_member :
      (member : ℕ)
      → reader ≢ member
      → rows ≡ part (replies_spelled (replies setup reader (strike_one setup member events)))
  pub all_but_one :
      rows ≡ part (replies_spelled (replies setup reader (strike_but setup reader events)))
