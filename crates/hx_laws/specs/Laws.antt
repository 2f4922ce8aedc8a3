-- What the definitions of the market promise.
use Rattle.std.specs.Prelude.{◌≡◌, ℕ, Bool, true, false, ◌==◌, ◌&&◌, not, List, ◌++◌}
use Rattle.std.specs.List.{AllByRecursion, filter, list_any}
use Rattle.hx_units.specs.Names.{is_token}
use Rattle.hx_match.specs.declared.fills.Incoming.{Incoming}
use Rattle.hx_match.specs.Matching.{Execution, matched}
use Rattle.hx_members.specs.Setups.{Setup}
use Rattle.hx_members.specs.Chains.{is_used, entered_of, is_loud}
use Rattle.hx_rules.specs.declared.event.Event.{Event}
use Rattle.hx_rules.specs.Orders.{Order, Token}
use Rattle.hx_rules.specs.Markets.{Market}
use Rattle.hx_rules.specs.Outputs.{nothing}
use Rattle.hx_rules.specs.Steps.{with_record, step, run, output, feed, replies}
use Rattle.hx_laws.specs.FeedBook.{shown_book, shown_orders, IsUncrossed}
use Rattle.hx_laws.specs.QuietChains.{Choice, is_quiet, quiet_of_one, bears, strike, strike_one, strike_all, strike_but, lines_of_all, seen}

-- Three laws that carry the headline.

-- a token that was used after the beginning of a history, and whose chain is quiet after the whole,
-- was quiet after the beginning
abbrev pub QuietBefore : Type 0
QuietBefore =
    (setup : Setup) (beginning rest : List Event) (member : ℕ) (token : Token)
    → is_used (run setup beginning).tokens member token ≡ true
    → is_quiet (run setup (beginning ++ rest)) member token ≡ true
    → is_quiet (run setup beginning) member token ≡ true

-- the event is recorded, and has no other effect: nothing else changes, and there is no output
abbrev pub IsIdle : Setup → Market → Event → Type 0
IsIdle setup market event = step setup market event ≡ nothing (with_record event market)

-- one token of one member
abbrev pub only : ℕ → Token → Choice
only its_member its_token member token = member == its_member && is_token token its_token

-- both tokens are used, in one chain
pub record AreOneChain (market : Market) (member : ℕ) (t u : Token) : Type 0 where
  pub first : is_used market.tokens member t ≡ true
  pub second : is_used market.tokens member u ≡ true
  pub same : entered_of market.tokens member t ≡ entered_of market.tokens member u

-- a message with an effect bears tokens of one chain only
abbrev pub OneChain : Type 0
OneChain =
    (setup : Setup) (events : List Event) (event : Event) (member : ℕ) (t u : Token)
    → bears (only member t) event ≡ true
    → bears (only member u) event ≡ true
    → (IsIdle setup (run setup events) event → ⊥)
    → AreOneChain (step setup (run setup events) event).market member t u

-- no order of these executions is chosen
abbrev pub AreSpared : Choice → List Execution → Type 0
AreSpared chosen executions =
    AllByRecursion (λ e. chosen e.order.member e.order.token ≡ false) executions

-- the orders without the chosen ones
abbrev pub unchosen : Choice → List Order → List Order
unchosen chosen orders = filter (λ x. not (chosen x.member x.token)) orders

-- taking orders that are not executed out of the list changes no execution
abbrev pub NotChosen : Type 0
NotChosen =
    (chosen : Choice) (incoming : Incoming) (shares : ℕ) (orders : List Order)
    → AreSpared chosen (matched incoming shares orders).fills
    → (matched incoming shares (unchosen chosen orders)).fills
    ≡ (matched incoming shares orders).fills

-- Quiet orders leave no trace.

-- the chosen tokens are those of whole chains, none of which was displayed or has traded
pub record AreQuietChains (chosen : Choice) (market : Market) : Type 0 where
  -- a used token is chosen exactly if its chain's entered token is
  pub whole :
      (member : ℕ) (token : Token) → is_used market.tokens member token ≡ true
      → chosen member token ≡ chosen member (entered_of market.tokens member token)
  pub quiet :
      (member : ℕ) (token : Token) → is_used market.tokens member token ≡ true
      → chosen member token ≡ true
      → is_loud market.chains member (entered_of market.tokens member token) ≡ false

-- no token of the members that may look is chosen
abbrev pub IsUnknownTo : (ℕ → Bool) → Choice → Type 0
IsUnknownTo may_look chosen =
    (member : ℕ) → may_look member ≡ true → (token : Token) → chosen member token ≡ false

-- the general form: striking whole chains that are quiet in the end leaves the feed, and all replies to the members
-- that may look, line by line
abbrev pub QuietChains : Type 0
QuietChains =
    (setup : Setup) (events : List Event) (chosen : Choice) (may_look : ℕ → Bool)
    → AreQuietChains chosen (run setup events)
    → IsUnknownTo may_look chosen
    → lines_of_all may_look (output setup events)
    ≡ lines_of_all may_look (output setup (strike chosen events))

-- the headline: without the messages of a member's quiet chains everybody else sees the same
abbrev pub OneMember : Type 0
OneMember =
    (setup : Setup) (member : ℕ) (events : List Event)
    → seen member setup events ≡ seen member setup (strike_one setup member events)

-- the listed tokens of one member
abbrev pub listed : ℕ → List Token → Choice
listed owner tokens member token = member == owner && list_any (is_token token) tokens

-- they are quiet, and are all tokens of their chains
pub record AreWholeQuietChains (owner : ℕ) (tokens : List Token) (market : Market) : Type 0 where
  pub quiet : AllByRecursion (λ t. is_quiet market owner t ≡ true) tokens
  -- what is in one chain with a listed token is listed
  pub whole :
      (t u : Token) → listed owner tokens owner t ≡ true → is_used market.tokens owner u ≡ true
      → entered_of market.tokens owner u ≡ entered_of market.tokens owner t
      → listed owner tokens owner u ≡ true

-- the same of any part of a member's quiet chains
abbrev pub AnyPart : Type 0
AnyPart =
    (setup : Setup) (member : ℕ) (tokens : List Token) (events : List Event)
    → AreWholeQuietChains member tokens (run setup events)
    → seen member setup events ≡ seen member setup (strike (listed member tokens) events)

-- the used tokens of a member that are in one chain with a listed one
unfoldable pub chained_with : ℕ → List Token → Market → Choice
chained_with owner tokens market member token =
    member == owner
    && (is_used market.tokens owner token
    && list_any
    (λ t. is_token (entered_of market.tokens owner token)
    (entered_of market.tokens owner t)) tokens)

-- the same of the chains of any quiet tokens
abbrev pub ChainsOfAny : Type 0
ChainsOfAny =
    (setup : Setup) (member : ℕ) (tokens : List Token) (events : List Event)
    → AllByRecursion (λ t. is_quiet (run setup events) member t ≡ true) tokens
    → seen member setup events
    ≡ seen member setup (strike (chained_with member tokens (run setup events)) events)

-- The feed alone, and the replies to one member alone.

-- without the messages of any choice of whole quiet chains, of any members, the feed is the same
abbrev pub FeedOfAnyChoice : Type 0
FeedOfAnyChoice =
    (setup : Setup) (events : List Event) (chosen : Choice)
    → AreQuietChains chosen (run setup events)
    → feed setup events ≡ feed setup (strike chosen events)

-- and so are the replies to a member of whom no token is chosen
abbrev pub RepliesOfAnyChoice : Type 0
RepliesOfAnyChoice =
    (setup : Setup) (events : List Event) (chosen : Choice) (member : ℕ)
    → AreQuietChains chosen (run setup events)
    → ((token : Token) → chosen member token ≡ false)
    → replies setup member events ≡ replies setup member (strike chosen events)

-- a list of whole quiet chains of a member is such a choice
abbrev pub ListedIsChoice : Type 0
ListedIsChoice =
    (setup : Setup) (events : List Event) (member : ℕ) (tokens : List Token)
    → AreWholeQuietChains member tokens (run setup events)
    → AreQuietChains (listed member tokens) (run setup events)

-- and so are all quiet chains of a member
abbrev pub QuietIsChoice : Type 0
QuietIsChoice =
    (setup : Setup) (events : List Event) (member : ℕ)
    → AreQuietChains (quiet_of_one member (run setup events)) (run setup events)

-- without the messages of all quiet chains of all members the feed is the same
abbrev pub AllMembers : Type 0
AllMembers =
    (setup : Setup) (events : List Event) → feed setup events ≡ feed setup (strike_all setup events)

-- without the messages of all quiet chains but its own a member's replies are the same
abbrev pub AllButOne : Type 0
AllButOne =
    (setup : Setup) (member : ℕ) (events : List Event)
    → replies setup member events ≡ replies setup member (strike_but setup member events)

-- Feed and book.

-- the book that a reader of the feed builds is the shown live orders as published, in time order
abbrev pub FeedIsBook : Type 0
FeedIsBook =
    (setup : Setup) (events : List Event)
    → shown_book (feed setup events) ≡ shown_orders setup (run setup events).live

-- and no shown buy of a stock has a price at or above a shown sell of it
abbrev pub FeedIsUncrossed : Type 0
FeedIsUncrossed =
    (setup : Setup) (events : List Event) → IsUncrossed (shown_book (feed setup events))
