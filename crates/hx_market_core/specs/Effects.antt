-- What an event does, once it is committed.
use Rattle.std.specs.Prelude.{◌≡◌, ℕ, ◌-◌, ◌<◌, ◌≤◌, ◌^◌, min, Bool, true, false, if◌then◌else◌, not, List, length, Option, Some, None, ⊤}
use Rattle.std.specs.List.{AllByRecursion, filter}
use Rattle.hx_units.specs.Limits.{day, most_shares}
use Rattle.hx_units.specs.declared.names.Token.{Token}
use Rattle.hx_book.specs.declared.order.Live.{Live}
use Rattle.hx_book.specs.declared.order.Terms.{Terms}
use Rattle.hx_book.specs.Book.{order_of, is_under, KeysDiffer}
use Rattle.hx_match.specs.declared.fills.Incoming.{Incoming}
use Rattle.hx_members.specs.Setups.{Setup, locate_of}
use Rattle.hx_members.specs.Chains.{Used, Chain, is_used, entered_of, executed_by}
use Rattle.hx_market_core.specs.declared.effect.Effect.{Effect}
use Rattle.hx_market_core.specs.declared.effect.Effect.TheVariants.{Nothing, Reject, Accept, Fail, Replace, Cancel, End, Halt, Break}
use Rattle.hx_market_core.specs.declared.effect.Due.{Due}
use Rattle.hx_market_core.specs.declared.effect.Due.TheVariants.{Over, ByCode}
use Rattle.hx_market_core.specs.declared.effect.Expiry.{Expiry}
use Rattle.hx_market_core.specs.declared.effect.AcceptedEnter.{AcceptedEnter}
use Rattle.hx_market_core.specs.declared.effect.Replacement.{Replacement}
use Rattle.hx_market_core.specs.declared.effect.Reduction.{Reduction}
use Rattle.hx_rules.specs.Orders.{Order, side_of, is_shown, is_called}
use Rattle.hx_rules.specs.Markets.{Market}
use Rattle.hx_itch.specs.Message.{feed_time}
use Rattle.hx_itch.specs.declared.message.Feed.{Feed}
use Rattle.hx_itch.specs.declared.message.Feed.TheVariants.{OrderReplace}
use Rattle.hx_rules.specs.Outputs.{Outcome, nothing}
use Rattle.hx_rules.specs.Enter.{accept_order, order_from, reject, resolved_firm, next_reference}
use Rattle.hx_rules.specs.Replace.{fail_replace, replacing_order, replace_order}
use Rattle.hx_rules.specs.Cancel.{take_off}
use Rattle.hx_rules.specs.Hours.{is_over, ends_by_code}
use Rattle.hx_rules.specs.Halts.{set_state}
use Rattle.hx_rules.specs.Breaks.{break_execution}

-- An Enter that is accepted.

-- the stock, side, price and firm are those of the message, by the setup; its shares and time are
-- within their limits
pub record IsAcceptedEnter (setup : Setup) (a : AcceptedEnter) : Type 0 where
  pub locate : locate_of setup a.enter.stock ≡ Some a.locate
  pub side : a.side ≡ side_of a.enter.side
  pub price : a.price ≡ a.enter.price
  pub firm : a.firm ≡ resolved_firm setup a.member a.enter.firm
  pub shares : a.enter.shares ≤ most_shares
  pub time : a.time < day

abbrev pub incoming_of_enter : AcceptedEnter → Incoming
incoming_of_enter a =
    record {
      locate = a.locate;
      side = a.side;
      price = a.price;
      shares = a.enter.shares;
      minimum = a.enter.minimum_quantity;
    }

abbrev pub terms_of_enter : AcceptedEnter → Terms
terms_of_enter a = record { locate = a.locate; side = a.side; price = a.price }

-- the order, with its chain's number and its reference
abbrev pub order_of_enter : (chain reference : ℕ) → AcceptedEnter → Order
order_of_enter chain reference a =
    order_from chain reference a.member a.time a.locate a.side a.price a.firm a.enter

-- the number of its chain is the next index of the used tokens, and its reference the next one
abbrev pub accepted_by : Market → AcceptedEnter → Outcome
accepted_by market a =
    accept_order market a.time a.enter
    (order_of_enter (length market.tokens)
    (next_reference market.numbers a.member (is_shown a.enter.display a.enter.time_in_force)) a)

-- A Replace that replaces, and a Cancel.

-- the price is that of the message; its shares are more than the chain has executed, and its shares
-- and time are within their limits
pub record IsReplacement (a : Replacement) : Type 0 where
  pub price : a.price ≡ a.replace.price
  pub more : a.executed < a.replace.shares
  pub shares : a.replace.shares ≤ most_shares
  pub time : a.time < day

-- the shares that the chain has not executed
abbrev pub open_shares : Replacement → ℕ
open_shares a = a.replace.shares - a.executed

abbrev pub incoming_of_replacement : Replacement → Incoming
incoming_of_replacement a =
    record {
      locate = a.old.order.locate;
      side = a.old.order.side;
      price = a.replace.price;
      shares = open_shares a;
      minimum = min a.replace.minimum_quantity (open_shares a);
    }

abbrev pub terms_of_replacement : Replacement → Terms
terms_of_replacement a =
    record { locate = a.old.order.locate; side = a.old.order.side; price = a.replace.price }

-- the new order, with its reference
abbrev pub replacement_order : ℕ → Replacement → Order
replacement_order reference a = replacing_order a.executed reference a.time a.replace a.old.order

-- in the feed, if one message reports both: the order replaces the old one (ITCH 5.0, Order Replace Message)
abbrev pub output_in_one : (time : ℕ) (old x : Order) → Feed
output_in_one time old x =
    OrderReplace (record {
      locate = x.locate;
      time = time;
      original_reference = old.reference;
      reference = x.reference;
      shares = x.shares;
      price = x.price;
    })

abbrev pub replaced_by_effect : Market → Replacement → Outcome
replaced_by_effect market a =
    replace_order market a.member a.time a.stock a.replace a.old.order
    (replacement_order
    (next_reference market.numbers a.member
    (is_shown a.replace.display a.replace.time_in_force)) a)

-- some of its open shares, or all, are taken off
pub record IsReduction (a : Reduction) : Type 0 where
  pub some : 0 < a.by
  pub most : a.by ≤ a.old.order.shares
  pub time : a.time < day

-- the live order under its key is the one, and the only one, that the member calls by this token
pub record IsOnly (orders : List Live) (member : ℕ) (token : Token) (live : Live) : Type 0 where
  pub found : order_of live.key.0 orders ≡ Some live.order
  pub called : is_called member token live.order ≡ true
  pub only :
      AllByRecursion (λ other. is_called member token other.order
      ≡ is_under live.key.0 other) orders
  pub differ : KeysDiffer orders

-- the order, if it is the one that the member calls by this token
abbrev pub confirmed : ℕ → Token → Option Order → Option Order
confirmed member token None = None
confirmed member token (Some x) = if is_called member token x then Some x else None

-- Orders that end.

abbrev pub is_due : Due → ℕ → Order → Bool
is_due Over time x = is_over time x.life
is_due (ByCode code) time x = ends_by_code code x

-- they are the due ones of the live orders
pub record IsExpiry (orders : List Live) (e : Expiry) : Type 0 where
  pub due : e.orders.items ≡ filter (λ live. is_due e.due e.time live.order) orders
  pub differ : KeysDiffer orders

-- the orders end, the phase is that of the effect, and this is the output
abbrev pub ended_by : Market → Expiry → Outcome
ended_by market e =
    record {
      market = record market {
        live = filter
            (λ x. not (is_due e.due e.time x)) market.live;
        phase = e.phase;
      };
      output = record { feed = e.output.feed.items; replies = e.output.replies.items };
    }

-- Any effect.

-- its numbers are within their limits
abbrev pub IsInRange : Effect → Type 0
IsInRange Nothing = ⊤
IsInRange (Reject r) = ⊤
IsInRange (Accept a) = a.time < day
IsInRange (Fail a) = a.time < day
IsInRange (Replace a) = IsReplacement a
IsInRange (Cancel a) = IsReduction a
IsInRange (End e) = AllByRecursion (λ f. feed_time f < 2 ^ 48) e.output.feed.items
IsInRange (Halt h) = h.time < day
IsInRange (Break b) = b.time < day

-- it is one of this setup: its numbers are within their limits, and an accepted Enter is of a stock
-- and a firm of the setup
abbrev pub IsEffect : Setup → Effect → Type 0
IsEffect setup (Accept a) = IsAcceptedEnter setup a
IsEffect setup other = IsInRange other

-- the member of an effect, if it has one
abbrev pub IsOf : ℕ → Effect → Type 0
IsOf member Nothing = ⊤
IsOf member (Reject r) = r.member ≡ member
IsOf member (Accept a) = a.member ≡ member
IsOf member (Fail a) = a.member ≡ member
IsOf member (Replace a) = a.member ≡ member
IsOf member (Cancel a) = a.member ≡ member
IsOf member (End e) = ⊤
IsOf member (Halt h) = ⊤
IsOf member (Break b) = ⊤

-- the token that it uses is not used before
abbrev pub IsUnused : List Used → ℕ → Token → Type 0
IsUnused tokens member token = is_used tokens member token ≡ false

-- the replacement token is not used before, and `executed` shares are executed of the chain of the existing one
pub record SuitsReplacement (tokens : List Used) (chains : List Chain)
    (a : Replacement) : Type 0 where
  pub unused : IsUnused tokens a.member a.replace.replacement_token
  pub executed :
      a.executed ≡ executed_by chains a.member (entered_of tokens a.member a.replace.existing_token)

-- it fits the tokens that are used
abbrev pub SuitsTokens : List Used → List Chain → Effect → Type 0
SuitsTokens tokens chains Nothing = ⊤
SuitsTokens tokens chains (Reject r) = IsUnused tokens r.member r.token
SuitsTokens tokens chains (Accept a) = IsUnused tokens a.member a.enter.token
SuitsTokens tokens chains (Fail a) = IsUnused tokens a.member a.replacement
SuitsTokens tokens chains (Replace a) = SuitsReplacement tokens chains a
SuitsTokens tokens chains (Cancel a) = ⊤
SuitsTokens tokens chains (End e) = ⊤
SuitsTokens tokens chains (Halt h) = ⊤
SuitsTokens tokens chains (Break b) = ⊤

-- the live orders that it is about, if there are any
abbrev pub IsAbout : List Live → Effect → Type 0
IsAbout orders Nothing = ⊤
IsAbout orders (Reject r) = ⊤
IsAbout orders (Accept a) = ⊤
IsAbout orders (Fail a) = IsOnly orders a.member a.existing a.old
IsAbout orders (Replace a) = IsOnly orders a.member a.replace.existing_token a.old
IsAbout orders (Cancel a) = IsOnly orders a.member a.token a.old
IsAbout orders (End e) = IsExpiry orders e
IsAbout orders (Halt h) = ⊤
IsAbout orders (Break b) = ⊤

-- what an effect does
abbrev pub outcome_of : Market → Effect → Outcome
outcome_of market Nothing = nothing market
outcome_of market (Reject r) = reject market r.member r.time r.token r.letter
outcome_of market (Accept a) = accepted_by market a
outcome_of market (Fail a) =
    fail_replace market a.member a.time a.existing a.replacement a.old.order
outcome_of market (Replace a) = replaced_by_effect market a
outcome_of market (Cancel a) = take_off market a.member a.time a.token a.by a.old.order
outcome_of market (End e) = ended_by market e
outcome_of market (Halt h) = set_state market h.time h.locate h.stock h.state h.reason
outcome_of market (Break b) = break_execution market b.time b.number b.execution
