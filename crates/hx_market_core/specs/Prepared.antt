-- What holds between prepare and commit: counts, reserved slots, and room for an effect.
use Rattle.std.specs.Prelude.{◌≡◌, ℕ, ◌+◌, ◌≤◌, Bool, false, List, [], ◌∷◌, ◌++◌, length, map, Option, Some, nat_lt, ◌&&◌, if◌then◌else◌, ⊤}
use Rattle.std.specs.Option.{option_map_or}
use Rattle.hx_units.specs.declared.names.Token.{Token}
use Rattle.hx_book.specs.declared.order.Live.{Live}
use Rattle.hx_book.specs.declared.order.Terms.{Terms}
use Rattle.hx_book.specs.Book.{order_of, without, KeysDiffer}
use Rattle.hx_match.specs.declared.fills.Fill.{Fill}
use Rattle.hx_match.specs.Matching.{matched}
use Rattle.hx_match.specs.Rules.{AreFills}
use Rattle.hx_members.specs.Setups.{Setup}
use Rattle.hx_members.specs.Chains.{Used, entered_of, entered_used, entered_chain, replacing_used, IsEnteredAt}
use Rattle.hx_members.specs.Name.{Name}
use Rattle.hx_day.specs.Bounds.{CanAccept}
use Rattle.hx_day.specs.Day.{MayRecord}
use Rattle.hx_rules.specs.declared.event.Event.{Event}
use Rattle.hx_market_core.specs.declared.next_step.NextStep.{NextStep}
use Rattle.hx_market_core.specs.MarketModel.{Planned, MarketState, name_of}
use Rattle.hx_market_core.specs.declared.effect.Effect.{Effect}
use Rattle.hx_market_core.specs.declared.effect.Effect.TheVariants.{Nothing, Reject, Accept, Fail, Replace, Cancel, End, Halt, Break}
use Rattle.hx_market_core.specs.declared.effect.AcceptedEnter.{AcceptedEnter}
use Rattle.hx_market_core.specs.declared.effect.Replacement.{Replacement}
use Rattle.hx_rules.specs.Orders.{is_immediate, is_shown}
use Rattle.hx_rules.specs.Markets.{Market}
use Rattle.hx_rules.specs.Removal.{others}
use Rattle.hx_rules.specs.Replace.{is_one_display}
use Rattle.hx_rules.specs.Steps.{happens, sender, with_record}
use Rattle.hx_day.specs.declared.expiries.entry.Entry.{Entry}
use Rattle.hx_market_core.specs.Expiries.{IsEndEntered}
use Rattle.hx_market_core.specs.Effects.{IsInRange, IsEffect, IsOf, SuitsTokens, IsAbout, incoming_of_enter, terms_of_enter, open_shares, incoming_of_replacement, terms_of_replacement, replacement_order, outcome_of}

-- the numbers and the chains have room for the order that is accepted
abbrev pub HasRoomFor : Market → AcceptedEnter → Type 0
HasRoomFor market a =
    CanAccept (market.tokens ++ entered_used a.member a.enter.token
    ∷ []) (market.chains ++ entered_chain a.member a.enter.token ∷ [])
    market.numbers a.member a.enter.token (length market.tokens)
    (matched (incoming_of_enter a) a.enter.shares market.live).fills

-- the same for the order that replaces another
abbrev pub HasRoomToReplace : Market → Replacement → Type 0
HasRoomToReplace market a =
    CanAccept (market.tokens
    ++ replacing_used a.member a.replace.replacement_token
    (entered_of market.tokens a.member a.replace.existing_token) ∷ []) market.chains
    market.numbers a.member a.replace.replacement_token a.old.order.chain
    (matched (incoming_of_replacement a) (open_shares a)
    (others a.member a.replace.existing_token market.live)).fills

-- the chain of the member's used token has this number
abbrev pub IsChainOf : List Used → ℕ → Token → ℕ → Type 0
IsChainOf tokens member token chain =
    IsEnteredAt tokens member (entered_of tokens member token) chain

-- The members of the replies of an order that arrives, as the fills' keys give them.

-- the member of the order under a fill's key, or the given one if there is none
abbrev pub maker_of : ℕ → List Live → Fill → ℕ
maker_of member orders fill = option_map_or (λ x. x.member) (order_of fill.key.0 orders) member

abbrev pub makers_and : ℕ → List Live → List Fill → List ℕ
makers_and member orders [] = []
makers_and member orders (fill ∷ fills) =
    maker_of member orders fill ∷ member ∷ makers_and member orders fills

-- an order of the member arrives, immediate or not
abbrev pub arrival_members : ℕ → Bool → List Live → List Fill → ℕ → List ℕ
arrival_members member immediate orders fills left =
    (member ∷ makers_and member orders fills)
    ++ (if nat_lt 0 left && immediate then member ∷ [] else [])

-- How many messages of the feed an order gives that arrives, shown or not.

abbrev pub arrival_count : (shown : Bool) → List Fill → (left : ℕ) → ℕ
arrival_count shown fills left = length fills + (if nat_lt 0 left && shown then 1 else 0)

abbrev pub one_if : Bool → ℕ
one_if b = if b then 1 else 0

-- how many an order gives that replaces another
abbrev pub replaced_count : Replacement → List Fill → (left : ℕ) → ℕ
replaced_count a fills left =
    let shown = is_shown a.replace.display a.replace.time_in_force in
    if is_one_display a.old.order (replacement_order 0 a) && nat_lt (length fills) 1 then 1
    else one_if a.old.order.shown + arrival_count shown fills left

-- how many messages of the feed an effect gives, and the members of its replies, over the orders of
-- the book
abbrev pub effect_feed_count : Effect → List Fill → (left : ℕ) → ℕ
effect_feed_count Nothing fills left = 0
effect_feed_count (Reject r) fills left = 0
effect_feed_count (Accept a) fills left =
    arrival_count (is_shown a.enter.display a.enter.time_in_force) fills left
effect_feed_count (Fail a) fills left = one_if a.old.order.shown
effect_feed_count (Replace a) fills left = replaced_count a fills left
effect_feed_count (Cancel a) fills left = one_if a.old.order.shown
effect_feed_count (End e) fills left = length e.output.feed.items
effect_feed_count (Halt h) fills left = 1
effect_feed_count (Break b) fills left = 1

abbrev pub effect_members : Effect → List Live → List Fill → ℕ → List ℕ
effect_members Nothing orders fills left = []
effect_members (Reject r) orders fills left = r.member ∷ []
effect_members (Accept a) orders fills left =
    arrival_members a.member (is_immediate a.enter.time_in_force) orders fills left
effect_members (Fail a) orders fills left = a.member ∷ []
effect_members (Replace a) orders fills left =
    arrival_members a.member (is_immediate a.replace.time_in_force) orders fills left
effect_members (Cancel a) orders fills left = a.member ∷ []
effect_members (End e) orders fills left = map (λ r. r.0) e.output.replies.items
effect_members (Halt h) orders fills left = []
effect_members (Break b) orders fills left = b.execution.maker ∷ b.execution.taker ∷ []

-- the slots and the plan that an effect needs: a slot for the token that it uses, one for the order if it may rest, and
-- the executions
abbrev pub HasReserved : List Live → Option Terms → Option Name → List Fill → ℕ → Effect → Type 0
HasReserved orders book_index name_index fills left Nothing = ⊤
HasReserved orders book_index name_index fills left (Reject r) =
    name_index ≡ Some (name_of r.member r.token)
HasReserved orders book_index name_index fills left (Accept a) =
    (name_index ≡ Some (name_of a.member a.enter.token))
    × (is_immediate a.enter.time_in_force ≡ false → book_index ≡ Some (terms_of_enter a))
    × AreFills (incoming_of_enter a) orders fills left × KeysDiffer orders
HasReserved orders book_index name_index fills left (Fail a) =
    name_index ≡ Some (name_of a.member a.replacement)
HasReserved orders book_index name_index fills left (Replace a) =
    (name_index ≡ Some (name_of a.member a.replace.replacement_token))
    × (is_immediate a.replace.time_in_force ≡ false → book_index ≡ Some (terms_of_replacement a))
    × AreFills (incoming_of_replacement a) (without a.old.key.0 orders) fills left
HasReserved orders book_index name_index fills left (Cancel a) = ⊤
HasReserved orders book_index name_index fills left (End e) = ⊤
HasReserved orders book_index name_index fills left (Halt h) = ⊤
HasReserved orders book_index name_index fills left (Break b) = ⊤

-- the numbers and the chains have room for an effect
abbrev pub FitsEffect : Market → Effect → Type 0
FitsEffect market Nothing = ⊤
FitsEffect market (Reject r) = ⊤
FitsEffect market (Accept a) = HasRoomFor market a
FitsEffect market (Fail a) = IsChainOf market.tokens a.member a.existing a.old.order.chain
FitsEffect market (Replace a) =
    HasRoomToReplace market a
    × IsChainOf market.tokens a.member a.replace.existing_token a.old.order.chain
FitsEffect market (Cancel a) = ⊤
FitsEffect market (End e) = ⊤
FitsEffect market (Halt h) = ⊤
FitsEffect market (Break b) = ⊤

-- an effect with these fills can be committed: its numbers are within their limits, it suits the tokens and the orders,
-- its slots are reserved, and there is room
pub record CanCommit (s : MarketState) (fills : List Fill) (left : ℕ)
    (effect : Effect) : Type 0 where
  pub range : IsInRange effect
  pub suits : SuitsTokens s.market.tokens s.market.chains effect
  pub about : IsAbout s.orders effect
  pub indices : HasReserved s.orders s.reserved s.reserved_token fills left effect
  pub fits : FitsEffect s.market effect
  pub room : length fills ≤ s.room

-- an effect of this member's event suits this market: it is one of the setup, it suits the tokens,
-- and the orders that it is about are there
pub record SuitsMarket (setup : Setup) (s : MarketState) (member : ℕ)
    (effect : Effect) : Type 0 where
  pub is_effect : IsEffect setup effect
  pub sender : IsOf member effect
  pub suits : SuitsTokens s.market.tokens s.market.chains effect
  pub about : IsAbout s.orders effect

-- the next step was made for this event, over this market: it does what the event does, and its
-- growths are made
pub record IsReady (setup : Setup) (s : MarketState) (entries : List Entry) (event : Event)
    (next : NextStep) : Type 0 where
  pub number : next.number ≡ sender event
  pub may_record : MayRecord s.market.recorded next.number
  pub does :
      happens setup (with_record event s.market) event
      ≡ outcome_of (with_record event s.market) next.effect
  pub fit : SuitsMarket setup s next.number next.effect
  pub indices : HasReserved s.orders s.reserved s.reserved_token next.fills.items next.left next.effect
  -- there is room for each of its executions among all executions
  pub has_room : length next.fills.items ≤ s.room
  -- its order is entered if it ends at a time
  pub end_entered : IsEndEntered entries (length s.market.tokens) next.effect

-- what was prepared is ready, and its counts are those of the output of the event
pub record IsPlanned (setup : Setup) (s : MarketState) (entries : List Entry)
    (p : Planned) : Type 0 where
  pub ready : IsReady setup s entries p.event p.next
  pub feed_count :
      p.feed_count ≡ length (outcome_of (with_record p.event s.market) p.next.effect).output.feed
  pub reply_members :
      p.reply_members
      ≡ map (λ r. r.0) (outcome_of (with_record p.event s.market) p.next.effect).output.replies
