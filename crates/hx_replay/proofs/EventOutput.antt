-- The size of the output of one step of the market.
use Rattle.std.proofs.Common.{◌≡◌, ℕ, suc, ◌+◌, ◌*◌, ◌≤◌, ltb, nat_lt, ◌&&◌, ◌||◌, not, if◌then◌else◌, Bool, true, false, cond, List, [], ◌∷◌, ◌++◌, length, map, Option, Some, None, refl, arith}
use Rattle.std.specs.Prelude.{◌==◌}
use Rattle.std.specs.List.{filter, find}
use Rattle.std.proofs.lemmas.List.{length-append, length-map}
use Rattle.std.proofs.lemmas.List.Filters.{length-filter_both}
use Rattle.hx_units.specs.declared.names.Symbol.{Symbol}
use Rattle.hx_units.specs.declared.names.Token.{Token}
use Rattle.hx_units.proofs.Lists.{length-filter-le}
use Rattle.hx_book.specs.declared.order.Order.{Order}
use Rattle.hx_match.specs.Matching.{Execution, Matched, matched}
use Rattle.hx_members.specs.Setups.{Setup, locate_of, symbol_of}
use Rattle.hx_members.specs.Chains.{is_used}
use Rattle.hx_ouch.specs.declared.inbound.Inbound.{Inbound}
use Rattle.hx_ouch.specs.declared.inbound.Inbound.TheVariants as inbound
use Rattle.hx_ouch.specs.declared.inbound.Enter.{Enter}
use Rattle.hx_ouch.specs.declared.inbound.Replace.{Replace}
use Rattle.hx_ouch.specs.declared.inbound.Cancel.{Cancel}
use Rattle.hx_itch.specs.declared.message.Feed.{Feed}
use Rattle.hx_itch.specs.declared.message.Feed.TheVariants.{OrderReplace, OrderCancel, OrderDelete}
use Rattle.hx_ouch.specs.Inbound.{inbound_of}
use Rattle.hx_rules.specs.declared.event.Event.{Event}
use Rattle.hx_rules.specs.declared.event.Event.TheVariants.{Message, Tick, Hours, Halt, Break}
use Rattle.hx_market.specs.Markets.{Market}
use Rattle.hx_market.specs.Orders.{is_immediate, is_shown, is_called}
use Rattle.hx_members.specs.Stock.{Stock}
use Rattle.hx_market.specs.Outputs.{Reply, EventOutput, Outcome, silent}
use Rattle.hx_market.specs.Hours.{all_deleted, end_orders, directory, to_all, output_by_code, is_over, ends_by_code, hours_by, is_next}
use Rattle.hx_market.specs.Executions.{feed_of_executions, replies_of_executions, published, shown_of, resting_of, canceled_of, incoming_of, Arrival, arrive, arrival_feed}
use Rattle.hx_market.specs.Removal.{others, deleted, taken_off, canceled}
use Rattle.hx_market.specs.Replace.{executed_of, is_order_halted, replace_fails, handed_over, is_one_display, replacing_order, replace_feed, replace_order, replaced_by}
use Rattle.hx_market.specs.Cancel.{cancelled_shares, cancelled_by}
use Rattle.hx_market.specs.Enter.{entered_by, rejection, accept_order, drawn, consumed, entered_order, next_reference}
use Rattle.hx_market.specs.Halts.{is_trading_state, halted_by}
use Rattle.hx_market.specs.Breaks.{execution_of, broken_if, broken_by}
use Rattle.hx_rules.specs.declared.matches.Match.{Match}
use Rattle.hx_rules.proofs.Feeds.{length-feed_of_executions}
use Rattle.hx_market.specs.Steps.{receive, step, with_record}
use Rattle.hx_day.proofs.Counts.{ended}
use Rattle.hx_day.proofs.AfterReplace.{length-lessened}

-- all messages of an event but few end a live order, or are a code's to all
pub record TellsFew (live : List Order) (o : Outcome) : Type 0 where
  pub feed : length o.output.feed + length o.market.live ≤ length live + 1004
  pub replies : length o.output.replies + 2 * length o.market.live ≤ 2 * length live + 4101

length-replies : (time member : ℕ) (token : Token) (n : ℕ) (es : List Execution) → length (replies_of_executions time member token n es) ≡ 2 * length es
length-replies time member token n [] = refl
length-replies time member token n (e ∷ es) = let more : length (replies_of_executions time member token (n + 1) es) ≡ 2 * length es = length-replies time member token (n + 1) es in omega arith

length-canceled : (b : Bool) (r : Reply) → length (cond b (r ∷ []) []) ≤ 1
length-canceled true r = omega arith
length-canceled false r = omega arith

length-resting : (b : Bool) (x : Order) → length (cond b (x ∷ []) []) ≤ 1
length-resting true x = omega arith
length-resting false x = omega arith

length-published : (time : ℕ) (stock : Symbol) (xs : List Order) → length (map (published time stock) (shown_of xs)) ≤ length xs
length-published time stock [] = omega arith
length-published time stock (x ∷ xs) = at x.shown (length-published time stock xs)
  where
    at : (b : Bool) → length (map (published time stock) (shown_of xs)) ≤ length xs → length (map (published time stock) (cond b (x ∷ shown_of xs) (shown_of xs))) ≤ suc (length xs)
    at true h = omega arith
    at false h = omega arith

one_at_most : (b : Bool) → cond b 1 0 ≤ 1
one_at_most true = omega arith
one_at_most false = omega arith

accept_order_few : (market : Market) (time : ℕ) (e : Enter) (x : Order) → TellsFew market.live (accept_order market time e x)
unfolding matched
accept_order_few market time e x =
    let immediate : Bool = is_immediate e.time_in_force in
    let m : Matched = matched (incoming_of x) x.shares market.live in
    let resting : List Order = resting_of x immediate m.left in
    let ends : length m.fills + length m.rest ≤ length market.live + cond (ltb 0 x.shares) 1 0 = ended x.shares (incoming_of x) x.shares market.live in
    let one = one_at_most (ltb 0 x.shares) in
    let executions = length-feed_of_executions time e.stock market.numbers.matches m.fills in
    let shown = length-published time e.stock resting in
    let rests : length resting ≤ 1 = length-resting (ltb 0 m.left && not immediate) (record x { shares = m.left }) in
    let live = length-append m.rest resting in
    let feed = length-append (feed_of_executions time e.stock market.numbers.matches m.fills) (map (published time e.stock) (shown_of resting)) in
    let entered : Market = drawn (consumed market x.member x.token) x.member x.shown in
    let executed = length-replies time x.member x.token entered.numbers.matches m.fills in
    let canceled : length (canceled_of time x.member x.token immediate m.left) ≤ 1 = length-canceled (ltb 0 m.left && immediate) _ in
    let a : Arrival = arrive time immediate x entered in
    let replies : length a.replies ≡ length (replies_of_executions time x.member x.token entered.numbers.matches m.fills) + length (canceled_of time x.member x.token immediate m.left) =
    length-append (replies_of_executions time x.member x.token entered.numbers.matches m.fills) (canceled_of time x.member x.token immediate m.left) in
    record { feed = omega (arith, ends, one, executions, shown, rests, live, feed); replies = omega (arith, ends, one, executed, canceled, rests, live, replies) }

-- the order of a message
abbrev order_in : Setup → Market → ℕ → ℕ → Enter → Order
order_in setup market member time e = entered_order setup (length market.tokens) (next_reference market.numbers member (is_shown e.display e.time_in_force)) member time e

entered_few : (setup : Setup) (market : Market) (member time : ℕ) (e : Enter) (used : Bool) (letter : Option ℕ) → TellsFew market.live (entered_by setup market member time e used letter)
entered_few setup market member time e true letter = record { feed = omega arith; replies = omega arith }
entered_few setup market member time e false (Some letter) = record { feed = omega arith; replies = omega arith }
entered_few setup market member time e false None = accept_order_few market time e (order_in setup market member time e)

-- Of a Replace and of a Cancel.

-- one is gone if one is called so
one_gone : (member : ℕ) (token : Token) (old : Order) (xs : List Order) → find (is_called member token) xs ≡ Some old → length (others member token xs) + 1 ≤ length xs
one_gone member token old [] h = absurd (let z : None ≡ Some old = h in cc)
one_gone member token old (x ∷ xs) h = at (is_called member token x) h (length-filter-le (λ y. not (is_called member token y)) xs) (one_gone member token old xs)
  where
    at : (b : Bool) → cond b (Some x) (find (is_called member token) xs) ≡ Some old → length (others member token xs) ≤ length xs
        → (find (is_called member token) xs ≡ Some old → length (others member token xs) + 1 ≤ length xs)
        → length (cond (not b) (x ∷ others member token xs) (others member token xs)) + 1 ≤ suc (length xs)
    at true e f ih = omega arith
    at false e f ih = let more = ih e in omega arith

length-deleted : (time : ℕ) (x : Order) → length (deleted time x) ≤ 1
length-deleted time x = at x.shown
  where
    at : (b : Bool) → length (if b then OrderDelete (record { locate = x.locate; time = time; reference = x.reference }) ∷ [] else []) ≤ 1
    at true = omega arith
    at false = omega arith

length-off : (time by : ℕ) (x : Order) → length (taken_off time by x) ≤ 1
length-off time by x = at (nat_lt by x.shares) x.shown
  where
    at : (a b : Bool) → length (if a then (if b then OrderCancel (record { locate = x.locate; time = time; reference = x.reference; shares = by }) ∷ [] else []) else (if b then OrderDelete (record { locate = x.locate; time = time; reference = x.reference }) ∷ [] else [])) ≤ 1
    at true true = omega arith
    at true false = omega arith
    at false true = omega arith
    at false false = omega arith

either-most : (b : Bool) (one many : List Feed) (most : ℕ) → length one ≤ most → length many ≤ most → length (if b then one else many) ≤ most
either-most true one many most h k = h
either-most false one many most h k = k

replace_order_few : (market : Market) (member time : ℕ) (stock : Symbol) (r : Replace) (old x : Order) → length (others member r.existing_token market.live) + 1 ≤ length market.live
    → TellsFew market.live (replace_order market member time stock r old x)
unfolding matched
replace_order_few market member time stock r old x gone =
    let immediate : Bool = is_immediate r.time_in_force in
    let handed : Market = drawn (handed_over market member r.existing_token r.replacement_token) member x.shown in
    let left : List Order = others member r.existing_token market.live in
    let m : Matched = matched (incoming_of x) x.shares left in
    let resting : List Order = resting_of x immediate m.left in
    let ends : length m.fills + length m.rest ≤ length left + cond (ltb 0 x.shares) 1 0 = ended x.shares (incoming_of x) x.shares left in
    let one = one_at_most (ltb 0 x.shares) in
    let executions = length-feed_of_executions time stock market.numbers.matches m.fills in
    let shown = length-published time stock resting in
    let rests : length resting ≤ 1 = length-resting (ltb 0 m.left && not immediate) (record x { shares = m.left }) in
    let live = length-append m.rest resting in
    let arrives : List Feed = arrival_feed time stock market.numbers.matches m.fills resting in
    let feed = length-append (feed_of_executions time stock market.numbers.matches m.fills) (map (published time stock) (shown_of resting)) in
    let both = length-append (deleted time old) arrives in
    let old_gone = length-deleted time old in
    let most : length (replace_feed time stock market.numbers.matches old x m.fills resting) ≤ length m.fills + 2 =
    either-most (is_one_display old x && nat_lt (length m.fills) 1)
    (OrderReplace (record { locate = x.locate; time = time; original_reference = old.reference; reference = x.reference; shares = x.shares; price = x.price }) ∷ []) (deleted time old ++ arrives) (length m.fills + 2)
    (omega arith) (omega (arith, executions, shown, rests, feed, both, old_gone)) in
    let executed = length-replies time x.member x.token handed.numbers.matches m.fills in
    let canceled_one : length (canceled_of time x.member x.token immediate m.left) ≤ 1 = length-canceled (ltb 0 m.left && immediate) _ in
    let a : Arrival = arrive time immediate x handed in
    let replies : length a.replies ≡ length (replies_of_executions time x.member x.token handed.numbers.matches m.fills) + length (canceled_of time x.member x.token immediate m.left) =
    length-append (replies_of_executions time x.member x.token handed.numbers.matches m.fills) (canceled_of time x.member x.token immediate m.left) in
    record { feed = omega (arith, ends, one, most, rests, live, gone); replies = omega (arith, ends, one, executed, canceled_one, rests, live, replies, gone) }

replaced_few : (setup : Setup) (market : Market) (member time : ℕ) (r : Replace) (o : Option Order) (used halted fails : Bool) → find (is_called member r.existing_token) market.live ≡ o
    → TellsFew market.live (replaced_by setup market member time r o used halted fails)
replaced_few setup market member time r None used halted fails e = record { feed = omega arith; replies = omega arith }
replaced_few setup market member time r (Some old) true halted fails e = record { feed = omega arith; replies = omega arith }
replaced_few setup market member time r (Some old) false true fails e = record { feed = omega arith; replies = omega arith }
replaced_few setup market member time r (Some old) false false true e =
    let gone = one_gone member r.existing_token old market.live e in
    let output = length-deleted time old in
    record { feed = omega (arith, gone, output); replies = omega (arith, gone) }
replaced_few setup market member time r (Some old) false false false e =
    replace_order_few market member time (symbol_of setup old.locate) r old
    (replacing_order (executed_of market member r.existing_token) (next_reference market.numbers member (is_shown r.display r.time_in_force)) time r old) (one_gone member r.existing_token old market.live e)

cancelled_few : (market : Market) (member time : ℕ) (c : Cancel) (idle : Bool) (o : Option Order) → TellsFew market.live (cancelled_by market member time c idle o)
cancelled_few market member time c true o = record { feed = omega arith; replies = omega arith }
cancelled_few market member time c false None = record { feed = omega arith; replies = omega arith }
cancelled_few market member time c false (Some x) =
    let by : ℕ = cancelled_shares (executed_of market member c.token) c x in
    let less = length-lessened member c.token by market.live in
    let output = length-off time by x in
    record { feed = omega (arith, less, output); replies = omega (arith, less) }

act_few : (setup : Setup) (market : Market) (member time : ℕ) (o : Option Inbound) → TellsFew market.live (receive setup market member time o)
act_few setup market member time None = record { feed = omega arith; replies = omega arith }
act_few setup market member time (Some (inbound.Enter e)) = entered_few setup market member time e (is_used market.tokens member e.token) (rejection setup market.phase market.halted e)
act_few setup market member time (Some (inbound.Replace r)) =
    replaced_few setup market member time r (find (is_called member r.existing_token) market.live) (is_used market.tokens member r.replacement_token)
    (is_order_halted market.halted (find (is_called member r.existing_token) market.live)) (replace_fails market.phase (executed_of market member r.existing_token) r) refl
act_few setup market member time (Some (inbound.Cancel c)) = cancelled_few market member time c _ (find (is_called member c.token) market.live)

-- Of a tick and of the hours.

-- an order is due or stays
parted : (due : Order → Bool) (xs : List Order) → length (filter due xs) + length (filter (λ x. not (due x)) xs) ≡ length xs
parted due xs = length-filter_both due (λ x. not (due x)) (λ x. refl) xs

length-all-deleted : (time : ℕ) (xs : List Order) → length (all_deleted time xs) ≤ length xs
length-all-deleted time [] = omega arith
length-all-deleted time (x ∷ xs) =
    let one = length-deleted time x in
    let more = length-all-deleted time xs in
    let both = length-append (deleted time x) (all_deleted time xs) in omega arith

ended_few : (due : Order → Bool) (time : ℕ) (market : Market) (first : EventOutput) → length first.feed ≤ 1004 → length first.replies ≤ 4101 → TellsFew market.live (end_orders due time market first)
ended_few due time market first h k =
    let ended : List Order = filter due market.live in
    let all = parted due market.live in
    let gone = length-all-deleted time ended in
    let feed = length-append first.feed (all_deleted time ended) in
    let canceled_all : Order → Reply = λ x. canceled time x.member x.token x.shares 84 in
    let output : length (map canceled_all ended) ≡ length ended = length-map ended canceled_all in
    let replies = length-append first.replies (map canceled_all ended) in
    record { feed = omega (arith, all, gone, feed, h); replies = omega (arith, all, output, replies, k) }

length-directory : (time n : ℕ) (stocks : List Stock) → length (directory time n stocks) ≡ length stocks
length-directory time n [] = refl
length-directory time n (s ∷ stocks) = let more : length (directory time (n + 1) stocks) ≡ length stocks = length-directory time (n + 1) stocks in omega arith

either-few : {X : Type 0} (b : Bool) (xs : List X) (most : ℕ) → length xs ≤ most → length (if b then xs else []) ≤ most
either-few true xs most h = h
either-few false xs most h = omega arith

hours_few : (setup : Setup) (market : Market) (time code : ℕ) (b : Bool) → length setup.stocks ≤ 1000 → length setup.members ≤ 4095 → TellsFew market.live (hours_by setup market time code b)
hours_few setup market time code false s m = record { feed = omega arith; replies = omega arith }
hours_few setup market time code true s m =
    let listed = either-few (code == 79) (directory time 1 setup.stocks) 1000 (let l = length-directory time 1 setup.stocks in omega arith) in
    let all : length (to_all setup.members time code) ≡ length setup.members = length-map setup.members _ in
    let output = either-few (code == 83 || code == 69) (to_all setup.members time code) 4095 (omega arith) in
    ended_few (ends_by_code code) time (record market { phase = market.phase + 1 }) (output_by_code setup time code) (omega arith) (omega arith)

halt_few : (market : Market) (time : ℕ) (stock : Symbol) (state : ℕ) (reason : List ℕ) (o : Option ℕ) (known : Bool) → TellsFew market.live (halted_by market time stock state reason o known)
halt_few market time stock state reason None known = record { feed = omega arith; replies = omega arith }
halt_few market time stock state reason (Some locate) false = record { feed = omega arith; replies = omega arith }
halt_few market time stock state reason (Some locate) true = record { feed = omega arith; replies = omega arith }

break_few : (market : Market) (time number : ℕ) (o : Option Match) → TellsFew market.live (broken_by market time number o)
break_few market time number None = record { feed = omega arith; replies = omega arith }
break_few market time number (Some e) = at e.broken
  where
    at : (b : Bool) → TellsFew market.live (broken_if market time number e b)
    at true = record { feed = omega arith; replies = omega arith }
    at false = record { feed = omega arith; replies = omega arith }

pub output_few : (setup : Setup) (market : Market) (event : Event) → length setup.stocks ≤ 1000 → length setup.members ≤ 4095 → TellsFew market.live (step setup market event)
unfolding step
output_few setup market (Message member time bytes) s m = act_few setup (with_record (Message member time bytes) market) member time (inbound_of bytes)
output_few setup market (Tick time) s m = ended_few (λ x. is_over time x.life) time (with_record (Tick time) market) silent (omega arith) (omega arith)
output_few setup market (Hours time code) s m = hours_few setup (with_record (Hours time code) market) time code (is_next market.phase code) s m
output_few setup market (Halt time stock state reason) s m = halt_few (with_record (Halt time stock state reason) market) time stock state reason (locate_of setup stock) (is_trading_state state)
output_few setup market (Break time number) s m = break_few (with_record (Break time number) market) time number (execution_of market.executions number)
