-- That no message of the feed has a fault: arrivals, each event, and whole histories.
use Rattle.std.proofs.Common.{◌≡◌, ℕ, ◌+◌, Bool, true, false, cond, ltb, leb, eqb, refl, sym, subst, ◌&&◌, not, List, [], ◌∷◌, ◌++◌, map, length, Option, Some, None}
use Rattle.std.specs.Prelude.{nat_lt, if◌then◌else◌, ◌==◌}
use Rattle.std.specs.List.{AllByRecursion, filter, find}
use Rattle.std.proofs.lemmas.Bool.{cond_both, and_parts}
use Rattle.hx_units.specs.declared.names.Symbol.{Symbol}
use Rattle.hx_book.proofs.Lists.{all_filtered}
use Rattle.hx_match.specs.Matching.{Matched, matched}
use Rattle.hx_match.proofs.AnyShares.{matched_of}
use Rattle.hx_members.specs.Setups.{Setup, locate_of, symbol_of}
use Rattle.hx_members.specs.Stock.{Stock}
use Rattle.hx_members.specs.Chains.{Used, is_used}
use Rattle.hx_itch.specs.declared.message.Feed.{Feed}
use Rattle.hx_itch.specs.declared.message.Feed.TheVariants.{AddOrder, AddOrderWithAttribution, OrderReplace}
use Rattle.hx_ouch.specs.declared.inbound.Inbound.TheVariants.{Enter, Replace, Cancel}
use Rattle.hx_ouch.specs.declared.inbound.Inbound.{Inbound}
use Rattle.hx_ouch.specs.declared.inbound.Enter.{Enter as NewOrder}
use Rattle.hx_ouch.specs.declared.inbound.Replace.{Replace as Change}
use Rattle.hx_ouch.specs.declared.inbound.Cancel.{Cancel as Less}
use Rattle.hx_ouch.specs.Inbound.{inbound_of}
use Rattle.hx_rules.specs.declared.event.Event.{Event}
use Rattle.hx_rules.specs.declared.event.Event.TheVariants.{Message, Tick, Hours, Halt, Break}
use Rattle.hx_rules.specs.declared.matches.Match.{Match}
use Rattle.hx_rules.specs.Orders.{Order, is_called, is_shown, is_immediate, published_side}
use Rattle.hx_rules.specs.Markets.{Market, opening}
use Rattle.hx_rules.specs.Outputs.{Outcome}
use Rattle.hx_rules.specs.Executions.{Arrival, incoming_of, resting_of, published, shown_of, feed_of_executions, arrive, arrival_feed}
use Rattle.hx_rules.specs.Enter.{consumed, drawn, next_reference, rejection, entered_order, entered_by, enter}
use Rattle.hx_rules.specs.Removal.{deleted}
use Rattle.hx_rules.specs.Replace.{handed_over, executed_of, is_order_halted, replace_fails, replaced_by, is_one_display, succeed, replace}
use Rattle.hx_rules.specs.Cancel.{cancelled_by, cancel}
use Rattle.hx_rules.specs.Hours.{is_over, all_deleted, ends_by_code, directory, hours_by, next_hours}
use Rattle.hx_rules.specs.Halts.{is_trading_state, halted_by, halt}
use Rattle.hx_rules.specs.Breaks.{execution_of, broken_if, broken_by, break_trade}
use Rattle.hx_rules.specs.Steps.{receive, happens, with_record, step, outputs_from, output, feed, feed_of}
use Rattle.hx_laws.specs.FeedBook.{ShownOrder, shown_as}
use Rattle.hx_laws.proofs.History.CoherentSteps.{Coherent}
use Rattle.hx_laws.proofs.History.EventMoves.{replacement_of, step_moves, coherent_opening}
use Rattle.hx_laws.proofs.FeedBook.ShownExecutions.{shows, AreApart, executions_in_book}
use Rattle.hx_laws.proofs.FeedBook.ShownLeaving.{deleted_found}
use Rattle.hx_laws.proofs.FeedBook.ShownArrivals.{IsOld, IsBooked, old_shares, apart_filter, drawn_reference}
use Rattle.hx_laws.proofs.FeedBook.ShownRuns.{recorded_booked, step_keeps}
use Rattle.hx_reader.specs.declared.fault.ApplyError.TheVariants as errors
use Rattle.hx_reader.specs.Faults.{order_of, has, fault_of, AreFaultless}
use Rattle.hx_reader_laws.specs.Screens.{HasNoFault}
use Rattle.hx_reader_laws.proofs.Faultless.{faultless_both, found_in, AreBelow-has, deleted_faultless, taken_off_faultless, ended_faultless, executed_faultless}

-- the shown orders of a list have references up to n
abbrev AreBelow : ℕ → List Order → Type 0
AreBelow n xs = AllByRecursion (λ y. y.shown ≡ true → leb y.reference n ≡ true) xs

below : (n : ℕ) (ts : List Used) (xs : List Order) → AllByRecursion (IsOld n ts) xs → AreBelow n xs
below n ts [] all = tt
below n ts (x ∷ xs) all = (all.0.below, below n ts xs all.1)

-- ---- an order arrives

resting_faultless : (setup : Setup) (time : ℕ) (stock : Symbol) (n : ℕ) (x : Order) (immediate : Bool) (left : ℕ) (xs : List Order) → AreBelow n xs → (x.shown ≡ true → x.reference ≡ n + 1)
    → AreFaultless (shows setup xs) (map (published time stock) (shown_of (resting_of x immediate left)))
resting_faultless setup time stock n x immediate left xs all new = choose (ltb 0 left && not immediate) x.shown refl
  where
    free : x.shown ≡ true → has x.reference (shows setup xs) ≡ false
    free e = AreBelow-has setup n x.reference xs all (new e)

    y : Order
    y = record x { shares = left }

    one : has x.reference (shows setup xs) ≡ false → fault_of (shows setup xs) (published time stock y) ≡ None
    one none = cond_both (eqb x.display 65)
        (AddOrderWithAttribution (record { locate = x.locate; time = time; reference = x.reference; side = published_side x.side; shares = left; stock = stock; price = x.price; attribution = x.firm }))
        (AddOrder (record { locate = x.locate; time = time; reference = x.reference; side = published_side x.side; shares = left; stock = stock; price = x.price }))
        (λ m. fault_of (shows setup xs) m ≡ None) (λ _. rw none refl) (λ _. rw none refl)

    choose : (c d : Bool) → x.shown ≡ d → AreFaultless (shows setup xs) (map (published time stock) (shown_of (cond c (y ∷ []) [])))
    choose false d e = tt
    choose true false e = subst (λ (b : Bool). AreFaultless (shows setup xs) (map (published time stock) (cond b (y ∷ []) []))) (sym e) tt
    choose true true e = subst (λ (b : Bool). AreFaultless (shows setup xs) (map (published time stock) (cond b (y ∷ []) []))) (sym e) (one (free e), tt)

arrival_faultless : (setup : Setup) (n : ℕ) (ts : List Used) (time : ℕ) (stock : Symbol) (k : ℕ) (immediate : Bool) (x : Order) (a : Market) → AreApart a.live → AllByRecursion (IsOld n ts) a.live → (x.shown ≡ true → x.reference ≡ n + 1)
    → AreFaultless (shows setup a.live) (arrival_feed time stock k (arrive time immediate x a).executions (arrive time immediate x a).resting)
arrival_faultless setup n ts time stock k immediate x a apart old new =
    let m : Matched = matched (incoming_of x) x.shares a.live in
    let in_book = executions_in_book setup time stock (incoming_of x) k x.shares a.live apart in
    let rest = (matched_of (IsOld n ts) (old_shares n ts) (incoming_of x) x.shares a.live old).1 in
    faultless_both (shows setup a.live) (feed_of_executions time stock k m.fills) (map (published time stock) (shown_of (resting_of x immediate m.left)))
    (executed_faultless setup time stock (incoming_of x) k x.shares a.live apart)
    (subst (λ b. AreFaultless b (map (published time stock) (shown_of (resting_of x immediate m.left)))) (sym in_book.book) (resting_faultless setup time stock n x immediate m.left m.rest (below n ts m.rest rest) new))

-- ---- every event

abbrev Fine : Setup → Market → Outcome → Type 0
Fine setup a o = AreFaultless (shows setup a.live) o.output.feed

enter_fine : (setup : Setup) (a : Market) (m time : ℕ) (e : NewOrder) → IsBooked a → Fine setup a (enter setup a m time e)
enter_fine setup a m time e g = choose (is_used a.tokens m e.token) (rejection setup a.phase a.halted e)
  where
    shown : Bool
    shown = is_shown e.display e.time_in_force

    choose : (u : Bool) (o : Option ℕ) → Fine setup a (entered_by setup a m time e u o)
    choose true o = tt
    choose false (Some letter) = tt
    choose false None =
        arrival_faultless setup a.numbers.public a.tokens time e.stock a.numbers.matches (is_immediate e.time_in_force)
        (entered_order setup (length a.tokens) (next_reference a.numbers m shown) m time e) (drawn (consumed a m e.token) m shown) g.apart g.old (λ h. drawn_reference a.numbers m shown h)

not_known : (r o : ℕ) (b : List ShownOrder) (x : ShownOrder) → order_of o b ≡ Some x → has r b ≡ false
    → (if has o b then (if (if r == o then false else has r b) then Some errors.Known else None) else Some errors.Unknown) ≡ None
not_known r o b x e f = rw (e, f) (cond_both (eqb r o) false false (λ (c : Bool). cond c (Some errors.Known) None ≡ None) (λ _. refl) (λ _. refl))

succeed_fine : (setup : Setup) (a : Market) (m time : ℕ) (r : Change) (old : Order) → IsBooked a → find (is_called m r.existing_token) a.live ≡ Some old → Fine setup a (succeed setup a m time r old)
succeed_fine setup a m time r old g found =
    cond_both (is_one_display old x && nat_lt (length c.executions) 1)
    (OrderReplace (record { locate = x.locate; time = time; original_reference = old.reference; reference = x.reference; shares = x.shares; price = x.price }) ∷ [])
    (deleted time old ++ arrival_feed time stock a.numbers.matches c.executions c.resting) (AreFaultless (shows setup a.live))
    (λ e.
    let one = and_parts (is_one_display old x) (nat_lt (length c.executions) 1) e in
    let seen = and_parts old.shown (x.shown && (old.display == x.display)) one.0 in
    let own = and_parts x.shown (old.display == x.display) seen.1 in (
      not_known x.reference old.reference (shows setup a.live) (shown_as setup old) (found_in setup m r.existing_token old seen.0 a.live g.apart found)
          (AreBelow-has setup a.numbers.public x.reference a.live (below a.numbers.public a.tokens a.live g.old) (new own.0)),
      tt,
    ))
    (λ _. faultless_both (shows setup a.live) (deleted time old) (arrival_feed time stock a.numbers.matches c.executions c.resting) (deleted_faultless setup time m r.existing_token old a.live g.apart found)
    (subst (λ b. AreFaultless b (arrival_feed time stock a.numbers.matches c.executions c.resting)) (sym (deleted_found setup time m r.existing_token old a.live g.apart found))
    (arrival_faultless setup a.numbers.public a.tokens time stock a.numbers.matches (is_immediate r.time_in_force) x b (apart_filter _ a.live g.apart) (all_filtered _ _ a.live g.old) new)))
  where
    shown : Bool
    shown = is_shown r.display r.time_in_force

    x : Order
    x = replacement_of a m time r old

    stock : Symbol
    stock = symbol_of setup old.locate

    b : Market
    b = drawn (handed_over a m r.existing_token r.replacement_token) m shown

    c : Arrival
    c = arrive time (is_immediate r.time_in_force) x b

    new : x.shown ≡ true → x.reference ≡ a.numbers.public + 1
    new h = drawn_reference a.numbers m shown h

replace_fine : (setup : Setup) (a : Market) (m time : ℕ) (r : Change) → IsBooked a → Fine setup a (replace setup a m time r)
replace_fine setup a m time r g =
    choose (find (is_called m r.existing_token) a.live) refl (is_used a.tokens m r.replacement_token)
    (is_order_halted a.halted (find (is_called m r.existing_token) a.live)) (replace_fails a.phase (executed_of a m r.existing_token) r)
  where
    choose : (o : Option Order) → find (is_called m r.existing_token) a.live ≡ o → (used halted fails : Bool) → Fine setup a (replaced_by setup a m time r o used halted fails)
    choose None h used halted fails = tt
    choose (Some old) h true halted fails = tt
    choose (Some old) h false true fails = tt
    choose (Some old) h false false true = deleted_faultless setup time m r.existing_token old a.live g.apart h
    choose (Some old) h false false false = succeed_fine setup a m time r old g h

cancel_fine : (setup : Setup) (a : Market) (m time : ℕ) (c : Less) → IsBooked a → Fine setup a (cancel a m time c)
cancel_fine setup a m time c g = choose _ (find (is_called m c.token) a.live) refl
  where
    choose : (idle : Bool) (o : Option Order) → find (is_called m c.token) a.live ≡ o → Fine setup a (cancelled_by a m time c idle o)
    choose true o h = tt
    choose false None h = tt
    choose false (Some x) h = taken_off_faultless setup time m c.token _ x a.live g.apart h

act_fine : (setup : Setup) (a : Market) (m time : ℕ) (x : Option Inbound) → IsBooked a → Fine setup a (receive setup a m time x)
act_fine setup a m time None g = tt
act_fine setup a m time (Some (Enter e)) g = enter_fine setup a m time e g
act_fine setup a m time (Some (Replace r)) g = replace_fine setup a m time r g
act_fine setup a m time (Some (Cancel c)) g = cancel_fine setup a m time c g

-- what changes no book and has no fault, before what has none
directory_before : (time n : ℕ) (stocks : List Stock) (b : List ShownOrder) (fs : List Feed) → AreFaultless b fs → AreFaultless b (directory time n stocks ++ fs)
directory_before time n [] b fs h = h
directory_before time n (s ∷ stocks) b fs h = (refl, directory_before time (n + 1) stocks b fs h)

hours_fine : (setup : Setup) (a : Market) (time code : ℕ) → IsBooked a → Fine setup a (next_hours setup a time code)
hours_fine setup a time code g = choose _
  where
    ends : List Feed
    ends = all_deleted time (filter (ends_by_code code) a.live)

    none : AreFaultless (shows setup a.live) ends
    none = ended_faultless setup (ends_by_code code) time a.live g.apart

    choose : (b : Bool) → Fine setup a (hours_by setup a time code b)
    choose false = tt
    choose true = (refl, cond_both (eqb code 79) (directory time 1 setup.stocks) [] (λ fs. AreFaultless (shows setup a.live) (fs ++ ends)) (λ _. directory_before time 1 setup.stocks (shows setup a.live) ends none) (λ _. none))

halt_fine : (setup : Setup) (a : Market) (time : ℕ) (stock : Symbol) (state : ℕ) (reason : List ℕ) → Fine setup a (halt setup a time stock state reason)
halt_fine setup a time stock state reason = choose (locate_of setup stock) (is_trading_state state)
  where
    choose : (o : Option ℕ) (known : Bool) → Fine setup a (halted_by a time stock state reason o known)
    choose None known = tt
    choose (Some locate) false = tt
    choose (Some locate) true = (refl, tt)

break_fine : (setup : Setup) (a : Market) (time number : ℕ) → Fine setup a (break_trade a time number)
break_fine setup a time number = choose (execution_of a.executions number)
  where
    choose_if : (e : Match) (broken : Bool) → Fine setup a (broken_if a time number e broken)
    choose_if e true = tt
    choose_if e false = (refl, tt)

    choose : (o : Option Match) → Fine setup a (broken_by a time number o)
    choose None = tt
    choose (Some e) = choose_if e e.broken

happens_fine : (setup : Setup) (a : Market) (event : Event) → IsBooked a → Fine setup a (happens setup a event)
happens_fine setup a (Message m time bytes) g = act_fine setup a m time (inbound_of bytes) g
happens_fine setup a (Tick time) g = ended_faultless setup (λ x. is_over time x.life) time a.live g.apart
happens_fine setup a (Hours time code) g = hours_fine setup a time code g
happens_fine setup a (Halt time stock state reason) g = halt_fine setup a time stock state reason
happens_fine setup a (Break time number) g = break_fine setup a time number

-- ---- the run

step_fine : (setup : Setup) (a : Market) (event : Event) → IsBooked a → Fine setup a (step setup a event)
unfolding step
step_fine setup a event g = happens_fine setup (with_record event a) event (recorded_booked a event g)

fine_from : (setup : Setup) (a : Market) (events : List Event) → Coherent a → IsBooked a → AreFaultless (shows setup a.live) (feed_of (outputs_from setup a events))
unfolding outputs_from
fine_from setup a [] s g = tt
fine_from setup a (event ∷ events) s g =
    let k = step_keeps setup a event s g in
    let b = (step setup a event).market in
    faultless_both (shows setup a.live) (step setup a event).output.feed (feed_of (outputs_from setup b events)) (step_fine setup a event g)
    (subst (λ l. AreFaultless l (feed_of (outputs_from setup b events))) (sym k.book) (fine_from setup b events ((step_moves setup a event s).coherent s) k.good))

pub has_no_fault : HasNoFault
unfolding feed output opening
has_no_fault setup events = fine_from setup (opening setup) events (coherent_opening setup) (record { apart = tt; old = tt; some = tt })
