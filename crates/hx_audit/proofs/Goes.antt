-- What an event does to the used tokens and to the chains.
use Rattle.std.proofs.Common.{◌≡◌, ℕ, Bool, true, false, cond, refl, sym, List, [], ◌∷◌, ◌++◌, length, Some, None, Option, append-nil}
use Rattle.std.specs.List.{find}
use Rattle.hx_units.specs.declared.names.Symbol.{Symbol}
use Rattle.hx_members.specs.Setups.{Setup, locate_of}
use Rattle.hx_members.specs.Chains.{Used, is_used, entered_of, entered_used, replacing_used}
use Rattle.hx_match.specs.Matching.{matched}
use Rattle.hx_ouch.specs.declared.inbound.Inbound.{Inbound}
use Rattle.hx_ouch.specs.declared.inbound.Inbound.TheVariants.{Enter, Replace, Cancel}
use Rattle.hx_ouch.specs.declared.inbound.Enter.{Enter as NewOrder}
use Rattle.hx_ouch.specs.declared.inbound.Replace.{Replace as Change}
use Rattle.hx_ouch.specs.declared.inbound.Cancel.{Cancel as Less}
use Rattle.hx_ouch.specs.Inbound.{inbound_of}
use Rattle.hx_rules.specs.declared.event.Event.{Event}
use Rattle.hx_rules.specs.declared.event.Event.TheVariants.{Message, Tick, Hours, Halt, Break}
use Rattle.hx_market.specs.Orders.{Order, is_called, is_immediate, is_shown}
use Rattle.hx_market.specs.Markets.{Market, opening}
use Rattle.hx_market.specs.Executions.{incoming_of, displays, resting_of, chains_after, arrive}
use Rattle.hx_market.specs.Enter.{rejection, next_reference, consumed, drawn, entered_order, entered_by, enter}
use Rattle.hx_market.specs.Replace.{executed_of, is_order_halted, replace_fails, handed_over, replacing_order, replaced_by, replace}
use Rattle.hx_market.specs.Cancel.{cancelled_by, cancel}
use Rattle.hx_market.specs.Hours.{hours_by, next_hours}
use Rattle.hx_market.specs.Halts.{is_trading_state, halted_by, halt}
use Rattle.hx_market.specs.Breaks.{execution_of, broken_if, broken_by, break_trade}
use Rattle.hx_rules.specs.declared.matches.Match.{Match}
use Rattle.hx_market.specs.Steps.{receive, happens, with_record, step, market_after, run}
use Rattle.hx_audit.proofs.Led.{AreLed, led_pushed, led_executions, led_displayed}

-- the uses of a replacement token: one if the existing token names a live order, and the new one is not used yet
abbrev pub joined_if : Market → ℕ → Change → Option Order → (used halted : Bool) → List Used
joined_if a m r None used halted = []
joined_if a m r (Some old) true halted = []
joined_if a m r (Some old) false true = []
joined_if a m r (Some old) false false = replacing_used m r.replacement_token (entered_of a.tokens m r.existing_token) ∷ []

-- the tokens that a member's message uses: one, or none
abbrev pub message_uses : Market → ℕ → Option Inbound → List Used
message_uses a m None = []
message_uses a m (Some (Enter e)) = cond (is_used a.tokens m e.token) [] (entered_used m e.token ∷ [])
message_uses a m (Some (Replace r)) =
    joined_if a m r (find (is_called m r.existing_token) a.live) (is_used a.tokens m r.replacement_token) (is_order_halted a.halted (find (is_called m r.existing_token) a.live))
message_uses a m (Some (Cancel c)) = []

abbrev pub event_uses : Market → Event → List Used
event_uses a (Message m time bytes) = message_uses a m (inbound_of bytes)
event_uses a (Tick time) = []
event_uses a (Hours time code) = []
event_uses a (Halt time stock state reason) = []
event_uses a (Break time number) = []

-- these tokens are used, and of the chains of one name the first stays the loudest
pub record Goes (a b : Market) (us : List Used) : Type 0 where
  pub tokens : b.tokens ≡ a.tokens ++ us
  pub led : AreLed a.chains → AreLed b.chains

stays : (a : Market) → Goes a a []
stays a = record { tokens = sym (append-nil a.tokens); led = λ h. h }

led_arrival : (time : ℕ) (immediate : Bool) (x : Order) (a : Market) → AreLed a.chains → AreLed (arrive time immediate x a).market.chains
led_arrival time immediate x a led =
    let e = entered_of a.tokens x.member x.token in
    let m = matched (incoming_of x) x.shares a.live in
    led_displayed (displays (resting_of x immediate m.left)) (chains_after a.tokens x.member e m.fills a.chains) x.member e
    (led_executions m.fills a.tokens a.chains x.member e led)

enter_goes : (setup : Setup) (a : Market) (m time : ℕ) (e : NewOrder) → Goes a (enter setup a m time e).market (message_uses a m (Some (Enter e)))
enter_goes setup a m time e = choose (is_used a.tokens m e.token) (rejection setup a.phase a.halted e)
  where
    choose : (b : Bool) (o : Option ℕ) → Goes a (entered_by setup a m time e b o).market (cond b [] (entered_used m e.token ∷ []))
    choose true o = stays a
    choose false (Some letter) = record { tokens = refl; led = led_pushed a.chains m e.token }
    choose false None =
        let x : Order = entered_order setup (length a.tokens) (next_reference a.numbers m (is_shown e.display e.time_in_force)) m time e in
        record { tokens = refl; led = λ h. led_arrival time (is_immediate e.time_in_force) x (drawn (consumed a m e.token) m x.shown) (led_pushed a.chains m e.token h) }

replace_goes : (setup : Setup) (a : Market) (m time : ℕ) (r : Change) → Goes a (replace setup a m time r).market (message_uses a m (Some (Replace r)))
replace_goes setup a m time r =
    choose (find (is_called m r.existing_token) a.live) (is_used a.tokens m r.replacement_token)
    (is_order_halted a.halted (find (is_called m r.existing_token) a.live)) (replace_fails a.phase (executed_of a m r.existing_token) r)
  where
    choose : (o : Option Order) (used halted fails : Bool) → Goes a (replaced_by setup a m time r o used halted fails).market (joined_if a m r o used halted)
    choose None used halted fails = stays a
    choose (Some old) true halted fails = stays a
    choose (Some old) false true fails = stays a
    choose (Some old) false false true = record { tokens = refl; led = λ h. h }
    choose (Some old) false false false =
        let x : Order = replacing_order (executed_of a m r.existing_token) (next_reference a.numbers m (is_shown r.display r.time_in_force)) time r old in
        record { tokens = refl; led = λ h. led_arrival time (is_immediate r.time_in_force) x (drawn (handed_over a m r.existing_token r.replacement_token) m x.shown) h }

cancel_goes : (a : Market) (m time : ℕ) (c : Less) → Goes a (cancel a m time c).market []
cancel_goes a m time c = choose _ (find (is_called m c.token) a.live)
  where
    choose : (idle : Bool) (o : Option Order) → Goes a (cancelled_by a m time c idle o).market []
    choose true o = stays a
    choose false None = stays a
    choose false (Some x) = record { tokens = sym (append-nil a.tokens); led = λ h. h }

hours_goes : (setup : Setup) (a : Market) (time code : ℕ) → Goes a (next_hours setup a time code).market []
hours_goes setup a time code = choose _
  where
    choose : (b : Bool) → Goes a (hours_by setup a time code b).market []
    choose false = stays a
    choose true = record { tokens = sym (append-nil a.tokens); led = λ h. h }

-- neither a halt nor a break uses a token
halt_goes : (setup : Setup) (a : Market) (time : ℕ) (stock : Symbol) (state : ℕ) (reason : List ℕ) → Goes a (halt setup a time stock state reason).market []
halt_goes setup a time stock state reason = choose (locate_of setup stock) (is_trading_state state)
  where
    choose : (o : Option ℕ) (known : Bool) → Goes a (halted_by a time stock state reason o known).market []
    choose None known = stays a
    choose (Some locate) false = stays a
    choose (Some locate) true = record { tokens = sym (append-nil a.tokens); led = λ h. h }

break_goes : (a : Market) (time number : ℕ) → Goes a (break_trade a time number).market []
break_goes a time number = choose (execution_of a.executions number)
  where
    choose_if : (e : Match) (broken : Bool) → Goes a (broken_if a time number e broken).market []
    choose_if e true = stays a
    choose_if e false = record { tokens = sym (append-nil a.tokens); led = λ h. h }

    choose : (o : Option Match) → Goes a (broken_by a time number o).market []
    choose None = stays a
    choose (Some e) = choose_if e e.broken

act_goes : (setup : Setup) (a : Market) (m time : ℕ) (message : Option Inbound) → Goes a (receive setup a m time message).market (message_uses a m message)
act_goes setup a m time None = stays a
act_goes setup a m time (Some (Enter e)) = enter_goes setup a m time e
act_goes setup a m time (Some (Replace r)) = replace_goes setup a m time r
act_goes setup a m time (Some (Cancel c)) = cancel_goes a m time c

happens_goes : (setup : Setup) (a : Market) (event : Event) → Goes a (happens setup a event).market (event_uses a event)
happens_goes setup a (Message m time bytes) = act_goes setup a m time (inbound_of bytes)
happens_goes setup a (Tick time) = record { tokens = sym (append-nil a.tokens); led = λ h. h }
-- what the hours do, or do not do yet, uses no token
happens_goes setup a (Hours time code) = search (hours_goes, stays)
happens_goes setup a (Halt time stock state reason) = halt_goes setup a time stock state reason
happens_goes setup a (Break time number) = break_goes a time number

-- an event uses these tokens, whichever market counts it
pub step_goes : (setup : Setup) (a : Market) (event : Event) → Goes a (step setup a event).market (event_uses a event)
unfolding step
step_goes setup a event = same event (happens_goes setup (with_record event a) event)
  where
    same : (e : Event) → Goes (with_record event a) (happens setup (with_record event a) event).market (event_uses (with_record event a) e)
        → Goes a (happens setup (with_record event a) event).market (event_uses a e)
    same (Message m time bytes) g = message (inbound_of bytes) g
      where
        message : (x : Option Inbound) → Goes (with_record event a) (happens setup (with_record event a) event).market (message_uses (with_record event a) m x)
            → Goes a (happens setup (with_record event a) event).market (message_uses a m x)
        message None g = record { tokens = g.tokens; led = g.led }
        message (Some (Enter e)) g = record { tokens = g.tokens; led = g.led }
        message (Some (Replace r)) g =
            at (find (is_called m r.existing_token) a.live) (is_used a.tokens m r.replacement_token) (is_order_halted a.halted (find (is_called m r.existing_token) a.live)) g
          where
            at : (o : Option Order) (b d : Bool) → Goes (with_record event a) (happens setup (with_record event a) event).market (joined_if (with_record event a) m r o b d)
                → Goes a (happens setup (with_record event a) event).market (joined_if a m r o b d)
            at None b d g = record { tokens = g.tokens; led = g.led }
            at (Some x) true d g = record { tokens = g.tokens; led = g.led }
            at (Some x) false true g = record { tokens = g.tokens; led = g.led }
            at (Some x) false false g = record { tokens = g.tokens; led = g.led }
        message (Some (Cancel c)) g = record { tokens = g.tokens; led = g.led }
    same (Tick time) g = record { tokens = g.tokens; led = g.led }
    same (Hours time code) g = record { tokens = g.tokens; led = g.led }
    same (Halt time stock state reason) g = record { tokens = g.tokens; led = g.led }
    same (Break time number) g = record { tokens = g.tokens; led = g.led }

-- A whole history.

led_after : (setup : Setup) (a : Market) (events : List Event) → AreLed a.chains → AreLed (market_after setup a events).chains
unfolding market_after
led_after setup a [] led = led
led_after setup a (event ∷ events) led = led_after setup (step setup a event).market events ((step_goes setup a event).led led)

pub led_run : (setup : Setup) (events : List Event) → AreLed (run setup events).chains
unfolding run opening
led_run setup events = led_after setup (opening setup) events tt
