-- Each event preserves the tokens and what is known of chains, and so does a whole history.
use Rattle.std.proofs.Common.{◌≡◌, ℕ, ◌+◌, Bool, true, false, refl, arith, List, [], ◌∷◌, Some, None, Option}
use Rattle.std.specs.List.{find}
use Rattle.hx_units.specs.declared.names.Symbol.{Symbol}
use Rattle.hx_members.specs.Setups.{Setup, locate_of, symbol_of}
use Rattle.hx_members.specs.Chains.{is_used, entered_used}
use Rattle.hx_ouch.specs.declared.inbound.Inbound.{Inbound}
use Rattle.hx_ouch.specs.declared.inbound.Inbound.TheVariants.{Enter, Replace, Cancel}
use Rattle.hx_ouch.specs.declared.inbound.Enter.{Enter as NewOrder}
use Rattle.hx_ouch.specs.declared.inbound.Replace.{Replace as Change}
use Rattle.hx_ouch.specs.declared.inbound.Cancel.{Cancel as Less}
use Rattle.hx_ouch.specs.Inbound.{inbound_of}
use Rattle.hx_rules.specs.declared.event.Event.{Event}
use Rattle.hx_rules.specs.declared.event.Event.TheVariants.{Message, Tick, Hours, Halt, Break}
use Rattle.hx_rules.specs.Orders.{Order, Token, is_called, is_immediate, is_shown}
use Rattle.hx_rules.specs.declared.matches.Match.{Match}
use Rattle.hx_rules.specs.Markets.{Market, opening}
use Rattle.hx_rules.specs.Enter.{consumed, drawn, rejection, accept_order, next_reference, entered_by, enter}
use Rattle.hx_rules.specs.Replace.{handed_over, executed_of, is_order_halted, replace_fails, replacing_order, replace_order, replaced_by, replace}
use Rattle.hx_rules.specs.Cancel.{cancelled_by, cancel}
use Rattle.hx_rules.specs.Outputs.{silent}
use Rattle.hx_rules.specs.Hours.{is_over, ends_by_code, output_by_code, hours_by, next_hours}
use Rattle.hx_rules.specs.Halts.{is_trading_state, halted_by, halt}
use Rattle.hx_rules.specs.Breaks.{execution_of, broken_if, broken_by, break_trade}
use Rattle.hx_rules.specs.Steps.{receive, happens, with_record, step, market_after, run}
use Rattle.hx_laws.proofs.History.ChainsGrow.{Grows_refl}
use Rattle.hx_laws.proofs.History.CoherentMarkets.{IsKnown}
use Rattle.hx_laws.proofs.History.CoherentSteps.{Coherent, Moves, Moves_refl, Moves_trans, used_last, consumed_moves, joining, handed_over_moves, drawn_moves, record_moves, end_moves, lessened_moves, arrive_moves, found_of}

-- x, whose token is not used yet, is accepted
pub after_consumed : (a : Market) (time : ℕ) (e : NewOrder) (x : Order) → Moves (consumed a x.member x.token) (accept_order a time e x).market
after_consumed a time e x =
    let b = consumed a x.member x.token in
    Moves_trans _ _ _ (drawn_moves b x.member x.shown)
    (arrive_moves time (is_immediate e.time_in_force) x (drawn b x.member x.shown) (used_last a.tokens (entered_used x.member x.token)))

enter_moves : (setup : Setup) (a : Market) (m time : ℕ) (e : NewOrder) → Moves a (enter setup a m time e).market
enter_moves setup a m time e = choose (is_used a.tokens m e.token) refl (rejection setup a.phase a.halted e)
  where
    choose : (b : Bool) → is_used a.tokens m e.token ≡ b → (o : Option ℕ) → Moves a (entered_by setup a m time e b o).market
    choose true h o = Moves_refl a
    choose false h (Some letter) = consumed_moves a m e.token h
    choose false h None = Moves_trans _ _ _ (consumed_moves a m e.token h) (after_consumed a time e _)

-- a live order's token is used
pub called_used : (a : Market) (m : ℕ) (t : Token) (x : Order) → Coherent a → find (is_called m t) a.live ≡ Some x → is_used a.tokens m t ≡ true
called_used a m t x s h =
    let f = found_of (IsKnown a.tokens a.chains) m t a.live x s.known h in
    let u = f.0.used in
    rw (← f.1.0, ← f.1.1) u

-- the order in place of the old one
abbrev pub replacement_of : Market → ℕ → ℕ → Change → Order → Order
replacement_of a m time r old = replacing_order (executed_of a m r.existing_token) (next_reference a.numbers m (is_shown r.display r.time_in_force)) time r old

-- x replaces an order, after its token is used
pub after_joined : (a : Market) (m time : ℕ) (stock : Symbol) (r : Change) (old x : Order) → x.member ≡ m → x.token ≡ r.replacement_token
    → Moves (handed_over a m r.existing_token r.replacement_token) (replace_order a m time stock r old x).market
after_joined a m time stock r old x own name =
    let b = handed_over a m r.existing_token r.replacement_token in
    let used : is_used b.tokens x.member x.token ≡ true = rw (own, name) (used_last a.tokens (joining a m r.existing_token r.replacement_token)) in
    Moves_trans _ _ _ (drawn_moves b m x.shown) (arrive_moves time (is_immediate r.time_in_force) x (drawn b m x.shown) used)

pub replace_moves : (setup : Setup) (a : Market) (m time : ℕ) (r : Change) → Coherent a → Moves a (replace setup a m time r).market
replace_moves setup a m time r s =
    choose (find (is_called m r.existing_token) a.live) refl (is_used a.tokens m r.replacement_token)
    (is_order_halted a.halted (find (is_called m r.existing_token) a.live)) (replace_fails a.phase (executed_of a m r.existing_token) r)
  where
    choose : (o : Option Order) → find (is_called m r.existing_token) a.live ≡ o → (used halted fails : Bool) → Moves a (replaced_by setup a m time r o used halted fails).market
    choose None h used halted fails = Moves_refl a
    choose (Some old) h true halted fails = Moves_refl a
    choose (Some old) h false true fails = Moves_refl a
    choose (Some old) h false false true = handed_over_moves a m r.existing_token r.replacement_token (called_used a m r.existing_token old s h)
    choose (Some old) h false false false =
        Moves_trans _ _ _ (handed_over_moves a m r.existing_token r.replacement_token (called_used a m r.existing_token old s h))
        (after_joined a m time (symbol_of setup old.locate) r old (replacement_of a m time r old) (found_of _ m r.existing_token a.live old s.known h).1.0 refl)

pub cancel_moves : (a : Market) (m time : ℕ) (c : Less) → Moves a (cancel a m time c).market
cancel_moves a m time c = choose _ (find (is_called m c.token) a.live)
  where
    choose : (idle : Bool) (o : Option Order) → Moves a (cancelled_by a m time c idle o).market
    choose true o = Moves_refl a
    choose false None = Moves_refl a
    choose false (Some x) = lessened_moves a m c.token _

hours_moves : (setup : Setup) (a : Market) (time code : ℕ) → Moves a (next_hours setup a time code).market
hours_moves setup a time code = choose _
  where
    turned : Moves a (record a { phase = a.phase + 1 })
    turned = record { grows = Grows_refl _ _; coherent = λ s. s }

    choose : (b : Bool) → Moves a (hours_by setup a time code b).market
    choose false = Moves_refl a
    choose true = Moves_trans _ _ _ turned (end_moves (ends_by_code code) time (record a { phase = a.phase + 1 }) (output_by_code setup time code))

-- a halt changes neither orders nor chains
halt_moves : (setup : Setup) (a : Market) (time : ℕ) (stock : Symbol) (state : ℕ) (reason : List ℕ) → Moves a (halt setup a time stock state reason).market
halt_moves setup a time stock state reason = choose (locate_of setup stock) (is_trading_state state)
  where
    choose : (o : Option ℕ) (known : Bool) → Moves a (halted_by a time stock state reason o known).market
    choose None known = Moves_refl a
    choose (Some locate) false = Moves_refl a
    choose (Some locate) true = record { grows = Grows_refl _ _; coherent = λ s. s }

-- nor does a break
break_moves : (a : Market) (time number : ℕ) → Moves a (break_trade a time number).market
break_moves a time number = choose (execution_of a.executions number)
  where
    choose_if : (e : Match) (broken : Bool) → Moves a (broken_if a time number e broken).market
    choose_if e true = Moves_refl a
    choose_if e false = record { grows = Grows_refl _ _; coherent = λ s. s }

    choose : (o : Option Match) → Moves a (broken_by a time number o).market
    choose None = Moves_refl a
    choose (Some e) = choose_if e e.broken

act_moves : (setup : Setup) (a : Market) (m time : ℕ) (message : Option Inbound) → Coherent a → Moves a (receive setup a m time message).market
act_moves setup a m time None s = Moves_refl a
act_moves setup a m time (Some (Enter e)) s = enter_moves setup a m time e
act_moves setup a m time (Some (Replace r)) s = replace_moves setup a m time r s
act_moves setup a m time (Some (Cancel c)) s = cancel_moves a m time c

-- Every event, and a whole history.

pub happens_moves : (setup : Setup) (a : Market) (event : Event) → Coherent a → Moves a (happens setup a event).market
happens_moves setup a (Message m time bytes) s = act_moves setup a m time (inbound_of bytes) s
happens_moves setup a (Tick time) s = end_moves (λ x. is_over time x.life) time a silent
happens_moves setup a (Hours time code) s = hours_moves setup a time code
happens_moves setup a (Halt time stock state reason) s = halt_moves setup a time stock state reason
happens_moves setup a (Break time number) s = break_moves a time number

pub step_moves : (setup : Setup) (a : Market) (event : Event) → Coherent a → Moves a (step setup a event).market
unfolding step
step_moves setup a event s =
    let r = record_moves a event in
    Moves_trans _ _ _ r (happens_moves setup (with_record event a) event (r.coherent s))

pub run_moves : (setup : Setup) (a : Market) (events : List Event) → Coherent a → Moves a (market_after setup a events)
unfolding market_after
run_moves setup a [] s = Moves_refl a
run_moves setup a (event ∷ events) s =
    let m = step_moves setup a event s in
    Moves_trans _ _ _ m (run_moves setup (step setup a event).market events (m.coherent s))

pub coherent_opening : (setup : Setup) → Coherent (opening setup)
unfolding opening
coherent_opening setup =
    record { known = tt; has = λ m t h. absurd (grind (arith, h)); root_used = λ m t h. absurd (grind (arith, h)); root = λ m t h. absurd (grind (arith, h)) }

pub coherent_run : (setup : Setup) (events : List Event) → Coherent (run setup events)
unfolding run
coherent_run setup events = (run_moves setup (opening setup) events (coherent_opening setup)).coherent (coherent_opening setup)
