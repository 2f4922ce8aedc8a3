-- A history that is recorded whole is recorded whole without the messages of any tokens: fewer events count.
use Rattle.std.proofs.Common.{◌≡◌, ℕ, zero, suc, ◌≤◌, Bool, true, false, cond, not, List, [], ◌∷◌, Option, Some, None, refl, sym, subst, arith, slice_index}
use Rattle.std.specs.Prelude.{nat_le}
use Rattle.std.specs.List.{filter, find}
use Rattle.hx_units.specs.Limits.{day}
use Rattle.hx_members.specs.Setups.{Setup, locate_of}
use Rattle.hx_members.specs.Chains.{is_used}
use Rattle.hx_refs.specs.Numbers.{raised}
use Rattle.hx_ouch.specs.declared.inbound.Inbound.{Inbound}
use Rattle.hx_ouch.specs.declared.inbound.Inbound.TheVariants as inbound
use Rattle.hx_ouch.specs.Inbound.{inbound_of}
use Rattle.hx_rules.specs.declared.event.Event.{Event}
use Rattle.hx_rules.specs.declared.event.Event.TheVariants as event
use Rattle.hx_rules.specs.declared.fault.PrepareError.TheVariants.{Limit, NoMember, BadTime}
use Rattle.hx_book.specs.declared.order.Order.{Order}
use Rattle.hx_rules.specs.Orders.{is_called}
use Rattle.hx_rules.specs.Markets.{Market, opening}
use Rattle.hx_rules.specs.Enter.{entered_by, rejection}
use Rattle.hx_rules.specs.Replace.{replace_fails, executed_of, is_order_halted, replaced_by}
use Rattle.hx_rules.specs.Cancel.{is_idle, cancelled_by}
use Rattle.hx_rules.specs.Halts.{is_trading_state, halted_by}
use Rattle.hx_rules.specs.Breaks.{execution_of, broken_if, broken_by}
use Rattle.hx_rules.specs.declared.matches.Match.{Match}
use Rattle.hx_units.specs.declared.names.Symbol.{Symbol}
use Rattle.hx_rules.specs.Hours.{hours_by, is_next}
use Rattle.hx_rules.specs.Refusals.{refusal, is_from_stranger, limit_of}
use Rattle.hx_rules.specs.Steps.{receive, happens, step, with_record, sender, time_of}
use Rattle.hx_laws.specs.QuietChains.{Choice, bears, strike}
use Rattle.hx_audit.specs.Recording.{AreAccepted, AreRecorded}

-- Counts below counts.

abbrev AreBelow : List ℕ → List ℕ → Type 0
AreBelow [] [] = Unit {0}
AreBelow [] (y ∷ ys) = ⊥
AreBelow (x ∷ xs) [] = ⊥
AreBelow (x ∷ xs) (y ∷ ys) = (x ≤ y) × AreBelow xs ys

below_itself : (xs : List ℕ) → AreBelow xs xs
below_itself [] = tt
below_itself (x ∷ xs) = (omega arith, below_itself xs)

-- one more above
below_raised : (xs ys : List ℕ) (i : ℕ) → AreBelow xs ys → AreBelow xs (raised ys i)
below_raised [] [] i h = tt
below_raised [] (y ∷ ys) i h = elim h [ ]
below_raised (x ∷ xs) [] i h = elim h [ ]
below_raised (x ∷ xs) (y ∷ ys) zero h = (let low : x ≤ y = h.0 in omega arith, h.1)
below_raised (x ∷ xs) (y ∷ ys) (suc i) h = (h.0, below_raised xs ys i h.1)

-- one more on both sides
both_raised : (xs ys : List ℕ) (i : ℕ) → AreBelow xs ys → AreBelow (raised xs i) (raised ys i)
both_raised [] [] i h = tt
both_raised [] (y ∷ ys) i h = elim h [ ]
both_raised (x ∷ xs) [] i h = elim h [ ]
both_raised (x ∷ xs) (y ∷ ys) zero h = (let low : x ≤ y = h.0 in omega arith, h.1)
both_raised (x ∷ xs) (y ∷ ys) (suc i) h = (h.0, both_raised xs ys i h.1)

below_at : (xs ys : List ℕ) (i : ℕ) → AreBelow xs ys → slice_index xs i ≤ slice_index ys i
below_at [] [] i h = omega arith
below_at [] (y ∷ ys) i h = elim h [ ]
below_at (x ∷ xs) [] i h = elim h [ ]
below_at (x ∷ xs) (y ∷ ys) zero h = h.0
below_at (x ∷ xs) (y ∷ ys) (suc i) h = below_at xs ys i h.1

-- Only the record counts an event.

entered_counts : (setup : Setup) (a : Market) (m time : ℕ) (e : Rattle.hx_ouch.specs.declared.inbound.Enter.Enter) (used : Bool) (letter : Option ℕ)
    → (entered_by setup a m time e used letter).market.recorded ≡ a.recorded
entered_counts setup a m time e true letter = refl
entered_counts setup a m time e false (Some letter) = refl
entered_counts setup a m time e false None = refl

replaced_counts : (setup : Setup) (a : Market) (m time : ℕ) (r : Rattle.hx_ouch.specs.declared.inbound.Replace.Replace) (o : Option Order) (used halted fails : Bool)
    → (replaced_by setup a m time r o used halted fails).market.recorded ≡ a.recorded
replaced_counts setup a m time r None used halted fails = refl
replaced_counts setup a m time r (Some old) true halted fails = refl
replaced_counts setup a m time r (Some old) false true fails = refl
replaced_counts setup a m time r (Some old) false false true = refl
replaced_counts setup a m time r (Some old) false false false = refl

cancelled_counts : (a : Market) (m time : ℕ) (c : Rattle.hx_ouch.specs.declared.inbound.Cancel.Cancel) (idle : Bool) (o : Option Order) → (cancelled_by a m time c idle o).market.recorded ≡ a.recorded
cancelled_counts a m time c true o = refl
cancelled_counts a m time c false None = refl
cancelled_counts a m time c false (Some x) = refl

hours_counts : (setup : Setup) (a : Market) (time code : ℕ) (next : Bool) → (hours_by setup a time code next).market.recorded ≡ a.recorded
hours_counts setup a time code true = refl
hours_counts setup a time code false = refl

received_counts : (setup : Setup) (a : Market) (m time : ℕ) (message : Option Inbound) → (receive setup a m time message).market.recorded ≡ a.recorded
received_counts setup a m time None = refl
received_counts setup a m time (Some (inbound.Enter e)) = entered_counts setup a m time e (is_used a.tokens m e.token) (rejection setup a.phase a.halted e)
received_counts setup a m time (Some (inbound.Replace r)) =
    let old = find (is_called m r.existing_token) a.live in
    replaced_counts setup a m time r old (is_used a.tokens m r.replacement_token) (is_order_halted a.halted old) (replace_fails a.phase (executed_of a m r.existing_token) r)
received_counts setup a m time (Some (inbound.Cancel c)) =
    let order = find (is_called m c.token) a.live in
    cancelled_counts a m time c (is_idle (executed_of a m c.token) c order) order

halted_counts : (a : Market) (time : ℕ) (stock : Symbol) (state : ℕ) (reason : List ℕ) (o : Option ℕ) (known : Bool) → (halted_by a time stock state reason o known).market.recorded ≡ a.recorded
halted_counts a time stock state reason None known = refl
halted_counts a time stock state reason (Some locate) false = refl
halted_counts a time stock state reason (Some locate) true = refl

broken_counts : (a : Market) (time number : ℕ) (o : Option Match) → (broken_by a time number o).market.recorded ≡ a.recorded
broken_counts a time number None = refl
broken_counts a time number (Some e) = at e.broken
  where
    at : (b : Bool) → (broken_if a time number e b).market.recorded ≡ a.recorded
    at true = refl
    at false = refl

happens_counts : (setup : Setup) (a : Market) (v : Event) → (happens setup a v).market.recorded ≡ a.recorded
happens_counts setup a (event.Message m time bytes) = received_counts setup a m time (inbound_of bytes)
happens_counts setup a (event.Tick time) = refl
happens_counts setup a (event.Hours time code) = hours_counts setup a time code (is_next a.phase code)
happens_counts setup a (event.Halt time stock state reason) = halted_counts a time stock state reason (locate_of setup stock) (is_trading_state state)
happens_counts setup a (event.Break time number) = broken_counts a time number (execution_of a.executions number)

step_counts : (setup : Setup) (a : Market) (v : Event) → (step setup a v).market.recorded ≡ raised a.recorded (sender v)
unfolding step
step_counts setup a v = happens_counts setup (with_record v a) v

-- If fewer events count, no more are refused.

passes_below : (setup : Setup) (xs ys : List ℕ) (v : Event) → AreBelow xs ys → refusal setup ys v ≡ None → refusal setup xs v ≡ None
passes_below setup xs ys v low h = at (nat_le day (time_of v)) (is_from_stranger setup v) (limit_of setup v) (slice_index xs (sender v)) (slice_index ys (sender v)) (below_at xs ys (sender v) low) h
  where
    within : (limit x y : ℕ) (b c : Bool) → nat_le limit x ≡ b → nat_le limit y ≡ c → x ≤ y
        → cond c (Some (Limit (sender v))) None ≡ None → cond b (Some (Limit (sender v))) None ≡ None
    within limit x y false c e f low h = refl
    within limit x y true true e f low h = h
    within limit x y true false e f low h = absurd (grind (arith, e, f, low))

    at : (late stranger : Bool) (limit x y : ℕ) → x ≤ y
        → cond late (Some BadTime) (cond stranger (Some NoMember) (cond (nat_le limit y) (Some (Limit (sender v))) None)) ≡ None
        → cond late (Some BadTime) (cond stranger (Some NoMember) (cond (nat_le limit x) (Some (Limit (sender v))) None)) ≡ None
    at true stranger limit x y low h = h
    at false true limit x y low h = h
    at false false limit x y low h = within limit x y (nat_le limit x) (nat_le limit y) refl refl low h

struck_accepted : (setup : Setup) (s : Choice) (a b : Market) (events : List Event) → AreBelow b.recorded a.recorded → AreAccepted setup a events
    → AreAccepted setup b (filter (λ e. not (bears s e)) events)
struck_accepted setup s a b [] low h = tt
struck_accepted setup s a b (v ∷ events) low h =
    at (bears s v) (struck_accepted setup s after b events gone h.1) (struck_accepted setup s after (step setup b v).market events retained h.1)
  where
    after : Market
    after = (step setup a v).market

    gone : AreBelow b.recorded after.recorded
    gone = subst (λ (xs : List ℕ). AreBelow b.recorded xs) (sym (step_counts setup a v)) (below_raised b.recorded a.recorded (sender v) low)

    retained : AreBelow (step setup b v).market.recorded after.recorded
    retained =
        subst (λ (xs : List ℕ). AreBelow xs after.recorded) (sym (step_counts setup b v))
        (subst (λ (xs : List ℕ). AreBelow (raised b.recorded (sender v)) xs) (sym (step_counts setup a v)) (both_raised b.recorded a.recorded (sender v) low))

    at : (c : Bool) → AreAccepted setup b (filter (λ e. not (bears s e)) events) → AreAccepted setup (step setup b v).market (filter (λ e. not (bears s e)) events)
        → AreAccepted setup b (cond (not c) (v ∷ filter (λ e. not (bears s e)) events) (filter (λ e. not (bears s e)) events))
    at true without with = without
    at false without with = (passes_below setup b.recorded a.recorded v low h.0, with)

-- what is left of a recorded history is recorded whole
pub struck_recorded : (setup : Setup) (s : Choice) (events : List Event) → AreRecorded setup events → AreRecorded setup (strike s events)
unfolding strike
struck_recorded setup s events h = struck_accepted setup s (opening setup) (opening setup) events (below_itself (opening setup).recorded) h
