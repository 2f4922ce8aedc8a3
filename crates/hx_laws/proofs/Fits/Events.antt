-- The output of each event fits its fields, and leaves a market whose orders and numbers fit.
use Rattle.std.proofs.Common.{◌≡◌, ℕ, zero, suc, ◌+◌, ◌*◌, ◌<◌, ◌≤◌, ◌^◌, Bool, true, false, eqb, refl, sym, subst, arith, not, List, [], ◌∷◌, length, Some, None, Option, slice_get}
use Rattle.std.specs.Prelude.{slice_set}
use Rattle.std.specs.List.{AllByRecursion, filter, find}
use Rattle.std.specs.Option.{IfSome}
use Rattle.std.proofs.lemmas.Bool.{cond_both, leb-true}
use Rattle.hx_units.specs.declared.names.Symbol.{Symbol}
use Rattle.hx_book.proofs.Lists.{all_filtered}
use Rattle.hx_match.specs.Matching.{Execution}
use Rattle.hx_match.proofs.First.{all_append}
use Rattle.hx_members.specs.Setups.{Setup, locate_of, symbol_of}
use Rattle.hx_members.specs.Stock.{Stock}
use Rattle.hx_members.specs.Chains.{is_used}
use Rattle.hx_refs.specs.Numbers.{Numbers}
use Rattle.hx_ouch.specs.declared.inbound.Inbound.TheVariants.{Enter, Replace, Cancel}
use Rattle.hx_ouch.specs.declared.inbound.Inbound.{Inbound}
use Rattle.hx_ouch.specs.declared.inbound.Enter.{Enter as NewOrder}
use Rattle.hx_ouch.specs.declared.inbound.Replace.{Replace as Change}
use Rattle.hx_ouch.specs.declared.inbound.Cancel.{Cancel as Less}
use Rattle.hx_ouch.specs.Inbound.{inbound_of}
use Rattle.hx_rules.specs.declared.event.Event.{Event}
use Rattle.hx_rules.specs.declared.event.Event.TheVariants.{Message, Tick, Hours, Halt, Break}
use Rattle.hx_rules.specs.declared.matches.Match.{Match}
use Rattle.hx_rules.specs.Orders.{Order, Token, is_called, is_shown, is_immediate}
use Rattle.hx_rules.specs.Markets.{Market}
use Rattle.hx_rules.specs.Outputs.{EventOutput, Outcome, nothing, silent}
use Rattle.hx_rules.specs.Executions.{matches_of, arrive}
use Rattle.hx_rules.specs.Enter.{consumed, drawn, after_draw, next_reference, rejection, reject, accept, entered_order, entered_by, enter}
use Rattle.hx_rules.specs.Replace.{handed_over, executed_of, is_order_halted, replace_fails, fail_replace, replaced_by, succeed, replace}
use Rattle.hx_rules.specs.Cancel.{take_off, cancelled_by, cancel}
use Rattle.hx_rules.specs.Hours.{end_orders, all_deleted, is_over, ends_by_code, directory, output_by_code, hours_by, next_hours}
use Rattle.hx_rules.specs.Halts.{is_trading_state, halted_by, halt}
use Rattle.hx_rules.specs.Breaks.{execution_of, with_execution, broken_if, broken_by, break_trade}
use Rattle.hx_rules.specs.Steps.{receive, happens, time_of}
use Rattle.hx_laws.specs.FeedFits.{FitsStock, FitsSetup, FitsEvent}
use Rattle.hx_laws.proofs.History.CoherentSteps.{found_of}
use Rattle.hx_laws.proofs.History.EventMoves.{replacement_of}
use Rattle.hx_laws.proofs.FeedBook.ShownArrivals.{drawn_public, drawn_below}
use Rattle.hx_laws.proofs.Fits.Orders.{Sized, AreSized, IsFill, later, lessened_sized}
use Rattle.hx_laws.proofs.Fits.EventOutput.{AreFeed, both_feed, deleted_fits, all_deleted_fits, taken_off_fits, ArrivesFit, arrives_fit, replace_fits}
use Rattle.hx_laws.proofs.Fits.Entering.{locate_fits, or_zero, symbol_fits, firm_fits, IsNamed, is_named, accepted_fits, replaced_fits}

-- an execution's stock has a number of 2 bytes
abbrev IsPlaced : Match → Type 0
IsPlaced e = e.locate < 2 ^ 16

-- what fits of a market after n events: each draws one public reference at most, and has no more executions than an
-- order may have shares
pub record Good (n : ℕ) (a : Market) : Type 0 where
  pub orders : AreSized a.numbers.public a.live
  pub public : a.numbers.public ≤ n
  pub matches : a.numbers.matches ≤ 999999 * n
  pub executions : AllByRecursion IsPlaced a.executions

-- the output of an event fits, and so does what it leaves
pub record Keeps (n : ℕ) (a : Market) (o : Outcome) : Type 0 where
  pub feed : AreFeed o.output.feed
  pub good : Good (n + 1) o.market
  pub recorded : ◌≡◌ {A = List ℕ} o.market.recorded a.recorded

more : (n : ℕ) (a : Market) → Good n a → Good (n + 1) a
more n a g = let p = g.public in let m = g.matches in record { orders = g.orders; public = omega arith; matches = omega arith; executions = g.executions }

idle : (n : ℕ) (a : Market) → Good n a → Keeps n a (nothing a)
idle n a g = record { feed = tt; good = more n a g; recorded = refl }

-- ---- executions

placed : (public r m : ℕ) (t : Token) (es : List Execution) → AllByRecursion (IsFill public r) es → AllByRecursion IsPlaced (matches_of m t es)
placed public r m t [] all = tt
placed public r m t (e ∷ es) all = (all.0.0.locate, placed public r m t es all.1)

all_get : (i : ℕ) (es : List Match) → AllByRecursion IsPlaced es → IfSome (slice_get es i) IsPlaced
all_get i [] all = tt
all_get zero (e ∷ es) all = all.0
all_get (suc i) (e ∷ es) all = all_get i es all.1

all_set : (i : ℕ) (e : Match) (es : List Match) → IsPlaced e → AllByRecursion IsPlaced es → AllByRecursion IsPlaced (slice_set es i e)
all_set i e [] h all = tt
all_set zero e (x ∷ es) h all = (h, all.1)
all_set (suc i) e (x ∷ es) h all = (all.0, all_set i e es h all.1)

-- ---- numbers

drawn_most : (numbers : Numbers) (m : ℕ) (d : Bool) → (after_draw numbers m d).public ≤ numbers.public + 1
drawn_most numbers m true = omega arith
drawn_most numbers m false = omega arith

drawn_matches : (numbers : Numbers) (m : ℕ) (d : Bool) → (after_draw numbers m d).matches ≡ numbers.matches
drawn_matches numbers m true = refl
drawn_matches numbers m false = refl

module _ (setup : Setup) (n : ℕ) (fits : FitsSetup setup) (few : n < 17592186040320) where
  -- ---- an order arrives in a market b that has drawn its reference

  record Arrival (a b : Market) (x : Order) : Type 0 where
    live : AreSized b.numbers.public b.live
    own : Sized b.numbers.public x
    shares : x.shares ≤ 999999
    public : b.numbers.public ≤ n + 1
    matches : b.numbers.matches ≡ a.numbers.matches
    executions : ◌≡◌ {A = List Match} b.executions a.executions

  arrived : (a b : Market) (x : Order) (time : ℕ) (stock : Symbol) (immediate : Bool) → Good n a → Arrival a b x → time < 2 ^ 48 → length stock.0 ≡ 8
      → ArrivesFit b.numbers.public a.numbers.matches time stock immediate x b × Good (n + 1) (arrive time immediate x b).market
  arrived a b x time stock immediate g h t l =
      let some = g.matches in
      let most = h.shares in
      let low = h.public in
      let same = h.matches in
      let f = arrives_fit b.numbers.public a.numbers.matches time stock immediate x b (omega arith) t l h.live h.own (omega arith) in
      let fills = f.few in (
        f,
        record {
          orders = f.live;
          public = low;
          matches = omega arith;
          executions = all_append IsPlaced b.executions _ (subst (AllByRecursion IsPlaced) (sym h.executions) g.executions) (placed b.numbers.public x.shares x.member x.token _ f.fills);
        },
      )

  accept_keeps : (a : Market) (m time : ℕ) (e : NewOrder) → Good n a → time < 2 ^ 48 → (length e.stock.0 ≡ 8) × (length e.firm.0 ≡ 4) → rejection setup a.phase a.halted e ≡ None → Keeps n a (accept setup a m time e)
  accept_keeps a m time e g t named none =
      let shown = is_shown e.display e.time_in_force in
      let x = entered_order setup (length a.tokens) (next_reference a.numbers m shown) m time e in
      let b = drawn (consumed a m e.token) m shown in
      let asked = accepted_fits setup a.phase a.halted e none in
      let shares = asked.0 in
      let below : a.numbers.public ≤ b.numbers.public = leb-true _ _ (drawn_public a.numbers m shown) in
      let above : b.numbers.public ≤ a.numbers.public + 1 = drawn_most a.numbers m shown in
      let p = g.public in
      let h : Arrival a b x = record {
        live = later a.numbers.public b.numbers.public below a.live g.orders;
        own = record {
          locate = or_zero (locate_of setup e.stock) (locate_fits setup e.stock fits);
          price = asked.1;
          shares = omega arith;
          firm = firm_fits setup m e.firm fits named.1;
          reference = λ s. leb-true _ _ (drawn_below a.numbers m shown s);
        };
        shares = shares;
        public = omega arith;
        matches = drawn_matches a.numbers m shown;
        executions = refl;
      } in
      let r = arrived a b x time e.stock (is_immediate e.time_in_force) g h t named.0 in
      record { feed = r.0.feed; good = r.1; recorded = refl }

  consumed_keeps : (a : Market) (m time : ℕ) (t : Token) (letter : ℕ) → Good n a → Keeps n a (reject a m time t letter)
  consumed_keeps a m time t letter g = let k = more n a g in record { feed = tt; good = record { orders = k.orders; public = k.public; matches = k.matches; executions = k.executions }; recorded = refl }

  enter_keeps : (a : Market) (m time : ℕ) (e : NewOrder) → Good n a → time < 2 ^ 48 → (length e.stock.0 ≡ 8) × (length e.firm.0 ≡ 4) → Keeps n a (enter setup a m time e)
  enter_keeps a m time e g t named = choose (is_used a.tokens m e.token) (rejection setup a.phase a.halted e) refl
    where
      choose : (u : Bool) (o : Option ℕ) → rejection setup a.phase a.halted e ≡ o → Keeps n a (entered_by setup a m time e u o)
      choose true o h = idle n a g
      choose false (Some letter) h = consumed_keeps a m time e.token letter g
      choose false None h = accept_keeps a m time e g t named h

  -- ---- an order that is live already

  fail_keeps : (a : Market) (m time : ℕ) (t u : Token) (old : Order) → Good n a → time < 2 ^ 48 → Sized a.numbers.public old → Keeps n a (fail_replace a m time t u old)
  fail_keeps a m time t u old g s h =
      let k = more n a g in
      let p = g.public in
      record {
        feed = deleted_fits a.numbers.public time old (omega arith) s h;
        good = record { orders = all_filtered (Sized a.numbers.public) _ a.live g.orders; public = k.public; matches = k.matches; executions = k.executions };
        recorded = refl;
      }

  succeed_keeps : (a : Market) (m time : ℕ) (r : Change) (old : Order) → Good n a → time < 2 ^ 48 → Sized a.numbers.public old → replace_fails a.phase (executed_of a m r.existing_token) r ≡ false
      → Keeps n a (succeed setup a m time r old)
  succeed_keeps a m time r old g t h none =
      let shown = is_shown r.display r.time_in_force in
      let x = replacement_of a m time r old in
      let b = drawn (handed_over a m r.existing_token r.replacement_token) m shown in
      let asked = replaced_fits a.phase (executed_of a m r.existing_token) r none in
      let shares = asked.0 in
      let below : a.numbers.public ≤ b.numbers.public = leb-true _ _ (drawn_public a.numbers m shown) in
      let above : b.numbers.public ≤ a.numbers.public + 1 = drawn_most a.numbers m shown in
      let p = g.public in
      let own : Sized b.numbers.public x = record {
        locate = h.locate;
        price = asked.1;
        shares = omega arith;
        firm = h.firm;
        reference = λ s. leb-true _ _ (drawn_below a.numbers m shown s);
      } in
      let before : Sized b.numbers.public old = record { locate = h.locate; price = h.price; shares = h.shares; firm = h.firm; reference = λ s. (let k = h.reference s in omega arith) } in
      let arrives : Arrival a b x = record {
        live = later a.numbers.public b.numbers.public below b.live (all_filtered (Sized a.numbers.public) _ a.live g.orders);
        own = own;
        shares = shares;
        public = omega arith;
        matches = drawn_matches a.numbers m shown;
        executions = refl;
      } in
      let stock = symbol_of setup old.locate in
      let k = arrived a b x time stock (is_immediate r.time_in_force) g arrives t (symbol_fits setup old.locate fits) in
      record {
        feed = replace_fits b.numbers.public time stock a.numbers.matches old x (arrive time (is_immediate r.time_in_force) x b).executions (arrive time (is_immediate r.time_in_force) x b).resting (omega arith) t before own k.0.feed;
        good = k.1;
        recorded = refl;
      }

  replace_keeps : (a : Market) (m time : ℕ) (r : Change) → Good n a → time < 2 ^ 48 → Keeps n a (replace setup a m time r)
  replace_keeps a m time r g t =
      choose (find (is_called m r.existing_token) a.live) refl (is_used a.tokens m r.replacement_token)
      (is_order_halted a.halted (find (is_called m r.existing_token) a.live)) (replace_fails a.phase (executed_of a m r.existing_token) r) refl
    where
      choose : (o : Option Order) → find (is_called m r.existing_token) a.live ≡ o → (used halted f : Bool) → replace_fails a.phase (executed_of a m r.existing_token) r ≡ f → Keeps n a (replaced_by setup a m time r o used halted f)
      choose None h used halted f e = idle n a g
      choose (Some old) h true halted f e = idle n a g
      choose (Some old) h false true f e = idle n a g
      choose (Some old) h false false true e = fail_keeps a m time r.existing_token r.replacement_token old g t (found_of (Sized a.numbers.public) m r.existing_token a.live old g.orders h).0
      choose (Some old) h false false false e = succeed_keeps a m time r old g t (found_of (Sized a.numbers.public) m r.existing_token a.live old g.orders h).0 e

  take_off_keeps : (a : Market) (m time : ℕ) (t : Token) (by : ℕ) (x : Order) → Good n a → time < 2 ^ 48 → Sized a.numbers.public x → Keeps n a (take_off a m time t by x)
  take_off_keeps a m time t by x g s h =
      let k = more n a g in
      let p = g.public in
      record {
        feed = taken_off_fits a.numbers.public time by x (omega arith) s h;
        good = record { orders = lessened_sized a.numbers.public m t by a.live g.orders; public = k.public; matches = k.matches; executions = k.executions };
        recorded = refl;
      }

  cancel_keeps : (a : Market) (m time : ℕ) (c : Less) → Good n a → time < 2 ^ 48 → Keeps n a (cancel a m time c)
  cancel_keeps a m time c g t = choose _ (find (is_called m c.token) a.live) refl
    where
      choose : (idles : Bool) (o : Option Order) → find (is_called m c.token) a.live ≡ o → Keeps n a (cancelled_by a m time c idles o)
      choose true o h = idle n a g
      choose false None h = idle n a g
      choose false (Some x) h = take_off_keeps a m time c.token _ x g t (found_of (Sized a.numbers.public) m c.token a.live x g.orders h).0

  act_keeps : (a : Market) (m time : ℕ) (x : Option Inbound) → IsNamed x → Good n a → time < 2 ^ 48 → Keeps n a (receive setup a m time x)
  act_keeps a m time None named g t = idle n a g
  act_keeps a m time (Some (Enter e)) named g t = enter_keeps a m time e g t named
  act_keeps a m time (Some (Replace r)) named g t = replace_keeps a m time r g t
  act_keeps a m time (Some (Cancel c)) named g t = cancel_keeps a m time c g t

  -- ---- the operator's events

  end_keeps : (due : Order → Bool) (time : ℕ) (a : Market) (first : EventOutput) → Good n a → time < 2 ^ 48 → AreFeed first.feed → Keeps n a (end_orders due time a first)
  end_keeps due time a first g t h =
      let k = more n a g in
      let p = g.public in
      record {
        feed = both_feed first.feed (all_deleted time (filter due a.live)) h (all_deleted_fits a.numbers.public time (filter due a.live) (omega arith) t (all_filtered (Sized a.numbers.public) due a.live g.orders));
        good = record { orders = all_filtered (Sized a.numbers.public) (λ x. not (due x)) a.live g.orders; public = k.public; matches = k.matches; executions = k.executions };
        recorded = refl;
      }

  directory_fits : (time i : ℕ) (stocks : List Stock) → time < 2 ^ 48 → i + length stocks ≤ 2 ^ 16 → AllByRecursion FitsStock stocks → AreFeed (directory time i stocks)
  directory_fits time i [] t le all = tt
  directory_fits time i (s ∷ stocks) t le all = (record { locate = omega arith; time = t; stock = all.0.symbol; tail = all.0.tail }, directory_fits time (i + 1) stocks t (omega arith) all.1)

  code_fits : (time code : ℕ) → time < 2 ^ 48 → AreFeed (output_by_code setup time code).feed
  code_fits time code t =
      let f = fits.few in (
        record { locate = omega arith; time = t },
        cond_both (eqb code 79) (directory time 1 setup.stocks) [] AreFeed (λ _. directory_fits time 1 setup.stocks t (omega arith) fits.stocks) (λ _. tt),
      )

  hours_keeps : (a : Market) (time code : ℕ) → Good n a → time < 2 ^ 48 → Keeps n a (next_hours setup a time code)
  hours_keeps a time code g t = choose _
    where
      choose : (b : Bool) → Keeps n a (hours_by setup a time code b)
      choose false = idle n a g
      choose true =
          let turned : Good n (record a { phase = a.phase + 1 }) = record { orders = g.orders; public = g.public; matches = g.matches; executions = g.executions } in
          let k = end_keeps (ends_by_code code) time (record a { phase = a.phase + 1 }) (output_by_code setup time code) turned t (code_fits time code t) in
          record { feed = k.feed; good = k.good; recorded = refl }

  halt_keeps : (a : Market) (time : ℕ) (stock : Symbol) (state : ℕ) (reason : List ℕ) → Good n a → time < 2 ^ 48 → (length stock.0 ≡ 8) × (length reason ≡ 4) → Keeps n a (halt setup a time stock state reason)
  halt_keeps a time stock state reason g t h = choose (locate_of setup stock) (locate_fits setup stock fits) (is_trading_state state)
    where
      choose : (o : Option ℕ) → IfSome o (λ k. k < 2 ^ 16) → (known : Bool) → Keeps n a (halted_by a time stock state reason o known)
      choose None l known = idle n a g
      choose (Some locate) l false = idle n a g
      choose (Some locate) l true =
          let k = more n a g in
          record {
            feed = (record { locate = l; time = t; stock = h.0; reason = h.1 }, tt);
            good = record { orders = k.orders; public = k.public; matches = k.matches; executions = k.executions };
            recorded = refl;
          }

  break_keeps : (a : Market) (time number : ℕ) → Good n a → time < 2 ^ 48 → number < 2 ^ 64 → Keeps n a (break_trade a time number)
  break_keeps a time number g t h = choose (execution_of a.executions number) (found number)
    where
      found : (i : ℕ) → IfSome (execution_of a.executions i) IsPlaced
      found zero = tt
      found (suc i) = all_get i a.executions g.executions

      changed : (i : ℕ) (e : Match) → IsPlaced e → AllByRecursion IsPlaced (with_execution a.executions i e)
      changed zero e l = g.executions
      changed (suc i) e l = all_set i e a.executions l g.executions

      choose_if : (e : Match) (broken : Bool) → IsPlaced e → Keeps n a (broken_if a time number e broken)
      choose_if e true l = idle n a g
      choose_if e false l =
          let k = more n a g in
          record {
            feed = (record { locate = l; time = t; match_number = h }, tt);
            good = record { orders = k.orders; public = k.public; matches = k.matches; executions = changed number (record e { broken = true }) l };
            recorded = refl;
          }

      choose : (o : Option Match) → IfSome o IsPlaced → Keeps n a (broken_by a time number o)
      choose None l = idle n a g
      choose (Some e) l = choose_if e e.broken l

  pub happens_keeps : (a : Market) (event : Event) → Good n a → time_of event < 2 ^ 48 → FitsEvent event → Keeps n a (happens setup a event)
  happens_keeps a (Message m time bytes) g t h = act_keeps a m time (inbound_of bytes) (is_named bytes) g t
  happens_keeps a (Tick time) g t h = end_keeps (λ x. is_over time x.life) time a silent g t tt
  happens_keeps a (Hours time code) g t h = hours_keeps a time code g t
  happens_keeps a (Halt time stock state reason) g t h = halt_keeps a time stock state reason g t h
  happens_keeps a (Break time number) g t h = break_keeps a time number g t h
