-- Each event leaves the book of the feed equal to the shown live orders.
use Rattle.std.proofs.Common.{◌≡◌, ℕ, ◌+◌, Bool, true, false, cond, leb, eqb, refl, ap, ◌∙◌, not, List, [], ◌∷◌, ◌++◌, length, Some, None, Option}
use Rattle.std.specs.Prelude.{if◌then◌else◌}
use Rattle.std.specs.List.{filter, find}
use Rattle.hx_book.proofs.Lists.{all_weaker, all_filtered}
use Rattle.hx_units.specs.declared.names.Symbol.{Symbol}
use Rattle.hx_members.specs.Setups.{Setup, locate_of, symbol_of}
use Rattle.hx_members.specs.Stock.{Stock}
use Rattle.hx_members.specs.Chains.{is_used, entered_used}
use Rattle.hx_ouch.specs.declared.inbound.Inbound.TheVariants.{Enter, Replace, Cancel}
use Rattle.hx_ouch.specs.declared.inbound.Inbound.{Inbound}
use Rattle.hx_ouch.specs.declared.inbound.Enter.{Enter as NewOrder}
use Rattle.hx_ouch.specs.declared.inbound.Replace.{Replace as Change}
use Rattle.hx_ouch.specs.declared.inbound.Cancel.{Cancel as Less}
use Rattle.hx_ouch.specs.Inbound.{inbound_of}
use Rattle.hx_rules.specs.declared.event.Event.{Event}
use Rattle.hx_rules.specs.declared.event.Event.TheVariants.{Message, Tick, Hours, Halt, Break}
use Rattle.hx_rules.specs.Orders.{Order, Token, is_called, is_shown, is_immediate}
use Rattle.hx_rules.specs.declared.matches.Match.{Match}
use Rattle.hx_rules.specs.Markets.{Market}
use Rattle.hx_rules.specs.Outputs.{EventOutput, silent}
use Rattle.hx_rules.specs.Enter.{consumed, drawn, next_reference, rejection, reject, accept_order, entered_order, entered_by, enter}
use Rattle.hx_rules.specs.Removal.{less, lessened}
use Rattle.hx_rules.specs.Replace.{executed_of, is_order_halted, replace_fails, fail_replace, replaced_by, replace}
use Rattle.hx_rules.specs.Cancel.{take_off, cancelled_by, cancel}
use Rattle.hx_rules.specs.Hours.{end_orders, is_over, all_deleted, ends_by_code, directory, output_by_code, hours_by, next_hours}
use Rattle.hx_rules.specs.Halts.{is_trading_state, halted_by, halt}
use Rattle.hx_rules.specs.Breaks.{execution_of, broken_if, broken_by, break_trade}
use Rattle.hx_rules.specs.Steps.{receive, happens}
use Rattle.hx_rules.proofs.Lessened.{all_lessened}
use Rattle.hx_laws.specs.FeedBook.{ShownOrder, book_from}
use Rattle.hx_laws.proofs.History.CoherentMarkets.{IsKnown}
use Rattle.hx_laws.proofs.History.CoherentSteps.{Coherent, used_last, joining, found_of}
use Rattle.hx_laws.proofs.History.Rejections.{accepted_minimum, accepted_stock}
use Rattle.hx_laws.proofs.FeedBook.ShownShares.{some_lessened}
use Rattle.hx_laws.proofs.FeedBook.ShownExecutions.{shows, book_from-append, IsApart, AreApart, apart_shares, apart_position}
use Rattle.hx_laws.proofs.FeedBook.ShownLeaving.{deleted_found, taken_off_found}
use Rattle.hx_laws.proofs.FeedBook.ShownReplaces.{succeed_keeps}
use Rattle.hx_laws.proofs.FeedBook.ShownEnding.{ended_book}
use Rattle.hx_laws.proofs.FeedBook.ShownArrivals.{IsBooked, KeepsBook, IsNew, idle_keeps, old_shares, apart_filter, filter_good, used_more, old_more, not_less, arrived_good, drawn_public, drawn_reference, drawn_below, arrive_book}

-- An order is accepted, or rejected.

accept_keeps : (setup : Setup) (a : Market) (time : ℕ) (e : NewOrder) (x : Order) → is_used a.tokens x.member x.token ≡ false → x.reference ≡ next_reference a.numbers x.member x.shown
    → (x.shown ≡ true → x.minimum ≡ 0) → symbol_of setup x.locate ≡ e.stock → IsBooked a → KeepsBook setup a (accept_order a time e x)
accept_keeps setup a time e x unused named least stock g =
    record {
      book = arrive_book setup time e.stock a.numbers.matches (is_immediate e.time_in_force) x b stock g.apart;
      good = arrived_good setup a.numbers.public a.tokens time (is_immediate e.time_in_force) x b new;
    }
  where
    b : Market
    b = drawn (consumed a x.member x.token) x.member x.shown

    new : IsNew a.numbers.public a.tokens b x
    new =
        record {
          apart = g.apart;
          old = g.old;
          some = g.some;
          unused = unused;
          reference = λ h. named ∙ drawn_reference a.numbers x.member x.shown h;
          below = λ h. ap (λ n. leb n b.numbers.public) named ∙ drawn_below a.numbers x.member x.shown h;
          minimum = least;
          drawn = drawn_public a.numbers x.member x.shown;
          stay = used_more a.tokens (entered_used x.member x.token);
          used = used_last a.tokens (entered_used x.member x.token);
        }

reject_keeps : (setup : Setup) (a : Market) (m time : ℕ) (t : Token) (letter : ℕ) → IsBooked a → KeepsBook setup a (reject a m time t letter)
reject_keeps setup a m time t letter g =
    record {
      book = refl;
      good = record {
        apart = g.apart;
        old = all_weaker _ _ (λ y. old_more a.numbers.public a.numbers.public a.tokens _ y (not_less a.numbers.public) (used_more a.tokens (entered_used m t))) a.live g.old;
        some = g.some;
      };
    }

-- An order is replaced, or a replace fails.

fail_keeps : (setup : Setup) (a : Market) (m time : ℕ) (e t : Token) (old : Order) → IsBooked a → find (is_called m e) a.live ≡ Some old → KeepsBook setup a (fail_replace a m time e t old)
fail_keeps setup a m time e t old g h =
    record {
      book = deleted_found setup time m e old a.live g.apart h;
      good = record {
        apart = apart_filter _ a.live g.apart;
        old = all_weaker _ _ (λ y. old_more a.numbers.public a.numbers.public a.tokens _ y (not_less a.numbers.public) (used_more a.tokens (joining a m e t))) _ (all_filtered _ _ a.live g.old);
        some = all_filtered _ _ a.live g.some;
      };
    }

-- Shares are taken off an order.

apart_lessened : (m : ℕ) (t : Token) (by : ℕ) (xs : List Order) → AreApart xs → AreApart (lessened m t by xs)
apart_lessened m t by [] a = tt
apart_lessened m t by (x ∷ xs) a = choose (is_called m t x) (apart_lessened m t by xs a.1)
  where
    choose : (b : Bool) → AreApart (lessened m t by xs) → AreApart (cond b (less x by ++ xs) (x ∷ lessened m t by xs))
    choose true ih = apart_position x by [] xs a
    choose false ih = (all_lessened (IsApart x) (apart_shares x) m t by xs a.0, ih)

take_off_keeps : (setup : Setup) (a : Market) (m time : ℕ) (t : Token) (by : ℕ) (x : Order) → IsBooked a → find (is_called m t) a.live ≡ Some x → KeepsBook setup a (take_off a m time t by x)
take_off_keeps setup a m time t by x g h =
    record {
      book = taken_off_found setup time m t by x a.live g.apart h;
      good = record {
        apart = apart_lessened m t by a.live g.apart;
        old = all_lessened _ (old_shares a.numbers.public a.tokens) m t by a.live g.old;
        some = some_lessened m t by a.live g.some;
      };
    }

-- Orders end together.

end_keeps : (setup : Setup) (due : Order → Bool) (time : ℕ) (a : Market) (first : EventOutput) → IsBooked a → ((b : List ShownOrder) → book_from b first.feed ≡ b) → KeepsBook setup a (end_orders due time a first)
end_keeps setup due time a first g h =
    record {
      book = book_from-append (shows setup a.live) first.feed _ ∙ ap (λ b. book_from b (all_deleted time (filter due a.live))) (h (shows setup a.live)) ∙ ended_book setup due time a.live g.apart;
      good = filter_good (λ x. not (due x)) a g;
    }

directory_book : (time n : ℕ) (stocks : List Stock) (b : List ShownOrder) → book_from b (directory time n stocks) ≡ b
directory_book time n [] b = refl
directory_book time n (s ∷ stocks) b = directory_book time (n + 1) stocks b

code_book : (setup : Setup) (time code : ℕ) (b : List ShownOrder) → book_from b (output_by_code setup time code).feed ≡ b
code_book setup time code b = choose (eqb code 79)
  where
    choose : (c : Bool) → book_from b (if c then directory time 1 setup.stocks else []) ≡ b
    choose true = directory_book time 1 setup.stocks b
    choose false = refl

-- Every event.

enter_keeps : (setup : Setup) (a : Market) (m time : ℕ) (e : NewOrder) → IsBooked a → KeepsBook setup a (enter setup a m time e)
enter_keeps setup a m time e g = choose (is_used a.tokens m e.token) refl (rejection setup a.phase a.halted e) refl
  where
    choose : (u : Bool) → is_used a.tokens m e.token ≡ u → (o : Option ℕ) → rejection setup a.phase a.halted e ≡ o → KeepsBook setup a (entered_by setup a m time e u o)
    choose true h o f = idle_keeps setup a g
    choose false h (Some letter) f = reject_keeps setup a m time e.token letter g
    choose false h None f =
        accept_keeps setup a time e (entered_order setup (length a.tokens) (next_reference a.numbers m (is_shown e.display e.time_in_force)) m time e) h refl
        (accepted_minimum setup a.phase a.halted e f) (accepted_stock setup a.phase a.halted e f) g

replace_keeps : (setup : Setup) (a : Market) (m time : ℕ) (r : Change) → Coherent a → IsBooked a → KeepsBook setup a (replace setup a m time r)
replace_keeps setup a m time r s g =
    choose (find (is_called m r.existing_token) a.live) refl (is_used a.tokens m r.replacement_token) refl
    (is_order_halted a.halted (find (is_called m r.existing_token) a.live)) (replace_fails a.phase (executed_of a m r.existing_token) r) refl
  where
    choose : (o : Option Order) → find (is_called m r.existing_token) a.live ≡ o → (u : Bool) → is_used a.tokens m r.replacement_token ≡ u
        → (d f : Bool) → replace_fails a.phase (executed_of a m r.existing_token) r ≡ f → KeepsBook setup a (replaced_by setup a m time r o u d f)
    choose None h u k d f l = idle_keeps setup a g
    choose (Some old) h true k d f l = idle_keeps setup a g
    choose (Some old) h false k true f l = idle_keeps setup a g
    choose (Some old) h false k false true l = fail_keeps setup a m time r.existing_token r.replacement_token old g h
    choose (Some old) h false k false false l = succeed_keeps setup a m time r old g h (found_of (IsKnown a.tokens a.chains) m r.existing_token a.live old s.known h).1.0 k l

cancel_keeps : (setup : Setup) (a : Market) (m time : ℕ) (c : Less) → IsBooked a → KeepsBook setup a (cancel a m time c)
cancel_keeps setup a m time c g = choose _ (find (is_called m c.token) a.live) refl
  where
    choose : (idle : Bool) (o : Option Order) → find (is_called m c.token) a.live ≡ o → KeepsBook setup a (cancelled_by a m time c idle o)
    choose true o h = idle_keeps setup a g
    choose false None h = idle_keeps setup a g
    choose false (Some x) h = take_off_keeps setup a m time c.token _ x g h

hours_keeps : (setup : Setup) (a : Market) (time code : ℕ) → IsBooked a → KeepsBook setup a (next_hours setup a time code)
hours_keeps setup a time code g = choose _
  where
    turned : IsBooked (record a { phase = a.phase + 1 })
    turned = record { apart = g.apart; old = g.old; some = g.some }

    choose : (b : Bool) → KeepsBook setup a (hours_by setup a time code b)
    choose false = idle_keeps setup a g
    choose true =
        let k = end_keeps setup (ends_by_code code) time (record a { phase = a.phase + 1 }) (output_by_code setup time code) turned (code_book setup time code) in
        record { book = k.book; good = k.good }

-- the feed's message of a halt is no order's
halt_keeps : (setup : Setup) (a : Market) (time : ℕ) (stock : Symbol) (state : ℕ) (reason : List ℕ) → IsBooked a → KeepsBook setup a (halt setup a time stock state reason)
halt_keeps setup a time stock state reason g = choose (locate_of setup stock) (is_trading_state state)
  where
    choose : (o : Option ℕ) (known : Bool) → KeepsBook setup a (halted_by a time stock state reason o known)
    choose None known = idle_keeps setup a g
    choose (Some locate) false = idle_keeps setup a g
    choose (Some locate) true = record { book = refl; good = record { apart = g.apart; old = g.old; some = g.some } }

-- nor is that of a break
break_keeps : (setup : Setup) (a : Market) (time number : ℕ) → IsBooked a → KeepsBook setup a (break_trade a time number)
break_keeps setup a time number g = choose (execution_of a.executions number)
  where
    choose_if : (e : Match) (broken : Bool) → KeepsBook setup a (broken_if a time number e broken)
    choose_if e true = idle_keeps setup a g
    choose_if e false = record { book = refl; good = record { apart = g.apart; old = g.old; some = g.some } }

    choose : (o : Option Match) → KeepsBook setup a (broken_by a time number o)
    choose None = idle_keeps setup a g
    choose (Some e) = choose_if e e.broken

act_keeps : (setup : Setup) (a : Market) (m time : ℕ) (x : Option Inbound) → Coherent a → IsBooked a → KeepsBook setup a (receive setup a m time x)
act_keeps setup a m time None s g = idle_keeps setup a g
act_keeps setup a m time (Some (Enter e)) s g = enter_keeps setup a m time e g
act_keeps setup a m time (Some (Replace r)) s g = replace_keeps setup a m time r s g
act_keeps setup a m time (Some (Cancel c)) s g = cancel_keeps setup a m time c g

pub happens_keeps : (setup : Setup) (a : Market) (event : Event) → Coherent a → IsBooked a → KeepsBook setup a (happens setup a event)
happens_keeps setup a (Message m time bytes) s g = act_keeps setup a m time (inbound_of bytes) s g
happens_keeps setup a (Tick time) s g = end_keeps setup (λ x. is_over time x.life) time a silent g (λ b. refl)
happens_keeps setup a (Hours time code) s g = hours_keeps setup a time code g
happens_keeps setup a (Halt time stock state reason) s g = halt_keeps setup a time stock state reason g
happens_keeps setup a (Break time number) s g = break_keeps setup a time number g
