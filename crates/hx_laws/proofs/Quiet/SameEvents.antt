-- An event that bears no chosen token has the same effect and output in two markets that are alike.
use Rattle.std.proofs.Common.{◌≡◌, ℕ, ◌+◌, Bool, true, false, refl, ap, sym, ◌∙◌, ltb, ◌&&◌, not, List, [], ◌∷◌, ◌++◌, Some, None, Option, map}
use Rattle.std.specs.Prelude.{◌==◌, slice_index, slice_set}
use Rattle.std.specs.Option.{option_map}
use Rattle.std.specs.List.{AllByRecursion, filter, find}
use Rattle.std.proofs.lemmas.Bool.{or_parts}
use Rattle.hx_units.specs.declared.names.Symbol.{Symbol}
use Rattle.hx_members.specs.Setups.{Setup, locate_of}
use Rattle.hx_members.specs.Chains.{is_used}
use Rattle.hx_ouch.specs.declared.inbound.Inbound.{Inbound}
use Rattle.hx_ouch.specs.declared.inbound.Inbound.TheVariants.{Enter, Replace, Cancel}
use Rattle.hx_ouch.specs.declared.inbound.Enter.{Enter as NewOrder}
use Rattle.hx_ouch.specs.declared.inbound.Replace.{Replace as Change}
use Rattle.hx_ouch.specs.declared.inbound.Cancel.{Cancel as Less}
use Rattle.hx_ouch.specs.Inbound.{inbound_of}
use Rattle.hx_rules.specs.declared.event.Event.{Event}
use Rattle.hx_rules.specs.declared.event.Event.TheVariants.{Message, Tick, Hours, Halt, Break}
use Rattle.hx_rules.specs.Orders.{Order, Token, is_called}
use Rattle.hx_rules.specs.declared.matches.Match.{Match}
use Rattle.hx_rules.specs.Markets.{Market, is_halted}
use Rattle.hx_rules.specs.Outputs.{EventOutput, silent}
use Rattle.hx_rules.specs.Enter.{rejection, entered_by, enter}
use Rattle.hx_rules.specs.Removal.{deleted, canceled, taken_off}
use Rattle.hx_rules.specs.Replace.{executed_of, is_order_halted, replace_fails, fail_replace, replaced_by, replace}
use Rattle.hx_rules.specs.Cancel.{cancelled_shares, take_off, is_idle, cancelled_by, cancel}
use Rattle.hx_rules.specs.Hours.{end_orders, is_over, all_deleted, hours_codes, ends_by_code, output_by_code, hours_by, next_hours}
use Rattle.hx_rules.specs.Halts.{is_trading_state, halted_by, halt}
use Rattle.hx_rules.specs.Breaks.{execution_of, with_execution, broken_if, broken_by, break_trade}
use Rattle.hx_rules.specs.Steps.{receive, happens}
use Rattle.hx_laws.specs.QuietChains.{Choice, message_bears, bears, reply_lines}
use Rattle.hx_laws.specs.Laws.{AreQuietChains, IsUnknownTo}
use Rattle.hx_laws.proofs.Quiet.QuietBefore.{not_both}
use Rattle.hx_laws.proofs.History.CoherentMarkets.{IsKnown}
use Rattle.hx_laws.proofs.History.CoherentSteps.{Coherent, found_of}
use Rattle.hx_laws.proofs.History.EventMoves.{called_used, replace_moves, cancel_moves}
use Rattle.hx_laws.proofs.Quiet.RetainedViews.{none, blank}
use Rattle.hx_laws.proofs.Quiet.RetainedWords.{find_retained}
use Rattle.hx_laws.proofs.Quiet.Alike.{IsAlike, alike_hours, alike_halted, alike_executions, alike_used, alike_executed, alike_consumed, alike_handed_over, alike_filtered, alike_lessened}
use Rattle.hx_laws.proofs.Quiet.QuietArrivals.{quiet_earlier}
use Rattle.hx_laws.proofs.Quiet.SeenLines.{IsHidden, LooksPast, reply_lines-append, deleted-blank, taken_off-blank, deleted_retained, ended, ended_retained}
use Rattle.hx_laws.proofs.Quiet.SameArrivals.{IsSame, same_output, same_accept, same_succeed}

-- A message of a token that is not chosen.

same_enter : (s : Choice) (see : ℕ → Bool) → IsUnknownTo see s → (setup : Setup) (a b : Market) → Coherent a → IsAlike s a b → (m time : ℕ) (e : NewOrder) → s m e.token ≡ false
    → AreQuietChains s (enter setup a m time e).market → IsSame s see (enter setup a m time e) (enter setup b m time e)
same_enter s see blind setup a b coherent r m time e keep =
    rw (← alike_used s a b r m e.token keep, ap (λ (n : ℕ). rejection setup n b.halted e) (sym (alike_hours s a b r)), ap (λ (hs : List Bool). rejection setup a.phase hs e) (sym (alike_halted s a b r))) (choose (is_used a.tokens m e.token) refl (rejection setup a.phase a.halted e))
  where
    choose : (u : Bool) → is_used a.tokens m e.token ≡ u → (o : Option ℕ) → AreQuietChains s (entered_by setup a m time e u o).market
        → IsSame s see (entered_by setup a m time e u o) (entered_by setup b m time e u o)
    choose true h o q = record { market = r; seen = refl }
    choose false h (Some letter) q = record { market = alike_consumed s a b r m e.token keep; seen = refl }
    choose false h None q = same_accept s see blind setup a b coherent r m time e h keep q

-- the same live order is found
same_found : (s : Choice) (a b : Market) → IsAlike s a b → (m : ℕ) (t : Token) → s m t ≡ false
    → option_map (blank true) (find (is_called m t) a.live) ≡ option_map (blank true) (find (is_called m t) b.live)
same_found s a b r m t g = sym (find_retained s m t g a.live) ∙ ap (find (is_called m t)) r.live ∙ find_retained none m t refl b.live

same_fail : (s : Choice) (see : ℕ → Bool) (a b : Market) → IsAlike s a b → (m time : ℕ) (e t : Token) → s m e ≡ false → s m t ≡ false → (x y : Order) → blank true x ≡ blank true y
    → IsSame s see (fail_replace a m time e t x) (fail_replace b m time e t y)
same_fail s see a b r m time e t g h x y p =
    record {
      market = alike_handed_over s a b r m e t g h;
      seen = same_output see (fail_replace a m time e t x).output (fail_replace b m time e t y).output (sym (deleted-blank time x) ∙ ap (deleted time) p ∙ deleted-blank time y)
          (ap (λ (z : Order). reply_lines see (canceled time m e z.shares 85 ∷ [])) p);
    }

same_replace : (s : Choice) (see : ℕ → Bool) → IsUnknownTo see s → (setup : Setup) (a b : Market) → Coherent a → IsAlike s a b → (m time : ℕ) (q : Change)
    → s m q.existing_token ≡ false → s m q.replacement_token ≡ false → AreQuietChains s (replace setup a m time q).market → IsSame s see (replace setup a m time q) (replace setup b m time q)
same_replace s see blind setup a b coherent r m time q g h quiet = choose (find (is_called m q.existing_token) a.live) (find (is_called m q.existing_token) b.live) refl (same_found s a b r m q.existing_token g) quiet
  where
    at : AreQuietChains s a
    at = quiet_earlier s a _ (replace_moves setup a m time q coherent).grows quiet

    done : (x : Order) → find (is_called m q.existing_token) a.live ≡ Some x → executed_of a m q.existing_token ≡ executed_of b m q.existing_token
    done x e = alike_executed s a b r m q.existing_token g (sym (at.whole m q.existing_token (called_used a m q.existing_token x coherent e)) ∙ g)

    by : (x y : Order) → find (is_called m q.existing_token) a.live ≡ Some x → blank true x ≡ blank true y → (u d f : Bool)
        → AreQuietChains s (replaced_by setup a m time q (Some x) u d f).market → IsSame s see (replaced_by setup a m time q (Some x) u d f) (replaced_by setup b m time q (Some y) u d f)
    by x y e p true d f c = record { market = r; seen = refl }
    by x y e p false true f c = record { market = r; seen = refl }
    by x y e p false false true c = same_fail s see a b r m time q.existing_token q.replacement_token g h x y p
    by x y e p false false false c =
        same_succeed s see blind setup a b coherent r m time q g h x y p (found_of (IsKnown a.tokens a.chains) m q.existing_token a.live x coherent.known e).1.0
        (called_used a m q.existing_token x coherent e) (done x e) c

    fails : executed_of a m q.existing_token ≡ executed_of b m q.existing_token → replace_fails b.phase (executed_of b m q.existing_token) q ≡ replace_fails a.phase (executed_of a m q.existing_token) q
    fails e = ap (λ (n : ℕ). replace_fails n (executed_of b m q.existing_token) q) (sym (alike_hours s a b r)) ∙ ap (λ (n : ℕ). replace_fails a.phase n q) (sym e)

    stopped : (x y : Order) → blank true x ≡ blank true y → is_halted b.halted y.locate ≡ is_halted a.halted x.locate
    stopped x y p = ap (λ (hs : List Bool). is_halted hs y.locate) (sym (alike_halted s a b r)) ∙ ap (λ (z : Order). is_halted a.halted z.locate) (sym p)

    choose : (o p : Option Order) → find (is_called m q.existing_token) a.live ≡ o → option_map (blank true) o ≡ option_map (blank true) p
        → AreQuietChains s (replaced_by setup a m time q o (is_used a.tokens m q.replacement_token) (is_order_halted a.halted o) (replace_fails a.phase (executed_of a m q.existing_token) q)).market
        → IsSame s see (replaced_by setup a m time q o (is_used a.tokens m q.replacement_token) (is_order_halted a.halted o) (replace_fails a.phase (executed_of a m q.existing_token) q))
        (replaced_by setup b m time q p (is_used b.tokens m q.replacement_token) (is_order_halted b.halted p) (replace_fails b.phase (executed_of b m q.existing_token) q))
    choose None None e p c = record { market = r; seen = refl }
    choose None (Some y) e p c = absurd (cc p)
    choose (Some x) None e p c = absurd (cc p)
    choose (Some x) (Some y) e p c =
        let same : blank true x ≡ blank true y = cc in
        rw (← alike_used s a b r m q.replacement_token h, stopped x y same, fails (done x e)) (by x y e same _ _ _ c)

same_take_off : (s : Choice) (see : ℕ → Bool) (a b : Market) → IsAlike s a b → (m time : ℕ) (t : Token) (by : ℕ) → s m t ≡ false → (x y : Order) → blank true x ≡ blank true y
    → IsSame s see (take_off a m time t by x) (take_off b m time t by y)
same_take_off s see a b r m time t by g x y p =
    record {
      market = alike_lessened s a b r m t by g;
      seen = same_output see (take_off a m time t by x).output (take_off b m time t by y).output (sym (taken_off-blank time by x) ∙ ap (taken_off time by) p ∙ taken_off-blank time by y) refl;
    }

same_cancel : (s : Choice) (see : ℕ → Bool) (a b : Market) → Coherent a → IsAlike s a b → (m time : ℕ) (c : Less) → s m c.token ≡ false
    → AreQuietChains s (cancel a m time c).market → IsSame s see (cancel a m time c) (cancel b m time c)
same_cancel s see a b coherent r m time c g quiet = choose (find (is_called m c.token) a.live) (find (is_called m c.token) b.live) refl (same_found s a b r m c.token g)
  where
    at : AreQuietChains s a
    at = quiet_earlier s a _ (cancel_moves a m time c).grows quiet

    done : (x : Order) → find (is_called m c.token) a.live ≡ Some x → executed_of a m c.token ≡ executed_of b m c.token
    done x e = alike_executed s a b r m c.token g (sym (at.whole m c.token (called_used a m c.token x coherent e)) ∙ g)

    shares : (x y : Order) → blank true x ≡ blank true y → executed_of a m c.token ≡ executed_of b m c.token
        → cancelled_shares (executed_of b m c.token) c y ≡ cancelled_shares (executed_of a m c.token) c x
    shares x y p e = ap (λ (n : ℕ). cancelled_shares n c y) (sym e) ∙ ap (λ (z : Order). cancelled_shares (executed_of a m c.token) c z) (sym p)

    by : (x y : Order) → blank true x ≡ blank true y → executed_of a m c.token ≡ executed_of b m c.token → (i : Bool)
        → IsSame s see (cancelled_by a m time c i (Some x)) (cancelled_by b m time c i (Some y))
    by x y p e true = record { market = r; seen = refl }
    by x y p e false = rw (shares x y p e) (same_take_off s see a b r m time c.token _ g x y p)

    choose : (o p : Option Order) → find (is_called m c.token) a.live ≡ o → option_map (blank true) o ≡ option_map (blank true) p
        → IsSame s see (cancelled_by a m time c (is_idle (executed_of a m c.token) c o) o) (cancelled_by b m time c (is_idle (executed_of b m c.token) c p) p)
    choose None None e p = record { market = r; seen = refl }
    choose None (Some y) e p = absurd (cc p)
    choose (Some x) None e p = absurd (cc p)
    choose (Some x) (Some y) e p =
        let same : blank true x ≡ blank true y = cc in
        rw (ap (λ (n : ℕ). n == 0) (shares x y same (done x e))) (by x y same (done x e) _)

-- Orders end.

all_hidden : (s : Choice) (a : Market) → AreQuietChains s a → (xs : List Order) → AllByRecursion (IsKnown a.tokens a.chains) xs → AllByRecursion (IsHidden s) xs
all_hidden s a quiet [] k = tt
all_hidden s a quiet (x ∷ xs) k = ((λ h. choose x.shown refl h), all_hidden s a quiet xs k.1)
  where
    choose : (b : Bool) → x.shown ≡ b → s x.member x.token ≡ true → x.shown ≡ false
    choose false e h = e
    choose true e h = not_both _ (k.0.shown e) (quiet.quiet x.member x.token k.0.used h)

none_hidden : (xs : List Order) → AllByRecursion (IsHidden none) xs
none_hidden [] = tt
none_hidden (x ∷ xs) = ((λ h. absurd (let z : false ≡ true = h in cc)), none_hidden xs)

same_end : (s : Choice) (see : ℕ → Bool) → IsUnknownTo see s → (a b : Market) → Coherent a → IsAlike s a b → AreQuietChains s a → (due : Order → Bool) → LooksPast due
    → (time : ℕ) (o : EventOutput) → IsSame s see (end_orders due time a o) (end_orders due time b o)
same_end s see blind a b coherent r quiet due same time o =
    record { market = alike_filtered s a b r (λ x. not (due x)) (λ x. ap not (same x)); seen = same_output see (end_orders due time a o).output (end_orders due time b o).output deletes replies }
  where
    deletes : o.feed ++ all_deleted time (filter due a.live) ≡ o.feed ++ all_deleted time (filter due b.live)
    deletes =
        ap (λ z. o.feed ++ z) (deleted_retained s due same time a.live (all_hidden s a quiet a.live coherent.known)
        ∙ ap (λ z. all_deleted time (filter due z)) r.live ∙ sym (deleted_retained none due same time b.live (none_hidden b.live)))

    replies : reply_lines see (o.replies ++ map (ended time) (filter due a.live)) ≡ reply_lines see (o.replies ++ map (ended time) (filter due b.live))
    replies =
        reply_lines-append see o.replies _
        ∙ ap (λ z. reply_lines see o.replies ++ z) (ended_retained see s blind due same time a.live ∙ ap (λ z. reply_lines see (map (ended time) (filter due z))) r.live
        ∙ sym (ended_retained see none (λ p h t. refl) due same time b.live))
        ∙ sym (reply_lines-append see o.replies _)

turn_alike : (s : Choice) (a b : Market) → IsAlike s a b → IsAlike s (record a { phase = a.phase + 1 }) (record b { phase = b.phase + 1 })
turn_alike s a b r =
    record { live = r.live; tokens = r.tokens; chains = r.chains; counts = r.counts; private = r.private; rest = ap (λ (z : Market). record z { phase = z.phase + 1 }) r.rest }

same_hours : (s : Choice) (see : ℕ → Bool) → IsUnknownTo see s → (setup : Setup) (a b : Market) → Coherent a → IsAlike s a b → AreQuietChains s a → (time code : ℕ)
    → IsSame s see (next_hours setup a time code) (next_hours setup b time code)
same_hours s see blind setup a b coherent r quiet time code =
    rw (ap (λ (n : ℕ). ltb n 6 && (slice_index hours_codes n == code)) (sym (alike_hours s a b r))) (choose _)
  where
    choose : (d : Bool) → IsSame s see (hours_by setup a time code d) (hours_by setup b time code d)
    choose false = record { market = r; seen = refl }
    choose true =
        same_end s see blind (record a { phase = a.phase + 1 }) (record b { phase = b.phase + 1 }) coherent (turn_alike s a b r) (record { whole = quiet.whole; quiet = quiet.quiet })
        (ends_by_code code) (λ x. refl) time (output_by_code setup time code)

-- A stock is halted, or an execution is broken.

state_alike : (s : Choice) (a b : Market) → IsAlike s a b → (locate : ℕ) (d : Bool) → IsAlike s (record a { halted = slice_set a.halted locate d }) (record b { halted = slice_set b.halted locate d })
state_alike s a b r locate d =
    record { live = r.live; tokens = r.tokens; chains = r.chains; counts = r.counts; private = r.private; rest = ap (λ (z : Market). record z { halted = slice_set z.halted locate d }) r.rest }

same_halt : (s : Choice) (see : ℕ → Bool) (setup : Setup) (a b : Market) → IsAlike s a b → (time : ℕ) (stock : Symbol) (state : ℕ) (reason : List ℕ)
    → IsSame s see (halt setup a time stock state reason) (halt setup b time stock state reason)
same_halt s see setup a b r time stock state reason = choose (locate_of setup stock) (is_trading_state state)
  where
    choose : (o : Option ℕ) (known : Bool) → IsSame s see (halted_by a time stock state reason o known) (halted_by b time stock state reason o known)
    choose None known = record { market = r; seen = refl }
    choose (Some locate) false = record { market = r; seen = refl }
    choose (Some locate) true = record { market = state_alike s a b r locate (state == 72); seen = refl }

break_alike : (s : Choice) (a b : Market) → IsAlike s a b → (number : ℕ) (e : Match)
    → IsAlike s (record a { executions = with_execution a.executions number e }) (record b { executions = with_execution b.executions number e })
break_alike s a b r number e =
    record { live = r.live; tokens = r.tokens; chains = r.chains; counts = r.counts; private = r.private; rest = ap (λ (z : Market). record z { executions = with_execution z.executions number e }) r.rest }

same_break : (s : Choice) (see : ℕ → Bool) (a b : Market) → IsAlike s a b → (time number : ℕ) → IsSame s see (break_trade a time number) (break_trade b time number)
same_break s see a b r time number = rw (ap (λ (es : List Match). execution_of es number) (sym (alike_executions s a b r))) (choose (execution_of a.executions number))
  where
    choose_if : (e : Match) (broken : Bool) → IsSame s see (broken_if a time number e broken) (broken_if b time number e broken)
    choose_if e true = record { market = r; seen = refl }
    choose_if e false = record { market = break_alike s a b r number (record e { broken = true }); seen = refl }

    choose : (o : Option Match) → IsSame s see (broken_by a time number o) (broken_by b time number o)
    choose None = record { market = r; seen = refl }
    choose (Some e) = choose_if e e.broken

-- Every event.

same_act : (s : Choice) (see : ℕ → Bool) → IsUnknownTo see s → (setup : Setup) (a b : Market) → Coherent a → IsAlike s a b → (m time : ℕ) (x : Option Inbound) → message_bears s m x ≡ false
    → AreQuietChains s (receive setup a m time x).market → IsSame s see (receive setup a m time x) (receive setup b m time x)
same_act s see blind setup a b coherent r m time None h q = record { market = r; seen = refl }
same_act s see blind setup a b coherent r m time (Some (Enter e)) h q = same_enter s see blind setup a b coherent r m time e h q
same_act s see blind setup a b coherent r m time (Some (Replace p)) h q = let hs = or_parts _ _ h in same_replace s see blind setup a b coherent r m time p hs.0 hs.1 q
same_act s see blind setup a b coherent r m time (Some (Cancel c)) h q = same_cancel s see a b coherent r m time c h q

pub same_happens : (s : Choice) (see : ℕ → Bool) → IsUnknownTo see s → (setup : Setup) (a b : Market) → Coherent a → IsAlike s a b → AreQuietChains s a → (event : Event) → bears s event ≡ false
    → AreQuietChains s (happens setup a event).market → IsSame s see (happens setup a event) (happens setup b event)
same_happens s see blind setup a b coherent r quiet (Message m time bytes) h q = same_act s see blind setup a b coherent r m time (inbound_of bytes) h q
same_happens s see blind setup a b coherent r quiet (Tick time) h q = same_end s see blind a b coherent r quiet (λ x. is_over time x.life) (λ x. refl) time silent
same_happens s see blind setup a b coherent r quiet (Hours time code) h q = same_hours s see blind setup a b coherent r quiet time code
same_happens s see blind setup a b coherent r quiet (Halt time stock state reason) h q = same_halt s see setup a b r time stock state reason
same_happens s see blind setup a b coherent r quiet (Break time number) h q = same_break s see a b r time number
