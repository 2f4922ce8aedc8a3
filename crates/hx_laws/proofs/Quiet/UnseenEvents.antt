-- An event that bears a chosen token is not seen, and leaves what is retained.
use Rattle.std.proofs.Common.{◌≡◌, ℕ, ◌-◌, Bool, true, false, cond, refl, ap, sym, ◌∙◌, ltb, ◌||◌, ◌&&◌, not, List, [], ◌∷◌, Some, None, Option, length, map}
use Rattle.std.specs.List.{find}
use Rattle.hx_units.specs.declared.names.Symbol.{Symbol}
use Rattle.hx_match.specs.Matching.{matched, with_shares}
use Rattle.hx_members.specs.Setups.{Setup, symbol_of}
use Rattle.hx_members.specs.Chains.{is_used, entered_used}
use Rattle.hx_ouch.specs.declared.inbound.Inbound.{Inbound}
use Rattle.hx_ouch.specs.declared.inbound.Inbound.TheVariants.{Enter, Replace, Cancel}
use Rattle.hx_ouch.specs.declared.inbound.Enter.{Enter as NewOrder}
use Rattle.hx_ouch.specs.declared.inbound.Replace.{Replace as Change}
use Rattle.hx_ouch.specs.declared.inbound.Cancel.{Cancel as Less}
use Rattle.hx_itch.specs.declared.message.Feed.{Feed}
use Rattle.hx_ouch.specs.declared.outbound.Outbound.TheVariants.{Canceled}
use Rattle.hx_ouch.specs.Inbound.{inbound_of}
use Rattle.hx_rules.specs.declared.event.Event.{Event}
use Rattle.hx_rules.specs.declared.event.Event.TheVariants.{Message, Tick, Hours, Halt, Break}
use Rattle.hx_rules.specs.Orders.{Order, Token, is_called, is_shown, is_immediate}
use Rattle.hx_rules.specs.Markets.{Market}
use Rattle.hx_rules.specs.Outputs.{EventOutput, Outcome}
use Rattle.hx_rules.specs.Executions.{incoming_of, published, shown_of, arrive, arrival_feed}
use Rattle.hx_rules.specs.Enter.{consumed, next_reference, drawn, entered_order, accept, reject, rejection, entered_by, enter}
use Rattle.hx_rules.specs.Removal.{taken_off}
use Rattle.hx_rules.specs.Replace.{handed_over, executed_of, is_order_halted, replace_fails, fail_replace, succeed, replaced_by, replace}
use Rattle.hx_rules.specs.Cancel.{take_off, cancelled_by, cancel}
use Rattle.hx_rules.specs.Steps.{receive, happens}
use Rattle.hx_laws.specs.QuietChains.{Choice, message_bears, bears, reply_lines, lines_of}
use Rattle.hx_laws.specs.Laws.{AreOneChain, AreQuietChains, IsUnknownTo}
use Rattle.hx_laws.proofs.Quiet.QuietBefore.{not_both}
use Rattle.hx_laws.proofs.Quiet.OneChain.{joined_one}
use Rattle.hx_laws.proofs.History.CoherentMarkets.{IsKnown}
use Rattle.hx_laws.proofs.History.CoherentSteps.{Coherent, Moves, Moves_refl, Moves_trans, used_last, joining, consumed_moves, handed_over_moves, drawn_moves, found_of}
use Rattle.hx_laws.proofs.History.EventMoves.{replacement_of, after_joined, called_used, replace_moves, cancel_moves}
use Rattle.hx_laws.proofs.History.Rejections.{shown_not_immediate, accepted_shares, replaced_shares}
use Rattle.hx_laws.proofs.Quiet.Alike.{IsAlike, struck_consumed, struck_handed_over, struck_drawn, struck_lessened}
use Rattle.hx_laws.proofs.Quiet.QuietArrivals.{quiet_earlier, ArrivesQuietly, arrives_quietly, struck_arrive}
use Rattle.hx_laws.proofs.Quiet.SeenLines.{unseen_first}

-- an outcome of which nothing is seen, and that leaves what is retained
pub record IsUnseen (s : Choice) (see : ℕ → Bool) (a : Outcome) (b : Market) : Type 0 where
  pub market : IsAlike s a.market b
  pub seen : lines_of see a.output ≡ []

not_seen : (s : Choice) (see : ℕ → Bool) → IsUnknownTo see s → (m : ℕ) (t : Token) → s m t ≡ true → see m ≡ false
not_seen s see blind m t h = choose (see m) refl
  where
    choose : (b : Bool) → see m ≡ b → see m ≡ false
    choose true e = not_both _ h (blind m e t)
    choose false e = e

nothing_output : (see : ℕ → Bool) (o : EventOutput) → o.feed ≡ [] → reply_lines see o.replies ≡ [] → lines_of see o ≡ []
nothing_output see o e h = rw (e, h) refl

-- An order that arrives quietly has output for its member alone.

quiet_feed : (time : ℕ) (stock : Symbol) (n : ℕ) (x : Order) (a : Market) (immediate : Bool) → ArrivesQuietly x a
    → arrival_feed time stock n (arrive time immediate x a).executions (arrive time immediate x a).resting ≡ []
quiet_feed time stock n x a immediate q = rw q.executions (choose (ltb 0 left && not immediate))
  where
    left : ℕ
    left = (matched (incoming_of x) x.shares a.live).left

    choose : (b : Bool) → map (published time stock) (shown_of (cond b (with_shares x left ∷ []) [])) ≡ []
    choose true = rw q.hidden refl
    choose false = refl

quiet_replies : (see : ℕ → Bool) (time : ℕ) (x : Order) (a : Market) (immediate : Bool) → ArrivesQuietly x a → see x.member ≡ false → reply_lines see (arrive time immediate x a).replies ≡ []
quiet_replies see time x a immediate q e = rw q.executions (choose (ltb 0 left && immediate))
  where
    left : ℕ
    left = (matched (incoming_of x) x.shares a.live).left

    choose : (b : Bool) → reply_lines see (cond b ((x.member, Canceled (record { time = time; token = x.token; shares = left; reason = 73 })) ∷ []) []) ≡ []
    choose true = rw e refl
    choose false = refl

hidden_drawn : (s : Choice) (a b : Market) (m : ℕ) (t : Token) → s m t ≡ true → (d : Bool) → d ≡ false → IsAlike s a b → IsAlike s (drawn a m d) b
hidden_drawn s a b m t struck true h r = absurd (let z : true ≡ false = h in cc)
hidden_drawn s a b m t struck false h r = struck_drawn s a b r m t struck

-- An order with a chosen token is entered.

unseen_accept : (s : Choice) (see : ℕ → Bool) → IsUnknownTo see s → (setup : Setup) (a b : Market) → Coherent a → IsAlike s a b → (m time : ℕ) (e : NewOrder)
    → is_used a.tokens m e.token ≡ false → s m e.token ≡ true → ltb 0 e.shares ≡ true → AreQuietChains s (accept setup a m time e).market → IsUnseen s see (accept setup a m time e) b
unseen_accept s see blind setup a b coherent r m time e unused struck some q =
    record {
      market = struck_arrive s a_drawn b (hidden_drawn s (consumed a m e.token) b m e.token struck d quietly.hidden (struck_consumed s a b r m e.token struck)) time now x struck quietly;
      seen = nothing_output see (accept setup a m time e).output (quiet_feed time e.stock a.numbers.matches x a_drawn now quietly)
          (unseen_first see m _ _ unseen (quiet_replies see time x a_drawn now quietly unseen));
    }
  where
    d : Bool
    d = is_shown e.display e.time_in_force

    now : Bool
    now = is_immediate e.time_in_force

    x : Order
    x = entered_order setup (length a.tokens) (next_reference a.numbers m d) m time e

    a_drawn : Market
    a_drawn = drawn (consumed a m e.token) m d

    unseen : see m ≡ false
    unseen = not_seen s see blind m e.token struck

    moves : Moves a a_drawn
    moves = Moves_trans _ _ _ (consumed_moves a m e.token unused) (drawn_moves (consumed a m e.token) m d)

    quietly : ArrivesQuietly x a_drawn
    quietly = arrives_quietly s time now x a_drawn (moves.coherent coherent) (used_last a.tokens (entered_used m e.token)) struck (shown_not_immediate e.display e.time_in_force) some q

unseen_enter : (s : Choice) (see : ℕ → Bool) → IsUnknownTo see s → (setup : Setup) (a b : Market) → Coherent a → IsAlike s a b → (m time : ℕ) (e : NewOrder) → s m e.token ≡ true
    → AreQuietChains s (enter setup a m time e).market → IsUnseen s see (enter setup a m time e) b
unseen_enter s see blind setup a b coherent r m time e struck = choose (is_used a.tokens m e.token) refl (rejection setup a.phase a.halted e) refl
  where
    choose : (u : Bool) → is_used a.tokens m e.token ≡ u → (o : Option ℕ) → rejection setup a.phase a.halted e ≡ o → AreQuietChains s (entered_by setup a m time e u o).market
        → IsUnseen s see (entered_by setup a m time e u o) b
    choose true h o f q = record { market = r; seen = refl }
    choose false h (Some letter) f q =
        record {
          market = struck_consumed s a b r m e.token struck;
          seen = nothing_output see (reject a m time e.token letter).output refl (unseen_first see m _ [] (not_seen s see blind m e.token struck) refl);
        }
    choose false h None f q = unseen_accept s see blind setup a b coherent r m time e h struck (accepted_shares setup a.phase a.halted e f) q

-- a hidden order loses shares unseen
nothing_off : (time by : ℕ) (x : Order) → x.shown ≡ false → taken_off time by x ≡ []
nothing_off time by x e = rw e (choose (ltb by x.shares))
  where
    none : List Feed
    none = []

    choose : (b : Bool) → cond b none none ≡ none
    choose true = refl
    choose false = refl

-- An order with a chosen token is replaced. A replace with an effect puts both its tokens into one chain.

both_alike : (s : Choice) (c : Market) (m : ℕ) (e t : Token) → AreOneChain c m e t → AreQuietChains s c → s m e ≡ s m t
both_alike s c m e t o q = q.whole m e o.first ∙ ap (s m) o.same ∙ sym (q.whole m t o.second)

both_struck : (b c : Bool) → b ≡ c → (b || c) ≡ true → (b ≡ true) × (c ≡ true)
both_struck true c e h = (refl, sym e)
both_struck false c e h = (e ∙ h, h)

-- a live order with a chosen token is hidden
hidden_found : (s : Choice) (a : Market) → Coherent a → AreQuietChains s a → (m : ℕ) (t : Token) (x : Order) → find (is_called m t) a.live ≡ Some x → s m t ≡ true → x.shown ≡ false
hidden_found s a coherent q m t x f h = choose x.shown refl
  where
    known : IsKnown a.tokens a.chains x
    known = (found_of (IsKnown a.tokens a.chains) m t a.live x coherent.known f).0

    struck : s x.member x.token ≡ true
    struck = let g = (found_of (IsKnown a.tokens a.chains) m t a.live x coherent.known f).1 in rw (g.0, g.1) h

    choose : (b : Bool) → x.shown ≡ b → x.shown ≡ false
    choose true e = not_both _ (known.shown e) (q.quiet x.member x.token known.used struck)
    choose false e = e

unseen_fail : (s : Choice) (see : ℕ → Bool) → IsUnknownTo see s → (a b : Market) → IsAlike s a b → (m time : ℕ) (e t : Token) (x : Order) → s m e ≡ true → s m t ≡ true → x.shown ≡ false
    → IsUnseen s see (fail_replace a m time e t x) b
unseen_fail s see blind a b r m time e t x g h hidden =
    record {
      market = struck_handed_over s a b r m e t g h;
      seen = nothing_output see (fail_replace a m time e t x).output (rw hidden refl) (unseen_first see m _ [] (not_seen s see blind m e g) refl);
    }

unseen_succeed : (s : Choice) (see : ℕ → Bool) → IsUnknownTo see s → (setup : Setup) (a b : Market) → Coherent a → IsAlike s a b → (m time : ℕ) (q : Change) (old : Order)
    → s m q.existing_token ≡ true → s m q.replacement_token ≡ true → old.shown ≡ false → old.member ≡ m → is_used a.tokens m q.existing_token ≡ true
    → ltb 0 (q.shares - executed_of a m q.existing_token) ≡ true → AreQuietChains s (succeed setup a m time q old).market → IsUnseen s see (succeed setup a m time q old) b
unseen_succeed s see blind setup a b coherent r m time q old g h hidden own used some quiet =
    record {
      market = struck_arrive s a_drawn b (hidden_drawn s over b m q.existing_token g d quietly.hidden (struck_handed_over s a b r m q.existing_token q.replacement_token g h)) time now x struck quietly;
      seen = nothing_output see (succeed setup a m time q old).output (rw hidden (quiet_feed time (symbol_of setup old.locate) a.numbers.matches x a_drawn now quietly))
          (unseen_first see m _ _ unseen (quiet_replies see time x a_drawn now quietly (rw own unseen)));
    }
  where
    d : Bool
    d = is_shown q.display q.time_in_force

    now : Bool
    now = is_immediate q.time_in_force

    x : Order
    x = replacement_of a m time q old

    over : Market
    over = handed_over a m q.existing_token q.replacement_token

    a_drawn : Market
    a_drawn = drawn over m d

    unseen : see m ≡ false
    unseen = not_seen s see blind m q.existing_token g

    struck : s x.member x.token ≡ true
    struck = rw own h

    moves : Moves a a_drawn
    moves = Moves_trans _ _ _ (handed_over_moves a m q.existing_token q.replacement_token used) (drawn_moves over m d)

    quietly : ArrivesQuietly x a_drawn
    quietly =
        arrives_quietly s time now x a_drawn (moves.coherent coherent) (rw own (used_last a.tokens (joining a m q.existing_token q.replacement_token))) struck
        (shown_not_immediate q.display q.time_in_force) some quiet

unseen_replace : (s : Choice) (see : ℕ → Bool) → IsUnknownTo see s → (setup : Setup) (a b : Market) → Coherent a → IsAlike s a b → (m time : ℕ) (q : Change)
    → (s m q.existing_token || s m q.replacement_token) ≡ true → AreQuietChains s (replace setup a m time q).market → IsUnseen s see (replace setup a m time q) b
unseen_replace s see blind setup a b coherent r m time q struck quiet =
    choose (find (is_called m q.existing_token) a.live) refl (is_used a.tokens m q.replacement_token) refl
    (is_order_halted a.halted (find (is_called m q.existing_token) a.live)) (replace_fails a.phase (executed_of a m q.existing_token) q) refl quiet
  where
    at : AreQuietChains s a
    at = quiet_earlier s a _ (replace_moves setup a m time q coherent).grows quiet

    both : (x : Order) → find (is_called m q.existing_token) a.live ≡ Some x → is_used a.tokens m q.replacement_token ≡ false → (c : Market)
        → Moves (handed_over a m q.existing_token q.replacement_token) c → AreQuietChains s c → (s m q.existing_token ≡ true) × (s m q.replacement_token ≡ true)
    both x e h c moves k =
        both_struck _ _ (both_alike s c m _ _ (joined_one a c m q.existing_token q.replacement_token (called_used a m q.existing_token x coherent e) h moves) k) struck

    choose : (o : Option Order) → find (is_called m q.existing_token) a.live ≡ o → (u : Bool) → is_used a.tokens m q.replacement_token ≡ u
        → (d f : Bool) → replace_fails a.phase (executed_of a m q.existing_token) q ≡ f → AreQuietChains s (replaced_by setup a m time q o u d f).market → IsUnseen s see (replaced_by setup a m time q o u d f) b
    choose None e u h d f g c = record { market = r; seen = refl }
    choose (Some x) e true h d f g c = record { market = r; seen = refl }
    choose (Some x) e false h true f g c = record { market = r; seen = refl }
    choose (Some x) e false h false true g c =
        let k = both x e h (fail_replace a m time q.existing_token q.replacement_token x).market (Moves_refl _) c in
        unseen_fail s see blind a b r m time q.existing_token q.replacement_token x k.0 k.1 (hidden_found s a coherent at m q.existing_token x e k.0)
    choose (Some x) e false h false false g c =
        let own = (found_of (IsKnown a.tokens a.chains) m q.existing_token a.live x coherent.known e).1.0 in
        let k = both x e h (succeed setup a m time q x).market (after_joined a m time (symbol_of setup x.locate) q x (replacement_of a m time q x) own refl) c in
        unseen_succeed s see blind setup a b coherent r m time q x k.0 k.1 (hidden_found s a coherent at m q.existing_token x e k.0) own (called_used a m q.existing_token x coherent e)
        (replaced_shares a.phase (executed_of a m q.existing_token) q g) c

unseen_cancel : (s : Choice) (see : ℕ → Bool) → IsUnknownTo see s → (a b : Market) → Coherent a → IsAlike s a b → (m time : ℕ) (c : Less) → s m c.token ≡ true
    → AreQuietChains s (cancel a m time c).market → IsUnseen s see (cancel a m time c) b
unseen_cancel s see blind a b coherent r m time c struck quiet = choose _ (find (is_called m c.token) a.live) refl
  where
    at : AreQuietChains s a
    at = quiet_earlier s a _ (cancel_moves a m time c).grows quiet

    by : (x : Order) → x.shown ≡ false → (n : ℕ) → IsUnseen s see (take_off a m time c.token n x) b
    by x e n =
        record {
          market = struck_lessened s a b r m c.token n struck;
          seen = nothing_output see (take_off a m time c.token n x).output (nothing_off time n x e) (unseen_first see m _ [] (not_seen s see blind m c.token struck) refl);
        }

    choose : (idle : Bool) (o : Option Order) → find (is_called m c.token) a.live ≡ o → IsUnseen s see (cancelled_by a m time c idle o) b
    choose true o e = record { market = r; seen = refl }
    choose false None e = record { market = r; seen = refl }
    choose false (Some x) e = by x (hidden_found s a coherent at m c.token x e struck) _

-- Every event.

unseen_act : (s : Choice) (see : ℕ → Bool) → IsUnknownTo see s → (setup : Setup) (a b : Market) → Coherent a → IsAlike s a b → (m time : ℕ) (x : Option Inbound) → message_bears s m x ≡ true
    → AreQuietChains s (receive setup a m time x).market → IsUnseen s see (receive setup a m time x) b
unseen_act s see blind setup a b coherent r m time None h q = absurd (let z : false ≡ true = h in cc)
unseen_act s see blind setup a b coherent r m time (Some (Enter e)) h q = unseen_enter s see blind setup a b coherent r m time e h q
unseen_act s see blind setup a b coherent r m time (Some (Replace p)) h q = unseen_replace s see blind setup a b coherent r m time p h q
unseen_act s see blind setup a b coherent r m time (Some (Cancel c)) h q = unseen_cancel s see blind a b coherent r m time c h q

pub unseen_happens : (s : Choice) (see : ℕ → Bool) → IsUnknownTo see s → (setup : Setup) (a b : Market) → Coherent a → IsAlike s a b → (event : Event) → bears s event ≡ true
    → AreQuietChains s (happens setup a event).market → IsUnseen s see (happens setup a event) b
unseen_happens s see blind setup a b coherent r (Message m time bytes) h q = unseen_act s see blind setup a b coherent r m time (inbound_of bytes) h q
unseen_happens s see blind setup a b coherent r (Tick time) h q = absurd (let z : false ≡ true = h in cc)
unseen_happens s see blind setup a b coherent r (Hours time code) h q = absurd (let z : false ≡ true = h in cc)
unseen_happens s see blind setup a b coherent r (Halt time stock state reason) h q = absurd (let z : false ≡ true = h in cc)
unseen_happens s see blind setup a b coherent r (Break time number) h q = absurd (let z : false ≡ true = h in cc)
