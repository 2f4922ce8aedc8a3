-- A message with an effect bears tokens of one chain only.
use Rattle.std.proofs.Common.{◌≡◌, ℕ, Bool, true, false, refl, ap, sym, ◌∙◌, ◌||◌, [], ◌∷◌, ◌++◌, Some, None, Option, ◌⊎◌, inl, inr, eqb-true}
use Rattle.std.specs.Prelude.{◌==◌}
use Rattle.std.specs.List.{find}
use Rattle.std.proofs.lemmas.Bool.{and_parts, or_cases, or_left}
use Rattle.hx_units.specs.Names.{is_token}
use Rattle.hx_members.specs.Setups.{Setup, symbol_of}
use Rattle.hx_members.specs.Chains.{Used, is_used, entered_of, entered_used}
use Rattle.hx_members.proofs.ChainLaws.{same_token, is_used-pushed, entered_of-pushed, entered_of-new}
use Rattle.hx_ouch.specs.declared.inbound.Inbound.{Inbound}
use Rattle.hx_ouch.specs.declared.inbound.Inbound.TheVariants.{Enter, Replace, Cancel}
use Rattle.hx_ouch.specs.declared.inbound.Replace.{Replace as Change}
use Rattle.hx_ouch.specs.Inbound.{inbound_of}
use Rattle.hx_rules.specs.declared.event.Event.TheVariants.{Message, Tick, Hours, Halt, Break}
use Rattle.hx_rules.specs.Orders.{Order, Token, is_called}
use Rattle.hx_rules.specs.Markets.{Market}
use Rattle.hx_rules.specs.Outputs.{Outcome, nothing}
use Rattle.hx_rules.specs.Enter.{consumed, rejection, reject, accept, entered_by}
use Rattle.hx_rules.specs.Replace.{handed_over, executed_of, is_order_halted, replace_fails, fail_replace, succeed, replaced_by}
use Rattle.hx_rules.specs.Cancel.{cancelled_by}
use Rattle.hx_rules.specs.Steps.{receive, with_record, step, run}
use Rattle.hx_laws.specs.QuietChains.{message_bears}
use Rattle.hx_laws.specs.Laws.{only, AreOneChain, OneChain}
use Rattle.hx_laws.proofs.History.CoherentMarkets.{IsKnown}
use Rattle.hx_laws.proofs.History.CoherentSteps.{Coherent, Moves, Moves_refl, record_moves, used_last, joining, found_of}
use Rattle.hx_laws.proofs.History.EventMoves.{after_consumed, after_joined, replacement_of, called_used, cancel_moves, coherent_run}

-- after a token joins the chain of another, both stay in one chain
pub joined_one : (a c : Market) (m : ℕ) (e t : Token) → is_used a.tokens m e ≡ true → is_used a.tokens m t ≡ false → Moves (handed_over a m e t) c → AreOneChain c m e t
joined_one a c m e t u n moves =
    let v : Used = joining a m e t in
    let first : is_used (a.tokens ++ v ∷ []) m e ≡ true = is_used-pushed a.tokens v m e ∙ or_left _ _ u in
    let second : is_used (a.tokens ++ v ∷ []) m t ≡ true = used_last a.tokens v in
    record {
      first = moves.grows.used m e first;
      second = moves.grows.used m t second;
      same = moves.grows.entered m e first ∙ entered_of-pushed a.tokens v m e u ∙ sym (moves.grows.entered m t second ∙ entered_of-new a.tokens v n);
    }

-- every token that the message bears is used, in the chain of r
record HasRoot (c : Market) (m : ℕ) (x : Option Inbound) (r : Token) : Type 0 where
  each : (t : Token) → message_bears (only m t) m x ≡ true → (is_used c.tokens m t ≡ true) × (entered_of c.tokens m t ≡ r)

only_same : (m : ℕ) (t u : Token) → only m t m u ≡ true → u ≡ t
only_same m t u h = same_token u t (and_parts (m == m) (is_token u t) h).1

-- an outcome either has a chain for its message or is nothing
record IsOfOne (a : Market) (m : ℕ) (x : Option Inbound) (o : Outcome) : Type 0 where
  root : (o ≡ nothing a → ⊥) → (r : Token) × HasRoot o.market m x r

idle : (a : Market) (m : ℕ) (x : Option Inbound) → IsOfOne a m x (nothing a)
idle a m x = record { root = λ h. absurd (h refl) }

of_token : (a : Market) (m : ℕ) (x : Option Inbound) (o : Outcome) (v : Token) → is_used o.market.tokens m v ≡ true → ((t : Token) → message_bears (only m t) m x ≡ true → v ≡ t) → IsOfOne a m x o
of_token a m x o v u h = record { root = λ _. (entered_of o.market.tokens m v, record { each = λ t b. (rw (← h t b) u, rw (← h t b) refl) }) }

of_both : (a : Market) (m : ℕ) (q : Change) (o : Outcome) → AreOneChain o.market m q.existing_token q.replacement_token → IsOfOne a m (Some (Replace q)) o
of_both a m q o c = record { root = λ _. (entered_of o.market.tokens m q.existing_token, record { each = each }) }
  where
    each : (t : Token) → (only m t m q.existing_token || only m t m q.replacement_token) ≡ true → (is_used o.market.tokens m t ≡ true) × (entered_of o.market.tokens m t ≡ entered_of o.market.tokens m q.existing_token)
    each t b = choose (or_cases (only m t m q.existing_token) (only m t m q.replacement_token) b)
      where
        choose : (only m t m q.existing_token ≡ true) ⊎ (only m t m q.replacement_token ≡ true) → (is_used o.market.tokens m t ≡ true) × (entered_of o.market.tokens m t ≡ entered_of o.market.tokens m q.existing_token)
        choose (inl h) = (rw (← only_same m t q.existing_token h) c.first, rw (← only_same m t q.existing_token h) refl)
        choose (inr h) = (rw (← only_same m t q.replacement_token h) c.second, rw (← only_same m t q.replacement_token h) (sym c.same))

act_of : (setup : Setup) (a : Market) → Coherent a → (m time : ℕ) (x : Option Inbound) → IsOfOne a m x (receive setup a m time x)
act_of setup a coherent m time None = idle a m None
act_of setup a coherent m time (Some (Enter e)) = choose (is_used a.tokens m e.token) (rejection setup a.phase a.halted e)
  where
    used : (o : Outcome) → Moves (consumed a m e.token) o.market → is_used o.market.tokens m e.token ≡ true
    used o moves = moves.grows.used m e.token (used_last a.tokens (entered_used m e.token))

    choose : (u : Bool) → (o : Option ℕ) → IsOfOne a m (Some (Enter e)) (entered_by setup a m time e u o)
    choose true o = idle a m (Some (Enter e))
    choose false (Some letter) = of_token a m _ (reject a m time e.token letter) e.token (used (reject a m time e.token letter) (Moves_refl _)) (λ t b. only_same m t e.token b)
    choose false None = of_token a m _ (accept setup a m time e) e.token (used (accept setup a m time e) (after_consumed a time e _)) (λ t b. only_same m t e.token b)
act_of setup a coherent m time (Some (Replace q)) =
    choose (find (is_called m q.existing_token) a.live) refl (is_used a.tokens m q.replacement_token) refl
    (is_order_halted a.halted (find (is_called m q.existing_token) a.live)) (replace_fails a.phase (executed_of a m q.existing_token) q)
  where
    joined : (x : Order) → find (is_called m q.existing_token) a.live ≡ Some x → is_used a.tokens m q.replacement_token ≡ false
        → (o : Outcome) → Moves (handed_over a m q.existing_token q.replacement_token) o.market → IsOfOne a m (Some (Replace q)) o
    joined x e h o moves = of_both a m q o (joined_one a o.market m q.existing_token q.replacement_token (called_used a m q.existing_token x coherent e) h moves)

    choose : (o : Option Order) → find (is_called m q.existing_token) a.live ≡ o → (u : Bool) → is_used a.tokens m q.replacement_token ≡ u → (d f : Bool)
        → IsOfOne a m (Some (Replace q)) (replaced_by setup a m time q o u d f)
    choose None e u h d f = idle a m (Some (Replace q))
    choose (Some x) e true h d f = idle a m (Some (Replace q))
    choose (Some x) e false h true f = idle a m (Some (Replace q))
    choose (Some x) e false h false true = joined x e h (fail_replace a m time q.existing_token q.replacement_token x) (Moves_refl _)
    choose (Some x) e false h false false =
        joined x e h (succeed setup a m time q x)
        (after_joined a m time (symbol_of setup x.locate) q x (replacement_of a m time q x) (found_of (IsKnown a.tokens a.chains) m q.existing_token a.live x coherent.known e).1.0 refl)
act_of setup a coherent m time (Some (Cancel c)) = choose _ (find (is_called m c.token) a.live) refl (cancel_moves a m time c)
  where
    choose : (i : Bool) (o : Option Order) → find (is_called m c.token) a.live ≡ o → Moves a (cancelled_by a m time c i o).market → IsOfOne a m (Some (Cancel c)) (cancelled_by a m time c i o)
    choose true o e g = idle a m (Some (Cancel c))
    choose false None e g = idle a m (Some (Cancel c))
    choose false (Some x) e g =
        of_token a m (Some (Cancel c)) (cancelled_by a m time c false (Some x)) c.token (g.grows.used m c.token (called_used a m c.token x coherent e)) (λ t b. only_same m t c.token b)

-- the token is that of the member that sent the message
own_token : (m p : ℕ) (t : Token) (x : Option Inbound) → message_bears (only p t) m x ≡ true → m ≡ p
own_token m p t None h = absurd (let z : false ≡ true = h in cc)
own_token m p t (Some (Enter e)) h = eqb-true m p (and_parts (m == p) (is_token e.token t) h).0
own_token m p t (Some (Cancel c)) h = eqb-true m p (and_parts (m == p) (is_token c.token t) h).0
own_token m p t (Some (Replace q)) h = choose (or_cases (only p t m q.existing_token) (only p t m q.replacement_token) h)
  where
    choose : (only p t m q.existing_token ≡ true) ⊎ (only p t m q.replacement_token ≡ true) → m ≡ p
    choose (inl h) = eqb-true m p (and_parts (m == p) (is_token q.existing_token t) h).0
    choose (inr h) = eqb-true m p (and_parts (m == p) (is_token q.replacement_token t) h).0

pub one_chain : OneChain
unfolding step
one_chain setup events (Message m time bytes) p t u ht hu effect =
    let a = run setup events in
    let b = with_record (Message m time bytes) a in
    let own : m ≡ p = own_token m p t (inbound_of bytes) ht in
    let o = (act_of setup b ((record_moves a (Message m time bytes)).coherent (coherent_run setup events)) m time (inbound_of bytes)).root effect in
    let ft = o.1.each t (ap (λ k. message_bears (only k t) m (inbound_of bytes)) own ∙ ht) in
    let fu = o.1.each u (ap (λ k. message_bears (only k u) m (inbound_of bytes)) own ∙ hu) in
    rw (← own) (record { first = ft.0; second = fu.0; same = ft.1 ∙ sym fu.1 })
one_chain setup events (Tick time) p t u ht hu effect = absurd (let z : false ≡ true = ht in cc)
one_chain setup events (Hours time code) p t u ht hu effect = absurd (let z : false ≡ true = ht in cc)
one_chain setup events (Halt time stock state reason) p t u ht hu effect = absurd (let z : false ≡ true = ht in cc)
one_chain setup events (Break time number) p t u ht hu effect = absurd (let z : false ≡ true = ht in cc)
