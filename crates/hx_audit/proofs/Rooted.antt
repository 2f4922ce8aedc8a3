-- Each used token's chain is named by a used token that is its own.
use Rattle.std.proofs.Common.{◌≡◌, ℕ, Bool, true, false, cond, eqb, refl, sym, ap, ◌∙◌, subst, List, [], ◌∷◌, ◌++◌, map, append-nil, Option, Some, None}
use Rattle.std.specs.List.{filter, find, AllByRecursion}
use Rattle.std.proofs.lemmas.Bool.{or_left}
use Rattle.std.proofs.lemmas.Bool.Decides.{Decides-eqb}
use Rattle.hx_units.specs.declared.names.Token.{Token}
use Rattle.hx_book.proofs.Lists.{all_weaker, all_filtered}
use Rattle.hx_match.proofs.First.{all_append}
use Rattle.hx_members.specs.Setups.{Setup}
use Rattle.hx_members.specs.Chains.{Used, is_used, entered_of, entered_used, replacing_used}
use Rattle.hx_members.specs.Tokens.{facts_of}
use Rattle.hx_members.proofs.ChainLaws.{is_used-pushed, entered_of-pushed, entered_of-new}
use Rattle.hx_ouch.specs.declared.inbound.Inbound.{Inbound}
use Rattle.hx_ouch.specs.declared.inbound.Inbound.TheVariants.{Enter, Replace, Cancel}
use Rattle.hx_ouch.specs.Inbound.{inbound_of}
use Rattle.hx_rules.specs.declared.event.Event.{Event}
use Rattle.hx_rules.specs.declared.event.Event.TheVariants.{Message, Tick, Hours, Halt, Break}
use Rattle.hx_market.specs.Orders.{Order, is_called}
use Rattle.hx_market.specs.Markets.{Market, opening}
use Rattle.hx_market.specs.MarketModel.{chain_facts}
use Rattle.hx_market.specs.Steps.{step, market_after, run}
use Rattle.hx_laws.proofs.History.CoherentSteps.{Coherent, used_last}
use Rattle.hx_laws.proofs.History.EventMoves.{called_used, step_moves, coherent_opening}
use Rattle.hx_market.specs.Replace.{is_order_halted}
use Rattle.hx_audit.specs.Listing.{Use, use_of, uses_of, tokens_in, each_once, grouped}
use Rattle.hx_audit.specs.Finding.{AreOutput}
use Rattle.hx_audit.proofs.Goes.{joined_if, message_uses, event_uses, step_goes}

record IsRooted (ts : List Used) (u : Used) : Type 0 where
  used : is_used ts u.member u.entered ≡ true
  own : entered_of ts u.member u.entered ≡ u.entered

abbrev AreRooted : List Used → Type 0
AreRooted ts = AllByRecursion (IsRooted ts) ts

rooted_more : (ts : List Used) (v u : Used) → IsRooted ts u → IsRooted (ts ++ v ∷ []) u
rooted_more ts v u r =
    record { used = is_used-pushed ts v u.member u.entered ∙ or_left _ _ r.used; own = entered_of-pushed ts v u.member u.entered r.used ∙ r.own }

rooted_push : (ts : List Used) (v : Used) → IsRooted (ts ++ v ∷ []) v → AreRooted ts → AreRooted (ts ++ v ∷ [])
rooted_push ts v new r = all_append (IsRooted (ts ++ v ∷ [])) ts (v ∷ []) (all_weaker (IsRooted ts) (IsRooted (ts ++ v ∷ [])) (rooted_more ts v) ts r) (new, tt)

rooted_same : (ts : List Used) → AreRooted ts → AreRooted (ts ++ [])
rooted_same ts r = subst AreRooted (sym (append-nil ts)) r

rooted_message : (a : Market) (m : ℕ) (x : Option Inbound) → Coherent a → AreRooted a.tokens → AreRooted (a.tokens ++ message_uses a m x)
rooted_message a m None coherent r = rooted_same a.tokens r
rooted_message a m (Some (Cancel c)) coherent r = rooted_same a.tokens r
rooted_message a m (Some (Enter e)) coherent r = at (is_used a.tokens m e.token) refl
  where
    at : (b : Bool) → is_used a.tokens m e.token ≡ b → AreRooted (a.tokens ++ cond b [] (entered_used m e.token ∷ []))
    at true h = rooted_same a.tokens r
    at false h =
        let v : Used = entered_used m e.token in
        rooted_push a.tokens v (record { used = used_last a.tokens v; own = entered_of-new a.tokens v h }) r
rooted_message a m (Some (Replace q)) coherent r =
    at (find (is_called m q.existing_token) a.live) refl (is_used a.tokens m q.replacement_token) (is_order_halted a.halted (find (is_called m q.existing_token) a.live))
  where
    at : (o : Option Order) → find (is_called m q.existing_token) a.live ≡ o → (b d : Bool) → AreRooted (a.tokens ++ joined_if a m q o b d)
    at None f b d = rooted_same a.tokens r
    at (Some x) f true d = rooted_same a.tokens r
    at (Some x) f false true = rooted_same a.tokens r
    at (Some x) f false false =
        let e : Token = entered_of a.tokens m q.existing_token in
        let v : Used = replacing_used m q.replacement_token e in
        let used = called_used a m q.existing_token x coherent f in
        let root : IsRooted a.tokens v = record { used = coherent.root_used m q.existing_token used; own = coherent.root m q.existing_token used } in
        rooted_push a.tokens v (rooted_more a.tokens v v root) r

rooted_event : (a : Market) (event : Event) → Coherent a → AreRooted a.tokens → AreRooted (a.tokens ++ event_uses a event)
rooted_event a (Message m time bytes) coherent r = rooted_message a m (inbound_of bytes) coherent r
rooted_event a (Tick time) coherent r = rooted_same a.tokens r
rooted_event a (Hours time code) coherent r = rooted_same a.tokens r
rooted_event a (Halt time stock state reason) coherent r = rooted_same a.tokens r
rooted_event a (Break time number) coherent r = rooted_same a.tokens r

rooted_after : (setup : Setup) (a : Market) (events : List Event) → Coherent a → AreRooted a.tokens → AreRooted (market_after setup a events).tokens
unfolding market_after
rooted_after setup a [] coherent r = r
rooted_after setup a (event ∷ events) coherent r =
    rooted_after setup (step setup a event).market events ((step_moves setup a event coherent).coherent coherent)
    (subst AreRooted (sym (step_goes setup a event).tokens) (rooted_event a event coherent r))

rooted_run : (setup : Setup) (events : List Event) → AreRooted (run setup events).tokens
unfolding run opening
rooted_run setup events = rooted_after setup (opening setup) events (coherent_opening setup) tt

-- What is asked of the listed chains is there.

all_once : (P : Token → Type 0) (ns : List Token) → AllByRecursion P ns → AllByRecursion P (each_once ns)
all_once P [] h = tt
all_once P (x ∷ ns) h = (h.0, all_filtered P _ (each_once ns) (all_once P ns h.1))

all_groups : (P : Token → Type 0) (us : List Use) (ns : List Token) → AllByRecursion P ns → AllByRecursion (λ (g : Token × List Token). P g.0) (map (λ x. (x, tokens_in us x)) ns)
all_groups P us [] h = tt
all_groups P us (x ∷ ns) h = (h.0, all_groups P us ns h.1)

all_entered : (a : Market) (m : ℕ) (us : List Used) → AllByRecursion (IsRooted a.tokens) us
    → AllByRecursion (λ e. chain_facts a.tokens a.chains m e ≡ Some (facts_of a.chains m e)) (map (λ (u : Use). u.1) (uses_of us m))
all_entered a m [] h = tt
all_entered a m (u ∷ us) h = at (eqb u.member m) refl (all_entered a m us h.1)
  where
    P : Token → Type 0
    P e = chain_facts a.tokens a.chains m e ≡ Some (facts_of a.chains m e)

    output : u.member ≡ m → P u.entered
    output e =
        let used : is_used a.tokens m u.entered ≡ true = ap (λ k. is_used a.tokens k u.entered) (sym e) ∙ h.0.used in
        let own : entered_of a.tokens m u.entered ≡ u.entered = ap (λ k. entered_of a.tokens k u.entered) (sym e) ∙ h.0.own in
        ap (λ (b : Bool). cond b (Some (facts_of a.chains m (entered_of a.tokens m u.entered))) None) used ∙ ap (λ (t : Token). Some (facts_of a.chains m t)) own

    at : (b : Bool) → eqb u.member m ≡ b → AllByRecursion P (map (λ (v : Use). v.1) (uses_of us m))
        → AllByRecursion P (map (λ (v : Use). v.1) (map (λ (v : Used). use_of v.token v.entered) (cond b (u ∷ filter (λ v. eqb v.member m) us) (filter (λ v. eqb v.member m) us))))
    at true e ih = (output ((Decides-eqb u.member m).0 e), ih)
    at false e ih = ih

pub output_run : (setup : Setup) (events : List Event) (m : ℕ) → AreOutput (run setup events) m (grouped (uses_of (run setup events).tokens m))
output_run setup events m =
    let a : Market = run setup events in
    all_groups (λ e. chain_facts a.tokens a.chains m e ≡ Some (facts_of a.chains m e)) (uses_of a.tokens m) _
    (all_once _ (map (λ (u : Use). u.1) (uses_of a.tokens m)) (all_entered a m a.tokens (rooted_run setup events)))

-- none is listed of the opening market
pub none_listed : (setup : Setup) (a : Market) (m : ℕ) → a ≡ opening setup → uses_of a.tokens m ≡ []
unfolding opening
none_listed setup a m h = ap (λ (b : Market). uses_of b.tokens m) h
