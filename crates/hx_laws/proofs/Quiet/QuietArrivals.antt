-- Quiet chains were quiet before, execute nothing, and show nothing.
use Rattle.std.proofs.Common.{◌≡◌, ℕ, ◌+◌, Bool, true, false, cond, refl, ap, ◌∙◌, sym, ltb, ◌&&◌, not, List, [], ◌∷◌, ◌++◌, length}
use Rattle.std.specs.Prelude.{if◌then◌else◌}
use Rattle.std.specs.List.{AllByRecursion}
use Rattle.std.proofs.lemmas.List.{append-nil}
use Rattle.std.proofs.Math.Nat.{add-zero}
use Rattle.hx_match.specs.Matching.{Execution, Matched, matched, with_shares}
use Rattle.hx_match.proofs.AnyShares.{IsExecution, matched_of}
use Rattle.hx_members.specs.Chains.{Used, Chain, is_used, entered_of, note, has_chain, is_loud}
use Rattle.hx_members.proofs.ChainLaws.{has_chain-note}
use Rattle.hx_rules.specs.Orders.{Order, Token}
use Rattle.hx_rules.specs.declared.matches.Match.{Match}
use Rattle.hx_rules.specs.Markets.{Market}
use Rattle.hx_rules.specs.Executions.{incoming_of, matches_of, chains_after, resting_of, displays, arrive}
use Rattle.hx_laws.specs.QuietChains.{Choice}
use Rattle.hx_laws.specs.Laws.{AreSpared, AreQuietChains}
use Rattle.hx_laws.proofs.Quiet.QuietBefore.{not_both}
use Rattle.hx_laws.proofs.History.NoExecutions.{nothing_matched}
use Rattle.hx_laws.proofs.History.ChainsGrow.{Grows, Grows_note, Grows_executions, note_makes_loud}
use Rattle.hx_laws.proofs.History.CoherentMarkets.{IsKnown, known_shares}
use Rattle.hx_laws.proofs.History.CoherentSteps.{Coherent, GrowsTo, Grows_displayed}
use Rattle.hx_laws.proofs.Quiet.RetainedViews.{retained}
use Rattle.hx_laws.proofs.Quiet.RetainedChoices.{retained-append}
use Rattle.hx_laws.proofs.Quiet.Alike.{IsAlike, rest_of}

-- chains that are quiet later were quiet before
pub quiet_earlier : (s : Choice) (a c : Market) → GrowsTo a c → AreQuietChains s c → AreQuietChains s a
quiet_earlier s a c g q =
    record {
      whole = λ m t h. q.whole m t (g.used m t h) ∙ ap (s m) (g.entered m t h);
      quiet = λ m t u h. still m t (is_loud a.chains m (entered_of a.tokens m t)) refl u h;
    }
  where
    still : (m : ℕ) (t : Token) (b : Bool) → is_loud a.chains m (entered_of a.tokens m t) ≡ b → is_used a.tokens m t ≡ true → s m t ≡ true → b ≡ false
    still m t false e u h = refl
    still m t true e u h = not_both _ (g.loud m (entered_of a.tokens m t) e) (ap (is_loud c.chains m) (sym (g.entered m t u)) ∙ q.quiet m t (g.used m t u) h)

-- the chains of used tokens are there, also after notes
abbrev HaveChains : List Used → List Chain → Type 0
HaveChains ts cs = (p : ℕ) (t : Token) → is_used ts p t ≡ true → has_chain cs p (entered_of ts p t) ≡ true

-- an executed order's chain is loud, so that it is not chosen
executions_spared : (s : Choice) (ts : List Used) (c : Market) → c.tokens ≡ ts → AreQuietChains s c → (known cs : List Chain) (m : ℕ) (e : Token) (es : List Execution)
    → AllByRecursion (IsExecution (IsKnown ts known)) es → HaveChains ts cs → Grows ts (chains_after ts m e es cs) ts c.chains → AreSpared s es
executions_spared s ts c same q known cs m e [] k h g = tt
executions_spared s ts c same q known cs m e (f ∷ es) k h g =
    (head (s p t) refl, executions_spared s ts c same q known (note m e f.shares false (note p r f.shares false cs)) m e es k.1 next g)
  where
    p : ℕ
    p = f.order.member

    t : Token
    t = f.order.token

    r : Token
    r = entered_of ts p t

    loud : is_loud c.chains p r ≡ true
    loud = g.loud p r ((Grows_executions es ts _ m e).loud p r ((Grows_note ts _ m e f.shares false).loud p r (note_makes_loud cs p r f.shares false k.0.1 (h p t k.0.0.used))))

    head : (b : Bool) → s p t ≡ b → s p t ≡ false
    head true e = not_both _ loud (rw same at (q.quiet p t (rw same k.0.0.used) e))
    head false e = e

    next : HaveChains ts (note m e f.shares false (note p r f.shares false cs))
    next k v u = has_chain-note m e f.shares false (note p r f.shares false cs) k (entered_of ts k v) ∙ has_chain-note p r f.shares false cs k (entered_of ts k v) ∙ h k v u

-- if chains are quiet after an arrival, none of their orders was executed
pub arrive_spared : (s : Choice) (time : ℕ) (immediate : Bool) (x : Order) (a : Market) → Coherent a → AreQuietChains s (arrive time immediate x a).market
    → AreSpared s (matched (incoming_of x) x.shares a.live).fills
arrive_spared s time immediate x a coherent q =
    let e = entered_of a.tokens x.member x.token in
    let m = matched (incoming_of x) x.shares a.live in
    executions_spared s a.tokens (arrive time immediate x a).market refl q a.chains a.chains x.member e m.fills
    (matched_of _ (known_shares a.tokens a.chains) (incoming_of x) x.shares a.live coherent.known).0 coherent.has
    (Grows_displayed a.tokens (chains_after a.tokens x.member e m.fills a.chains) (displays (resting_of x immediate m.left)) x.member e)

-- the chain of an order that executes is loud
own_loud : (ts : List Used) (m : ℕ) (e : Token) (f : Execution) (es : List Execution) (cs : List Chain) → ltb 0 f.shares ≡ true → has_chain cs m e ≡ true → is_loud (chains_after ts m e (f ∷ es) cs) m e ≡ true
own_loud ts m e f es cs l h =
    (Grows_executions es ts _ m e).loud m e (note_makes_loud _ m e f.shares false l (has_chain-note f.order.member (entered_of ts f.order.member f.order.token) f.shares false cs m e ∙ h))

-- so an order of a quiet chain executes nothing
none_executed : (ts : List Used) (cs : List Chain) (c : Market) (m : ℕ) (e : Token) → is_loud c.chains m e ≡ false → has_chain cs m e ≡ true → (P : Order → Type 0) (es : List Execution)
    → AllByRecursion (IsExecution P) es → Grows ts (chains_after ts m e es cs) ts c.chains → es ≡ []
none_executed ts cs c m e q k P [] a g = refl
none_executed ts cs c m e q k P (f ∷ es) a g = not_both _ (g.loud m e (own_loud ts m e f es cs a.0.1 k)) q

-- a chosen order that arrives executes nothing and is not shown
pub record ArrivesQuietly (x : Order) (a : Market) : Type 0 where
  pub executions : (matched (incoming_of x) x.shares a.live).fills ≡ []
  pub hidden : x.shown ≡ false

pub arrives_quietly : (s : Choice) (time : ℕ) (immediate : Bool) (x : Order) (a : Market) → Coherent a → is_used a.tokens x.member x.token ≡ true → s x.member x.token ≡ true
    → (x.shown ≡ true → immediate ≡ false) → ltb 0 x.shares ≡ true → AreQuietChains s (arrive time immediate x a).market → ArrivesQuietly x a
arrives_quietly s time immediate x a coherent u h late some q = record { executions = empty; hidden = choose x.shown refl }
  where
    e : Token
    e = entered_of a.tokens x.member x.token

    m : Matched
    m = matched (incoming_of x) x.shares a.live

    cs : List Chain
    cs = chains_after a.tokens x.member e m.fills a.chains

    has : has_chain a.chains x.member e ≡ true
    has = coherent.has x.member x.token u

    quiet : is_loud (if displays (resting_of x immediate m.left) then note x.member e 0 true cs else cs) x.member e ≡ false
    quiet = q.quiet x.member x.token u h

    empty : m.fills ≡ []
    empty = none_executed a.tokens a.chains (arrive time immediate x a).market x.member e quiet has (IsKnown a.tokens a.chains) m.fills
        (matched_of _ (known_shares a.tokens a.chains) (incoming_of x) x.shares a.live coherent.known).0
        (Grows_displayed a.tokens cs (displays (resting_of x immediate m.left)) x.member e)

    left : m.left ≡ x.shares
    left = (nothing_matched (incoming_of x) x.shares a.live empty).left

    shows : x.shown ≡ true → displays (resting_of x immediate m.left) ≡ true
    shows f = rw (left, late f, some) f

    choose : (b : Bool) → x.shown ≡ b → x.shown ≡ false
    choose false f = f
    choose true f =
        not_both _ (note_makes_loud cs x.member e 0 true refl ((Grows_executions m.fills a.tokens a.chains x.member e).has x.member e has)) (rw (shows f) at quiet)

-- what rests of it is not retained, and is not displayed
resting_chosen : (s : Choice) (x : Order) (immediate : Bool) (left : ℕ) → s x.member x.token ≡ true → retained true s (resting_of x immediate left) ≡ []
resting_chosen s x immediate left e = choose (ltb 0 left && not immediate)
  where
    choose : (b : Bool) → retained true s (cond b (with_shares x left ∷ []) []) ≡ []
    choose true = rw e refl
    choose false = refl

hidden_rests : (x : Order) (immediate : Bool) (left : ℕ) → x.shown ≡ false → displays (resting_of x immediate left) ≡ false
hidden_rests x immediate left e = choose (ltb 0 left && not immediate)
  where
    choose : (b : Bool) → displays (cond b (with_shares x left ∷ []) []) ≡ false
    choose true = e
    choose false = refl

-- such an arrival leaves what is retained
pub struck_arrive : (s : Choice) (a b : Market) → IsAlike s a b → (time : ℕ) (immediate : Bool) (x : Order) → s x.member x.token ≡ true → ArrivesQuietly x a → IsAlike s (arrive time immediate x a).market b
struck_arrive s a b r time immediate x e q =
    let m = matched (incoming_of x) x.shares a.live in
    let n = nothing_matched (incoming_of x) x.shares a.live q.executions in
    record {
      live = rw (retained-append true s m.rest (resting_of x immediate m.left), resting_chosen s x immediate m.left e, n.rest) (append-nil _ ∙ r.live);
      tokens = r.tokens;
      chains = rw (hidden_rests x immediate m.left q.hidden, q.executions) r.chains;
      counts = r.counts;
      private = r.private;
      rest =
          ap (λ (es : List Execution). record (rest_of a) {
            numbers = record a.numbers { private = []; matches = a.numbers.matches + length es };
            executions = a.executions ++ matches_of x.member x.token es;
          }) q.executions
          ∙ ap (λ (n : ℕ). record (rest_of a) { numbers = record a.numbers { private = []; matches = n }; executions = a.executions ++ [] }) (add-zero a.numbers.matches)
          ∙ ap (λ (ms : List Match). record (rest_of a) { executions = ms }) (append-nil a.executions) ∙ r.rest;
    }
