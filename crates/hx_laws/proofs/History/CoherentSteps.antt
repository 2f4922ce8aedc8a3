-- Each step preserves the tokens and what is known of chains, and leaves a coherent market.
use Rattle.std.proofs.Common.{◌≡◌, ℕ, Bool, true, false, cond, refl, ◌∙◌, arith, ltb, ◌&&◌, not, List, [], ◌∷◌, ◌++◌, Some}
use Rattle.std.specs.Prelude.{if◌then◌else◌}
use Rattle.std.specs.List.{find, AllByRecursion}
use Rattle.std.proofs.lemmas.Bool.{or_cases, or_right}
use Rattle.hx_book.proofs.Lists.{all_weaker, all_filtered}
use Rattle.hx_match.specs.Matching.{with_shares, matched}
use Rattle.hx_match.proofs.First.{all_append}
use Rattle.hx_match.proofs.AnyShares.{matched_of}
use Rattle.hx_members.specs.Chains.{Used, Chain, is_used, is_use, entered_of, has_chain, note, entered_used, entered_chain, replacing_used}
use Rattle.hx_members.proofs.ChainLaws.{is_used-pushed, entered_of-new, has_chain-pushed, is_same-parts, is_same-itself}
use Rattle.hx_rules.specs.declared.event.Event.{Event}
use Rattle.hx_rules.specs.Orders.{Order, Token, is_called}
use Rattle.hx_rules.specs.Markets.{Market}
use Rattle.hx_rules.specs.Outputs.{EventOutput}
use Rattle.hx_rules.specs.Executions.{incoming_of, resting_of, displays, chains_after, arrive}
use Rattle.hx_rules.specs.Enter.{consumed, drawn}
use Rattle.hx_rules.specs.Removal.{lessened}
use Rattle.hx_rules.specs.Replace.{handed_over}
use Rattle.hx_rules.specs.Hours.{end_orders}
use Rattle.hx_rules.specs.Steps.{with_record}
use Rattle.hx_rules.proofs.Lessened.{all_lessened}
use Rattle.hx_laws.proofs.History.ChainsGrow.{Grows, Grows_refl, Grows_trans, Grows_token, Grows_chain, Grows_note, Grows_executions, note_makes_loud}
use Rattle.hx_laws.proofs.History.CoherentMarkets.{IsKnown, IsCoherent, known_grows, known_shares}

abbrev pub Coherent : Market → Type 0
Coherent a = IsCoherent a.tokens a.chains a.live

abbrev pub GrowsTo : Market → Market → Type 0
GrowsTo a b = Grows a.tokens a.chains b.tokens b.chains

-- how a market may go on
pub record Moves (a b : Market) : Type 0 where
  pub grows : GrowsTo a b
  pub coherent : Coherent a → Coherent b

pub Moves_refl : (a : Market) → Moves a a
Moves_refl a = record { grows = Grows_refl _ _; coherent = λ s. s }

pub Moves_trans : (a b c : Market) → Moves a b → Moves b c → Moves a c
Moves_trans a b c f g = record { grows = Grows_trans _ _ _ _ _ _ f.grows g.grows; coherent = λ s. g.coherent (f.coherent s) }

-- other orders, or more chains
with_live : (ts : List Used) (cs : List Chain) (xs ys : List Order) → IsCoherent ts cs xs → AllByRecursion (IsKnown ts cs) ys → IsCoherent ts cs ys
with_live ts cs xs ys s k = record { known = k; has = s.has; root_used = s.root_used; root = s.root }

with_chains : (ts : List Used) (cs ds : List Chain) (xs : List Order) → Grows ts cs ts ds → IsCoherent ts cs xs → IsCoherent ts ds xs
with_chains ts cs ds xs g s =
    record { known = all_weaker _ _ (known_grows ts cs ts ds g) xs s.known; has = λ m t h. g.has _ _ (s.has m t h); root_used = s.root_used; root = s.root }

-- One more used token.

-- a used token is an old one or the new one
record IsNew (ts : List Used) (u : Used) (p : ℕ) (q : Token) : Type 0 where
  member : u.member ≡ p
  entered : entered_of (ts ++ u ∷ []) p q ≡ u.entered

used_cases : {X : Type 0} (ts : List Used) (u : Used) (p : ℕ) (q : Token) → is_used (ts ++ u ∷ []) p q ≡ true → (is_used ts p q ≡ true → X) → (IsNew ts u p q → X) → X
used_cases {X} ts u p q h old new = choose (is_used ts p q) refl
  where
    last : is_used ts p q ≡ false → is_use p q u ≡ true
    last e = grind (arith, or_cases, is_used-pushed ts u p q, h, e)

    choose : (b : Bool) → is_used ts p q ≡ b → X
    choose true e = old e
    choose false e =
        let s = is_same-parts u.member u.token p q (last e) in
        new (record { member = s.0; entered = rw (← s.0, ← s.1) (entered_of-new ts u (rw (s.0, s.1) e)) })

-- a market with one more used token, of a chain that is there
with_token : (ts : List Used) (cs ds : List Chain) (xs : List Order) (u : Used) → Grows ts cs (ts ++ u ∷ []) ds
    → has_chain ds u.member u.entered ≡ true → is_used (ts ++ u ∷ []) u.member u.entered ≡ true → entered_of (ts ++ u ∷ []) u.member u.entered ≡ u.entered
    → IsCoherent ts cs xs → IsCoherent (ts ++ u ∷ []) ds xs
with_token ts cs ds xs u g a b c s =
    record {
      known = all_weaker _ _ (known_grows ts cs (ts ++ u ∷ []) ds g) xs s.known;
      has = λ p q h. used_cases ts u p q h (λ o. rw (g.entered p q o) (g.has _ _ (s.has p q o))) (λ n. rw (n.entered, ← n.member) a);
      root_used = λ p q h. used_cases ts u p q h (λ o. rw (g.entered p q o) (g.used _ _ (s.root_used p q o))) (λ n. rw (n.entered, ← n.member) b);
      root = λ p q h. used_cases ts u p q h (λ o. rw (g.entered p q o) (g.entered _ _ (s.root_used p q o) ∙ s.root p q o)) (λ n. rw (n.entered, ← n.member) c);
    }

pub used_last : (ts : List Used) (u : Used) → is_used (ts ++ u ∷ []) u.member u.token ≡ true
used_last ts u = is_used-pushed ts u u.member u.token ∙ or_right _ _ (is_same-itself u.member u.token)

pub consumed_moves : (a : Market) (m : ℕ) (t : Token) → is_used a.tokens m t ≡ false → Moves a (consumed a m t)
consumed_moves a m t h =
    let u : Used = entered_used m t in
    let c : Chain = entered_chain m t in
    let g = Grows_trans _ _ _ _ _ _ (Grows_token a.tokens u a.chains) (Grows_chain (a.tokens ++ u ∷ []) a.chains c) in
    record {
      grows = g;
      coherent = λ s. with_token a.tokens a.chains (a.chains ++ c ∷ []) a.live u g
          (has_chain-pushed a.chains c m t ∙ or_right _ _ (is_same-itself m t)) (used_last a.tokens u) (entered_of-new a.tokens u h) s;
    }

-- the token that replaces e: it is in the chain of e
abbrev pub joining : Market → ℕ → Token → Token → Used
joining a m e t = replacing_used m t (entered_of a.tokens m e)

pub handed_over_moves : (a : Market) (m : ℕ) (e t : Token) → is_used a.tokens m e ≡ true → Moves a (handed_over a m e t)
handed_over_moves a m e t h =
    let u : Used = joining a m e t in
    let g = Grows_token a.tokens u a.chains in
    record {
      grows = g;
      coherent = λ s. with_token a.tokens a.chains a.chains _ u g (s.has m e h) (g.used _ _ (s.root_used m e h)) (g.entered _ _ (s.root_used m e h) ∙ s.root m e h)
          (with_live a.tokens a.chains a.live _ s (all_filtered _ _ a.live s.known));
    }

-- What changes no token.

pub drawn_moves : (a : Market) (m : ℕ) (b : Bool) → Moves a (drawn a m b)
drawn_moves a m b = record { grows = Grows_refl _ _; coherent = λ s. s }

pub record_moves : (a : Market) (e : Event) → Moves a (with_record e a)
record_moves a e = record { grows = Grows_refl _ _; coherent = λ s. s }

pub end_moves : (due : Order → Bool) (time : ℕ) (a : Market) (first : EventOutput) → Moves a (end_orders due time a first).market
end_moves due time a first = record { grows = Grows_refl _ _; coherent = λ s. with_live a.tokens a.chains _ _ s (all_filtered _ _ a.live s.known) }

pub lessened_moves : (a : Market) (m : ℕ) (t : Token) (by : ℕ) → Moves a (record a { live = lessened m t by a.live })
lessened_moves a m t by =
    record { grows = Grows_refl _ _; coherent = λ s. with_live a.tokens a.chains _ _ s (all_lessened _ (known_shares a.tokens a.chains) m t by a.live s.known) }

-- An order arrives with a used token.

-- what rests of it is known, provided that its chain is displayed if it is shown
rests_known : (ts : List Used) (cs : List Chain) (x : Order) (immediate : Bool) (left : ℕ) → is_used ts x.member x.token ≡ true → has_chain cs x.member (entered_of ts x.member x.token) ≡ true
    → AllByRecursion (IsKnown ts (if displays (resting_of x immediate left) then note x.member (entered_of ts x.member x.token) 0 true cs else cs)) (resting_of x immediate left)
rests_known ts cs x immediate left u h = choose (ltb 0 left && not immediate) x.shown refl
  where
    y : Order
    y = with_shares x left

    choose : (b d : Bool) → x.shown ≡ d
        → AllByRecursion (IsKnown ts (if displays (cond b (y ∷ []) []) then note x.member (entered_of ts x.member x.token) 0 true cs else cs)) (cond b (y ∷ []) [])
    choose false d e = tt
    choose true true e = (record { used = u; shown = λ _. rw e (note_makes_loud cs x.member (entered_of ts x.member x.token) 0 true refl h) }, tt)
    choose true false e = (record { used = u; shown = λ f. absurd (grind (arith, e, f)) }, tt)

-- a chain is displayed, or not
pub Grows_displayed : (ts : List Used) (cs : List Chain) (b : Bool) (m : ℕ) (e : Token) → Grows ts cs ts (if b then note m e 0 true cs else cs)
Grows_displayed ts cs true m e = Grows_note ts cs m e 0 true
Grows_displayed ts cs false m e = Grows_refl ts cs

pub arrive_moves : (time : ℕ) (immediate : Bool) (x : Order) (a : Market) → is_used a.tokens x.member x.token ≡ true → Moves a (arrive time immediate x a).market
arrive_moves time immediate x a u =
    let e = entered_of a.tokens x.member x.token in
    let m = matched (incoming_of x) x.shares a.live in
    let cs = chains_after a.tokens x.member e m.fills a.chains in
    let g = Grows_executions m.fills a.tokens a.chains x.member e in
    let d = Grows_displayed a.tokens cs (displays (resting_of x immediate m.left)) x.member e in
    let all = Grows_trans _ _ _ _ _ _ g d in
    record {
      grows = all;
      coherent = λ s.
          with_live a.tokens _ a.live _ (with_chains a.tokens a.chains _ a.live all s)
          (all_append _ _ _
          (all_weaker _ _ (known_grows a.tokens a.chains a.tokens _ all) _ (matched_of _ (known_shares a.tokens a.chains) (incoming_of x) x.shares a.live s.known).1)
          (rests_known a.tokens cs x immediate m.left u (g.has _ _ (s.has _ _ u))));
    }

-- the found order is one of the list, of that name
pub found_of : (P : Order → Type 0) (m : ℕ) (t : Token) (xs : List Order) (x : Order) → AllByRecursion P xs → find (is_called m t) xs ≡ Some x → P x × ((x.member ≡ m) × (x.token ≡ t))
found_of P m t [] x a h = absurd (cc h)
found_of P m t (y ∷ xs) x a h = choose (is_called m t y) refl (found_of P m t xs x a.1) h
  where
    choose : (b : Bool) → is_called m t y ≡ b → (find (is_called m t) xs ≡ Some x → P x × ((x.member ≡ m) × (x.token ≡ t))) → cond b (Some y) (find (is_called m t) xs) ≡ Some x
        → P x × ((x.member ≡ m) × (x.token ≡ t))
    choose true e ih h = let same : y ≡ x = cc in rw (← same) (a.0, is_same-parts y.member y.token m t e)
    choose false e ih h = ih h
