-- Live orders stay entered, and in the order in which their tokens were used.
use Rattle.std.proofs.Common.{◌≡◌, ℕ, zero, suc, ◌+◌, ◌-◌, ◌≤◌, ◌<◌, ◌&&◌, not, min, Bool, true, false, cond, ltb, leb, List, [], ◌∷◌, ◌++◌, length, Option, Some, None, refl, sym, ap, ◌∙◌, subst, arith}
use Rattle.std.specs.Option.{IfSome}
use Rattle.std.specs.List.{AllByRecursion, filter}
use Rattle.std.proofs.lemmas.Bool.{cond_both}
use Rattle.std.proofs.lemmas.Bool.Decides.{nat_tests}
use Rattle.hx_day.specs.declared.expiries.entry.Entry.{Entry}
use Rattle.hx_day.specs.Expiries.{Holds}
use Rattle.hx_units.specs.declared.names.Token.{Token}
use Rattle.hx_book.specs.declared.order.Life.{Life}
use Rattle.hx_book.specs.declared.order.Life.TheVariants.{Market as ToMarket, System as ToSystem, Until}
use Rattle.hx_book.specs.declared.order.Order.{Order}
use Rattle.hx_book.specs.declared.order.Live.{Live}
use Rattle.hx_book.proofs.Lists.{all_weaker, all_filtered}
use Rattle.hx_match.specs.declared.fills.Incoming.{Incoming}
use Rattle.hx_match.specs.Matching.{Position, matched, matched_by, matched_entries, itself, with_shares}
use Rattle.hx_match.proofs.First.{all_append}
use Rattle.hx_match.proofs.AnyShares.{IsOfAnyShares, matched_of}
use Rattle.hx_members.specs.Chains.{Used, is_used, index_of, entered_of, entered_used, replacing_used}
use Rattle.hx_members.proofs.ChainLaws.{index_of-pushed, index_of-new}
use Rattle.hx_rules.specs.Markets.{Market}
use Rattle.hx_rules.specs.Orders.{is_shown, is_immediate, is_called, expiry_of}
use Rattle.hx_rules.specs.Executions.{incoming_of, resting_of, arrive}
use Rattle.hx_rules.specs.Enter.{next_reference, consumed, drawn}
use Rattle.hx_rules.specs.Replace.{handed_over}
use Rattle.hx_rules.specs.Removal.{others, less, lessened}
use Rattle.hx_rules.specs.Hours.{is_over}
use Rattle.hx_rules.proofs.Lessened.{all_lessened}
use Rattle.hx_day.specs.Bounds.{ArePlaced}
use Rattle.hx_market_core.specs.declared.effect.Due.{Due}
use Rattle.hx_market_core.specs.declared.effect.Due.TheVariants.{Over, ByCode}
use Rattle.hx_market_core.specs.declared.effect.Effect.{Effect}
use Rattle.hx_market_core.specs.declared.effect.Effect.TheVariants.{Nothing, Reject, Accept, Fail, Replace, Cancel, End, Halt, Break}
use Rattle.hx_market_core.specs.Effects.{IsAbout, SuitsTokens, is_due, order_of_enter, replacement_order, outcome_of}
use Rattle.hx_market_core.specs.Expiries.{order_index, IsEntered, AreInOrder, AreEntered, IsEndEntered, until_of, over_until}
use Rattle.hx_day.specs.Ends.{StaysAfter, StaysElsewhere}
use Rattle.hx_day.proofs.ChainShares.{first, StandsIn, split}
use Rattle.hx_day.proofs.UsedTokens.{same-name}
use Rattle.hx_market_core.proofs.OrderKeys.{index-used}

-- The order in which tokens were used.

order_sooner : (ts : List Used) (n k : ℕ) (xs : List Order) → n ≤ k → AreInOrder ts k xs → AreInOrder ts n xs
order_sooner ts n k [] l h = tt
order_sooner ts n k (x ∷ xs) l h = ((let a = h.0 in omega arith), h.1)

order_filtered : (ts : List Used) (keep : Order → Bool) (n : ℕ) (xs : List Order) → AreInOrder ts n xs → AreInOrder ts n (filter keep xs)
order_filtered ts keep n [] h = tt
order_filtered ts keep n (x ∷ xs) h =
    let rest : AreInOrder ts (order_index ts x + 1) (filter keep xs) = order_filtered ts keep (order_index ts x + 1) xs h.1 in
    cond_both (keep x) (x ∷ filter keep xs) (filter keep xs) (AreInOrder ts n) (λ _. (h.0, rest))
    (λ _. order_sooner ts n (order_index ts x + 1) (filter keep xs) (let a = h.0 in omega arith) rest)

-- the front, and the rest, with the middle cut or out
order_cut : (ts : List Used) (n : ℕ) (front : List Order) (x : Order) (back : List Order) (f : ℕ) → AreInOrder ts n (front ++ x ∷ back) → AreInOrder ts n (front ++ (less x f ++ back))
order_cut ts n [] x back f h =
    cond_both (ltb f x.shares) (with_shares x (x.shares - f) ∷ []) [] (λ l. AreInOrder ts n (l ++ back)) (λ _. (h.0, h.1))
    (λ _. order_sooner ts n (order_index ts x + 1) back (let a = h.0 in omega arith) h.1)
order_cut ts n (y ∷ front) x back f h = (h.0, order_cut ts (order_index ts y + 1) front x back f h.1)

order_matched : (n : ℕ) (inc : Incoming) (r : ℕ) (ts : List Used) (xs : List Order) → AreInOrder ts 0 xs → AreInOrder ts 0 (matched_entries itself with_shares n inc r xs).rest
unfolding matched_entries
order_matched zero inc r ts xs h = h
order_matched (suc n) inc r ts xs h = at (first inc r xs) (split inc r xs) (λ s ys k. order_matched n inc s ts ys k)
  where
    at : (o : Option Position) → IfSome o (StandsIn xs) → ((s : ℕ) (ys : List Order) → AreInOrder ts 0 ys → AreInOrder ts 0 (matched_entries itself with_shares n inc s ys).rest)
        → AreInOrder ts 0 (matched_by itself with_shares (matched_entries itself with_shares n inc) r xs o).rest
    at None z ih = h
    at (Some q) z ih =
        let f : ℕ = min r q.order.shares in
        ih (r - f) (q.front ++ (less q.order f ++ q.back)) (order_cut ts 0 q.front q.order q.back f (subst (AreInOrder ts 0) z h))

order_lessened : (ts : List Used) (m : ℕ) (u : _) (by n : ℕ) (xs : List Order) → AreInOrder ts n xs → AreInOrder ts n (lessened m u by xs)
order_lessened ts m u by n [] h = tt
order_lessened ts m u by n (x ∷ xs) h =
    cond_both (is_called m u x) (less x by ++ xs) (x ∷ lessened m u by xs) (AreInOrder ts n)
    (λ _. order_cut ts n [] x xs by h) (λ _. (h.0, order_lessened ts m u by (order_index ts x + 1) xs h.1))

order_more : (ts : List Used) (u : Used) (n : ℕ) (xs : List Order) → ArePlaced ts xs → AreInOrder ts n xs → AreInOrder (ts ++ u ∷ []) n xs
order_more ts u n [] p h = tt
order_more ts u n (x ∷ xs) p h =
    let e : order_index (ts ++ u ∷ []) x ≡ order_index ts x = index_of-pushed ts u x.member x.token p.0.used in
    (subst (λ k. n ≤ k) (sym e) h.0, subst (λ k. AreInOrder (ts ++ u ∷ []) (k + 1) xs) (sym e) (order_more ts u (order_index ts x + 1) xs p.1 h.1))

-- an order comes after those whose tokens were used before
order_append : (ts : List Used) (n : ℕ) (xs : List Order) (x : Order) → AreInOrder ts n xs → AllByRecursion (λ y. order_index ts y < order_index ts x) xs → n ≤ order_index ts x
    → AreInOrder ts n (xs ++ x ∷ [])
order_append ts n [] x h a l = (l, tt)
order_append ts n (y ∷ xs) x h a l = (h.0, order_append ts (order_index ts y + 1) xs x h.1 a.1 (let b = a.0 in omega arith))

-- What is entered.

-- orders stay entered if what is entered stays
pub entered_retained : (old new : List Entry) (ts : List Used) (xs : List Order) → ((e p : ℕ) → Holds old e p → Holds new e p) → AreEntered old ts xs → AreEntered new ts xs
entered_retained old new ts xs keep h =
    record { each = all_weaker (IsEntered old ts) (IsEntered new ts) (λ x i e l. keep e (order_index ts x) (i e l)) xs h.each; in_order = h.in_order }

-- also if something is taken out under an index that no order has yet
pub entered_elsewhere : (old new : List Entry) (ts : List Used) (xs : List Order) → ArePlaced ts xs → StaysElsewhere (length ts) old new → AreEntered old ts xs → AreEntered new ts xs
entered_elsewhere old new ts xs p keep h = record { each = each xs p h.each; in_order = h.in_order }
  where
    each : (ys : List Order) → ArePlaced ts ys → AllByRecursion (IsEntered old ts) ys → AllByRecursion (IsEntered new ts) ys
    each [] q i = tt
    each (y ∷ ys) q i = (
      λ e l. keep e (order_index ts y) (λ same. let b = index-used ts y.member y.token q.0.used in absurd (omega arith)) (i.0 e l),
      each ys q.1 i.1,
    )

-- and if another token is used
entered_more : (es : List Entry) (ts : List Used) (u : Used) (xs : List Order) → ArePlaced ts xs → AreEntered es ts xs → AreEntered es (ts ++ u ∷ []) xs
entered_more es ts u xs p h = record { each = each xs p h.each; in_order = order_more ts u 0 xs p h.in_order }
  where
    each : (ys : List Order) → ArePlaced ts ys → AllByRecursion (IsEntered es ts) ys → AllByRecursion (IsEntered es (ts ++ u ∷ [])) ys
    each [] q i = tt
    each (y ∷ ys) q i = (λ e l. subst (Holds es e) (sym (index_of-pushed ts u y.member y.token q.0.used)) (i.0 e l), each ys q.1 i.1)

entered_filtered : (es : List Entry) (ts : List Used) (keep : Order → Bool) (xs : List Order) → AreEntered es ts xs → AreEntered es ts (filter keep xs)
entered_filtered es ts keep xs h = record { each = all_filtered (IsEntered es ts) keep xs h.each; in_order = order_filtered ts keep 0 xs h.in_order }

of_shares : (es : List Entry) (ts : List Used) → IsOfAnyShares (IsEntered es ts)
of_shares es ts x k h = h

rests : (es : List Entry) (ts : List Used) (x : Order) (immediate : Bool) (left : ℕ) → IsEntered es ts x → AllByRecursion (IsEntered es ts) (resting_of x immediate left)
rests es ts x immediate left h = cond_both (ltb 0 left && not immediate) (record x { shares = left } ∷ []) [] (AllByRecursion (IsEntered es ts)) (λ _. (h, tt)) (λ _. tt)

-- an order arrives that is entered, and whose token was used last
arrived : (es : List Entry) (time : ℕ) (immediate : Bool) (x : Order) (m : Market) → IsEntered es m.tokens x → AllByRecursion (λ y. order_index m.tokens y < order_index m.tokens x) m.live
    → AreEntered es m.tokens m.live → AreEntered es m.tokens (arrive time immediate x m).market.live
unfolding matched
arrived es time immediate x m i b h =
    let ts : List Used = m.tokens in
    let all = matched_of (IsEntered es ts) (of_shares es ts) (incoming_of x) x.shares m.live h.each in
    let before = matched_of (λ y. order_index ts y < order_index ts x) (λ y k l. l) (incoming_of x) x.shares m.live b in
    let rest : List Order = (matched (incoming_of x) x.shares m.live).rest in
    let left : ℕ = (matched (incoming_of x) x.shares m.live).left in
    let order : AreInOrder ts 0 rest = order_matched x.shares (incoming_of x) x.shares ts m.live h.in_order in
    record {
      each = all_append (IsEntered es ts) rest (resting_of x immediate left) all.1 (rests es ts x immediate left i);
      in_order = cond_both (ltb 0 left && not immediate) (record x { shares = left } ∷ []) [] (λ l. AreInOrder ts 0 (rest ++ l))
          (λ _. order_append ts 0 rest (record x { shares = left }) order before.1 (omega arith)) (λ _. subst (AreInOrder ts 0) (sym (Rattle.std.proofs.Common.append-nil rest)) order);
    }

-- the tokens of the live orders were used before another that is used now
before : (ts : List Used) (u : Used) (xs : List Order) → ArePlaced ts xs → is_used ts u.member u.token ≡ false
    → AllByRecursion (λ y. order_index (ts ++ u ∷ []) y < index_of (ts ++ u ∷ []) u.member u.token) xs
before ts u [] p n = tt
before ts u (y ∷ ys) p n = (
  (let a = index_of-pushed ts u y.member y.token p.0.used in let b = index_of-new ts u n in let c = index-used ts y.member y.token p.0.used in omega arith),
  before ts u ys p.1 n,
)

-- the orders that are left after some end
left_entered : (old new : List Entry) (ts : List Used) (due : Due) (time : ℕ) (xs : List Order) → StaysAfter (until_of due time) old new → AreEntered old ts xs
    → AreEntered new ts (filter (λ x. not (is_due due time x)) xs)
left_entered old new ts (ByCode code) time xs s h =
    subst (λ (es : List Entry). AreEntered es ts (filter (λ x. not (is_due (ByCode code) time x)) xs)) (sym s) (entered_filtered old ts (λ x. not (is_due (ByCode code) time x)) xs h)
left_entered old new ts Over time xs s h = record { each = each xs h.each; in_order = order_filtered ts (λ x. not (is_over time x.life)) 0 xs h.in_order }
  where
    later : (life : Life) (e : ℕ) → not (is_over time life) ≡ true → expiry_of life ≡ Some e → time < e
    later ToMarket e k l = absurd (let z : None ≡ Some e = l in cc)
    later ToSystem e k l = absurd (let z : None ≡ Some e = l in cc)
    later (Until t) e k l = let same : t ≡ e = (let z : Some t ≡ Some e = l in cc) in subst (λ n. time < n) same (grind (arith, nat_tests))

    each : (ys : List Order) → AllByRecursion (IsEntered old ts) ys → AllByRecursion (IsEntered new ts) (filter (λ x. not (is_over time x.life)) ys)
    each [] i = tt
    each (y ∷ ys) i =
        cond_both (not (is_over time y.life)) (y ∷ filter (λ x. not (is_over time x.life)) ys) (filter (λ x. not (is_over time x.life)) ys) (AllByRecursion (IsEntered new ts))
        (λ k. (λ e l. (s e (order_index ts y)).1 (i.0 e l, later y.life e k l), each ys i.1)) (λ _. each ys i.1)

-- After each effect the live orders are entered.
pub entered_outcome : (m : Market) (effect : Effect) (orders : List Live) (old new : List Entry) → IsAbout orders effect → ArePlaced m.tokens m.live → SuitsTokens m.tokens m.chains effect → IsEndEntered old (length m.tokens) effect
    → StaysAfter (over_until effect) old new → AreEntered old m.tokens m.live → AreEntered new (outcome_of m effect).market.tokens (outcome_of m effect).market.live
entered_outcome m Nothing orders old new b p u i s h = subst (λ (es : List Entry). AreEntered es m.tokens m.live) (sym s) h
entered_outcome m (Reject r) orders old new b p u i s h =
    subst (λ (es : List Entry). AreEntered es (m.tokens ++ entered_used r.member r.token ∷ []) m.live) (sym s) (entered_more old m.tokens (entered_used r.member r.token) m.live p h)
entered_outcome m (Accept a) orders old new b p u i s h =
    let shown : Bool = is_shown a.enter.display a.enter.time_in_force in
    let used : Used = entered_used a.member a.enter.token in
    let now : Market = drawn (consumed m a.member a.enter.token) a.member shown in
    let x : Order = order_of_enter (length m.tokens) (next_reference m.numbers a.member shown) a in
    subst (λ (es : List Entry). AreEntered es (m.tokens ++ used ∷ []) (arrive a.time (is_immediate a.enter.time_in_force) x now).market.live) (sym s)
    (arrived old a.time (is_immediate a.enter.time_in_force) x now (λ e l. subst (Holds old e) (sym (index_of-new m.tokens used u)) (i e l)) (before m.tokens used m.live p u)
    (entered_more old m.tokens used m.live p h))
entered_outcome m (Fail a) orders old new b p u i s h =
    let used : Used = replacing_used a.member a.replacement (entered_of m.tokens a.member a.existing) in
    subst (λ (es : List Entry). AreEntered es (m.tokens ++ used ∷ []) (others a.member a.existing m.live)) (sym s)
    (entered_filtered old (m.tokens ++ used ∷ []) (λ x. not (is_called a.member a.existing x)) m.live (entered_more old m.tokens used m.live p h))
entered_outcome m (Replace a) orders old new b p u i s h =
    let shown : Bool = is_shown a.replace.display a.replace.time_in_force in
    let used : Used = replacing_used a.member a.replace.replacement_token (entered_of m.tokens a.member a.replace.existing_token) in
    let now : Market = drawn (handed_over m a.member a.replace.existing_token a.replace.replacement_token) a.member shown in
    let x : Order = replacement_order (next_reference m.numbers a.member shown) a in
    let token : Token = a.replace.replacement_token in
    let all : List Used = m.tokens ++ used ∷ [] in
    let same : a.old.order.member ≡ a.member = (same-name a.old.order.member a.member a.old.order.token a.replace.existing_token b.called).0 in
    subst (λ (es : List Entry). AreEntered es (m.tokens ++ used ∷ []) (arrive a.time (is_immediate a.replace.time_in_force) x now).market.live) (sym s)
    (arrived old a.time (is_immediate a.replace.time_in_force) x now (λ e l. subst (Holds old e) (sym (ap (λ k. index_of all k token) same ∙ index_of-new m.tokens used u.unused)) (i e l))
    (subst (λ k. AllByRecursion (λ y. order_index all y < index_of all k token) (others a.member a.replace.existing_token m.live)) (sym same)
    (all_filtered (λ y. order_index all y < index_of all a.member token) (λ y. not (is_called a.member a.replace.existing_token y)) m.live (before m.tokens used m.live p u.unused)))
    (entered_filtered old (m.tokens ++ used ∷ []) (λ y. not (is_called a.member a.replace.existing_token y)) m.live (entered_more old m.tokens used m.live p h)))
entered_outcome m (Cancel a) orders old new b p u i s h =
    subst (λ (es : List Entry). AreEntered es m.tokens (lessened a.member a.token a.by m.live)) (sym s) (record {
      each = all_lessened (IsEntered old m.tokens) (of_shares old m.tokens) a.member a.token a.by m.live h.each;
      in_order = order_lessened m.tokens a.member a.token a.by 0 m.live h.in_order;
    })
entered_outcome m (End e) orders old new b p u i s h = left_entered old new m.tokens e.due e.time m.live s h
entered_outcome m (Halt x) orders old new b p u i s h = subst (λ (es : List Entry). AreEntered es m.tokens m.live) (sym s) h
entered_outcome m (Break x) orders old new b p u i s h = subst (λ (es : List Entry). AreEntered es m.tokens m.live) (sym s) h
