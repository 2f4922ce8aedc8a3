-- One pass over the orders by rank gives the fills: what was passed over never qualifies later, as r only
-- falls, and what was executed is used up, or ends the plan.
use Rattle.std.proofs.Common.{◌≡◌, ℕ, ◌+◌, ◌-◌, ◌<◌, ◌≤◌, Bool, true, false, cond, min, suc, zero, ltb, List, [], ◌∷◌, ◌++◌, append_assoc, length, Option, Some, None, refl, sym, ap, ◌∙◌, arith, eq-eqb}
use Rattle.std.specs.List.{AllByRecursion, find, filter}
use Rattle.std.specs.Option.{option_map}
use Rattle.std.proofs.lemmas.Bool.{cond-true, cond-false, true≢false, false_from_ne_true, ltb-true}
use Rattle.std.proofs.lemmas.Bool.Decides.{nat_tests}
use Rattle.std.proofs.lemmas.List.Sums.{sum_by-append}
use Rattle.std.proofs.lemmas.Option.{same_Some}
use Rattle.hx_book.specs.declared.order.Order.{Order}
use Rattle.hx_book.specs.declared.order.Live.{Live}
use Rattle.hx_book.specs.declared.order.Key.{Key}
use Rattle.hx_book.specs.Lists.{drop_first}
use Rattle.hx_book.specs.Rank.{by_rank}
use Rattle.hx_book.specs.Book.{crosses, is_ahead, is_under, ranked, reduced, without, order_of, KeysDiffer, qualifies, rest_after, next_qualifying}
use Rattle.hx_book.proofs.Lists.{found_among, filter-drop_first, once_filtered, once_dropped, length-drop_first, all_filtered}
use Rattle.hx_book.proofs.Rank.{by_rank-drop_first, first_of-find, first_of-filter, all_ranked}
use Rattle.hx_book.proofs.Orders.{ahead_asym, ahead_skip, once_under}
use Rattle.hx_book.proofs.Qualifying.{KeysOnce, ranked_once, Met, met, is_qualifying, walk-shorter}
use Rattle.hx_match.specs.declared.fills.Incoming.{Incoming}
use Rattle.hx_match.specs.declared.fills.Fill.{Fill}
use Rattle.hx_match.specs.Matching.{terms}
use Rattle.hx_match.proofs.Steps.{chosen, shares_of, fill, with_choice, fills_within, steps_of}

-- the fills of one pass
abbrev pub pass : ℕ → ℕ → List Live → List Fill
pass k r [] = []
pass k r (x ∷ xs) = cond (qualifies r k x.order) (fill r x ∷ pass k (r - min r x.order.shares) xs) (pass k r xs)

-- what doesn't qualify doesn't for fewer shares
pub never_later : (r less k : ℕ) (x : Order) → qualifies r k x ≡ false → qualifies (r - less) k x ≡ false
never_later r less k x h = grind (arith, nat_tests)

pub none_for_zero : (k : ℕ) (x : Order) → qualifies 0 k x ≡ false
none_for_zero k x = grind (arith, nat_tests)

pub pass-zero : (k : ℕ) (xs : List Live) → pass k 0 xs ≡ []
pass-zero k [] = refl
pass-zero k (x ∷ xs) = cond-false (qualifies 0 k x.order) _ _ (none_for_zero k x.order) ∙ pass-zero k xs

abbrev pub pass_with : ℕ → ℕ → List Live → Option Live → List Fill
pass_with k r xs None = []
pass_with k r xs (Some x) = fill r x ∷ pass k (r - min r x.order.shares) (drop_first (is_under x.key.0) xs)

-- the pass begins with the first that qualifies, and goes on as if from the start of the list without it
pub pass-first : (k r : ℕ) (xs : List Live) → KeysOnce xs → pass k r xs ≡ pass_with k r xs (find (λ x. qualifies r k x.order) xs)
pass-first k r [] o = refl
pass-first k r (y ∷ ys) o = at (qualifies r k y.order) refl (pass-first k r ys (λ key. (o key).1))
  where
    other : (x : Live) → find (λ z. qualifies r k z.order) ys ≡ Some x → is_under x.key.0 y ≡ false
    other x f = false_from_ne_true (is_under x.key.0 y) (λ t. true≢false
        (sym (eq-eqb x.key.0 x.key.0 refl) ∙ found_among (λ z. is_under x.key.0 z ≡ false) (λ z. qualifies r k z.order) x ys ((o x.key.0).0 t) f))

    passed : qualifies r k y.order ≡ false → (f : Option Live) → find (λ z. qualifies r k z.order) ys ≡ f → pass_with k r ys f ≡ pass_with k r (y ∷ ys) f
    passed q None f = refl
    passed q (Some x) f =
        ap (λ l. fill r x ∷ l)
        (sym (cond-false (qualifies (r - min r x.order.shares) k y.order) _ _ (never_later r (min r x.order.shares) k y.order q))
        ∙ ap (pass k (r - min r x.order.shares)) (sym (cond-false (is_under x.key.0 y) _ _ (other x f))))

    at : (b : Bool) → qualifies r k y.order ≡ b → pass k r ys ≡ pass_with k r ys (find (λ z. qualifies r k z.order) ys)
        → cond b (fill r y ∷ pass k (r - min r y.order.shares) ys) (pass k r ys) ≡ pass_with k r (y ∷ ys) (cond b (Some y) (find (λ z. qualifies r k z.order) ys))
    at true q ih = ap (λ l. fill r y ∷ pass k (r - min r y.order.shares) l) (sym (cond-true (is_under y.key.0 y) ys _ (eq-eqb y.key.0 y.key.0 refl)))
    at false q ih = ih ∙ passed q (find (λ z. qualifies r k z.order) ys) refl

chosen-find : (incoming : Incoming) (r : ℕ) (orders : List Live) → chosen incoming r orders ≡ find (λ x. qualifies r incoming.minimum x.order) (ranked (terms incoming) orders)
chosen-find incoming r orders =
    first_of-filter (is_ahead incoming.side) (ahead_asym incoming.side) (ahead_skip incoming.side) (λ live. crosses (terms incoming) live.order) (λ x. qualifies r incoming.minimum x.order) orders
    ∙ first_of-find (is_ahead incoming.side) (ahead_asym incoming.side) (ahead_skip incoming.side) (λ x. qualifies r incoming.minimum x.order) (filter (λ live. crosses (terms incoming) live.order) orders)

ranked-without : (incoming : Incoming) (key : ℕ) (orders : List Live) → KeysOnce orders → ranked (terms incoming) (without key orders) ≡ drop_first (is_under key) (ranked (terms incoming) orders)
ranked-without incoming key orders o =
    ap (by_rank (is_ahead incoming.side)) (filter-drop_first (λ live. crosses (terms incoming) live.order) (is_under key) orders (o key))
    ∙ by_rank-drop_first (is_ahead incoming.side) (ahead_asym incoming.side) (ahead_skip incoming.side) (is_under key) (filter (λ live. crosses (terms incoming) live.order) orders)
    (once_filtered (λ live. crosses (terms incoming) live.order) (is_under key) orders (o key))

pub fills-zero : (n : ℕ) (incoming : Incoming) (orders : List Live) → fills_within n incoming 0 orders ≡ []
fills-zero zero incoming orders = refl
fills-zero (suc n) incoming orders =
    ap (with_choice (fills_within n incoming) 0 orders) (chosen-find incoming 0 orders ∙ nothing (ranked (terms incoming) orders))
  where
    nothing : (xs : List Live) → find (λ x. qualifies 0 incoming.minimum x.order) xs ≡ None
    nothing [] = refl
    nothing (x ∷ xs) = cond-false (qualifies 0 incoming.minimum x.order) _ _ (none_for_zero incoming.minimum x.order) ∙ nothing xs

pub fills-pass : (n : ℕ) (incoming : Incoming) (r : ℕ) (orders : List Live) → length orders ≤ n → KeysOnce orders
    → fills_within n incoming r orders ≡ pass incoming.minimum r (ranked (terms incoming) orders)
fills-pass zero incoming r [] l o = refl
fills-pass zero incoming r (x ∷ xs) l o = absurd (omega arith)
fills-pass (suc n) incoming r orders l o =
    ap (with_choice (fills_within n incoming) r orders) (chosen-find incoming r orders)
    ∙ step (find (λ x. qualifies r incoming.minimum x.order) (ranked (terms incoming) orders)) refl (λ s m lm om. fills-pass n incoming s m lm om)
    ∙ sym (pass-first incoming.minimum r (ranked (terms incoming) orders) (ranked_once (terms incoming) orders o))
  where
    lives : (x : Live) → find (λ z. qualifies r incoming.minimum z.order) (ranked (terms incoming) orders) ≡ Some x
        → AllByRecursion (λ z. is_under x.key.0 z ≡ false) orders → ⊥
    lives x f a = true≢false (sym (eq-eqb x.key.0 x.key.0 refl)
        ∙ found_among (λ z. is_under x.key.0 z ≡ false) (λ z. qualifies r incoming.minimum z.order) x (ranked (terms incoming) orders)
        (all_ranked (is_ahead incoming.side) (ahead_asym incoming.side) (ahead_skip incoming.side) (λ z. is_under x.key.0 z ≡ false) (filter (λ live. crosses (terms incoming) live.order) orders)
        (all_filtered (λ z. is_under x.key.0 z ≡ false) (λ live. crosses (terms incoming) live.order) orders a)) f)

    rest : (x : Live) (b : Bool) → ltb (min r x.order.shares) x.order.shares ≡ b
        → find (λ z. qualifies r incoming.minimum z.order) (ranked (terms incoming) orders) ≡ Some x
        → ((s : ℕ) (m : List Live) → length m ≤ n → KeysOnce m → fills_within n incoming s m ≡ pass incoming.minimum s (ranked (terms incoming) m))
        → fills_within n incoming (r - min r x.order.shares) (cond b (reduced x.key.0 (min r x.order.shares) orders) (without x.key.0 orders))
        ≡ pass incoming.minimum (r - min r x.order.shares) (drop_first (is_under x.key.0) (ranked (terms incoming) orders))
    rest x true e f ih =
        let lt : min r x.order.shares < x.order.shares = ltb-true (min r x.order.shares) x.order.shares e in
        let none : r - min r x.order.shares ≡ 0 = omega arith in
        ap (λ s. fills_within n incoming s (reduced x.key.0 (min r x.order.shares) orders)) none
        ∙ fills-zero n incoming (reduced x.key.0 (min r x.order.shares) orders)
        ∙ sym (pass-zero incoming.minimum (drop_first (is_under x.key.0) (ranked (terms incoming) orders)))
        ∙ ap (λ s. pass incoming.minimum s (drop_first (is_under x.key.0) (ranked (terms incoming) orders))) (sym none)
    rest x false e f ih =
        let shorter : length (without x.key.0 orders) + 1 ≡ length orders = length-drop_first (is_under x.key.0) orders (lives x f) in
        ih (r - min r x.order.shares) (without x.key.0 orders) (omega arith) (λ key. once_dropped (is_under key) (is_under x.key.0) orders (o key))
        ∙ ap (pass incoming.minimum (r - min r x.order.shares)) (ranked-without incoming x.key.0 orders o)

    step : (f : Option Live) → find (λ z. qualifies r incoming.minimum z.order) (ranked (terms incoming) orders) ≡ f
        → ((s : ℕ) (m : List Live) → length m ≤ n → KeysOnce m → fills_within n incoming s m ≡ pass incoming.minimum s (ranked (terms incoming) m))
        → with_choice (fills_within n incoming) r orders f ≡ pass_with incoming.minimum r (ranked (terms incoming) orders) f
    step None e ih = refl
    step (Some x) e ih = ap (λ l. fill r x ∷ l) (rest x (ltb (min r x.order.shares) x.order.shares) refl e ih)

output_taken : (k left : ℕ) (live : Live) (rest : List Live) (front all : List Fill) (f : Fill) → front ++ pass k left (live ∷ rest) ≡ all
    → qualifies left k live.order ≡ true → f ≡ fill left live → (front ++ f ∷ []) ++ pass k (left - f.shares) rest ≡ all
output_taken k left live rest front all f h q e =
    append_assoc front (f ∷ []) (pass k (left - f.shares) rest)
    ∙ ap (λ l. front ++ l) (ap (λ (v : Fill). v ∷ pass k (left - v.shares) rest) e ∙ sym (cond-true (qualifies left k live.order) _ _ q)) ∙ h

-- orders that do not qualify leave the pass as it is
pass-passed : (k r : ℕ) (front xs : List Live) → AllByRecursion (λ y. qualifies r k y.order ≡ false) front → pass k r (front ++ xs) ≡ pass k r xs
pass-passed k r [] xs h = refl
pass-passed k r (y ∷ ys) xs h = cond-false (qualifies r k y.order) _ _ h.0 ∙ pass-passed k r ys xs h.1

fill_is : (left : ℕ) (key : Key) (o : Order) (live : Live) → o ≡ live.order → live.key ≡ key → record { key = key; shares = min left o.shares; price = o.price } ≡ fill left live
fill_is left key o live e h =
    ap (λ (x : Order). record { key = key; shares = min left x.shares; price = x.price }) e
    ∙ ap (λ (n : Key). record { key = n; shares = min left live.order.shares; price = live.order.price }) (sym h)

-- the next order that qualifies is executed after those of `front`, and the pass goes on after it
pub record Executed (incoming : Incoming) (after : Option Key) (left : ℕ) (key : Key) (orders : List Live) (front all : List Fill) (f : Fill) : Type 0 where
  pub output : (front ++ f ∷ []) ++ pass incoming.minimum (left - f.shares) (rest_after (Some key) (ranked (terms incoming) orders)) ≡ all
  pub total : left - f.shares + shares_of (front ++ f ∷ []) ≡ left + shares_of front
  pub shorter : length (rest_after (Some key) (ranked (terms incoming) orders)) < length (rest_after after (ranked (terms incoming) orders))

pub executed : (incoming : Incoming) (after : Option Key) (left : ℕ) (key : Key) (orders : List Live) (o : Order) (front all : List Fill) (f : Fill) → KeysDiffer orders
    → Some key ≡ next_qualifying (terms incoming) after left incoming.minimum orders → order_of key.0 orders ≡ Some o → f ≡ record { key = key; shares = min left o.shares; price = o.price }
    → front ++ pass incoming.minimum left (rest_after after (ranked (terms incoming) orders)) ≡ all → Executed incoming after left key orders front all f
executed incoming after left key orders o front all f d n g e h =
    let m : Met (terms incoming) after (is_qualifying left incoming.minimum) key orders = met (terms incoming) after (is_qualifying left incoming.minimum) key orders d n in
    let rest = rest_after (Some key) (ranked (terms incoming) orders) in
    let same : f ≡ fill left m.live = e ∙ fill_is left key o m.live (same_Some _ _ (sym g ∙ m.order)) m.has in
    let shares : f.shares ≡ min left m.live.order.shares = ap (λ (v : Fill). v.shares) same in
    record {
      output = output_taken incoming.minimum left m.live rest front all f
          (ap (λ l. front ++ l) (sym (ap (pass incoming.minimum left) m.rest ∙ pass-passed incoming.minimum left m.passed (m.live ∷ rest) m.idle)) ∙ h) m.passes same;
      total = (let s : shares_of (front ++ f ∷ []) ≡ shares_of front + shares_of (f ∷ []) = sum_by-append (λ (v : Fill). v.shares) front (f ∷ []) in omega arith);
      shorter = walk-shorter (terms incoming) after (is_qualifying left incoming.minimum) key orders m;
    }

-- none qualifies: the pass is over
pub pass-over : (k r : ℕ) (xs : List Live) → None ≡ option_map (λ live. live.key) (find (is_qualifying r k) xs) → pass k r xs ≡ []
pass-over k r [] e = refl
pass-over k r (x ∷ xs) e = at (qualifies r k x.order) e (pass-over k r xs)
  where
    at : (b : Bool) → None ≡ option_map (λ (live : Live). live.key) (cond b (Some x) (find (is_qualifying r k) xs))
        → (None ≡ option_map (λ (live : Live). live.key) (find (is_qualifying r k) xs) → pass k r xs ≡ [])
        → cond b (fill r x ∷ pass k (r - min r x.order.shares) xs) (pass k r xs) ≡ []
    at true g ih = cc
    at false g ih = ih g

pub steps_of-pass : (incoming : Incoming) (orders : List Live) → KeysDiffer orders → steps_of incoming orders ≡ pass incoming.minimum incoming.shares (ranked (terms incoming) orders)
steps_of-pass incoming orders d = fills-pass (length orders) incoming incoming.shares orders (omega arith) (λ k. once_under k orders d)
