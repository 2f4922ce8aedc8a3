-- Entries that do not cross are not met: without them the executions are the same.
use Rattle.std.proofs.Common.{◌≡◌, ℕ, zero, suc, ◌-◌, min, Bool, true, false, cond, ltb, not, ◌&&◌, refl, sym, ap, ◌∙◌, subst, eqb-true, List, [], ◌∷◌, ◌++◌, map, Some, None, Option}
use Rattle.std.specs.List.{AllByRecursion, filter, find}
use Rattle.std.specs.Option.{option_map}
use Rattle.std.proofs.lemmas.Bool.{or_parts, and_parts}
use Rattle.std.proofs.lemmas.List.Elements.{filter-append}
use Rattle.hx_book.specs.declared.order.Order.{Order}
use Rattle.hx_book.specs.declared.order.Live.{Live}
use Rattle.hx_book.specs.Book.{crosses, outranks, has_key, is_under, order_of, KeysDiffer, without, lives}
use Rattle.hx_book.proofs.Orders.{none_under}
use Rattle.hx_match.specs.declared.fills.Incoming.{Incoming}
use Rattle.hx_match.specs.declared.fills.Fill.{Fill}
use Rattle.hx_match.specs.Matching.{terms, passes, qualifies, PositionOf, later, first_of_entries, first_entry, less_of, FillOf, MatchedOf, matched_by, matched_entries, matched_live, order_in, cut_live}
use Rattle.hx_match.specs.Executing.{fill_of, fills_of, AreGood, done_by, left_by}
use Rattle.hx_match.specs.Rules.{AreFills}
use Rattle.hx_match.proofs.First.{all_append}
use Rattle.hx_match.proofs.Carried.{carried}
use Rattle.hx_book.proofs.Keys.{differ-dropped}

-- the entries that are not retained do not cross
abbrev AreIdle : {X : Type 0} → (X → Order) → (X → Bool) → Incoming → List X → Type 0
AreIdle order_of keep inc xs = AllByRecursion (λ x. keep x ≡ false → crosses (terms inc) (order_of x) ≡ false) xs

retained_position : {X : Type 0} → (X → Bool) → PositionOf X → PositionOf X
retained_position keep p = record { front = filter keep p.front; order = p.order; back = filter keep p.back }

-- what the choice is of: the others are idle if they are not retained, and it passes
abbrev IsIdleAt : {X : Type 0} → (X → Order) → (X → Bool) → Incoming → ℕ → Option (PositionOf X) → Type 0
IsIdleAt order_of keep inc r None = Unit {0}
IsIdleAt order_of keep inc r (Some p) =
    AreIdle order_of keep inc p.front × (keep p.order ≡ false → crosses (terms inc) (order_of p.order) ≡ false) × (passes inc r (order_of p.order) ≡ true) × AreIdle order_of keep inc p.back

idle_first : {X : Type 0} (order_of : X → Order) (keep : X → Bool) (inc : Incoming) (r : ℕ) (x : X) (xs : List X) (t : Bool) → passes inc r (order_of x) ≡ t → (o : Option (PositionOf X))
    → (keep x ≡ false → crosses (terms inc) (order_of x) ≡ false) → AreIdle order_of keep inc xs → IsIdleAt order_of keep inc r o → IsIdleAt order_of keep inc r (first_of_entries order_of inc x xs t o)
idle_first order_of keep inc r x xs false e None h k i = tt
idle_first order_of keep inc r x xs false e (Some p) h k i = ((h, i.0), i.1, i.2, i.3)
idle_first order_of keep inc r x xs true e None h k i = (tt, h, e, k)
idle_first order_of keep inc r x xs true e (Some p) h k i = choose (outranks inc.side (order_of p.order) (order_of x))
  where
    choose : (b : Bool) → IsIdleAt order_of keep inc r (cond b (Some (later x p)) (Some (record { front = []; order = x; back = xs })))
    choose true = ((h, i.0), i.1, i.2, i.3)
    choose false = (tt, h, e, k)

idle_choice : {X : Type 0} (order_of : X → Order) (keep : X → Bool) (inc : Incoming) (r : ℕ) (xs : List X) → AreIdle order_of keep inc xs → IsIdleAt order_of keep inc r (first_entry order_of inc r xs)
idle_choice order_of keep inc r [] h = tt
idle_choice order_of keep inc r (x ∷ xs) h = idle_first order_of keep inc r x xs (passes inc r (order_of x)) refl (first_entry order_of inc r xs) h.0 h.1 (idle_choice order_of keep inc r xs h.1)

retained_first : {X : Type 0} (order_of : X → Order) (keep : X → Bool) (inc : Incoming) (x : X) (xs : List X) (t : Bool) (o : Option (PositionOf X)) → keep x ≡ true
    → first_of_entries order_of inc x (filter keep xs) t (option_map (retained_position keep) o) ≡ option_map (retained_position keep) (first_of_entries order_of inc x xs t o)
unfolding retained_position
retained_first order_of keep inc x xs false None e = refl
retained_first order_of keep inc x xs false (Some p) e = rw e refl
retained_first order_of keep inc x xs true None e = refl
retained_first order_of keep inc x xs true (Some p) e = choose (outranks inc.side (order_of p.order) (order_of x))
  where
    choose : (b : Bool) → cond b (Some (later x (retained_position keep p))) (Some (record { front = []; order = x; back = filter keep xs }))
        ≡ option_map (retained_position keep) (cond b (Some (later x p)) (Some (record { front = []; order = x; back = xs })))
    choose true = rw e refl
    choose false = refl

dropped_first : {X : Type 0} (order_of : X → Order) (keep : X → Bool) (inc : Incoming) (x : X) (xs : List X) (o : Option (PositionOf X)) → keep x ≡ false
    → option_map (retained_position keep) o ≡ option_map (retained_position keep) (first_of_entries order_of inc x xs false o)
unfolding retained_position
dropped_first order_of keep inc x xs None e = refl
dropped_first order_of keep inc x xs (Some p) e = rw e refl

not_passing : (inc : Incoming) (r : ℕ) (x : Order) → crosses (terms inc) x ≡ false → passes inc r x ≡ false
not_passing inc r x e = at (crosses (terms inc) x) (qualifies inc r x) e
  where
    at : (a b : Bool) → a ≡ false → (a && b) ≡ false
    at false b e = refl
    at true b e = absurd (let z : true ≡ false = e in cc)

-- the choice among the entries that are retained is the choice among all
first_retained : {X : Type 0} (order_of : X → Order) (keep : X → Bool) (inc : Incoming) (r : ℕ) (xs : List X) → AreIdle order_of keep inc xs
    → first_entry order_of inc r (filter keep xs) ≡ option_map (retained_position keep) (first_entry order_of inc r xs)
first_retained order_of keep inc r [] h = refl
first_retained {X = X} order_of keep inc r (x ∷ xs) h = at (keep x) refl (first_retained order_of keep inc r xs h.1)
  where
    at : (b : Bool) → keep x ≡ b → first_entry order_of inc r (filter keep xs) ≡ option_map (retained_position keep) (first_entry order_of inc r xs)
        → first_entry order_of inc r (cond b (x ∷ filter keep xs) (filter keep xs)) ≡ option_map (retained_position keep) (first_entry order_of inc r (x ∷ xs))
    at true e ih = ap (λ (o : Option (PositionOf X)). first_of_entries order_of inc x (filter keep xs) (passes inc r (order_of x)) o) ih ∙ retained_first order_of keep inc x xs (passes inc r (order_of x)) (first_entry order_of inc r xs) e
    at false e ih =
        ih ∙ dropped_first order_of keep inc x xs (first_entry order_of inc r xs) e
        ∙ ap (λ b. option_map (retained_position keep) (first_of_entries order_of inc x xs b (first_entry order_of inc r xs))) (sym (not_passing inc r (order_of x) (h.0 e)))

-- what an execution leaves of a retained entry is retained
filter-less : {X : Type 0} (order_of : X → Order) (cut : X → ℕ → X) (keep : X → Bool) → ((x : X) (n : ℕ) → keep (cut x n) ≡ keep x) → (x : X) (f : ℕ) → keep x ≡ true → filter keep (less_of order_of cut x f) ≡ less_of order_of cut x f
filter-less order_of cut keep same x f e = at (ltb f (order_of x).shares)
  where
    at : (b : Bool) → filter keep (cond b (cut x ((order_of x).shares - f) ∷ []) []) ≡ cond b (cut x ((order_of x).shares - f) ∷ []) []
    at true = rw (same x ((order_of x).shares - f), e) refl
    at false = refl

idle-less : {X : Type 0} (order_of : X → Order) (cut : X → ℕ → X) (keep : X → Bool) → ((x : X) (n : ℕ) → keep (cut x n) ≡ keep x) → (inc : Incoming) (x : X) (f : ℕ) → keep x ≡ true → AreIdle order_of keep inc (less_of order_of cut x f)
idle-less order_of cut keep same inc x f e = at (ltb f (order_of x).shares)
  where
    at : (b : Bool) → AreIdle order_of keep inc (cond b (cut x ((order_of x).shares - f) ∷ []) [])
    at true = ((λ no. absurd (let z : true ≡ false = sym e ∙ sym (same x ((order_of x).shares - f)) ∙ no in cc)), tt)
    at false = tt

record SameMatch (X : Type 0) (a b : MatchedOf X) : Type 0 where
  pub fills : a.fills ≡ b.fills
  pub left : a.left ≡ b.left

-- the executions among the entries that are retained are the executions among all
matched_retained : {X : Type 0} (order_of : X → Order) (cut : X → ℕ → X) (keep : X → Bool) → ((x : X) (n : ℕ) → keep (cut x n) ≡ keep x) → (n : ℕ) (inc : Incoming) (r : ℕ) (xs : List X) → AreIdle order_of keep inc xs
    → SameMatch X (matched_entries order_of cut n inc r (filter keep xs)) (matched_entries order_of cut n inc r xs)
unfolding matched_entries retained_position
matched_retained order_of cut keep same zero inc r xs h = record { fills = refl; left = refl }
matched_retained {X = X} order_of cut keep same (suc n) inc r xs h =
    subst (λ (o : Option (PositionOf X)). SameMatch X (matched_by order_of cut (matched_entries order_of cut n inc) r (filter keep xs) o) (matched_by order_of cut (matched_entries order_of cut n inc) r xs (first_entry order_of inc r xs)))
    (sym (first_retained order_of keep inc r xs h)) (choose (first_entry order_of inc r xs) (idle_choice order_of keep inc r xs h) (λ s ys k. matched_retained order_of cut keep same n inc s ys k))
  where
    retained : (p : PositionOf X) → IsIdleAt order_of keep inc r (Some p) → (b : Bool) → keep p.order ≡ b → b ≡ true
    retained p i true e = refl
    retained p i false e = absurd (let z : true ≡ false = sym (and_parts (crosses (terms inc) (order_of p.order)) (qualifies inc r (order_of p.order)) i.2).0 ∙ i.1 e in cc)

    choose : (o : Option (PositionOf X)) → IsIdleAt order_of keep inc r o
        → ((s : ℕ) (ys : List X) → AreIdle order_of keep inc ys → SameMatch X (matched_entries order_of cut n inc s (filter keep ys)) (matched_entries order_of cut n inc s ys))
        → SameMatch X (matched_by order_of cut (matched_entries order_of cut n inc) r (filter keep xs) (option_map (retained_position keep) o)) (matched_by order_of cut (matched_entries order_of cut n inc) r xs o)
    choose None i ih = record { fills = refl; left = refl }
    choose (Some p) i ih =
        let f : ℕ = min r (order_of p.order).shares in
        let k : keep p.order ≡ true = (let t = retained p i (keep p.order) refl in t) in
        let ys : List X = p.front ++ (less_of order_of cut p.order f ++ p.back) in
        let idle : AreIdle order_of keep inc ys = all_append _ p.front (less_of order_of cut p.order f ++ p.back) i.0 (all_append _ (less_of order_of cut p.order f) p.back (idle-less order_of cut keep same inc p.order f k) i.3) in
        let e : filter keep ys ≡ filter keep p.front ++ (less_of order_of cut p.order f ++ filter keep p.back) =
        filter-append keep p.front (less_of order_of cut p.order f ++ p.back)
        ∙ ap (λ l. filter keep p.front ++ l) (filter-append keep (less_of order_of cut p.order f) p.back ∙ ap (λ l. l ++ filter keep p.back) (filter-less order_of cut keep same p.order f k)) in
        let m = subst (λ (l : List X). SameMatch X (matched_entries order_of cut n inc (r - f) l) (matched_entries order_of cut n inc (r - f) ys)) e (ih (r - f) ys idle) in
        record { fills = ap (λ (l : List (FillOf X)). record { order = p.order; shares = f } ∷ l) m.fills; left = m.left }

-- Of orders under keys, without the one that has a key.

abbrev is_other : ℕ → Live → Bool
is_other key x = not (is_under key x)

all_other : (key : ℕ) (xs : List Live) → has_key key xs ≡ false → filter (is_other key) xs ≡ xs
all_other key [] h = refl
all_other key (x ∷ xs) h =
    let parts = or_parts (is_under key x) (has_key key xs) h in
    ap (λ b. cond (not b) (x ∷ filter (is_other key) xs) (filter (is_other key) xs)) parts.0 ∙ ap (λ l. x ∷ l) (all_other key xs parts.1)

pub others_of : (key : ℕ) (xs : List Live) → KeysDiffer xs → without key xs ≡ filter (is_other key) xs
others_of key [] h = refl
others_of key (x ∷ xs) h = at (is_under key x) refl (others_of key xs h.1)
  where
    at : (b : Bool) → is_under key x ≡ b → without key xs ≡ filter (is_other key) xs → cond b xs (x ∷ without key xs) ≡ cond (not b) (x ∷ filter (is_other key) xs) (filter (is_other key) xs)
    at true e ih =
        let same : x.key.0 ≡ key = eqb-true x.key.0 key e in
        sym (all_other key xs (subst (λ k. has_key k xs ≡ false) same h.0))
    at false e ih = ap (λ l. x ∷ l) ih

idle_but : (inc : Incoming) (key : ℕ) (x : Order) (xs : List Live) → KeysDiffer xs → order_of key xs ≡ Some x → crosses (terms inc) x ≡ false → AreIdle order_in (is_other key) inc xs
idle_but inc key x [] h e c = tt
idle_but inc key x (y ∷ ys) h e c = at (is_under key y) refl e (λ f. idle_but inc key x ys h.1 f c)
  where
    no_key : (l : Live) (b : Bool) → not b ≡ false → b ≡ false → crosses (terms inc) l.order ≡ false
    no_key l true n t = absurd (let z : true ≡ false = t in cc)
    no_key l false n t = absurd (let z : true ≡ false = n in cc)

    none : (ls : List Live) → AllByRecursion (λ l. is_under key l ≡ false) ls → AreIdle order_in (is_other key) inc ls
    none [] a = tt
    none (l ∷ ls) a = ((λ n. no_key l (is_under key l) n a.0), none ls a.1)

    at : (b : Bool) → is_under key y ≡ b → option_map (λ l. l.order) (cond b (Some y) (find (is_under key) ys)) ≡ Some x → (order_of key ys ≡ Some x → AreIdle order_in (is_other key) inc ys) → AreIdle order_in (is_other key) inc (y ∷ ys)
    at true t e ih =
        let same : y.order ≡ x = let z : Some y.order ≡ Some x = e in cc in
        let key_is : y.key.0 ≡ key = eqb-true y.key.0 key t in
        ((λ _. subst (λ (o : Order). crosses (terms inc) o ≡ false) (sym same) c), none ys (none_under key ys (subst (λ k. has_key k ys ≡ false) key_is h.0)))
    at false t e ih = ((λ n. no_key y (is_under key y) n t), ih e)

-- the fills are the executions against the others, too
pub unmet : (inc : Incoming) (key : ℕ) (x : Order) (xs : List Live) → KeysDiffer xs → order_of key xs ≡ Some x → crosses (terms inc) x ≡ false
    → AreFills inc (without key xs) (fills_of inc xs) (matched_live inc xs).left
unmet inc key x xs h e c =
    let m = matched_retained order_in cut_live (is_other key) (λ l n. refl) inc.shares inc inc.shares xs (idle_but inc key x xs h e c) in
    let w : without key xs ≡ filter (is_other key) xs = others_of key xs h in
    let fills : fills_of inc (without key xs) ≡ fills_of inc xs = ap (λ l. fills_of inc l) w ∙ ap (λ (l : List (FillOf Live)). map fill_of l) m.fills in
    let left : (matched_live inc (without key xs)).left ≡ (matched_live inc xs).left = ap (λ l. (matched_live inc l).left) w ∙ m.left in
    let k = carried inc (without key xs) (differ-dropped key xs h) in
    record {
      good = subst (λ (fs : List Fill). AreGood fs (without key xs)) fills k.good;
      done = ap (λ (fs : List Fill). done_by fs (without key xs)) (sym fills) ∙ k.done;
      rest = ap (λ (fs : List Fill). lives (left_by fs (without key xs))) (sym fills) ∙ k.rest;
      remains = sym left ∙ k.left;
    }
