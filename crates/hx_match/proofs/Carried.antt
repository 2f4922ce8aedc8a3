-- The fills by key are the executions of the definition.
use Rattle.std.proofs.Common.{◌≡◌, ℕ, zero, suc, ◌+◌, ◌-◌, ◌<◌, ◌≤◌, min, Bool, true, false, cond, ltb, List, [], ◌∷◌, ◌++◌, map, length, Option, Some, None, refl, sym, ap, ◌∙◌, subst, arith, eq-eqb, eqb-true, zero-add}
use Rattle.std.specs.Option.{option_map, IfSome}
use Rattle.std.specs.List.{find}
use Rattle.std.proofs.lemmas.Bool.{cond-true, cond-false, cond_both, true≢false, false_from_ne_true, or_parts, ltb-true}
use Rattle.std.proofs.lemmas.List.Sums.{sum_by-append}
use Rattle.hx_book.specs.declared.order.Live.{Live}
use Rattle.hx_book.specs.Rank.{higher}
use Rattle.hx_book.specs.Book.{outranks, is_ahead, is_under, has_key, reduced, without, order_of, lives, KeysDiffer}
use Rattle.hx_book.proofs.Keys.{differ-dropped}
use Rattle.hx_match.specs.declared.fills.Incoming.{Incoming}
use Rattle.hx_match.specs.declared.fills.Fill.{Fill}
use Rattle.hx_match.specs.Matching.{PositionOf, FillOf, Execution, MatchedOf, Matched, passes, later, first_of_entries, first_entry, less_of, after_fill, matched_by, matched_entries, matched, matched_live, order_in, cut_live}
use Rattle.hx_match.specs.Executing.{fill_of, fills_of, taken, done_with, done_by, left_with, left_by, IsGoodWith, AreGood}
use Rattle.hx_match.specs.Rules.{orders_of_matched}
use Rattle.hx_match.proofs.Steps.{chosen, with_choice, fills_within, steps_of, shares_of}
use Rattle.hx_match.proofs.First.{some_shares, none_passes}
use Rattle.hx_match.proofs.Entries.{matched_of_map}
use Rattle.hx_match.proofs.OnePass.{fills-zero}

abbrev Position : Type 0
Position = PositionOf Live

abbrev first : Incoming → ℕ → List Live → Option Position
first inc r xs = first_entry order_in inc r xs

abbrev M : ℕ → Incoming → ℕ → List Live → MatchedOf Live
M n inc r xs = matched_entries order_in cut_live n inc r xs

abbrev entry_of : Option Position → Option Live
entry_of p = option_map (λ q. q.order) p

-- the choice is the same
choice : (inc : Incoming) (r : ℕ) (xs : List Live) → entry_of (first inc r xs) ≡ chosen inc r xs
choice inc r [] = refl
choice inc r (x ∷ xs) = at (passes inc r x.order) (first inc r xs) (chosen inc r xs) (choice inc r xs)
  where
    pick : (b : Bool) (p : Position) → entry_of (cond b (Some (later x p)) (Some (record { front = []; order = x; back = xs }))) ≡ Some (cond b p.order x)
    pick true p = refl
    pick false p = refl

    at : (b : Bool) (p : Option Position) (c : Option Live) → entry_of p ≡ c
        → entry_of (first_of_entries order_in inc x xs b p) ≡ cond b (higher (is_ahead inc.side) x c) c
    at false None c e = e
    at false (Some p) c e = e
    at true None c e = ap (higher (is_ahead inc.side) x) e
    at true (Some p) c e = pick (outranks inc.side p.order.order x.order) p ∙ ap (higher (is_ahead inc.side) x) e

-- its position, and that it passes
abbrev IsRight : Incoming → ℕ → List Live → Position → Type 0
IsRight inc r xs p = (xs ≡ p.front ++ p.order ∷ p.back) × (passes inc r p.order.order ≡ true)

split : (inc : Incoming) (r : ℕ) (xs : List Live) → IfSome (first inc r xs) (IsRight inc r xs)
split inc r [] = tt
split inc r (x ∷ xs) = at (passes inc r x.order) refl (first inc r xs) (split inc r xs)
  where
    at : (b : Bool) → passes inc r x.order ≡ b → (p : Option Position) → IfSome p (IsRight inc r xs) → IfSome (first_of_entries order_in inc x xs b p) (IsRight inc r (x ∷ xs))
    at false e None h = tt
    at false e (Some p) h = (ap (λ l. x ∷ l) h.0, h.1)
    at true e None h = (refl, e)
    at true e (Some p) h =
        cond_both (outranks inc.side p.order.order x.order) (Some (later x p)) (Some (record { front = []; order = x; back = xs }))
        (λ o. IfSome o (IsRight inc r (x ∷ xs))) (λ _. (ap (λ l. x ∷ l) h.0, h.1)) (λ _. (refl, e))

not_at : (k : ℕ) (ys : List Live) (x : Live) (back : List Live) → has_key k (ys ++ x ∷ back) ≡ false → is_under k x ≡ false
not_at k [] x back h = (or_parts (is_under k x) (has_key k back) h).0
not_at k (y ∷ ys) x back h = not_at k ys x back (or_parts (is_under k y) (has_key k (ys ++ x ∷ back)) h).1

abbrev cut_by : ℕ → Live → Live
cut_by f x = cut_live x (x.order.shares - f)

-- what stands at the key of an entry
record AtEntry (front : List Live) (x : Live) (back : List Live) : Type 0 where
  found : find (is_under x.key.0) (front ++ x ∷ back) ≡ Some x
  reduces : (f : ℕ) → reduced x.key.0 f (front ++ x ∷ back) ≡ front ++ cut_by f x ∷ back
  drops : without x.key.0 (front ++ x ∷ back) ≡ front ++ back

at_entry : (front : List Live) (x : Live) (back : List Live) → KeysDiffer (front ++ x ∷ back) → AtEntry front x back
at_entry [] x back d =
    let t : is_under x.key.0 x ≡ true = eq-eqb x.key.0 x.key.0 refl in
    record { found = cond-true (is_under x.key.0 x) _ _ t; reduces = λ f. cond-true (is_under x.key.0 x) _ _ t; drops = cond-true (is_under x.key.0 x) _ _ t }
at_entry (y ∷ ys) x back d =
    let other : is_under y.key.0 x ≡ false = not_at y.key.0 ys x back d.0 in
    let f : is_under x.key.0 y ≡ false = false_from_ne_true (is_under x.key.0 y) (λ t. true≢false (sym (eq-eqb x.key.0 y.key.0 (sym (eqb-true y.key.0 x.key.0 t))) ∙ other)) in
    let a : AtEntry ys x back = at_entry ys x back d.1 in
    record {
      found = cond-false (is_under x.key.0 y) _ _ f ∙ a.found;
      reduces = λ n. cond-false (is_under x.key.0 y) _ _ f ∙ ap (λ l. y ∷ l) (a.reduces n);
      drops = cond-false (is_under x.key.0 y) _ _ f ∙ ap (λ l. y ∷ l) a.drops;
    }

abbrev execution_of : FillOf Live → Execution
execution_of f = record { order = f.order.order; shares = f.shares }

-- the fills by key, and the executions of the definition
record Same (fills : List Fill) (orders : List Live) (m : MatchedOf Live) (r : ℕ) : Type 0 where
  good : AreGood fills orders
  done : done_by fills orders ≡ map execution_of m.fills
  same : fills ≡ map fill_of m.fills
  left : left_by fills orders ≡ m.rest
  shares : r - shares_of fills ≡ m.left

shares-cons : (f : Fill) (fs : List Fill) → shares_of (f ∷ fs) ≡ f.shares + shares_of fs
shares-cons f fs = sum_by-append (λ (x : Fill). x.shares) (f ∷ []) fs ∙ ap (λ n. n + shares_of fs) (zero-add f.shares)

cons_same : (x : Live) (n : ℕ) (fs : List Fill) (orders next : List Live) (m : MatchedOf Live) (r : ℕ)
    → order_of x.key.0 orders ≡ Some x.order → taken x.key.0 n x.order orders ≡ next → 0 < n → n ≤ x.order.shares
    → Same fs next m (r - n) → Same (fill_of (record { order = x; shares = n }) ∷ fs) orders (after_fill (record { order = x; shares = n }) m) r
cons_same x n fs orders next m r found t some enough s =
    let e : FillOf Live = record { order = x; shares = n } in
    let f : Fill = fill_of e in
    record {
      good = subst (IsGoodWith (AreGood fs) f orders) (sym found) (some, enough, refl, subst (AreGood fs) (sym t) s.good);
      done = ap (done_with (done_by fs) f orders) found ∙ ap (λ l. execution_of e ∷ l) (ap (done_by fs) t ∙ s.done);
      same = ap (λ l. f ∷ l) s.same;
      left = ap (left_with (left_by fs) f orders) found ∙ ap (left_by fs) t ∙ s.left;
      shares = ap (λ k. r - k) (shares-cons f fs) ∙ (omega arith) ∙ s.shares;
    }

none_first : (inc : Incoming) (xs : List Live) → first inc 0 xs ≡ None
none_first inc [] = refl
none_first inc (x ∷ xs) =
    ap (λ b. first_of_entries order_in inc x xs b (first inc 0 xs)) (none_passes inc x.order)
    ∙ ap (first_of_entries order_in inc x xs false) (none_first inc xs)

nothing : (r : ℕ) (xs : List Live) → Same [] xs (record { fills = []; rest = xs; left = r }) r
nothing r xs = record { good = tt; done = refl; same = refl; left = refl; shares = omega arith }

none_matched : (m : ℕ) (inc : Incoming) (xs : List Live) → M m inc 0 xs ≡ record { fills = []; rest = xs; left = 0 }
unfolding matched_entries
none_matched zero inc xs = refl
none_matched (suc m) inc xs = ap (matched_by order_in cut_live (M m inc) 0 xs) (none_first inc xs)

empty : (n m : ℕ) (inc : Incoming) (xs : List Live) → Same (fills_within n inc 0 xs) xs (M m inc 0 xs) 0
empty n m inc xs =
    subst (λ fs. Same fs xs (M m inc 0 xs) 0) (sym (fills-zero n inc xs)) (subst (λ k. Same [] xs k 0) (sym (none_matched m inc xs)) (nothing 0 xs))

no_orders : (m : ℕ) (inc : Incoming) (r : ℕ) → M m inc r [] ≡ record { fills = []; rest = []; left = r }
unfolding matched_entries
no_orders zero inc r = refl
no_orders (suc m) inc r = refl

long : (front : List Live) (x : Live) (back : List Live) → length (front ++ x ∷ back) ≡ length (front ++ back) + 1
long [] x back = omega arith
long (y ∷ ys) x back = let e : length (ys ++ x ∷ back) ≡ length (ys ++ back) + 1 = long ys x back in omega arith

bridge : (n m : ℕ) (inc : Incoming) (r : ℕ) (orders : List Live) → length orders ≤ n → r ≤ m → KeysDiffer orders → Same (fills_within n inc r orders) orders (M m inc r orders) r
unfolding matched_entries
bridge zero m inc r [] l k d = subst (λ v. Same [] [] v r) (sym (no_orders m inc r)) (nothing r [])
bridge zero m inc r (x ∷ xs) l k d = absurd (omega arith)
bridge (suc n) zero inc r orders l k d = let z : r ≡ 0 = omega arith in subst (λ s. Same (fills_within (suc n) inc s orders) orders (M 0 inc s orders) s) (sym z) (empty (suc n) 0 inc orders)
bridge (suc n) (suc m) inc r orders l k d = at (first inc r orders) (split inc r orders) (choice inc r orders) (λ s os. bridge n m inc s os)
  where
    at : (p : Option Position) → IfSome p (IsRight inc r orders) → entry_of p ≡ chosen inc r orders
        → ((s : ℕ) (os : List Live) → length os ≤ n → s ≤ m → KeysDiffer os → Same (fills_within n inc s os) os (M m inc s os) s)
        → Same (with_choice (fills_within n inc) r orders (chosen inc r orders)) orders (matched_by order_in cut_live (M m inc) r orders p) r
    at None h e ih = subst (λ c. Same (with_choice (fills_within n inc) r orders c) orders (record { fills = []; rest = orders; left = r }) r) e (nothing r orders)
    at (Some p) h e ih =
        let x : Live = p.order in
        let f : ℕ = min r x.order.shares in
        let next : List Live = p.front ++ (less_of order_in cut_live x f ++ p.back) in
        let some : 0 < f = some_shares inc r x.order h.1 in
        let a : AtEntry p.front x p.back = at_entry p.front x p.back (subst KeysDiffer h.0 d) in
        let found : order_of x.key.0 orders ≡ Some x.order = ap (order_of x.key.0) h.0 ∙ ap (option_map (λ live. live.order)) a.found in
        let t : taken x.key.0 f x.order orders ≡ next = ap (taken x.key.0 f x.order) h.0 ∙ parts (ltb f x.order.shares) p x f a in
        let rest : Same (fills_within n inc (r - f) next) next (M m inc (r - f) next) (r - f) = go p (ltb f x.order.shares) refl some a h.0 ih in
        subst (λ c. Same (with_choice (fills_within n inc) r orders c) orders (matched_by order_in cut_live (M m inc) r orders (Some p)) r) e
        (subst (λ os. Same (fill_of (record { order = x; shares = f }) ∷ fills_within n inc (r - f) os) orders (matched_by order_in cut_live (M m inc) r orders (Some p)) r) (sym t)
        (cons_same x f (fills_within n inc (r - f) next) orders next (M m inc (r - f) next) r found t some (omega arith) rest))
      where
        parts : (b : Bool) (p : Position) (x : Live) (f : ℕ) → AtEntry p.front x p.back
            → cond b (reduced x.key.0 f (p.front ++ x ∷ p.back)) (without x.key.0 (p.front ++ x ∷ p.back)) ≡ p.front ++ (cond b (cut_by f x ∷ []) [] ++ p.back)
        parts true p x f a = a.reduces f
        parts false p x f a = a.drops

        go : (p : Position) (b : Bool) → ltb (min r p.order.order.shares) p.order.order.shares ≡ b → 0 < min r p.order.order.shares → AtEntry p.front p.order p.back → orders ≡ p.front ++ p.order ∷ p.back
            → ((s : ℕ) (os : List Live) → length os ≤ n → s ≤ m → KeysDiffer os → Same (fills_within n inc s os) os (M m inc s os) s)
            → Same (fills_within n inc (r - min r p.order.order.shares) (p.front ++ (cond b (cut_by (min r p.order.order.shares) p.order ∷ []) [] ++ p.back)))
            (p.front ++ (cond b (cut_by (min r p.order.order.shares) p.order ∷ []) [] ++ p.back))
            (M m inc (r - min r p.order.order.shares) (p.front ++ (cond b (cut_by (min r p.order.order.shares) p.order ∷ []) [] ++ p.back)))
            (r - min r p.order.order.shares)
        go p true e some a h ih =
            let f : ℕ = min r p.order.order.shares in
            let lt : f < p.order.order.shares = ltb-true f p.order.order.shares e in
            let z : r - f ≡ 0 = omega arith in
            let os : List Live = p.front ++ (cut_by f p.order ∷ p.back) in
            subst (λ s. Same (fills_within n inc s os) os (M m inc s os) s) (sym z) (empty n m inc os)
        go p false e some a h ih =
            let f : ℕ = min r p.order.order.shares in
            let g : length (p.front ++ p.order ∷ p.back) ≡ length (p.front ++ p.back) + 1 = long p.front p.order p.back in
            let o : length orders ≡ length (p.front ++ p.order ∷ p.back) = ap length h in
            ih (r - f) (p.front ++ p.back) (omega arith) (omega arith)
            (subst KeysDiffer a.drops (differ-dropped p.order.key.0 (p.front ++ p.order ∷ p.back) (subst KeysDiffer h d)))

same_steps : (inc : Incoming) (orders : List Live) → KeysDiffer orders → Same (steps_of inc orders) orders (matched_live inc orders) inc.shares
same_steps inc orders d = bridge (length orders) inc.shares inc inc.shares orders (omega arith) (omega arith) d

-- the steps are the executions by key
pub steps_of-fills : (inc : Incoming) (orders : List Live) → KeysDiffer orders → steps_of inc orders ≡ fills_of inc orders
steps_of-fills inc orders d = (same_steps inc orders d).same

pub steps_of-left : (inc : Incoming) (orders : List Live) → KeysDiffer orders → inc.shares - shares_of (steps_of inc orders) ≡ (matched_live inc orders).left
steps_of-left inc orders d = (same_steps inc orders d).shares

-- the executions by key, carried out one after another, are what is matched of the orders
pub record Carried (inc : Incoming) (orders : List Live) : Type 0 where
  pub good : AreGood (fills_of inc orders) orders
  pub done : done_by (fills_of inc orders) orders ≡ (matched inc inc.shares (lives orders)).fills
  pub rest : lives (left_by (fills_of inc orders) orders) ≡ (matched inc inc.shares (lives orders)).rest
  pub left : (matched_live inc orders).left ≡ (matched inc inc.shares (lives orders)).left

live_matched : (inc : Incoming) (orders : List Live) → matched inc inc.shares (lives orders) ≡ orders_of_matched order_in (matched_live inc orders)
unfolding matched
live_matched inc orders = matched_of_map order_in cut_live (λ x n. refl) inc.shares inc inc.shares orders

fills_opened : (m : MatchedOf Live) → (orders_of_matched order_in m).fills ≡ map execution_of m.fills
unfolding orders_of_matched
fills_opened m = refl

rest_opened : (m : MatchedOf Live) → (orders_of_matched order_in m).rest ≡ lives m.rest
unfolding orders_of_matched
rest_opened m = refl

left_opened : (m : MatchedOf Live) → (orders_of_matched order_in m).left ≡ m.left
unfolding orders_of_matched
left_opened m = refl

pub carried : (inc : Incoming) (orders : List Live) → KeysDiffer orders → Carried inc orders
carried inc orders d =
    let s : Same (steps_of inc orders) orders (matched_live inc orders) inc.shares = same_steps inc orders d in
    let e : matched inc inc.shares (lives orders) ≡ orders_of_matched order_in (matched_live inc orders) = live_matched inc orders in
    let f : steps_of inc orders ≡ fills_of inc orders = s.same in
    record {
      good = subst (λ l. AreGood l orders) f s.good;
      done = ap (λ l. done_by l orders) (sym f) ∙ s.done ∙ sym (ap (λ (m : Matched). m.fills) e ∙ fills_opened (matched_live inc orders));
      rest = ap (λ l. lives (left_by l orders)) (sym f) ∙ ap lives s.left ∙ sym (ap (λ (m : Matched). m.rest) e ∙ rest_opened (matched_live inc orders));
      left = sym (ap (λ (m : Matched). m.left) e ∙ left_opened (matched_live inc orders));
    }
