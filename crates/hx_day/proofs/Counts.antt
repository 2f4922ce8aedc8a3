-- The state that lets a market commit the next event.
use Rattle.std.proofs.Common.{◌≡◌, ℕ, zero, suc, ◌+◌, ◌-◌, ◌*◌, ◌<◌, ◌≤◌, min, Bool, true, false, cond, ltb, List, [], ◌∷◌, ◌++◌, length, Option, Some, None, refl, ap, ◌∙◌, arith, slice_index}
use Rattle.std.specs.Option.{IfSome}
use Rattle.std.proofs.lemmas.Bool.{cond-true, cond_both, ltb-true}
use Rattle.std.proofs.lemmas.Bool.Decides.{nat_tests}
use Rattle.hx_book.specs.declared.order.Order.{Order}
use Rattle.hx_book.specs.Book.{outranks}
use Rattle.hx_match.specs.declared.fills.Incoming.{Incoming}
use Rattle.hx_match.specs.Matching.{Position, Matched, later, first_of_entries, passes, less_of, matched_by, matched_entries, itself, with_shares}
use Rattle.hx_match.proofs.First.{some_shares}
use Rattle.hx_refs.specs.Numbers.{raised}
use Rattle.hx_day.specs.Bounds.{total}
use Rattle.hx_day.proofs.ChainShares.{first, StandsIn, split}

length-append : (xs ys : List Order) → length (xs ++ ys) ≡ length xs + length ys
length-append [] ys = omega arith
length-append (x ∷ xs) ys = let h : length (xs ++ ys) ≡ length xs + length ys = length-append xs ys in omega arith

-- Each execution but the last ends an order.

passing : (inc : Incoming) (r : ℕ) (xs : List Order) → IfSome (first inc r xs) (λ p. passes inc r p.order ≡ true)
passing inc r [] = tt
passing inc r (x ∷ xs) = at (passes inc r x) refl (first inc r xs) (passing inc r xs)
  where
    at : (b : Bool) → passes inc r x ≡ b → (p : Option Position) → IfSome p (λ p. passes inc r p.order ≡ true) → IfSome (first_of_entries itself inc x xs b p) (λ p. passes inc r p.order ≡ true)
    at false e None h = tt
    at false e (Some p) h = h
    at true e None h = e
    at true e (Some p) h =
        cond_both (outranks inc.side p.order x) (Some (later x p)) (Some (record { front = []; order = x; back = xs }))
        (λ o. IfSome o (λ p. passes inc r p.order ≡ true)) (λ _. h) (λ _. e)

at_most_one : (r : ℕ) → cond (ltb 0 r) 1 0 ≤ 1
at_most_one r = at (ltb 0 r)
  where
    at : (b : Bool) → cond b 1 0 ≤ 1
    at true = omega arith
    at false = omega arith

just_one : (r : ℕ) → 0 < r → ◌≡◌ {A = ℕ} (cond (ltb 0 r) 1 0) 1
just_one r h = cond-true (ltb 0 r) 1 0 (yes r h)
  where
    yes : (r : ℕ) → 0 < r → ltb 0 r ≡ true
    yes r h = grind (arith, nat_tests)

abbrev less : Order → ℕ → List Order
less x f = less_of itself with_shares x f

length-less : (f : ℕ) (x : Order) → (f < x.shares → length (less x f) ≡ 1) × (f ≡ x.shares → length (less x f) ≡ 0)
length-less f x = at (ltb f x.shares) refl
  where
    no : (f s : ℕ) → ltb f s ≡ false → f < s → ⊥
    no f s e h = grind (arith, nat_tests)

    at : (b : Bool) → ltb f x.shares ≡ b → (f < x.shares → length (cond b (with_shares x (x.shares - f) ∷ []) []) ≡ 1) × (f ≡ x.shares → length (cond b (with_shares x (x.shares - f) ∷ []) []) ≡ 0)
    at true e = ((λ _. omega arith), (λ z. absurd (let l : f < x.shares = ltb-true f x.shares e in omega arith)))
    at false e = ((λ l. absurd (no f x.shares e l)), (λ _. omega arith))

finish : (f s ly lf lb ll lr lx a b c d : ℕ) → f ≤ s → d ≡ 1 → lx ≡ lf + (lb + 1) → ly ≡ lf + lr → lr ≡ ll + lb → (f < s → ll ≡ 1) → (f ≡ s → ll ≡ 0) → a + b ≤ ly + c → c ≤ 1 → (f < s → a + b ≤ ly)
    → suc a + b ≤ lx + d
finish f s ly lf lb ll lr lx a b c d fs one hx hy hr small whole k most part = at (ltb f s) refl
  where
    same : (f s : ℕ) → ltb f s ≡ false → f ≤ s → f ≡ s
    same f s e l = grind (arith, nat_tests)

    at : (v : Bool) → ltb f s ≡ v → suc a + b ≤ lx + d
    at true e = let l : f < s = ltb-true f s e in let p = part l in let q = small l in omega arith
    at false e = let z = whole (same f s e fs) in omega arith

pub ended : (n : ℕ) (inc : Incoming) (r : ℕ) (xs : List Order) → let m : Matched = matched_entries itself with_shares n inc r xs in
    length m.fills + length m.rest ≤ length xs + cond (ltb 0 r) 1 0
unfolding matched_entries
ended zero inc r xs = omega arith
ended (suc n) inc r xs = at (first inc r xs) (split inc r xs) (passing inc r xs) (λ s ys. ended n inc s ys)
  where
    at : (o : Option Position) → IfSome o (StandsIn xs) → IfSome o (λ p. passes inc r p.order ≡ true)
        → ((s : ℕ) (ys : List Order) → let m : Matched = matched_entries itself with_shares n inc s ys in length m.fills + length m.rest ≤ length ys + cond (ltb 0 s) 1 0)
        → let m : Matched = matched_by itself with_shares (matched_entries itself with_shares n inc) r xs o in length m.fills + length m.rest ≤ length xs + cond (ltb 0 r) 1 0
    at None h v ih = omega arith
    at (Some q) h v ih =
        let x : Order = q.order in
        let f : ℕ = min r x.shares in
        let ys : List Order = q.front ++ (less x f ++ q.back) in
        let some : 0 < f = some_shares inc r x v in
        let one : ◌≡◌ {A = ℕ} (cond (ltb 0 r) 1 0) 1 = just_one r (omega arith) in
        let lx : length xs ≡ length q.front + length (x ∷ q.back) = ap length h ∙ length-append q.front (x ∷ q.back) in
        let l1 = length-append q.front (less x f ++ q.back) in
        let l2 = length-append (less x f) q.back in
        let l3 = length-less f x in
        let k = ih (r - f) ys in
        let part : f < x.shares → r - f ≡ 0 = λ l. omega arith in
        let zero_case : f < x.shares → length (matched_entries itself with_shares n inc (r - f) ys).fills + length (matched_entries itself with_shares n inc (r - f) ys).rest ≤ length ys = λ l.
        (let z : ◌≡◌ {A = ℕ} (cond (ltb 0 (r - f)) 1 0) 0 = ap (λ s. cond (ltb 0 s) 1 0) (part l) in omega arith) in
        let most = at_most_one (r - f) in
        let fx : f ≤ x.shares = omega arith in
        finish f x.shares (length ys) (length q.front) (length q.back) (length (less x f)) (length (less x f ++ q.back)) (length xs)
        (length (matched_entries itself with_shares n inc (r - f) ys).fills) (length (matched_entries itself with_shares n inc (r - f) ys).rest) (cond (ltb 0 (r - f)) 1 0) (cond (ltb 0 r) 1 0)
        fx one (lx ∙ ap (λ m. length q.front + m) (omega arith)) l1 l2 l3.0 l3.1 k most zero_case

-- Counts.

pub total-raised : (xs : List ℕ) (i : ℕ) → i < length xs → total (raised xs i) ≡ total xs + 1
total-raised [] i h = absurd (omega arith)
total-raised (x ∷ xs) zero h = omega arith
total-raised (x ∷ xs) (suc i) h = let k : total (raised xs i) ≡ total xs + 1 = total-raised xs i (omega arith) in omega arith

pub total-within : (xs : List ℕ) (b : ℕ) → ((i : ℕ) → slice_index xs i ≤ b) → total xs ≤ length xs * b
total-within [] b h = omega arith
total-within (x ∷ xs) b h =
    let a = h 0 in
    let k : total xs ≤ length xs * b = total-within xs b (λ i. h (suc i)) in
    let d : suc (length xs) * b ≡ length xs * b + b = mul_more (length xs) b in omega arith
  where
    mul_more : (n b : ℕ) → suc n * b ≡ n * b + b
    mul_more n b = grind arith

pub raised-along : (ps rs : List ℕ) (i : ℕ) → i < length rs → ((k : ℕ) → slice_index ps k ≤ slice_index rs k) → (k : ℕ) → slice_index (raised ps i) k ≤ slice_index (raised rs i) k
raised-along [] rs i l h k = omega arith
raised-along (p ∷ ps) [] i l h k = absurd (omega arith)
raised-along (p ∷ ps) (r ∷ rs) zero l h zero = let a = h 0 in omega arith
raised-along (p ∷ ps) (r ∷ rs) zero l h (suc k) = let a = h (suc k) in omega arith
raised-along (p ∷ ps) (r ∷ rs) (suc i) l h zero = let a = h 0 in omega arith
raised-along (p ∷ ps) (r ∷ rs) (suc i) l h (suc k) = raised-along ps rs i (omega arith) (λ j. h (suc j)) k

pub raised-limited : (xs : List ℕ) (i b : ℕ) → ((k : ℕ) → slice_index xs k ≤ b) → slice_index xs i < b → (k : ℕ) → slice_index (raised xs i) k ≤ b
raised-limited [] i b h l k = omega arith
raised-limited (x ∷ xs) zero b h l zero = omega arith
raised-limited (x ∷ xs) zero b h l (suc k) = h (suc k)
raised-limited (x ∷ xs) (suc i) b h l zero = h 0
raised-limited (x ∷ xs) (suc i) b h l (suc k) = raised-limited xs i b (λ j. h (suc j)) l k
