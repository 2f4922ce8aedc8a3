-- What holds of all orders, whatever shares are open, holds of those that are executed and of those that stay.
use Rattle.std.proofs.Common.{◌≡◌, ℕ, zero, suc, ◌-◌, ◌<◌, min, Bool, true, false, cond, refl, arith, ltb, List, [], ◌∷◌, ◌++◌, Some, None, Option}
use Rattle.std.specs.List.{AllByRecursion}
use Rattle.std.proofs.lemmas.Bool.Decides.{nat_tests}
use Rattle.hx_book.specs.declared.order.Order.{Order}
use Rattle.hx_book.specs.Book.{outranks}
use Rattle.hx_match.specs.declared.fills.Incoming.{Incoming}
use Rattle.hx_match.specs.Matching.{itself, with_shares, Position, Execution, Matched, later, first_of_entries, first_by_rank, passes, less_of, matched_by, matched_entries, matched}
use Rattle.hx_match.proofs.First.{all_append, some_shares}

-- what stays true of an order when its open shares change
abbrev pub IsOfAnyShares : (Order → Type 0) → Type 0
IsOfAnyShares P = (x : Order) (n : ℕ) → P x → P (with_shares x n)

-- P of the orders around a position, of which the one passes
abbrev pub IsOf : (Order → Type 0) → Incoming → ℕ → Option Position → Type 0
IsOf P inc r None = Unit {0}
IsOf P inc r (Some p) = AllByRecursion P p.front × (P p.order × (AllByRecursion P p.back × (passes inc r p.order ≡ true)))

-- the first by rank is one of the list, and passes
pub first_is_of : (P : Order → Type 0) (inc : Incoming) (r : ℕ) (xs : List Order) → AllByRecursion P xs → IsOf P inc r (first_by_rank inc r xs)
first_is_of P inc r [] a = tt
first_is_of P inc r (x ∷ xs) a = choose (passes inc r x) refl (first_by_rank inc r xs) (first_is_of P inc r xs a.1)
  where
    choose : (t : Bool) → passes inc r x ≡ t → (o : Option Position) → IsOf P inc r o → IsOf P inc r (first_of_entries itself inc x xs t o)
    choose false e None h = tt
    choose false e (Some p) h = ((a.0, h.0), h.1)
    choose true e None h = (tt, (a.0, (a.1, e)))
    choose true e (Some p) h = pick (outranks inc.side p.order x)
      where
        pick : (b : Bool) → IsOf P inc r (cond b (Some (later x p)) (Some (record { front = []; order = x; back = xs })))
        pick true = ((a.0, h.0), h.1)
        pick false = (tt, (a.0, (a.1, e)))

-- an execution of such an order, for a share at least
abbrev pub IsExecution : (Order → Type 0) → Execution → Type 0
IsExecution P e = P e.order × (ltb 0 e.shares ≡ true)

pub all_less : (P : Order → Type 0) → IsOfAnyShares P → (x : Order) (f : ℕ) → P x → AllByRecursion P (less_of itself with_shares x f)
all_less P closed x f h = choose (ltb f x.shares)
  where
    choose : (b : Bool) → AllByRecursion P (cond b (with_shares x (x.shares - f) ∷ []) [])
    choose true = (closed x _ h, tt)
    choose false = tt

-- what passes is executed for a share at least
executes_some : (inc : Incoming) (r : ℕ) (x : Order) → passes inc r x ≡ true → ltb 0 (min r x.shares) ≡ true
executes_some inc r x h = let some : 0 < min r x.shares = some_shares inc r x h in grind (arith, nat_tests)

-- the orders of the executions, and those that stay
abbrev pub AreMatchedOf : (Order → Type 0) → Matched → Type 0
AreMatchedOf P m = AllByRecursion (IsExecution P) m.fills × AllByRecursion P m.rest

-- what holds of all orders of the list holds of those that are executed and of those that stay
within_of : (P : Order → Type 0) → IsOfAnyShares P → (n : ℕ) (inc : Incoming) (r : ℕ) (xs : List Order) → AllByRecursion P xs
    → AreMatchedOf P (matched_entries itself with_shares n inc r xs)
unfolding matched_entries
within_of P closed zero inc r xs a = (tt, a)
within_of P closed (suc n) inc r xs a = choose (first_by_rank inc r xs) (λ k ys. within_of P closed n inc k ys) (first_is_of P inc r xs a)
  where
    choose : (o : Option Position) → ((k : ℕ) (ys : List Order) → AllByRecursion P ys → AreMatchedOf P (matched_entries itself with_shares n inc k ys))
        → IsOf P inc r o → AreMatchedOf P (matched_by itself with_shares (matched_entries itself with_shares n inc) r xs o)
    choose None ih h = (tt, a)
    choose (Some p) ih h =
        let f : ℕ = min r p.order.shares in
        let next = ih (r - f) (p.front ++ (less_of itself with_shares p.order f ++ p.back)) (all_append P _ _ h.0 (all_append P _ _ (all_less P closed p.order f h.1.0) h.1.1.0)) in
        (((h.1.0, executes_some inc r p.order h.1.1.1), next.0), next.1)

pub matched_of : (P : Order → Type 0) → IsOfAnyShares P → (inc : Incoming) (r : ℕ) (xs : List Order) → AllByRecursion P xs → AreMatchedOf P (matched inc r xs)
unfolding matched
matched_of P closed inc r xs a = within_of P closed r inc r xs a
