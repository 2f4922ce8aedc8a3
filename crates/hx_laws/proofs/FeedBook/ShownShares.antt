-- Live orders always have open shares.
use Rattle.std.proofs.Common.{◌≡◌, ℕ, zero, suc, ◌-◌, min, max, Bool, true, false, cond, ltb, leb, refl, arith, ◌&&◌, List, [], ◌∷◌, ◌++◌, Some, None, Option}
use Rattle.std.specs.List.{AllByRecursion}
use Rattle.std.proofs.lemmas.Bool.Decides.{nat_tests}
use Rattle.hx_book.specs.Book.{crosses}
use Rattle.hx_match.specs.declared.fills.Incoming.{Incoming}
use Rattle.hx_match.specs.Matching.{Position, terms, matched_by, matched_entries, matched, itself, with_shares, first_by_rank, qualifies, passes}
use Rattle.hx_match.specs.Rules.{IsRightChoice}
use Rattle.hx_match.proofs.First.{first_is_right}
use Rattle.hx_rules.specs.Orders.{Token, Order, is_called}
use Rattle.hx_rules.specs.Removal.{less, lessened}

abbrev pub HasShares : Order → Type 0
HasShares y = ltb 0 y.shares ≡ true

abbrev pub HaveShares : List Order → Type 0
HaveShares xs = AllByRecursion HasShares xs

less_some : (k f : ℕ) → ltb f k ≡ true → ltb 0 (k - f) ≡ true
less_some k f h = grind (arith, nat_tests)

some_position : (x : Order) (f : ℕ) (front back : List Order) → HaveShares (front ++ (x ∷ back)) → HaveShares (front ++ (less x f ++ back))
some_position x f [] back a = choose (ltb f x.shares) refl
  where
    choose : (b : Bool) → ltb f x.shares ≡ b → HaveShares (cond b (with_shares x (x.shares - f) ∷ []) [] ++ back)
    choose true e = (less_some x.shares f e, a.1)
    choose false e = a.1
some_position x f (y ∷ front) back a = (a.0, some_position x f front back a.1)

some_within : (n : ℕ) (inc : Incoming) (r : ℕ) (xs : List Order) → HaveShares xs → HaveShares (matched_entries itself with_shares n inc r xs).rest
unfolding matched_entries
some_within zero inc r xs a = a
some_within (suc n) inc r xs a = choose (first_by_rank inc r xs) (λ k ys. some_within n inc k ys) (first_is_right inc r xs)
  where
    choose : (o : Option Position) → ((k : ℕ) (ys : List Order) → HaveShares ys → HaveShares (matched_entries itself with_shares n inc k ys).rest) → IsRightChoice inc r xs o
        → HaveShares (matched_by itself with_shares (matched_entries itself with_shares n inc) r xs o).rest
    choose None ih c = a
    choose (Some p) ih c = ih _ _ (some_position p.order (min r p.order.shares) p.front p.back (rw c.0 at a))

pub some_rest : (inc : Incoming) (r : ℕ) (xs : List Order) → HaveShares xs → HaveShares (matched inc r xs).rest
unfolding matched
some_rest inc r xs a = some_within r inc r xs a

pub some_lessened : (m : ℕ) (t : Token) (by : ℕ) (xs : List Order) → HaveShares xs → HaveShares (lessened m t by xs)
some_lessened m t by [] a = tt
some_lessened m t by (x ∷ xs) a = choose (is_called m t x) (some_lessened m t by xs a.1)
  where
    choose : (b : Bool) → HaveShares (lessened m t by xs) → HaveShares (cond b (less x by ++ xs) (x ∷ lessened m t by xs))
    choose true ih = some_position x by [] xs a
    choose false ih = (a.0, ih)

-- of orders without a minimum, what crosses qualifies
pub clear_of : (inc : Incoming) (r : ℕ) (y : Order) → inc.minimum ≡ 0 → y.minimum ≡ 0 → HasShares y → ltb 0 r ≡ true → passes inc r y ≡ false → crosses (terms inc) y ≡ false
clear_of inc r y e f h k g = choose (crosses (terms inc) y) (qualifies inc r y) (all inc.minimum y.minimum y.shares r e f h k) g
  where
    all : (k m s r : ℕ) → k ≡ 0 → m ≡ 0 → ltb 0 s ≡ true → ltb 0 r ≡ true → leb (max 1 (max k (min m s))) (min r s) ≡ true
    all k m s r e f h i = grind (arith, nat_tests)

    choose : (b c : Bool) → c ≡ true → (b && c) ≡ false → b ≡ false
    choose true c e f = absurd (grind (arith, e, f))
    choose false c e f = refl
