-- Orders whose fields fit, and what an incoming order executes of them.
use Rattle.std.proofs.Common.{◌≡◌, ℕ, zero, suc, ◌-◌, ◌<◌, ◌≤◌, ◌^◌, min, Bool, true, false, cond, ltb, arith, List, [], ◌∷◌, ◌++◌, length, Some, None, Option}
use Rattle.std.specs.List.{AllByRecursion}
use Rattle.hx_book.proofs.Lists.{all_weaker}
use Rattle.hx_match.specs.declared.fills.Incoming.{Incoming}
use Rattle.hx_match.specs.Matching.{itself, with_shares, Position, Execution, Matched, first_by_rank, matched_by, matched_entries, matched}
use Rattle.hx_match.proofs.First.{all_append}
use Rattle.hx_match.proofs.AnyShares.{IsOf, first_is_of}
use Rattle.hx_rules.specs.Orders.{Order, Token, is_called}
use Rattle.hx_rules.specs.Removal.{less, lessened}

-- its numbers fit into their bytes, its firm has 4 letters, and if it is shown, its reference is one of the first
-- `public`
pub record Sized (public : ℕ) (x : Order) : Type 0 where
  pub locate : x.locate < 2 ^ 16
  pub price : x.price < 2 ^ 32
  pub shares : x.shares < 2 ^ 32
  pub firm : length x.firm.0 ≡ 4
  pub reference : x.shown ≡ true → x.reference ≤ public

abbrev pub AreSized : ℕ → List Order → Type 0
AreSized public xs = AllByRecursion (Sized public) xs

fewer : (public : ℕ) (x : Order) (n : ℕ) → n ≤ x.shares → Sized public x → Sized public (with_shares x n)
fewer public x n le h = record { locate = h.locate; price = h.price; shares = (let s = h.shares in omega arith); firm = h.firm; reference = h.reference }

pub later : (n k : ℕ) → n ≤ k → (xs : List Order) → AreSized n xs → AreSized k xs
later n k le xs all =
    all_weaker (Sized n) (Sized k)
    (λ x h. record { locate = h.locate; price = h.price; shares = h.shares; firm = h.firm; reference = λ s. (let r = h.reference s in omega arith) }) xs all

less_sized : (public : ℕ) (x : Order) (f : ℕ) → Sized public x → AreSized public (less x f)
less_sized public x f h = choose (ltb f x.shares)
  where
    choose : (b : Bool) → AreSized public (cond b (with_shares x (x.shares - f) ∷ []) [])
    choose true = (fewer public x (x.shares - f) (omega arith) h, tt)
    choose false = tt

pub lessened_sized : (public m : ℕ) (t : Token) (by : ℕ) (xs : List Order) → AreSized public xs → AreSized public (lessened m t by xs)
lessened_sized public m t by [] all = tt
lessened_sized public m t by (x ∷ xs) all = choose (is_called m t x) (lessened_sized public m t by xs all.1)
  where
    choose : (b : Bool) → AreSized public (lessened m t by xs) → AreSized public (cond b (less x by ++ xs) (x ∷ lessened m t by xs))
    choose true ih = all_append (Sized public) (less x by) xs (less_sized public x by all.0) all.1
    choose false ih = (all.0, ih)

-- an execution of such an order, for `r` shares at most
abbrev pub IsFill : (public r : ℕ) → Execution → Type 0
IsFill public r e = Sized public e.order × (e.shares ≤ r)

-- the executions of such orders, n at most, with what stays and what is left of r shares
pub record Fills (public n r : ℕ) (m : Matched) : Type 0 where
  pub fills : AllByRecursion (IsFill public r) m.fills
  pub rest : AreSized public m.rest
  pub few : length m.fills ≤ n
  pub left : m.left ≤ r

within : (public n : ℕ) (inc : Incoming) (r : ℕ) (xs : List Order) → AreSized public xs → Fills public n r (matched_entries itself with_shares n inc r xs)
unfolding matched_entries
within public zero inc r xs all = record { fills = tt; rest = all; few = omega arith; left = omega arith }
within public (suc n) inc r xs all = choose (first_by_rank inc r xs) (λ k ys. within public n inc k ys) (first_is_of (Sized public) inc r xs all)
  where
    choose : (o : Option Position) → ((k : ℕ) (ys : List Order) → AreSized public ys → Fills public n k (matched_entries itself with_shares n inc k ys))
        → IsOf (Sized public) inc r o → Fills public (suc n) r (matched_by itself with_shares (matched_entries itself with_shares n inc) r xs o)
    choose None ih h = record { fills = tt; rest = all; few = omega arith; left = omega arith }
    choose (Some p) ih h =
        let f : ℕ = min r p.order.shares in
        let next = ih (r - f) (p.front ++ (less p.order f ++ p.back)) (all_append (Sized public) _ _ h.0 (all_append (Sized public) _ _ (less_sized public p.order f h.1.0) h.1.1.0)) in
        let few = next.few in
        let left = next.left in
        record {
          fills = ((h.1.0, omega arith), all_weaker (IsFill public (r - f)) (IsFill public r) (λ e w. (let s = w.1 in (w.0, omega arith))) _ next.fills);
          rest = next.rest;
          few = omega arith;
          left = omega arith;
        }

pub matched_within : (public : ℕ) (inc : Incoming) (r : ℕ) (xs : List Order) → AreSized public xs → Fills public r r (matched inc r xs)
unfolding matched
matched_within public inc r xs all = within public r inc r xs all
