-- What holds of the live orders, whatever shares are open, holds of them after one has lost shares.
use Rattle.std.proofs.Common.{ℕ, Bool, true, false, cond, List, [], ◌∷◌, ◌++◌}
use Rattle.std.specs.List.{AllByRecursion}
use Rattle.hx_match.proofs.First.{all_append}
use Rattle.hx_match.proofs.AnyShares.{IsOfAnyShares, all_less}
use Rattle.hx_rules.specs.Orders.{Order, Token, is_called}
use Rattle.hx_rules.specs.Removal.{less, lessened}

pub all_lessened : (P : Order → Type 0) → IsOfAnyShares P → (m : ℕ) (t : Token) (by : ℕ) (xs : List Order) → AllByRecursion P xs → AllByRecursion P (lessened m t by xs)
all_lessened P closed m t by [] a = tt
all_lessened P closed m t by (x ∷ xs) a = choose (is_called m t x) (all_lessened P closed m t by xs a.1)
  where
    choose : (b : Bool) → AllByRecursion P (lessened m t by xs) → AllByRecursion P (cond b (less x by ++ xs) (x ∷ lessened m t by xs))
    choose true ih = all_append P (less x by) xs (all_less P closed x by a.0) a.1
    choose false ih = (a.0, ih)
