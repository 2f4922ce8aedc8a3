-- Reasons to reject an order.
use Rattle.std.proofs.Common.{◌≡◌, Bool, true, false, cond, List, [], ◌∷◌, Some, None, refl}
use Rattle.std.specs.List.{AllByRecursion}
use Rattle.hx_rules.specs.Enter.{Reason, first_reason}

-- if there is no first reason, none applies
pub none_applies : (rs : List Reason) → first_reason rs ≡ None → AllByRecursion (λ r. r.applies ≡ false) rs
none_applies [] h = tt
none_applies (r ∷ rs) h = choose r.applies refl (none_applies rs) h
  where
    choose : (b : Bool) → r.applies ≡ b → (first_reason rs ≡ None → AllByRecursion (λ r. r.applies ≡ false) rs) → cond b (Some r.letter) (first_reason rs) ≡ None
        → (r.applies ≡ false) × AllByRecursion (λ r. r.applies ≡ false) rs
    choose true e ih h = absurd (cc h)
    choose false e ih h = (e, ih h)
