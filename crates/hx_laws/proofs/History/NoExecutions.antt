-- If nothing is executed, the list and the shares stay.
use Rattle.std.proofs.Common.{◌≡◌, ℕ, zero, suc, ltb, refl, arith, true, List, [], ◌∷◌, Some, None, Option, length}
use Rattle.std.proofs.lemmas.Bool.Decides.{nat_tests}
use Rattle.hx_match.specs.declared.fills.Incoming.{Incoming}
use Rattle.hx_match.specs.Matching.{Position, Execution, Matched, itself, with_shares, first_by_rank, matched_by, matched_entries, matched}
use Rattle.hx_rules.specs.Orders.{Order}

pub record IsUntouched (m : Matched) (r : ℕ) (xs : List Order) : Type 0 where
  pub rest : m.rest ≡ xs
  pub left : m.left ≡ r

nothing_within : (n : ℕ) (inc : Incoming) (r : ℕ) (xs : List Order) → (matched_entries itself with_shares n inc r xs).fills ≡ [] → IsUntouched (matched_entries itself with_shares n inc r xs) r xs
unfolding matched_entries
nothing_within zero inc r xs h = record { rest = refl; left = refl }
nothing_within (suc n) inc r xs h = choose (first_by_rank inc r xs) h
  where
    choose : (o : Option Position) → (matched_by itself with_shares (matched_entries itself with_shares n inc) r xs o).fills ≡ []
        → IsUntouched (matched_by itself with_shares (matched_entries itself with_shares n inc) r xs o) r xs
    choose None h = record { rest = refl; left = refl }
    choose (Some p) h = absurd (cc h)

pub nothing_matched : (inc : Incoming) (r : ℕ) (xs : List Order) → (matched inc r xs).fills ≡ [] → IsUntouched (matched inc r xs) r xs
unfolding matched
nothing_matched inc r xs h = nothing_within r inc r xs h

pub no_executions : (es : List Execution) → ltb (length es) 1 ≡ true → es ≡ []
no_executions [] h = refl
no_executions (e ∷ es) h = absurd (more (length es) h)
  where
    more : (n : ℕ) → ltb (suc n) 1 ≡ true → ⊥
    more n h = grind (arith, nat_tests)
