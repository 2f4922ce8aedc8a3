-- Runs of a reader that are one step longer.
use Rattle.std.proofs.Common.{◌≡◌, ℕ, List, [], ◌∷◌, ◌++◌, refl, sym, ap, ◌∙◌, append_assoc, append-nil}
use Rattle.hx_reader.specs.Readings.{Reading}
use Rattle.hx_reader.specs.Runs.{Step, after, gives, given, after_all}

-- the reading after one more step
pub after_all_push : (r : Reading) (steps : List Step) (s : Step) → after_all r (steps ++ s ∷ []) ≡ after (after_all r steps) s
after_all_push r [] s = refl
after_all_push r (t ∷ steps) s = after_all_push (after r t) steps s

-- and what was handed out
pub given_push : (r : Reading) (steps : List Step) (s : Step) → given r (steps ++ s ∷ []) ≡ given r steps ++ gives (after_all r steps) s
given_push r [] s = append-nil (gives r s)
given_push r (t ∷ steps) s =
    ap (λ (l : List (List ℕ)). gives r t ++ l) (given_push (after r t) steps s)
    ∙ sym (append_assoc (gives r t) (given (after r t) steps) (gives (after_all (after r t) steps) s))
