-- The output of a Replace.
use Rattle.std.proofs.Common.{◌≡◌, ℕ, suc, Bool, true, false, ltb, ◌&&◌, if◌then◌else◌, nat_lt, List, [], ◌∷◌, ◌++◌, length, refl, ap, arith, ◌∙◌}
use Rattle.std.specs.Option.{option_map_or}
use Rattle.std.proofs.lemmas.List.{append_assoc}
use Rattle.std.proofs.lemmas.Bool.{and_parts}
use Rattle.std.proofs.lemmas.Bool.Decides.{nat_tests}
use Rattle.hx_units.specs.declared.names.Token.{Token}
use Rattle.hx_units.specs.declared.names.Symbol.{Symbol}
use Rattle.hx_itch.specs.declared.message.Feed.{Feed}
use Rattle.hx_match.specs.Matching.{Execution}
use Rattle.hx_members.specs.Chains.{Used, entered_at, IsEnteredAt}
use Rattle.hx_rules.specs.Executions.{feed_of_executions}

-- one message alone, or the output of the old order, of the executions, and of the new one
output_of : (b : Bool) (one gone done new : List Feed) → (b ≡ true → done ≡ []) → ((if b then [] else gone) ++ done) ++ (if b then one else new) ≡ (if b then one else gone ++ (done ++ new))
output_of true one gone done new h = ap (λ l. l ++ one) (h refl)
output_of false one gone done new h = append_assoc gone done new

-- the same after the earlier output
pub output_after : (before : List Feed) (b : Bool) (one gone done new : List Feed) → (b ≡ true → done ≡ [])
    → ((before ++ (if b then [] else gone)) ++ done) ++ (if b then one else new) ≡ before ++ (if b then one else gone ++ (done ++ new))
output_after before b one gone done new h =
    ap (λ l. l ++ (if b then one else new)) (append_assoc before (if b then [] else gone) done)
    ∙ append_assoc before ((if b then [] else gone) ++ done) (if b then one else new)
    ∙ ap (λ l. before ++ l) (output_of b one gone done new h)

-- one message reports both only if nothing trades
pub none_done : (time : ℕ) (stock : Symbol) (number : ℕ) (es : List Execution) (shown : Bool) → (shown && nat_lt (length es) 1) ≡ true → feed_of_executions time stock number es ≡ []
none_done time stock number [] shown h = refl
none_done time stock number (e ∷ es) shown h = absurd (no (length es) (and_parts shown (nat_lt (length (e ∷ es)) 1) h).1)
  where
    no : (n : ℕ) → ltb (suc n) 1 ≡ true → ⊥
    no n e = grind (arith, nat_tests)

-- the entered token at the index of a chain
pub entered_there : (ts : List Used) (member : ℕ) (entered token : Token) (index : ℕ) → IsEnteredAt ts member entered index → entered_at ts index token ≡ entered
entered_there ts member entered token index h = ap (λ o. option_map_or (λ (u : Used). u.entered) o token) h
