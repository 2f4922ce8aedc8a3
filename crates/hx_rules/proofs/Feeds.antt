-- How many messages the feed has of some executions.
use Rattle.std.proofs.Common.{◌≡◌, ℕ, suc, ◌+◌, List, [], ◌∷◌, length, refl, ap}
use Rattle.hx_units.specs.declared.names.Symbol.{Symbol}
use Rattle.hx_match.specs.Matching.{Execution}
use Rattle.hx_rules.specs.Executions.{feed_of_executions}

pub length-feed_of_executions : (time : ℕ) (stock : Symbol) (number : ℕ) (es : List Execution) → length (feed_of_executions time stock number es) ≡ length es
length-feed_of_executions time stock number [] = refl
length-feed_of_executions time stock number (e ∷ es) = ap (λ n. suc n) (length-feed_of_executions time stock (number + 1) es)
