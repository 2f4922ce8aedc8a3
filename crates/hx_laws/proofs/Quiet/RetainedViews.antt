-- What is retained of a market without the chosen chains: of each order all but the numbers that go to its member
-- alone.
use Rattle.std.specs.Prelude.{◌≡◌, ℕ, Bool, false, cond, if◌then◌else◌, ◌&&◌, not, List, [], ◌∷◌}
use Rattle.hx_match.specs.Matching.{Position, Execution, Matched}
use Rattle.hx_members.specs.Chains.{Used, Chain}
use Rattle.hx_rules.specs.Orders.{Order, Token}
use Rattle.hx_laws.specs.QuietChains.{Choice}

-- an order; or, blanked, without its chain's index and without a private reference
abbrev pub blank : Bool → Order → Order
blank hide x = record x { chain = if hide then 0 else x.chain; reference = if not x.shown && hide then 0 else x.reference }

-- the orders whose tokens are not chosen, blanked or as they are
abbrev pub retained : Bool → Choice → List Order → List Order
retained hide s [] = []
retained hide s (x ∷ xs) = cond (s x.member x.token) (retained hide s xs) (blank hide x ∷ retained hide s xs)

abbrev pub retained_tokens : Choice → List Used → List Used
retained_tokens s [] = []
retained_tokens s (u ∷ us) = cond (s u.member u.token) (retained_tokens s us) (u ∷ retained_tokens s us)

abbrev pub retained_chains : Choice → List Chain → List Chain
retained_chains s [] = []
retained_chains s (c ∷ cs) = cond (s c.member c.entered) (retained_chains s cs) (c ∷ retained_chains s cs)

abbrev pub retained_position : Bool → Choice → Position → Position
retained_position hide s p = record { front = retained hide s p.front; order = blank hide p.order; back = retained hide s p.back }

abbrev pub blank_execution : Bool → Execution → Execution
blank_execution hide e = record { order = blank hide e.order; shares = e.shares }

abbrev pub blank_executions : Bool → List Execution → List Execution
blank_executions hide [] = []
blank_executions hide (e ∷ es) = blank_execution hide e ∷ blank_executions hide es

abbrev pub retained_matched : Bool → Choice → Matched → Matched
retained_matched hide s m = record { fills = blank_executions hide m.fills; rest = retained hide s m.rest; left = m.left }

-- no token of the member is chosen
abbrev pub Spares : Choice → ℕ → Type 0
Spares s p = (t : Token) → s p t ≡ false

-- a choice of nothing
abbrev pub none : Choice
none m t = false
