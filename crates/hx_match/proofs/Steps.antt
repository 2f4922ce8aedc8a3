-- The executions by key, step by step: a stepping stone from the one pass to the definition.
use Rattle.std.specs.Prelude.{ℕ, zero, suc, ◌-◌, ◌&&◌, nat_lt, min, List, [], ◌∷◌, length, Option, Some, None, if◌then◌else◌}
use Rattle.std.specs.List.{sum_by}
use Rattle.hx_book.specs.declared.order.Live.{Live}
use Rattle.hx_book.specs.Rank.{first_of}
use Rattle.hx_book.specs.Book.{crosses, is_ahead, reduced, without, qualifies}
use Rattle.hx_match.specs.declared.fills.Incoming.{Incoming}
use Rattle.hx_match.specs.declared.fills.Fill.{Fill}
use Rattle.hx_match.specs.Matching.{terms}

abbrev pub chosen : Incoming → ℕ → List Live → Option Live
chosen incoming r orders = first_of (is_ahead incoming.side) (λ live. crosses (terms incoming) live.order && qualifies r incoming.minimum live.order) orders

abbrev pub fill : ℕ → Live → Fill
fill r x = record { key = x.key; shares = min r x.order.shares; price = x.order.price }

abbrev pub executed : ℕ → Live → List Live → List Live
executed shares x orders = if nat_lt shares x.order.shares then reduced x.key.0 shares orders else without x.key.0 orders

abbrev pub with_choice : (ℕ → List Live → List Fill) → ℕ → List Live → Option Live → List Fill
with_choice rest r orders None = []
with_choice rest r orders (Some x) = let shares = min r x.order.shares in fill r x ∷ rest (r - shares) (executed shares x orders)

-- each step ends r or takes an order out, so the number of orders is enough steps
abbrev pub fills_within : ℕ → Incoming → ℕ → List Live → List Fill
fills_within zero incoming r orders = []
fills_within (suc steps) incoming r orders = with_choice (fills_within steps incoming) r orders (chosen incoming r orders)

abbrev pub steps_of : Incoming → List Live → List Fill
steps_of incoming orders = fills_within (length orders) incoming incoming.shares orders

abbrev pub shares_of : List Fill → ℕ
shares_of fills = sum_by (λ fill. fill.shares) fills
