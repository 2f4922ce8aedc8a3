-- The tables that store a book: its orders under numbers in time, the number of each reference, and the levels.
use Rattle.std.specs.Prelude.{◌≡◌, ℕ, ◌<◌, ◌==◌, Bool, false, nat_eq, List, map, IsSome, Option, Some, None}
use Rattle.std.specs.List.{AllByRecursion}
use Rattle.std.specs.Ordering.{nat_cmp}
use Rattle.std.specs.BTreeMap.{BTreeMap, is_at}
use Rattle.std.specs.Map.{lookup}
use Rattle.std.specs.HashMap.{HashMap, get}
use Rattle.hx_itch.specs.declared.shown_order.ShownOrder.{ShownOrder}
use Rattle.hx_reader.specs.declared.levels.LevelKey.{LevelKey}
use Rattle.hx_reader.specs.declared.levels.Level.{Level}
use Rattle.hx_reader.specs.declared.table.Table.{Table}
use Rattle.hx_reader.specs.Levels.{level_at, level_in}

-- orders under their numbers
abbrev pub Entries : Type 0
Entries = List (ℕ × ShownOrder)

-- the orders, in time order
abbrev pub orders_in : Entries → List ShownOrder
orders_in es = map (λ e. e.1) es

-- whether an entry has this number
abbrev pub is_number : (number : ℕ) → (at : ℕ) → Bool
is_number number = is_at (nat_cmp number)

-- the order under a number
abbrev pub order_at : (number : ℕ) → Entries → Option ShownOrder
order_at number es = lookup (is_number number) es

-- the numbers are below this one
abbrev pub AreBelow : ℕ → Entries → Type 0
AreBelow number es = AllByRecursion (λ e. e.0 < number) es

-- no order has this reference
abbrev pub HasNone : (reference : ℕ) → Entries → Type 0
HasNone reference es = AllByRecursion (λ e. (e.1.reference == reference) ≡ false) es

-- exactly the orders of this reference are under the number
abbrev pub AreSame : (reference number : ℕ) → Entries → Type 0
AreSame reference number es =
    AllByRecursion (λ e. is_number number e.0 ≡ (e.1.reference == reference)) es

-- what is found under a reference: nothing, or the number of its order
abbrev pub IsFound : Entries → (reference : ℕ) → Option ℕ → Type 0
IsFound es reference None = HasNone reference es
IsFound es reference (Some number) =
    AreSame reference number es × IsSome (order_at number es)

-- each reference leads to its order
abbrev pub AreFound : {S : Type 0} → HashMap ℕ ℕ S → Entries → Type 0
AreFound indices es = (reference : ℕ) → IsFound es reference (get nat_eq indices reference)

-- each level is that of the orders at its price
abbrev pub AreLevels : BTreeMap LevelKey Level → Entries → Type 0
AreLevels levels es = (q : LevelKey) → level_at levels q ≡ level_in q (orders_in es)

-- the orders of a table, in time order
abbrev pub book_in : Table → List ShownOrder
book_in t = orders_in t.orders.entries

-- what holds of every table
pub record IsTable (t : Table) : Type 0 where
  pub below : AreBelow t.next t.orders.entries
  pub found : AreFound t.indices t.orders.entries
  pub levels : AreLevels t.levels t.orders.entries
