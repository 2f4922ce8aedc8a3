-- No order has more open shares than its level says, whatever becomes of the levels.
use Rattle.std.proofs.Common.{◌≡◌, ℕ, ◌≤◌, ◌⊎◌, inl, inr, Bool, true, false, List, [], ◌∷◌, Option, Some, None, sym, subst, arith}
use Rattle.std.specs.Option.{option_map, IfSome}
use Rattle.std.proofs.lemmas.Bool.Decides.{nat_tests}
use Rattle.hx_book.specs.declared.order.Live.{Live}
use Rattle.hx_levels.specs.declared.level_book.levels.Level.{Level}
use Rattle.hx_levels.specs.declared.level_book.linked_orders.Ends.{Ends}
use Rattle.hx_levels.specs.LevelKeys.{LevelKey}
use Rattle.hx_levels.specs.Levels.{LevelStore, level_at, with_ends, joined}
use Rattle.hx_book.specs.Book.{terms_of}
use Rattle.hx_levels.specs.LevelBook.{level_key_of, AreSized}

-- a level, if there is one, says at least this number
abbrev pub Bounds : (shares : ℕ) → Option Level → Type 0
Bounds shares o = IfSome o (λ level. shares ≤ level.most)

-- what bounds the shares before bounds them after
abbrev pub KeepBounds : LevelStore → LevelStore → Type 0
KeepBounds levels levels' = (q : LevelKey) (n : ℕ) → Bounds n (level_at levels q) → Bounds n (level_at levels' q)

pub sized_retained : (levels levels' : LevelStore) (orders : List Live) → KeepBounds levels levels' → AreSized levels orders → AreSized levels' orders
sized_retained levels levels' [] k a = tt
sized_retained levels levels' (x ∷ xs) k a = ((λ c. k (level_key_of (terms_of x.order)) x.order.shares (a.0 c)), sized_retained levels levels' xs k a.1)

pub bounds_joined : (shown : Bool) (ends : Ends) (shares n : ℕ) (o : Option Level) → Bounds n o → Bounds n (option_map (joined shown ends shares) o)
bounds_joined shown ends shares n None b = tt
bounds_joined true ends shares n (Some level) b = grind (arith, nat_tests)
bounds_joined false ends shares n (Some level) b = grind (arith, nat_tests)

pub bounds_own : (shown : Bool) (ends : Ends) (shares : ℕ) (o : Option Level) → Bounds shares (option_map (joined shown ends shares) o)
bounds_own shown ends shares None = tt
bounds_own true ends shares (Some level) = grind (arith, nat_tests)
bounds_own false ends shares (Some level) = grind (arith, nat_tests)

pub bounds_left : (shown : Bool) (ends : Ends) (n : ℕ) (o : Option Level) → Bounds n o → Bounds n (option_map (with_ends shown ends) o)
bounds_left shown ends n None b = tt
bounds_left true ends n (Some level) b = b
bounds_left false ends n (Some level) b = b

pub bounds_dropped : (n : ℕ) (o p : Option Level) → (p ≡ o) ⊎ (p ≡ None) → Bounds n o → Bounds n p
bounds_dropped n o p (inl e) b = subst (Bounds n) (sym e) b
bounds_dropped n o p (inr e) b = subst (Bounds n) (sym e) tt
