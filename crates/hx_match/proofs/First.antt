-- The first by rank is the one before all others, and at the end there is none.
use Rattle.std.proofs.Common.{◌≡◌, ℕ, zero, suc, ◌-◌, ◌<◌, ◌≤◌, min, Bool, true, false, cond, refl, ap, arith, ◌&&◌, List, [], ◌∷◌, ◌++◌, Some, None, Option}
use Rattle.std.specs.List.{AllByRecursion}
use Rattle.std.proofs.lemmas.Bool.Decides.{nat_tests}
use Rattle.hx_book.specs.declared.order.Order.{Order}
use Rattle.hx_book.specs.Book.{outranks, crosses}
use Rattle.hx_book.proofs.Lists.{all_weaker}
use Rattle.hx_book.proofs.Orders.{ahead_asym, ahead_skip}
use Rattle.hx_match.specs.declared.fills.Incoming.{Incoming}
use Rattle.hx_match.specs.Matching.{terms, qualifies, passes, Position, Matched, later, first_of_entries, first_by_rank, less_of, matched_by, matched_entries, matched, itself, with_shares}
use Rattle.hx_match.specs.Rules.{IsRightChoice}

pub turns : (inc : Incoming) (x y : Order) → outranks inc.side x y ≡ true → outranks inc.side y x ≡ false
turns inc x y = ahead_asym inc.side (record { key = record { 0 = 0 }; order = x }) (record { key = record { 0 = 0 }; order = y })

pub skips : (inc : Incoming) (x y z : Order) → outranks inc.side x y ≡ false → outranks inc.side y z ≡ false → outranks inc.side x z ≡ false
skips inc x y z = ahead_skip inc.side (record { key = record { 0 = 0 }; order = x }) (record { key = record { 0 = 0 }; order = y }) (record { key = record { 0 = 0 }; order = z })

contra : {X : Type 0} (b : Bool) → b ≡ false → b ≡ true → X
contra b e f = absurd (grind (arith, e, f))

pub all_append : {X : Type 0} (P : X → Type 0) (xs ys : List X) → AllByRecursion P xs → AllByRecursion P ys → AllByRecursion P (xs ++ ys)
all_append P [] ys a b = b
all_append P (x ∷ xs) ys a b = (a.0, all_append P xs ys a.1 b)

right : (inc : Incoming) (r : ℕ) (x : Order) (xs : List Order) (t : Bool) → passes inc r x ≡ t → (o : Option Position) → IsRightChoice inc r xs o → IsRightChoice inc r (x ∷ xs) (first_of_entries itself inc x xs t o)
right inc r x xs false e None h = (e, h)
right inc r x xs false e (Some p) h =
    (ap (λ z. x ∷ z) h.0, record { itself = h.1.itself; front = (contra _ e, h.1.front); back = h.1.back })
right inc r x xs true e None h = (refl, record { itself = e; front = tt; back = all_weaker _ _ (λ y f g. contra _ f g) xs h })
right inc r x xs true e (Some p) h = choose (outranks inc.side p.order x) refl
  where
    choose : (b : Bool) → outranks inc.side p.order x ≡ b → IsRightChoice inc r (x ∷ xs) (cond b (Some (later x p)) (Some (record { front = []; order = x; back = xs })))
    choose true f = (ap (λ z. x ∷ z) h.0, record { itself = h.1.itself; front = ((λ _. f), h.1.front); back = h.1.back })
    choose false f = (
      refl,
      record {
        itself = e;
        front = tt;
        back = rw (h.0) (all_append _ p.front (p.order ∷ p.back)
            (all_weaker _ _ (λ y g k. skips inc y p.order x (turns inc p.order y (g k)) f) p.front h.1.front)
            ((λ _. f), all_weaker _ _ (λ y g k. skips inc y p.order x (g k) f) p.back h.1.back));
      },
    )

pub first_is_right : (inc : Incoming) (r : ℕ) (xs : List Order) → IsRightChoice inc r xs (first_by_rank inc r xs)
first_is_right inc r [] = tt
first_is_right inc r (x ∷ xs) = right inc r x xs (passes inc r x) refl (first_by_rank inc r xs) (first_is_right inc r xs)

-- what passes is executed for a share at least
pub some_shares : (inc : Incoming) (r : ℕ) (x : Order) → passes inc r x ≡ true → 0 < min r x.shares
some_shares inc r x h = grind (arith, nat_tests)

-- nothing passes if no share is left
pub none_passes : (inc : Incoming) (x : Order) → passes inc 0 x ≡ false
none_passes inc x = and_false (crosses (terms inc) x) (qualifies inc 0 x) (grind (arith, nat_tests))
  where
    and_false : (a b : Bool) → b ≡ false → (a && b) ≡ false
    and_false true b e = e
    and_false false b e = refl

abbrev NonePasses : Incoming → Matched → Type 0
NonePasses inc m = AllByRecursion (λ y. passes inc m.left y ≡ false) m.rest

all_none : (inc : Incoming) (xs : List Order) → AllByRecursion (λ y. passes inc 0 y ≡ false) xs
all_none inc [] = tt
all_none inc (x ∷ xs) = (none_passes inc x, all_none inc xs)

none_within : (n : ℕ) (inc : Incoming) (r : ℕ) (xs : List Order) → r ≤ n → NonePasses inc (matched_entries itself with_shares n inc r xs)
unfolding matched_entries
none_within zero inc r xs l = let z : r ≡ 0 = omega arith in rw z (all_none inc xs)
none_within (suc n) inc r xs l = choose (first_by_rank inc r xs) (first_is_right inc r xs) (λ s ys. none_within n inc s ys)
  where
    choose : (o : Option Position) → IsRightChoice inc r xs o → ((s : ℕ) (ys : List Order) → s ≤ n → NonePasses inc (matched_entries itself with_shares n inc s ys))
        → NonePasses inc (matched_by itself with_shares (matched_entries itself with_shares n inc) r xs o)
    choose None h ih = h
    choose (Some p) h ih =
        let f : ℕ = min r p.order.shares in
        let some : 0 < f = some_shares inc r p.order h.1.itself in
        ih (r - f) (p.front ++ (less_of itself with_shares p.order f ++ p.back)) (omega arith)

pub none_is_left : (inc : Incoming) (r : ℕ) (xs : List Order) → NonePasses inc (matched inc r xs)
unfolding matched
none_is_left inc r xs = none_within r inc r xs (omega arith)
