-- Truth values, and orderings.
use Rattle.std.proofs.Common.{◌≡◌, Bool, true, false, Ordering, Less, Equal, Greater, is_eq, refl, sym}

-- truth values are the same if each is true when the other is
pub same_bools : (a b : Bool) → (a ≡ true → b ≡ true) → (b ≡ true → a ≡ true) → a ≡ b
same_bools true b f g = sym (f refl)
same_bools false true f g = g refl
same_bools false false f g = refl

pub is_eq-true : (o : Ordering) → is_eq o ≡ true → o ≡ Equal
is_eq-true Less h = cc
is_eq-true Equal h = refl
is_eq-true Greater h = cc
