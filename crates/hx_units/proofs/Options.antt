-- Options: which of several is one, and the two cases of a prefix that is stripped.
use Rattle.std.proofs.Common.{◌≡◌, ℕ, Bool, true, false, cond, ◌||◌, List, ◌++◌, Option, Some, None, Bor, refl}
use Rattle.std.specs.Prelude.{◌≢◌, IfSome, IfNone, MatchOption, is_some}

-- an option before others is one, or the others are
pub is_some-first : {A : Type 0} (b : Bool) (x : A) (others : Option A) → is_some (cond b (Some x) others) ≡ (b || is_some others)
is_some-first true x others = refl
is_some-first false x others = refl

-- the same after what came before, and with no others
pub is_some-next : {A : Type 0} (p b : Bool) (x : A) (others : Option A) → (p || is_some (cond b (Some x) others)) ≡ ((p || b) || is_some others)
is_some-next true b x others = refl
is_some-next false b x others = is_some-first b x others

pub is_some-last : {A : Type 0} (p b : Bool) (x : A) → (p || is_some (cond b (Some x) None)) ≡ (p || b)
is_some-last true b x = refl
is_some-last false true x = refl
is_some-last false false x = refl

-- what is stripped of a prefix, if there is something, is the rest; and if not, the text does not begin with it
pub stripped_rest : (r : Option (Bor (List ℕ))) (s p : List ℕ) → MatchOption r ((rest : List ℕ) → s ≢ p ++ rest) (λ x. s ≡ p ++ x.now) → IfSome r (λ x. s ≡ p ++ x.now)
stripped_rest None s p h = tt
stripped_rest (Some x) s p h = h

pub stripped_none : (r : Option (Bor (List ℕ))) (s p : List ℕ) → MatchOption r ((rest : List ℕ) → s ≢ p ++ rest) (λ x. s ≡ p ++ x.now) → IfNone r ((rest : List ℕ) → s ≢ p ++ rest)
stripped_none None s p h = h
stripped_none (Some x) s p h = tt
