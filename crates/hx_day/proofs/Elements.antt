-- Which elements a list has, read from its front.
use Rattle.std.proofs.Common.{◌≡◌, ℕ, zero, suc, ◌<◌, ◌⊎◌, List, [], ◌∷◌, map, length, get_or, Contains, refl, subst, inl, inr, arith, suc-le-suc, zero-lt-suc, le_of_suc-le-suc}
use Rattle.std.specs.List.{AllByRecursion}

pub none_of_none : {X : Type 0} (x : X) → Contains [] x → ⊥
none_of_none x h = absurd (omega (arith, h.1))

pub first_is_member : {X : Type 0} (x : X) (xs : List X) → Contains (x ∷ xs) x
first_is_member x xs = (0, zero-lt-suc (length xs), refl)

pub after_is_member : {X : Type 0} (y : X) (xs : List X) (x : X) → Contains xs x → Contains (y ∷ xs) x
after_is_member y xs x h = (suc h.0, suc-le-suc h.1, h.2)

at_index : {X : Type 0} (y : X) (xs : List X) (x : X) (k : ℕ) → k < length (y ∷ xs) → get_or (y ∷ xs) k x ≡ x → (y ≡ x) ⊎ Contains xs x
at_index y xs x zero h e = inl e
at_index y xs x (suc k) h e = inr (k, le_of_suc-le-suc h, e)

pub first_or_after : {X : Type 0} (y : X) (xs : List X) (x : X) → Contains (y ∷ xs) x → (y ≡ x) ⊎ Contains xs x
first_or_after y xs x h = at_index y xs x h.0 h.1 h.2

pub of_all : {X : Type 0} (P : X → Type 0) (xs : List X) (x : X) → AllByRecursion P xs → Contains xs x → P x
of_all P [] x a h = absurd (none_of_none x h)
of_all P (y ∷ ys) x a h = elim (first_or_after y ys x h) [ inl e ↦ subst P e a.0 | inr m ↦ of_all P ys x a.1 m ]

pub image_is_member : {X Y : Type 0} (f : X → Y) (xs : List X) (x : X) → Contains xs x → Contains (map f xs) (f x)
image_is_member f [] x h = absurd (none_of_none x h)
image_is_member f (y ∷ ys) x h = elim (first_or_after y ys x h) [
  | inl e ↦ subst (λ z. Contains (map f (y ∷ ys)) (f z)) e (first_is_member (f y) (map f ys))
  | inr m ↦ after_is_member (f y) (map f ys) (f x) (image_is_member f ys x m)
]

pub member_of_image : {X Y : Type 0} (f : X → Y) (xs : List X) (y : Y) → Contains (map f xs) y → (x : X) × (f x ≡ y) × Contains xs x
member_of_image f [] y h = absurd (none_of_none y h)
member_of_image f (x ∷ xs) y h = elim (first_or_after (f x) (map f xs) y h) [
  | inl e ↦ (x, e, first_is_member x xs)
  | inr m ↦ let r = member_of_image f xs y m in (r.0, r.1, after_is_member x xs r.0 r.2)
]
