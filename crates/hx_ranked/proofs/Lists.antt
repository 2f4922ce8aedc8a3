-- On entries that rise: parts, searches and changes.
use Rattle.std.proofs.Common.{subst, cond, nat_lt, ◌≡◌, ℕ, ◌+◌, ◌<◌, ◌≤◌, List, [], ◌∷◌, ◌++◌, length, get_or, take, drop, Bool, true, false, Some, None, refl, ap, sym, ◌∙◌, arith}
use Rattle.std.specs.List.{filter, find}
use Rattle.std.proofs.lemmas.List.{take-append-drop, drop_more, take_more, get_or_default}
use Rattle.std.proofs.lemmas.Bool.Decides.{nat_tests}
use Rattle.hx_ranked.specs.declared.entry.Entry.{Entry}
use Rattle.hx_ranked.specs.Ranked.{Every, IsRising, has_rank, IsFree, inserted, smallest_least}

pub every-append : {X : Type 0} (P : X → Type 0) (xs ys : List X) → Every P xs → Every P ys → Every P (xs ++ ys)
every-append P [] ys a b = b
every-append P (x ∷ xs) ys a b = (a.0, every-append P xs ys a.1 b)

pub every-left : {X : Type 0} (P : X → Type 0) (xs ys : List X) → Every P (xs ++ ys) → Every P xs
every-left P [] ys a = tt
every-left P (x ∷ xs) ys a = (a.0, every-left P xs ys a.1)

pub every-right : {X : Type 0} (P : X → Type 0) (xs ys : List X) → Every P (xs ++ ys) → Every P ys
every-right P [] ys a = a
every-right P (x ∷ xs) ys a = every-right P xs ys a.1

pub every-weaker : {X : Type 0} (P Q : X → Type 0) → ((x : X) → P x → Q x) → (xs : List X) → Every P xs → Every Q xs
every-weaker P Q f [] a = tt
every-weaker P Q f (x ∷ xs) a = (f x a.0, every-weaker P Q f xs a.1)

pub rising-left : (xs ys : List Entry) → IsRising (xs ++ ys) → IsRising xs
rising-left [] ys a = tt
rising-left (x ∷ xs) ys a = (every-left (λ e. x.rank < e.rank) xs ys a.0, rising-left xs ys a.1)

pub rising-right : (xs ys : List Entry) → IsRising (xs ++ ys) → IsRising ys
rising-right [] ys a = a
rising-right (x ∷ xs) ys a = rising-right xs ys a.1

-- those before an entry rank before it
pub rising-before : (xs : List Entry) (y : Entry) (ys : List Entry) → IsRising (xs ++ y ∷ ys) → Every (λ e. e.rank < y.rank) xs
rising-before [] y ys a = tt
rising-before (x ∷ xs) y ys a = ((every-right (λ e. x.rank < e.rank) xs (y ∷ ys) a.0).0, rising-before xs y ys a.1)

-- what no element meets is not found
pub find-none : {X : Type 0} (p : X → Bool) (xs : List X) → Every (λ x. p x ≡ false) xs → find p xs ≡ None
find-none p [] a = refl
find-none p (x ∷ xs) a = rw a.0 (find-none p xs a.1)

-- what is not found does not stand first, nor after
pub none-here : {X : Type 0} (p : X → Bool) (x : X) (xs : List X) → find p (x ∷ xs) ≡ None → (p x ≡ false) × (find p xs ≡ None)
none-here p x xs a = none-by (p x) refl a
  where
    none-by : (b : Bool) → p x ≡ b → cond b (Some x) (find p xs) ≡ None → (p x ≡ false) × (find p xs ≡ None)
    none-by true e h = absurd (cc)
    none-by false e h = (e, h)

-- and so no element meets it
pub none-every : {X : Type 0} (p : X → Bool) (xs : List X) → find p xs ≡ None → Every (λ x. p x ≡ false) xs
none-every p [] a = tt
none-every p (x ∷ xs) a = let h = none-here p x xs a in (h.0, none-every p xs h.1)

-- a filter that each element passes retains all
pub filter-all : {X : Type 0} (p : X → Bool) (xs : List X) → Every (λ x. p x ≡ true) xs → filter p xs ≡ xs
filter-all p [] a = refl
filter-all p (x ∷ xs) a = rw a.0 (ap (λ t. x ∷ t) (filter-all p xs a.1))

pub every-filter : {X : Type 0} (P : X → Type 0) (p : X → Bool) (xs : List X) → Every P xs → Every P (filter p xs)
every-filter P p [] a = tt
every-filter P p (x ∷ xs) a = elim (p x) as (λ b. Every P (cond b (x ∷ filter p xs) (filter p xs))) [ true ↦ (a.0, every-filter P p xs a.1) | false ↦ every-filter P p xs a.1 ]

pub rising-filter : (p : Entry → Bool) (xs : List Entry) → IsRising xs → IsRising (filter p xs)
rising-filter p [] a = tt
rising-filter p (x ∷ xs) a = elim (p x) as (λ b. IsRising (cond b (x ∷ filter p xs) (filter p xs))) [ true ↦ (every-filter (λ e. x.rank < e.rank) p xs a.0, rising-filter p xs a.1) | false ↦ rising-filter p xs a.1 ]

-- an entry is inserted after those that rank before it
pub inserted-left : (e : Entry) (xs ys : List Entry) → Every (λ x. x.rank < e.rank) xs → inserted e (xs ++ ys) ≡ xs ++ inserted e ys
inserted-left e [] ys a = refl
inserted-left e (x ∷ xs) ys a = grind (arith, nat_tests, a.0, inserted-left e xs ys a.1)

-- and before those that do not
pub inserted-here : (e : Entry) (ys : List Entry) → Every (λ y. e.rank ≤ y.rank) ys → inserted e ys ≡ e ∷ ys
inserted-here e [] a = refl
inserted-here e (y ∷ ys) a = grind (arith, nat_tests, a.0)

pub inserted-right : (e : Entry) (xs ys : List Entry) → Every (λ y. e.rank ≤ y.rank) ys → inserted e (xs ++ ys) ≡ inserted e xs ++ ys
inserted-right e [] ys a = inserted-here e ys a
inserted-right e (x ∷ xs) ys a = grind (arith, nat_tests, inserted-right e xs ys a)

pub every-inserted : (P : Entry → Type 0) (e : Entry) (xs : List Entry) → P e → Every P xs → Every P (inserted e xs)
every-inserted P e [] h a = (h, tt)
every-inserted P e (x ∷ xs) h a = elim (nat_lt x.rank e.rank) as (λ b. Every P (cond b (x ∷ inserted e xs) (e ∷ x ∷ xs))) [ true ↦ (a.0, every-inserted P e xs h a.1) | false ↦ (h, a) ]

pub rising-inserted : (e : Entry) (xs : List Entry) → IsRising xs → IsFree e.rank xs → IsRising (inserted e xs)
rising-inserted e [] a f = (tt, tt)
rising-inserted e (x ∷ xs) a f =
    let free = none-here (has_rank e.rank) x xs f in
    rising-by (nat_lt x.rank e.rank) refl free.0 (rising-inserted e xs a.1 free.1)
  where
    rising-by : (b : Bool) → nat_lt x.rank e.rank ≡ b → has_rank e.rank x ≡ false → IsRising (inserted e xs) → IsRising (cond b (x ∷ inserted e xs) (e ∷ x ∷ xs))
    rising-by true h g r = (every-inserted (λ y. x.rank < y.rank) e xs (grind (arith, nat_tests)) a.0, r)
    rising-by false h g r =
        let less : e.rank < x.rank = grind (arith, nat_tests) in
        ((less, every-weaker (λ y. x.rank < y.rank) (λ y. e.rank < y.rank) (λ y k. omega arith) xs a.0), a)

-- a list around the element that was read
pub split-read : {X : Type 0} (xs : List X) (i : ℕ) (x : X) → i < length xs → x ≡ get_or xs i x → xs ≡ take i xs ++ x ∷ drop (i + 1) xs
split-read xs i x h e =
    sym (take-append-drop i xs) ∙ ap (λ t. take i xs ++ t) (drop_more xs i x h ∙ ap (λ y. y ∷ drop (i + 1) xs) (sym e))

-- if the entry at i ranks before r, so do those up to it
pub before-more : (xs : List Entry) (i : ℕ) (x : Entry) (r : ℕ) → IsRising xs → i < length xs → x ≡ get_or xs i x → x.rank < r → Every (λ e. e.rank < r) (take (i + 1) xs)
before-more xs i x r rising h e less =
    let before = rising-before (take i xs) x (drop (i + 1) xs) (subst IsRising (split-read xs i x h e) rising) in
    let front = every-weaker (λ y. y.rank < x.rank) (λ y. y.rank < r) (λ y k. omega arith) (take i xs) before in
    rw (take_more xs i x h, ← e) (every-append (λ y. y.rank < r) (take i xs) (x ∷ []) front (less, tt))

-- if it does not, nor do those from it on
pub after-more : (xs : List Entry) (i : ℕ) (x : Entry) (r : ℕ) → IsRising xs → i < length xs → x ≡ get_or xs i x → r ≤ x.rank → Every (λ e. r ≤ e.rank) (drop i xs)
after-more xs i x r rising h e le =
    let after = rising-right (take i xs) (x ∷ drop (i + 1) xs) (subst IsRising (split-read xs i x h e) rising) in
    rw (drop_more xs i x h, ← e) (le, every-weaker (λ y. x.rank < y.rank) (λ y. r ≤ y.rank) (λ y k. omega arith) (drop (i + 1) xs) after.0)

pub smallest_least-le : (xs : List Entry) → smallest_least xs ≤ 4294967295
smallest_least-le [] = omega arith
smallest_least-le (x ∷ xs) = omega (arith, smallest_least-le xs)

-- what a read outside of the list returns
abbrev pub no_entry : Entry
no_entry = record { rank = 0; key = 0; least = 0; shares = 0 }

-- both, at a read as code has it
pub before-read : (xs : List Entry) (i r : ℕ) → IsRising xs → i < length xs → (get_or xs i no_entry).rank < r → Every (λ e. e.rank < r) (take (i + 1) xs)
before-read xs i r rising h less = before-more xs i (get_or xs i no_entry) r rising h (get_or_default xs i no_entry _ h) less

pub after-read : (xs : List Entry) (i r : ℕ) → IsRising xs → i < length xs → r ≤ (get_or xs i no_entry).rank → Every (λ e. r ≤ e.rank) (drop i xs)
after-read xs i r rising h le = after-more xs i (get_or xs i no_entry) r rising h (get_or_default xs i no_entry _ h) le
