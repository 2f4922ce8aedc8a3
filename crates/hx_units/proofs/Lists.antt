-- Lists: what is found in them, what holds of each element, and parts of them.
use Rattle.std.proofs.Common.{◌≡◌, ℕ, zero, suc, ◌-◌, ◌≤◌, Bool, not, cond, List, [], ◌∷◌, ◌++◌, length, take, drop, replicate, slice_index, Some, refl, ap, ◌∙◌, arith, append-nil}
use Rattle.std.specs.List.{AllByRecursion, filter, find}
use Rattle.std.proofs.lemmas.List.{length-drop, take_all, drop_all}
use Rattle.std.proofs.lemmas.List.Filters.{length-filter_both}

-- tests that agree on the elements of a list find the same one
pub find-same_all : {A : Type 0} (p q : A → Bool) (xs : List A) → AllByRecursion (λ x. p x ≡ q x) xs → find p xs ≡ find q xs
find-same_all p q [] h = refl
find-same_all p q (x ∷ xs) h = ap (λ b. cond b (Some x) (find p xs)) h.0 ∙ ap (λ r. cond (q x) (Some x) r) (find-same_all p q xs h.1)

-- tests that agree find the same one
pub find-same : {A : Type 0} (p q : A → Bool) → ((x : A) → p x ≡ q x) → (xs : List A) → find p xs ≡ find q xs
find-same p q h [] = refl
find-same p q h (x ∷ xs) = ap (λ b. cond b (Some x) (find p xs)) (h x) ∙ ap (λ r. cond (q x) (Some x) r) (find-same p q h xs)

-- what holds of each element, and of one more
pub all_pushed : {A : Type 0} (P : A → Type 0) (xs : List A) (x : A) → AllByRecursion P xs → P x → AllByRecursion P (xs ++ x ∷ [])
all_pushed P [] x h k = (k, tt)
all_pushed P (y ∷ xs) x h k = (h.0, all_pushed P xs x h.1 k)

pub length-filter-le : {A : Type 0} (keep : A → Bool) (xs : List A) → length (filter keep xs) ≤ length xs
length-filter-le keep xs = let parts = length-filter_both keep (λ x. not (keep x)) (λ x. refl) xs in omega arith

pub slice_index-zeros : (n k : ℕ) → slice_index (replicate n 0) k ≡ 0
slice_index-zeros zero k = refl
slice_index-zeros (suc n) zero = refl
slice_index-zeros (suc n) (suc k) = slice_index-zeros n k

-- all that is left after n elements
pub take-rest : {A : Type 0} (n : ℕ) (xs : List A) → take (length xs - n) (drop n xs) ≡ drop n xs
take-rest n xs = take_all (length xs - n) (drop n xs) (omega (arith, length-drop n xs))

-- a text with a line feed is not empty
pub line_feed-not_nil : (xs ys : List ℕ) → xs ++ 10 ∷ ys ≡ [] → ⊥
line_feed-not_nil [] ys e = absurd cc
line_feed-not_nil (x ∷ xs) ys e = absurd cc

-- items that were all written over are the new ones
pub take-all_written : {S : Type 0} (n : ℕ) (news items : List S) → length news ≡ length items → n ≡ length news → take n (news ++ drop (length news) items) ≡ news
take-all_written n news items len is =
    ap (λ l. take n (news ++ l)) (drop_all (length news) items (omega (arith, len))) ∙ ap (take n) (append-nil news) ∙ take_all n news (omega (arith, is))
