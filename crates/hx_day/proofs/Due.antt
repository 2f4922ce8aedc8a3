-- The entries that are due stand before those that are not.
use Rattle.std.proofs.Common.{◌≡◌, ℕ, ◌<◌, ◌≤◌, ◌↔◌, List, [], ◌∷◌, ◌++◌, length, map, Contains, Option, Some, None, IsSome, IfSome, slice_get, Result, Ok, Err, IfErr, zero-lt-suc, All, IsPermutation, IsSorted, nat_cmp, is_gt, eqb, Less, false, true≢false, refl, sym, ap, ◌∙◌, subst, inl, inr, append_assoc, arith}
use Rattle.std.specs.List.{AllByRecursion, dedup}
use Rattle.std.specs.List.Sorted.{IsStrictlySortedBy}
use Rattle.std.specs.List.Retain.{IsFiltered, DiffersFromLast}
use Rattle.std.proofs.lemmas.Bool.Decides.{nat_tests}
use Rattle.std.proofs.lemmas.List.Elements.{All-weaker, recursion_from_All, Contains-append_cases, Contains-append_left, Contains-append_right}
use Rattle.std.proofs.lemmas.List.Filters.{dedup_is}
use Rattle.std.proofs.lemmas.List.Kept.{Contains-dedup_nat, Contains-from_dedup}
use Rattle.std.proofs.lemmas.List.Sorted.{Contains-permutation, IsPermutation-sym}
use Rattle.std.proofs.lemmas.Map.Keys.{sorted_tail, sorted_head, IsStrictlyIncreasing-dedup, sorted_from_strictly_increasing}
use Rattle.hx_day.specs.Increasing.{AreIncreasing}
use Rattle.hx_day.specs.Expiries.{Entry, Holds, HoldsLater, IsDue, IsSomeDue, AreIndicesUntil}
use Rattle.hx_day.proofs.Elements.{first_is_member, of_all, image_is_member, member_of_image}
use Rattle.hx_day.proofs.Increasing.{increasing_from_sorted}
use Rattle.hx_day.proofs.Held.{entry_cmp, entry}

abbrev pub AreDue : (time : ℕ) → List Entry → Type 0
AreDue time = AllByRecursion (λ x. x.expiry ≤ time)

abbrev pub AreLater : (time : ℕ) → List Entry → Type 0
AreLater time = AllByRecursion (λ x. time < x.expiry)

-- the entries begin with some that are due, with these indices, and the rest follow
pub record IsWalked (entries rest : List Entry) (time : ℕ) (indices : List ℕ) : Type 0 where
  pub front : List Entry
  pub entries_are : entries ≡ front ++ rest
  pub due : AreDue time front
  pub indices_are : indices ≡ map (λ x. x.index) front

due_push : (time : ℕ) (xs : List Entry) (x : Entry) → AreDue time xs → x.expiry ≤ time → AreDue time (xs ++ x ∷ [])
due_push time [] x a h = (h, tt)
due_push time (y ∷ ys) x a h = (a.0, due_push time ys x a.1 h)

map_push : {X Y : Type 0} (f : X → Y) (xs : List X) (x : X) → map f (xs ++ x ∷ []) ≡ map f xs ++ f x ∷ []
map_push f [] x = refl
map_push f (y ∷ ys) x = ap (λ r. f y ∷ r) (map_push f ys x)

pub walk_goes_on : (entries rest after : List Entry) (time : ℕ) (indices : List ℕ) (x : Entry) → IsWalked entries rest time indices
    → rest ≡ x ∷ after → x.expiry ≤ time → IsWalked entries after time (indices ++ x.index ∷ [])
walk_goes_on entries rest after time indices x w e h = record {
  front = w.front ++ x ∷ [];
  entries_are = w.entries_are ∙ ap (λ r. w.front ++ r) e ∙ sym (append_assoc w.front (x ∷ []) after);
  due = due_push time w.front x w.due h;
  indices_are = ap (λ r. r ++ x.index ∷ []) w.indices_are ∙ sym (map_push (λ y. y.index) w.front x);
}

-- an entry that is due is held
pub some_due : (entries rest after : List Entry) (time : ℕ) (indices : List ℕ) (x : Entry) → IsWalked entries rest time indices
    → rest ≡ x ∷ after → x.expiry ≤ time → IsSomeDue entries time
unfolding Holds
some_due entries rest after time indices x w e h =
    let here : Contains rest x = subst (λ r. Contains r x) (sym e) (first_is_member x after) in
    let there : Contains entries x = subst (λ r. Contains r x) (sym w.entries_are) (Contains-append_right w.front rest x here) in
    (x.index, (x.expiry, h, there))

sorted_back : (xs ys : List Entry) → IsStrictlySortedBy entry_cmp (xs ++ ys) → IsStrictlySortedBy entry_cmp ys
sorted_back [] ys h = h
sorted_back (x ∷ xs) ys h = sorted_back xs ys (sorted_tail entry_cmp x (xs ++ ys) h)

later_from : (time : ℕ) (x : Entry) (xs : List Entry) → time < x.expiry → AllByRecursion (λ y. entry_cmp x y ≡ Less) xs → AreLater time xs
later_from time x [] h a = tt
later_from time x (y ∷ ys) h a = (below time x.expiry x.index y.expiry y.index h a.0, later_from time x ys h a.1)
  where
    below : (time a b c d : ℕ) → time < a → entry_cmp (entry a b) (entry c d) ≡ Less → time < c
    below time a b c d h l = grind (arith, nat_tests)

-- if the first of the rest is not due, none of them is
pub all_later : (entries rest after : List Entry) (time : ℕ) (indices : List ℕ) (x : Entry) → IsWalked entries rest time indices
    → IsStrictlySortedBy entry_cmp entries → rest ≡ x ∷ after → time < x.expiry → AreLater time rest
all_later entries rest after time indices x w s e h =
    let back = sorted_back w.front rest (subst (IsStrictlySortedBy entry_cmp) w.entries_are s) in
    let order = sorted_head entry_cmp x after (subst (IsStrictlySortedBy entry_cmp) e back) in
    subst (AreLater time) (sym e) (h, later_from time x after h order)

pub none_later : (time : ℕ) (rest : List Entry) → rest ≡ [] → AreLater time rest
none_later time rest e = subst (AreLater time) (sym e) tt

pub later_of_all : (time : ℕ) (x : Entry) (xs : List Entry) → time < x.expiry → All (λ y. is_gt (entry_cmp x y) ≡ false) xs → AreLater time xs
later_of_all time x xs h a = recursion_from_All (λ y. time < y.expiry) xs (All-weaker (λ y. is_gt (entry_cmp x y) ≡ false) (λ y. time < y.expiry) (λ y l. below time x.expiry x.index y.expiry y.index h l) xs a)
  where
    below : (time a b c d : ℕ) → time < a → is_gt (entry_cmp (entry a b) (entry c d)) ≡ false → time < c
    below time a b c d h l = grind (arith, nat_tests)

-- the first is gone
pub without_first : (keys after : List Entry) (first : Option Entry) (x : Entry) → slice_get keys 0 ≡ Some x → (0 < length keys → IsSome first)
    → IfSome first (λ k. keys ≡ k ∷ after) → keys ≡ x ∷ after
without_first [] after r x e some h = cc
without_first (y ∷ ys) after None x e some h = absurd (true≢false (sym (some (zero-lt-suc (length ys)))))
without_first (y ∷ ys) after (Some k) x e some h = let same : y ≡ x = cc in subst (λ z. y ∷ ys ≡ z ∷ after) (cc) h

pub empty_from : (keys : List Entry) → (0 < length keys → IsSome {T = Entry} None) → keys ≡ []
empty_from [] h = refl
empty_from (x ∷ xs) h = absurd (true≢false (sym (h (zero-lt-suc (length xs)))))

pub if_err : {A E : Type 0} (r : Result A E) (P : Type 0) → P → IfErr r (λ _. P)
if_err (Ok x) P h = tt
if_err (Err e) P h = h

-- the rest is what is held and not due
pub holds_later : (entries rest : List Entry) (time : ℕ) (indices : List ℕ) → IsWalked entries rest time indices → AreLater time rest → HoldsLater entries rest time
unfolding Holds
holds_later entries rest time indices w a e p = (
  λ h. (subst (λ r. Contains r (entry e p)) (sym w.entries_are) (Contains-append_right w.front rest (entry e p) h), of_all (λ x. time < x.expiry) rest (entry e p) a h),
  λ h. elim (Contains-append_cases w.front rest (entry e p) (subst (λ r. Contains r (entry e p)) w.entries_are h.0)) [
    | inl m ↦ let due : e ≤ time = of_all (λ x. x.expiry ≤ time) w.front (entry e p) w.due m in let late : time < e = h.1 in absurd (omega arith)
    | inr m ↦ m
  ],
)

-- the indices that were taken are those that are due
pub indices_due : (entries rest : List Entry) (time : ℕ) (indices : List ℕ) → IsWalked entries rest time indices → AreLater time rest
    → (index : ℕ) → Contains indices index ↔ IsDue entries time index
unfolding Holds
indices_due entries rest time indices w a index = (
  λ h. let m = member_of_image (λ (x : Entry). x.index) w.front index (subst (λ r. Contains r index) w.indices_are h) in
      let late : m.0.expiry ≤ time = of_all (λ x. x.expiry ≤ time) w.front m.0 w.due m.2 in
      let there : Contains entries m.0 = subst (λ r. Contains r m.0) (sym w.entries_are) (Contains-append_left w.front rest m.0 m.2) in
      (m.0.expiry, late, subst (λ n. Contains entries (entry m.0.expiry n)) m.1 there),
  λ h. elim (Contains-append_cases w.front rest (entry h.0 index) (subst (λ r. Contains r (entry h.0 index)) w.entries_are h.2)) [
    | inl m ↦ subst (λ r. Contains r index) (sym w.indices_are) (image_is_member (λ (x : Entry). x.index) w.front (entry h.0 index) m)
    | inr m ↦ let late : time < h.0 = of_all (λ x. time < x.expiry) rest (entry h.0 index) a m in let due : h.0 ≤ time = h.1 in absurd (omega arith)
  ],
)

-- once sorted and rid of repeats
pub are_indices : (entries rest : List Entry) (time : ℕ) (indices ordered once : List ℕ) → IsWalked entries rest time indices → AreLater time rest
    → IsPermutation indices ordered → IsSorted nat_cmp ordered → IsFiltered (DiffersFromLast eqb) [] ordered once → AreIndicesUntil entries time once
are_indices entries rest time indices ordered once w a moved sorted filtered =
    let is : once ≡ dedup eqb ordered = dedup_is eqb ordered once filtered in
    record {
      increasing = subst (λ r. AreIncreasing r) (sym is) (increasing_from_sorted (dedup eqb ordered) (sorted_from_strictly_increasing (dedup eqb ordered) (IsStrictlyIncreasing-dedup ordered sorted)));
      due = λ index. let both = indices_due entries rest time indices w a index in (
        λ h. both.0 (Contains-permutation ordered indices index (IsPermutation-sym indices ordered moved)
            (Contains-from_dedup eqb ordered index (subst (λ r. Contains r index) is h))),
        λ h. subst (λ r. Contains r index) (sym is) (Contains-dedup_nat ordered index (Contains-permutation indices ordered index moved (both.1 h))),
      );
    }
