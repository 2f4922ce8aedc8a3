-- Where a log may be trimmed.
use Rattle.std.specs.Prelude.{Option, Some, None, min}
use Rattle.std.specs.List.{AllByRecursion}
use Rattle.std.proofs.Common.{◌≡◌, ℕ, get_or, ◌+◌, ◌-◌, ◌<◌, ◌≤◌, List, [], ◌∷◌, ◌++◌, length, take, sym, ap, ◌∙◌, subst, arith}
use Rattle.std.proofs.lemmas.List.{take_more}
use Rattle.hx_etcd_log.specs.Trims.{HasAfter, IsLeast, lesser}

-- each copy has the record of number `n` and `rest` after it
all_as : (m n stay rest : ℕ) (counts : List (Option ℕ)) → n + rest ≤ m + stay → AllByRecursion (HasAfter m stay) counts → AllByRecursion (HasAfter n rest) counts
all_as m n stay rest [] le h = tt
all_as m n stay rest (c ∷ counts) le h = ((h.0.0, h.0.1, omega (arith, h.0.2, le)), all_as m n stay rest counts le h.1)

all_front : (n stay : ℕ) (counts more : List (Option ℕ)) → AllByRecursion (HasAfter n stay) (counts ++ more) → AllByRecursion (HasAfter n stay) counts
all_front n stay [] more h = tt
all_front n stay (c ∷ counts) more h = (h.0, all_front n stay counts more h.1)

all_last : (n stay count : ℕ) (counts : List (Option ℕ)) → AllByRecursion (HasAfter n stay) (counts ++ Some count ∷ []) → n + stay ≤ count
all_last n stay count [] h = let same : h.0.0 ≡ count = cc (h.0.1) in omega (arith, h.0.2, same)
all_last n stay count (c ∷ counts) h = all_last n stay count counts h.1

all_push : (n stay count : ℕ) (counts : List (Option ℕ)) → AllByRecursion (HasAfter n stay) counts → n + stay ≤ count → AllByRecursion (HasAfter n stay) (counts ++ Some count ∷ [])
all_push n stay count [] h le = ((count, (λ i. Some count), le), tt)
all_push n stay count (c ∷ counts) h le = (h.0, all_push n stay count counts h.1 le)

-- so far this is the least
abbrev pub SoFar : List (Option ℕ) → Option ℕ → Type 0
SoFar counts None = counts ≡ []
SoFar counts (Some m) = IsLeast counts m

least_push : (m count : ℕ) (counts : List (Option ℕ)) → IsLeast counts m → IsLeast (counts ++ Some count ∷ []) (min m count)
least_push m count counts h = record {
  all = all_push (min m count) 0 count counts (all_as m (min m count) 0 0 counts (omega arith) h.all) (omega arith);
  most = λ n all. let one = h.most n (all_front n 0 counts (Some count ∷ []) all) in let other = all_last n 0 count counts all in omega (arith, one, other);
}

one_least : (count : ℕ) → IsLeast (Some count ∷ []) count
one_least count = record {
  all = all_push count 0 count [] tt (omega arith);
  most = λ n all. let le = all_last n 0 count [] all in omega (arith, le);
}

pushed : (counts : List (Option ℕ)) (least : Option ℕ) (count : ℕ) → SoFar counts least → SoFar (counts ++ Some count ∷ []) (lesser least count)
pushed counts None count h = subst (λ (l : List (Option ℕ)). IsLeast (l ++ Some count ∷ []) count) (sym h) (one_least count)
pushed counts (Some m) count h = least_push m count counts h

-- one more count
pub one_more : (counts : List (Option ℕ)) (i count : ℕ) (least : Option ℕ) → i < length counts → get_or counts i None ≡ Some count → SoFar (take i counts) least
    → SoFar (take (i + 1) counts) (lesser least count)
one_more counts i count least lt is h =
    let more : take (i + 1) counts ≡ take i counts ++ Some count ∷ [] = take_more counts i None lt ∙ ap (λ (x : Option ℕ). take i counts ++ x ∷ []) is in
    subst (λ (l : List (Option ℕ)). SoFar l (lesser least count)) (sym more) (pushed (take i counts) least count h)

-- ---- the index

pub index_has : (counts : List (Option ℕ)) (m stay n : ℕ) → IsLeast counts m → n + stay ≡ m → AllByRecursion (HasAfter n stay) counts
index_has counts m stay n h is = all_as m n 0 stay counts (omega (arith, is)) h.all

pub index_last : (counts : List (Option ℕ)) (m stay n : ℕ) → IsLeast counts m → AllByRecursion (HasAfter n stay) counts → n + stay ≤ m
index_last counts m stay n h all = let le = h.most (n + stay) (all_as n (n + stay) stay 0 counts (omega arith) all) in omega (arith, le)
