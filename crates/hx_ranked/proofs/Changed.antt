-- What a change in the block of a rank leaves of all entries.
use Rattle.std.proofs.Common.{◌≡◌, ℕ, suc, ◌+◌, ◌-◌, ◌<◌, ◌≤◌, List, [], ◌∷◌, ◌++◌, length, get_or, set, take, drop, not, cond, nat_lt, Bool, true, false, Option, Some, None, refl, ap, sym, subst, ◌∙◌, arith, add-one}
use Rattle.std.specs.List.{find, remove}
use Rattle.std.specs.Option.{option_or, option_to_list, is_some}
use Rattle.std.proofs.lemmas.List.{map-append, length-map, take-set, drop-set-lt}
use Rattle.std.proofs.lemmas.List.Elements.{filter-append}
use Rattle.std.proofs.lemmas.List.Folds.{find-append}
use Rattle.std.proofs.lemmas.Bool.Decides.{nat_tests}
use Rattle.hx_ranked.specs.declared.entry.Entry.{Entry}
use Rattle.hx_ranked.specs.Ranked.{Every, IsRising, IsFree, has_rank, inserted, without, with_least, renewed, flat, IsFilled, AreBlocks}
use Rattle.hx_ranked.proofs.Lists.{every-weaker, rising-left, rising-filter, rising-inserted, inserted-left, inserted-right}
use Rattle.hx_ranked.proofs.AtIndex.{AreOthers, others-before, others-after, find-others, without-others, renewed-others}
use Rattle.hx_ranked.proofs.Flat.{flat-around, flat-set, flat-append, every-set, every-remove, filled-here, rising-from}
use Rattle.hx_units.proofs.Lists.{length-filter-le}

pub length-inserted : (e : Entry) (xs : List Entry) → length (inserted e xs) ≡ length xs + 1
length-inserted e [] = refl
length-inserted e (x ∷ xs) = elim (nat_lt x.rank e.rank) as (λ b. length (cond b (x ∷ inserted e xs) (e ∷ x ∷ xs)) ≡ length (x ∷ xs) + 1) [ true ↦ omega (arith, length-inserted e xs) | false ↦ omega arith ]

pub rank-retained : (r least shares : ℕ) (e : Entry) → (with_least r least shares e).rank ≡ e.rank
rank-retained r least shares e = elim (has_rank r e) as (λ b. (cond b (record e { least = least; shares = shares }) e).rank ≡ e.rank) [ true ↦ refl | false ↦ refl ]

every-renewed : (r least shares k : ℕ) (xs : List Entry) → Every (λ e. k < e.rank) xs → Every (λ e. k < e.rank) (renewed r least shares xs)
every-renewed r least shares k [] a = tt
every-renewed r least shares k (x ∷ xs) a = (subst (λ m. k < m) (sym (rank-retained r least shares x)) a.0, every-renewed r least shares k xs a.1)

rising-renewed : (r least shares : ℕ) (xs : List Entry) → IsRising xs → IsRising (renewed r least shares xs)
rising-renewed r least shares [] a = tt
rising-renewed r least shares (x ∷ xs) a = (subst (λ m. Every (λ e. m < e.rank) (renewed r least shares xs)) (sym (rank-retained r least shares x)) (every-renewed r least shares x.rank xs a.0), rising-renewed r least shares xs a.1)

module _ (bs : List (List Entry)) (are : AreBlocks bs) (i : ℕ) (b : List Entry) (within : i < length bs) (read : b ≡ get_or bs i b) where
  pub rising-block : IsRising b
  rising-block = rising-left b (flat (drop (i + 1) bs)) (rising-from bs are i b within read)

  module _ (r : ℕ) (before : Every (λ e. e.rank < r) (flat (take i bs))) (after : Every (λ e. r < e.rank) (flat (drop (i + 1) bs))) where
    pub inserted-block : (e : Entry) → e.rank ≡ r → flat (set bs i (inserted e b)) ≡ inserted e (flat bs)
    inserted-block e is =
        let front = subst (λ k. Every (λ y. y.rank < k) (flat (take i bs))) (sym is) before in
        let rest = every-weaker (λ y. r < y.rank) (λ y. e.rank ≤ y.rank) (λ y h. omega arith) (flat (drop (i + 1) bs)) after in
        flat-set bs i b within read (inserted e b) ∙ sym (ap (inserted e) (flat-around bs i b within read) ∙ inserted-left e (flat (take i bs)) (b ++ flat (drop (i + 1) bs)) front
        ∙ ap (λ t. flat (take i bs) ++ t) (inserted-right e b (flat (drop (i + 1) bs)) rest))

    pub are-inserted : (e : Entry) → e.rank ≡ r → IsFree e.rank (flat bs) → length b < 256 → AreBlocks (set bs i (inserted e b))
    are-inserted e is free room = record {
      rising = subst IsRising (sym (inserted-block e is)) (rising-inserted e (flat bs) are.rising free);
      filled = every-set IsFilled bs i (inserted e b) within are.filled (omega (arith, length-inserted e b), omega (arith, length-inserted e b));
    }

    others-front : AreOthers r (flat (take i bs))
    others-front = others-before r (flat (take i bs)) before

    others-rest : AreOthers r (flat (drop (i + 1) bs))
    others-rest = others-after r (flat (drop (i + 1) bs)) after

    -- the entry of the rank is the block's
    pub find-block : find (has_rank r) b ≡ find (has_rank r) (flat bs)
    find-block =
        sym (ap (find (has_rank r)) (flat-around bs i b within read) ∙ find-append (has_rank r) (flat (take i bs)) (b ++ flat (drop (i + 1) bs))
        ∙ rw (find-others r (flat (take i bs)) others-front) (find-append (has_rank r) b (flat (drop (i + 1) bs)) ∙ rw (find-others r (flat (drop (i + 1) bs)) others-rest) (or-none (find (has_rank r) b))))
      where
        or-none : (o : Option Entry) → option_or o None ≡ o
        or-none None = refl
        or-none (Some x) = refl

    without-around-block : flat (take i bs) ++ (without r b ++ flat (drop (i + 1) bs)) ≡ without r (flat bs)
    without-around-block =
        sym (ap (without r) (flat-around bs i b within read) ∙ filter-append (λ e. not (has_rank r e)) (flat (take i bs)) (b ++ flat (drop (i + 1) bs))
        ∙ rw (without-others r (flat (take i bs)) others-front) (ap (λ t. flat (take i bs) ++ t) (filter-append (λ e. not (has_rank r e)) b (flat (drop (i + 1) bs)) ∙ ap (λ t. without r b ++ t) (without-others r (flat (drop (i + 1) bs)) others-rest))))

    pub without-block : flat (set bs i (without r b)) ≡ without r (flat bs)
    without-block = flat-set bs i b within read (without r b) ∙ without-around-block

    -- something is left of the block
    pub are-without : 0 < length (without r b) → AreBlocks (set bs i (without r b))
    are-without some = record {
      rising = subst IsRising (sym without-block) (rising-filter (λ e. not (has_rank r e)) (flat bs) are.rising);
      filled = every-set IsFilled bs i (without r b) within are.filled (some, omega (arith, length-filter-le (λ e. not (has_rank r e)) b, (filled-here bs are i b within read).1));
    }

    -- nothing is left of it, so it goes
    pub gone-block : without r b ≡ [] → flat (remove bs i) ≡ without r (flat bs)
    gone-block none =
        flat-append (take i bs) (drop (suc i) bs) ∙ (subst (λ t. flat (take i bs) ++ flat (drop (suc i) bs) ≡ flat (take i bs) ++ (t ++ flat (drop (i + 1) bs))) (sym none) (rw add-one refl)) ∙ without-around-block

    pub are-gone : without r b ≡ [] → AreBlocks (remove bs i)
    are-gone none = record {
      rising = subst IsRising (sym (gone-block none)) (rising-filter (λ e. not (has_rank r e)) (flat bs) are.rising);
      filled = every-remove IsFilled bs i are.filled;
    }

    pub renewed-block : (least shares : ℕ) → flat (set bs i (renewed r least shares b)) ≡ renewed r least shares (flat bs)
    renewed-block least shares =
        flat-set bs i b within read (renewed r least shares b) ∙ sym (ap (renewed r least shares) (flat-around bs i b within read) ∙ map-append (with_least r least shares) (flat (take i bs)) (b ++ flat (drop (i + 1) bs))
        ∙ rw (renewed-others r least shares (flat (take i bs)) others-front) (ap (λ t. flat (take i bs) ++ t) (map-append (with_least r least shares) b (flat (drop (i + 1) bs)) ∙ ap (λ t. renewed r least shares b ++ t) (renewed-others r least shares (flat (drop (i + 1) bs)) others-rest))))

    pub are-renewed : (least shares : ℕ) → AreBlocks (set bs i (renewed r least shares b))
    are-renewed least shares =
        let filled = filled-here bs are i b within read in
        record {
          rising = subst IsRising (sym (renewed-block least shares)) (rising-renewed r least shares (flat bs) are.rising);
          filled = every-set IsFilled bs i (renewed r least shares b) within are.filled (omega (arith, length-map b (with_least r least shares), filled.0), omega (arith, length-map b (with_least r least shares), filled.1));
        }

-- what goes may be written over first
pub remove-set : {X : Type 0} (xs : List X) (i : ℕ) (x : X) → remove (set xs i x) i ≡ remove xs i
remove-set xs i x = rw (take-set xs i x, drop-set-lt (suc i) xs i x (omega arith)) refl

-- one entry less if there was one of the rank, else the same number
pub length-without : (r : ℕ) (xs : List Entry) → IsRising xs → length (without r xs) + length (option_to_list (find (has_rank r) xs)) ≡ length xs
length-without r [] a = refl
length-without r (x ∷ xs) a = length-without-by r x xs a (length-without r xs a.1) (has_rank r x) refl
  where
    length-without-by : (r : ℕ) (x : Entry) (xs : List Entry) → IsRising (x ∷ xs) → length (without r xs) + length (option_to_list (find (has_rank r) xs)) ≡ length xs → (b : Bool) → has_rank r x ≡ b → length (cond (not b) (x ∷ without r xs) (without r xs)) + length (option_to_list (cond b (Some x) (find (has_rank r) xs))) ≡ suc (length xs)
    length-without-by r x xs a rest true e =
        let same : x.rank ≡ r = grind (arith, nat_tests) in
        let after = others-after r xs (subst (λ m. Every (λ y. m < y.rank) xs) same a.0) in
        rw (without-others r xs after) (omega arith)
    length-without-by r x xs a rest false e = omega (arith, rest)

pub less-by : (o : Option Entry) (m n : ℕ) → m + length (option_to_list o) ≡ n → true ≡ is_some o → n - 1 ≡ m
less-by None m n e h = absurd (cc)
less-by (Some x) m n e h = omega arith

pub same-by : (o : Option Entry) (m n : ℕ) → m + length (option_to_list o) ≡ n → false ≡ is_some o → n ≡ m
same-by None m n e h = omega arith
same-by (Some x) m n e h = absurd (cc)
