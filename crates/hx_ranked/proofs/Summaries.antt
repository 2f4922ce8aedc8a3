-- What a change leaves of a block's summaries: the first rank, the smallest least execution and the most shares.
use Rattle.std.proofs.Common.{◌≡◌, ℕ, ◌<◌, List, [], ◌∷◌, cond, nat_lt, min, max, Bool, true, false, Some, None, refl, sym, subst, ap, ◌∙◌, arith, take, drop, length}
use Rattle.std.specs.List.{find}
use Rattle.std.proofs.lemmas.List.{take-append-drop, length-map, with_items_is}
use Rattle.std.specs.Global.{Vec}
use Rattle.std.specs.Vec.{with_items}
use Rattle.std.proofs.lemmas.List.Folds.{find-append}
use Rattle.std.proofs.lemmas.Bool.Decides.{nat_tests}
use Rattle.hx_ranked.specs.declared.entry.Entry.{Entry}
use Rattle.hx_ranked.specs.Ranked.{Every, IsRising, has_rank, is_within, first_within_of, inserted, without, with_least, renewed, smallest_least, most_shares}
use Rattle.hx_ranked.proofs.Lists.{none-every}
use Rattle.hx_ranked.proofs.AtIndex.{others-after, without-others, renewed-others}
use Rattle.hx_ranked.proofs.Flat.{none-before}

pub least-inserted : (e : Entry) (xs : List Entry) → smallest_least (inserted e xs) ≡ min (smallest_least xs) e.least
least-inserted e [] = omega arith
least-inserted e (x ∷ xs) = elim (nat_lt x.rank e.rank) as (λ b. smallest_least (cond b (x ∷ inserted e xs) (e ∷ x ∷ xs)) ≡ min (smallest_least (x ∷ xs)) e.least) [ true ↦ omega (arith, least-inserted e xs) | false ↦ omega arith ]

pub most-inserted : (e : Entry) (xs : List Entry) → most_shares (inserted e xs) ≡ max (most_shares xs) e.shares
most-inserted e [] = omega arith
most-inserted e (x ∷ xs) = elim (nat_lt x.rank e.rank) as (λ b. most_shares (cond b (x ∷ inserted e xs) (e ∷ x ∷ xs)) ≡ max (most_shares (x ∷ xs)) e.shares) [ true ↦ omega (arith, most-inserted e xs) | false ↦ omega arith ]

-- no entry has the rank
pub without-none : (r : ℕ) (xs : List Entry) → find (has_rank r) xs ≡ None → without r xs ≡ xs
without-none r xs none = without-others r xs (none-every (has_rank r) xs none)

pub renewed-none : (r least shares : ℕ) (xs : List Entry) → find (has_rank r) xs ≡ None → renewed r least shares xs ≡ xs
renewed-none r least shares xs none = renewed-others r least shares xs (none-every (has_rank r) xs none)

-- a list whose entries were written over by the renewed ones holds these
pub written-renewed : (list : Vec Entry) (r least shares : ℕ) (ws : List Entry) → ws ≡ renewed r least shares list.items → (with_items list ws).items ≡ renewed r least shares list.items
written-renewed list r least shares ws is =
    with_items_is list ws (ap length is ∙ length-map list.items (with_least r least shares) ∙ sym list.ok.0) ∙ is

-- a list with an entry of the rank
module _ (r : ℕ) (e : Entry) where
  -- the summaries are those of the entry and of the others, before and after a renewal
  pub record IsParted (xs : List Entry) : Type 0 where
    pub least : smallest_least xs ≡ min e.least (smallest_least (without r xs))
    pub most : most_shares xs ≡ max e.shares (most_shares (without r xs))
    pub least_new : (least shares : ℕ) → smallest_least (renewed r least shares xs) ≡ min least (smallest_least (without r xs))
    pub most_new : (least shares : ℕ) → most_shares (renewed r least shares xs) ≡ max shares (most_shares (without r xs))

  pub parted : (xs : List Entry) → IsRising xs → find (has_rank r) xs ≡ Some e → IsParted xs
  parted [] rising found = absurd (cc)
  parted (x ∷ xs) rising found = by (has_rank r x) refl found (parted xs rising.1)
    where
      by : (b : Bool) → has_rank r x ≡ b → cond b (Some x) (find (has_rank r) xs) ≡ Some e → (find (has_rank r) xs ≡ Some e → IsParted xs) → IsParted (x ∷ xs)
      by true g is rest =
          let same : x ≡ e = cc in
          let rank : x.rank ≡ r = grind (arith, nat_tests) in
          let others = others-after r xs (subst (λ m. Every (λ y. m < y.rank) xs) rank rising.0) in
          record {
            least = rw (g, without-others r xs others, same) refl;
            most = rw (g, without-others r xs others, same) refl;
            least_new = λ least shares. rw (g, without-others r xs others, renewed-others r least shares xs others) refl;
            most_new = λ least shares. rw (g, without-others r xs others, renewed-others r least shares xs others) refl;
          }
      by false g is rest =
          let p = rest is in
          record {
            least = rw g (omega (arith, p.least));
            most = rw g (omega (arith, p.most));
            least_new = λ least shares. rw g (omega (arith, p.least_new least shares));
            most_new = λ least shares. rw g (omega (arith, p.most_new least shares));
          }

-- a search may begin after entries that rank before `from`
pub first-from : (from last left minimum start : ℕ) (xs : List Entry) → Every (λ e. e.rank < from) (take start xs) → first_within_of from last left minimum (drop start xs) ≡ first_within_of from last left minimum xs
first-from from last left minimum start xs passed =
    sym (ap (first_within_of from last left minimum) (sym (take-append-drop start xs)) ∙ find-append (is_within from last left minimum) (take start xs) (drop start xs) ∙ (rw (none-before from last left minimum (take start xs) passed) refl))
