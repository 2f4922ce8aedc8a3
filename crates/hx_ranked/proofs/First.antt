-- The first entry that passes a test, block by block.
use Rattle.std.proofs.Common.{◌≡◌, ℕ, ◌+◌, ◌<◌, List, ◌++◌, length, get_or, take, drop, Bool, false, Some, None, refl, ap, ◌∙◌, arith}
use Rattle.std.specs.List.{find}
use Rattle.std.proofs.lemmas.List.Folds.{find-append}
use Rattle.std.proofs.lemmas.Bool.Decides.{nat_tests}
use Rattle.hx_ranked.specs.declared.entry.Entry.{Entry}
use Rattle.hx_ranked.specs.Ranked.{Every, flat, is_from}
use Rattle.hx_ranked.proofs.Lists.{find-none, every-weaker}
use Rattle.hx_ranked.proofs.Flat.{flat-around, flat-take-here}

-- what ranks before `rank` does not have it or a later one
pub none-earlier : (rank : ℕ) (xs : List Entry) → Every (λ e. e.rank < rank) xs → find (is_from rank) xs ≡ None
none-earlier rank xs a =
    find-none (is_from rank) xs (every-weaker (λ e. e.rank < rank) (λ e. is_from rank e ≡ false) (λ e h. grind (arith, nat_tests)) xs a)

module _ (p : Entry → Bool) (bs : List (List Entry)) (i : ℕ) (b : List Entry) (within : i < length bs) (read : b ≡ get_or bs i b) (none : find p (flat (take i bs)) ≡ None) where
  -- it is the block's, if the block has one
  pub found-in : (e : Entry) → find p b ≡ Some e → find p (flat bs) ≡ Some e
  found-in e is =
      ap (find p) (flat-around bs i b within read) ∙ find-append p (flat (take i bs)) (b ++ flat (drop (i + 1) bs))
      ∙ (rw none (find-append p b (flat (drop (i + 1) bs)) ∙ (rw is refl)))

  -- and after the block, if it has none
  pub none-in : find p b ≡ None → find p (flat (take (i + 1) bs)) ≡ None
  none-in is = ap (find p) (flat-take-here bs i b within read) ∙ find-append p (flat (take i bs)) b ∙ (rw (none, is) refl)
