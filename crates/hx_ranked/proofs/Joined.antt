-- Two blocks that became one.
use Rattle.std.proofs.Common.{◌≡◌, ℕ, suc, ◌+◌, ◌<◌, ◌≤◌, List, [], ◌∷◌, ◌++◌, length, get_or, set, take, drop, ap, sym, subst, ◌∙◌, arith, add-one, append_assoc}
use Rattle.std.specs.List.{remove}
use Rattle.std.proofs.lemmas.List.{set_at, length-take-le, length-append, take_more}
use Rattle.hx_ranked.specs.declared.entry.Entry.{Entry}
use Rattle.hx_ranked.specs.Ranked.{Every, IsRising, flat, IsFilled, AreBlocks}
use Rattle.hx_ranked.proofs.Lists.{every-append}
use Rattle.hx_ranked.proofs.Flat.{flat-around, flat-drop-here, flat-append, every-take, every-drop, every-read}

-- the blocks with those at i and after it as one
abbrev pub joined : List (List Entry) → ℕ → (b k : List Entry) → List (List Entry)
joined bs i b k = set (remove bs (i + 1)) i (b ++ k)

module _ (bs : List (List Entry)) (are : AreBlocks bs) (i : ℕ) (b k : List Entry) (within : i + 1 < length bs) (read : b ≡ get_or bs i b) (read_next : k ≡ get_or bs (i + 1) k) where
  first-within : i < length bs
  first-within = omega arith

  pub joined-is : joined bs i b k ≡ take i bs ++ (b ++ k) ∷ drop (i + 1 + 1) bs
  joined-is =
      ap (λ t. set (t ++ drop (suc (i + 1)) bs) i (b ++ k)) (take_more bs i b first-within)
      ∙ ap (λ t. set t i (b ++ k)) (append_assoc (take i bs) (get_or bs i b ∷ []) (drop (suc (i + 1)) bs))
      ∙ set_at (take i bs) (get_or bs i b) (drop (suc (i + 1)) bs) (b ++ k) i (length-take-le i bs (omega arith))
      ∙ ap (λ n. take i bs ++ (b ++ k) ∷ drop n bs) (sym (add-one (i + 1)))

  pub flat-joined : flat (joined bs i b k) ≡ flat bs
  flat-joined =
      ap flat joined-is ∙ flat-append (take i bs) ((b ++ k) ∷ drop (i + 1 + 1) bs)
      ∙ ap (λ t. flat (take i bs) ++ t) (append_assoc b k (flat (drop (i + 1 + 1) bs)) ∙ ap (λ t. b ++ t) (sym (flat-drop-here bs (i + 1) k within read_next)))
      ∙ sym (flat-around bs i b first-within read)

  pub are-joined : length b + length k ≤ 256 → AreBlocks (joined bs i b k)
  are-joined small = record {
    rising = subst IsRising (sym flat-joined) are.rising;
    filled =
        let filled = every-read IsFilled bs i b first-within read are.filled in
        subst (Every IsFilled) (sym joined-is) (every-append IsFilled (take i bs) ((b ++ k) ∷ drop (i + 1 + 1) bs) (every-take IsFilled i bs are.filled) ((omega (arith, length-append b k, filled.0), omega (arith, length-append b k)), every-drop IsFilled (i + 1 + 1) bs are.filled));
  }
