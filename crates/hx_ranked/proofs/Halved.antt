-- A block that was split into two.
use Rattle.std.proofs.Common.{◌≡◌, ℕ, ◌+◌, ◌<◌, ◌≤◌, List, [], ◌∷◌, ◌++◌, length, get_or, set, take, drop, ap, sym, subst, ◌∙◌, arith, append_assoc}
use Rattle.std.specs.List.{insert}
use Rattle.std.proofs.lemmas.List.{take-append-drop, take_more_set, drop-set-lt, take_at, drop_at, get_or_at, length-take-le, length-drop, length-append}
use Rattle.hx_ranked.specs.declared.entry.Entry.{Entry}
use Rattle.hx_ranked.specs.Ranked.{Every, IsRising, first_rank, flat, IsFilled, AreBlocks}
use Rattle.hx_ranked.proofs.Lists.{every-append}
use Rattle.hx_ranked.proofs.Flat.{flat-around, flat-append, every-take, every-drop, before-block, after-block}

-- the blocks with the block at i in two halves
abbrev pub halved : List (List Entry) → ℕ → List Entry → List (List Entry)
halved bs i b = insert (set bs i (take 128 b)) (i + 1) (drop 128 b)

module _ (bs : List (List Entry)) (are : AreBlocks bs) (i : ℕ) (b : List Entry) (within : i < length bs) (read : b ≡ get_or bs i b) (full : length b ≡ 256) where
  pub halved-is : halved bs i b ≡ take i bs ++ take 128 b ∷ drop 128 b ∷ drop (i + 1) bs
  halved-is = rw (take_more_set bs i (take 128 b) within, drop-set-lt (i + 1) bs i (take 128 b) (omega arith)) (append_assoc (take i bs) (take 128 b ∷ []) (drop 128 b ∷ drop (i + 1) bs))

  length-before : length (take i bs) ≡ i
  length-before = length-take-le i bs (omega arith)

  pub flat-halved : flat (halved bs i b) ≡ flat bs
  flat-halved =
      ap flat halved-is ∙ flat-append (take i bs) (take 128 b ∷ drop 128 b ∷ drop (i + 1) bs)
      ∙ ap (λ t. flat (take i bs) ++ t) (sym (append_assoc (take 128 b) (drop 128 b) (flat (drop (i + 1) bs))) ∙ ap (λ t. t ++ flat (drop (i + 1) bs)) (take-append-drop 128 b))
      ∙ sym (flat-around bs i b within read)

  pub length-front : length (take 128 b) ≡ 128
  length-front = length-take-le 128 b (omega arith)

  pub length-back : length (drop 128 b) ≡ 128
  length-back = omega (arith, length-drop 128 b)

  pub are-halved : AreBlocks (halved bs i b)
  are-halved = record {
    rising = subst IsRising (sym flat-halved) are.rising;
    filled = subst (Every IsFilled) (sym halved-is) (every-append IsFilled (take i bs) (take 128 b ∷ drop 128 b ∷ drop (i + 1) bs) (every-take IsFilled i bs are.filled) ((omega (arith, length-front), omega (arith, length-front)), ((omega (arith, length-back), omega (arith, length-back)), every-drop IsFilled (i + 1) bs are.filled)));
  }

  pub length-halved : length (halved bs i b) ≡ length bs + 1
  length-halved = ap length halved-is ∙ omega (arith, length-append (take i bs) (take 128 b ∷ drop 128 b ∷ drop (i + 1) bs), length-before, length-drop (i + 1) bs)

  pub front-at : (d : List Entry) → get_or (halved bs i b) i d ≡ take 128 b
  front-at d = ap (λ t. get_or t i d) halved-is ∙ get_or_at (take i bs) (take 128 b) (drop 128 b ∷ drop (i + 1) bs) d i length-before

  as-after-front : halved bs i b ≡ (take i bs ++ take 128 b ∷ []) ++ drop 128 b ∷ drop (i + 1) bs
  as-after-front = halved-is ∙ sym (append_assoc (take i bs) (take 128 b ∷ []) (drop 128 b ∷ drop (i + 1) bs))

  length-front-too : length (take i bs ++ take 128 b ∷ []) ≡ i + 1
  length-front-too = omega (arith, length-append (take i bs) (take 128 b ∷ []), length-before)

  pub back-at : (d : List Entry) → get_or (halved bs i b) (i + 1) d ≡ drop 128 b
  back-at d = ap (λ t. get_or t (i + 1) d) as-after-front ∙ get_or_at (take i bs ++ take 128 b ∷ []) (drop 128 b) (drop (i + 1) bs) d (i + 1) length-front-too

  take-halved : take i (halved bs i b) ≡ take i bs
  take-halved = ap (take i) halved-is ∙ take_at (take i bs) (take 128 b ∷ drop 128 b ∷ drop (i + 1) bs) i length-before

  as-after-back : halved bs i b ≡ (take i bs ++ take 128 b ∷ drop 128 b ∷ []) ++ drop (i + 1) bs
  as-after-back = halved-is ∙ sym (append_assoc (take i bs) (take 128 b ∷ drop 128 b ∷ []) (drop (i + 1) bs))

  drop-halved : drop (i + 1 + 1) (halved bs i b) ≡ drop (i + 1) bs
  drop-halved =
      ap (drop (i + 1 + 1)) as-after-back ∙ drop_at (take i bs ++ take 128 b ∷ drop 128 b ∷ []) (drop (i + 1) bs) (i + 1 + 1) (omega (arith, length-append (take i bs) (take 128 b ∷ drop 128 b ∷ []), length-before))

  -- a rank before the second half belongs to the first
  pub before-front : (r : ℕ) → Every (λ e. e.rank < r) (flat (take i bs)) → Every (λ e. e.rank < r) (flat (take i (halved bs i b)))
  before-front r a = subst (λ t. Every (λ e. e.rank < r) (flat t)) (sym take-halved) a

  pub after-front : (r : ℕ) → r < first_rank (drop 128 b) → Every (λ e. r < e.rank) (flat (drop (i + 1) (halved bs i b)))
  after-front r less = after-block (halved bs i b) are-halved (i + 1) (drop 128 b) (omega (arith, length-halved)) (sym (back-at (drop 128 b))) r less

  -- and another to the second
  pub before-back : (r : ℕ) → first_rank (drop 128 b) ≤ r → Every (λ e. e.rank < r) (flat (take (i + 1) (halved bs i b)))
  before-back r le = before-block (halved bs i b) are-halved (i + 1) (drop 128 b) (omega (arith, length-halved)) (sym (back-at (drop 128 b))) r le

  pub after-back : (r : ℕ) → Every (λ e. r < e.rank) (flat (drop (i + 1) bs)) → Every (λ e. r < e.rank) (flat (drop (i + 1 + 1) (halved bs i b)))
  after-back r a = subst (λ t. Every (λ e. r < e.rank) (flat t)) (sym drop-halved) a

  -- there is room in each
  pub front-short : length (get_or (halved bs i b) i []) < 256
  front-short = rw (front-at []) (omega (arith, length-front))

  pub back-short : length (get_or (halved bs i b) (i + 1) []) < 256
  back-short = rw (back-at []) (omega (arith, length-back))
