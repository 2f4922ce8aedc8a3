-- Entries in blocks: the position of a rank among them, and what a change of a block leaves.
use Rattle.std.proofs.Common.{◌≡◌, ℕ, suc, ◌+◌, ◌<◌, ◌≤◌, List, [], ◌∷◌, ◌++◌, length, get_or, set, take, drop, false, Some, None, refl, ap, sym, subst, ◌∙◌, arith, add-one, append_assoc, nat_le, ◌&&◌, Bool, true}
use Rattle.std.specs.List.{remove}
use Rattle.std.proofs.lemmas.List.{append-nil, take-append-drop, drop_more, take_more, set_split}
use Rattle.std.proofs.lemmas.List.Folds.{find-append}
use Rattle.std.proofs.lemmas.Bool.Decides.{nat_tests}
use Rattle.hx_ranked.specs.declared.entry.Entry.{Entry}
use Rattle.hx_ranked.specs.Ranked.{Every, IsRising, is_within, first_within_of, first_rank, smallest_least, most_shares, flat, IsFilled, AreBlocks}
use Rattle.hx_ranked.proofs.Lists.{every-append, every-left, every-right, every-weaker, rising-right, rising-before, find-none}

pub flat-append : (bs cs : List (List Entry)) → flat (bs ++ cs) ≡ flat bs ++ flat cs
flat-append [] cs = refl
flat-append (b ∷ bs) cs = ap (λ t. b ++ t) (flat-append bs cs) ∙ sym (append_assoc b (flat bs) (flat cs))

pub flat-take-drop : (i : ℕ) (bs : List (List Entry)) → flat bs ≡ flat (take i bs) ++ flat (drop i bs)
flat-take-drop i bs = ap flat (sym (take-append-drop i bs)) ∙ flat-append (take i bs) (drop i bs)

module _ {X : Type 0} (P : X → Type 0) where
  pub every-take : (i : ℕ) (xs : List X) → Every P xs → Every P (take i xs)
  every-take i xs a = every-left P (take i xs) (drop i xs) (subst (Every P) (sym (take-append-drop i xs)) a)

  pub every-drop : (i : ℕ) (xs : List X) → Every P xs → Every P (drop i xs)
  every-drop i xs a = every-right P (take i xs) (drop i xs) (subst (Every P) (sym (take-append-drop i xs)) a)

  pub every-read : (xs : List X) (i : ℕ) (x : X) → i < length xs → x ≡ get_or xs i x → Every P xs → P x
  every-read xs i x h e a =
      let rest = subst (Every P) (drop_more xs i x h) (every-drop i xs a) in
      subst P (sym e) rest.0

  pub every-set : (xs : List X) (i : ℕ) (x : X) → i < length xs → Every P xs → P x → Every P (set xs i x)
  every-set xs i x h a p = rw (set_split xs i x h) (every-append P (take i xs) (x ∷ drop (suc i) xs) (every-take i xs a) (p, every-drop (suc i) xs a))

  pub every-remove : (xs : List X) (i : ℕ) → Every P xs → Every P (remove xs i)
  every-remove xs i a = every-append P (take i xs) (drop (suc i) xs) (every-take i xs a) (every-drop (suc i) xs a)

module _ (bs : List (List Entry)) (i : ℕ) (b : List Entry) (within : i < length bs) (read : b ≡ get_or bs i b) where
  drop-here : drop i bs ≡ b ∷ drop (i + 1) bs
  drop-here = drop_more bs i b within ∙ ap (λ y. y ∷ drop (i + 1) bs) (sym read)

  take-here : take (i + 1) bs ≡ take i bs ++ b ∷ []
  take-here = take_more bs i b within ∙ ap (λ y. take i bs ++ y ∷ []) (sym read)

  pub flat-drop-here : flat (drop i bs) ≡ b ++ flat (drop (i + 1) bs)
  flat-drop-here = ap flat drop-here

  pub flat-take-here : flat (take (i + 1) bs) ≡ flat (take i bs) ++ b
  flat-take-here = ap flat take-here ∙ flat-append (take i bs) (b ∷ []) ∙ ap (λ t. flat (take i bs) ++ t) (append-nil b)

  -- all entries, around a block
  pub flat-around : flat bs ≡ flat (take i bs) ++ (b ++ flat (drop (i + 1) bs))
  flat-around = flat-take-drop i bs ∙ ap (λ t. flat (take i bs) ++ t) flat-drop-here

  -- a block that was changed
  pub flat-set : (c : List Entry) → flat (set bs i c) ≡ flat (take i bs) ++ (c ++ flat (drop (i + 1) bs))
  flat-set c = rw (set_split bs i c within, add-one) (flat-append (take i bs) (c ∷ drop (suc i) bs))

-- of a block whose first entry ranks at or before a rank, all entries before rank before it
before-first : (xs b ys : List Entry) (r : ℕ) → IsRising (xs ++ (b ++ ys)) → 0 < length b → first_rank b ≤ r → Every (λ e. e.rank < r) xs
before-first xs [] ys r rising some le = absurd (omega arith)
before-first xs (x ∷ b) ys r rising some le = every-weaker (λ e. e.rank < x.rank) (λ e. e.rank < r) (λ e h. omega arith) xs (rising-before xs x (b ++ ys) rising)

-- of a block whose first entry ranks after a rank, all entries from it on do
after-first : (b ys : List Entry) (r : ℕ) → IsRising (b ++ ys) → 0 < length b → r < first_rank b → Every (λ e. r < e.rank) (b ++ ys)
after-first [] ys r rising some less = absurd (omega arith)
after-first (x ∷ b) ys r rising some less = (less, every-weaker (λ e. x.rank < e.rank) (λ e. r < e.rank) (λ e h. omega arith) (b ++ ys) rising.0)

module _ (bs : List (List Entry)) (are : AreBlocks bs) (i : ℕ) (b : List Entry) (within : i < length bs) (read : b ≡ get_or bs i b) where
  pub filled-here : IsFilled b
  filled-here = every-read IsFilled bs i b within read are.filled

  pub rising-around : IsRising (flat (take i bs) ++ (b ++ flat (drop (i + 1) bs)))
  rising-around = subst IsRising (flat-around bs i b within read) are.rising

  pub rising-from : IsRising (b ++ flat (drop (i + 1) bs))
  rising-from = rising-right (flat (take i bs)) (b ++ flat (drop (i + 1) bs)) rising-around

  pub before-block : (r : ℕ) → first_rank b ≤ r → Every (λ e. e.rank < r) (flat (take i bs))
  before-block r le = before-first (flat (take i bs)) b (flat (drop (i + 1) bs)) r rising-around filled-here.0 le

  pub after-block : (r : ℕ) → r < first_rank b → Every (λ e. r < e.rank) (flat (drop i bs))
  after-block r less = rw (flat-drop-here bs i b within read) (after-first b (flat (drop (i + 1) bs)) r rising-from filled-here.0 less)

-- what ranks before `from` is not found
pub none-before : (from last left minimum : ℕ) (xs : List Entry) → Every (λ e. e.rank < from) xs → first_within_of from last left minimum xs ≡ None
none-before from last left minimum xs a =
    find-none (is_within from last left minimum) xs (every-weaker (λ e. e.rank < from) (λ e. is_within from last left minimum e ≡ false) (λ e h. grind (arith, nat_tests)) xs a)

-- nor what ranks after `last`
pub none-after : (from : ℕ) (last left minimum : ℕ) (xs : List Entry) → Every (λ e. last < e.rank) xs → first_within_of from last left minimum xs ≡ None
none-after from last left minimum xs a =
    find-none (is_within from last left minimum) xs (every-weaker (λ e. last < e.rank) (λ e. is_within from last left minimum e ≡ false) (λ e h. grind (arith, nat_tests)) xs a)

-- nor is what has a least execution above what is left
pub none-least : (from : ℕ) (last left minimum : ℕ) (xs : List Entry) → left < smallest_least xs → first_within_of from last left minimum xs ≡ None
none-least from last left minimum [] h = refl
none-least from last left minimum (x ∷ xs) h =
    let out : is_within from last left minimum x ≡ false = grind (arith, nat_tests) in
    rw out (none-least from last left minimum xs (omega arith))

-- nor what has fewer shares than the minimum
pub none-shares : (from : ℕ) (last left minimum : ℕ) (xs : List Entry) → most_shares xs < minimum → first_within_of from last left minimum xs ≡ None
none-shares from last left minimum [] h = refl
none-shares from last left minimum (x ∷ xs) h =
    let out : is_within from last left minimum x ≡ false = grind (arith, nat_tests) in
    rw out (none-shares from last left minimum xs (omega arith))

-- so a block whose summaries rule its entries out has none
pub none-qualifies : (from last left minimum : ℕ) (xs : List Entry) → (nat_le (smallest_least xs) left && nat_le minimum (most_shares xs)) ≡ false → first_within_of from last left minimum xs ≡ None
none-qualifies from last left minimum xs h =
    either (nat_le (smallest_least xs) left) refl h
  where
    either : (b : Bool) → nat_le (smallest_least xs) left ≡ b → (b && nat_le minimum (most_shares xs)) ≡ false → first_within_of from last left minimum xs ≡ None
    either false g k = none-least from last left minimum xs (grind (arith, nat_tests))
    either true g k = none-shares from last left minimum xs (grind (arith, nat_tests))

module _ (from : ℕ) (last left minimum : ℕ) (bs : List (List Entry)) (i : ℕ) (b : List Entry) (within : i < length bs) (read : b ≡ get_or bs i b) (none : first_within_of from last left minimum (flat (take i bs)) ≡ None) where
  -- it is the block's, if the block has one
  pub found-here : (e : Entry) → first_within_of from last left minimum b ≡ Some e → first_within_of from last left minimum (flat bs) ≡ Some e
  found-here e is =
      ap (first_within_of from last left minimum) (flat-around bs i b within read) ∙ find-append (is_within from last left minimum) (flat (take i bs)) (b ++ flat (drop (i + 1) bs))
      ∙ (rw none (find-append (is_within from last left minimum) b (flat (drop (i + 1) bs)) ∙ (rw is refl)))

  -- and after the block, if it has none
  pub none-more : first_within_of from last left minimum b ≡ None → first_within_of from last left minimum (flat (take (i + 1) bs)) ≡ None
  none-more is =
      ap (first_within_of from last left minimum) (flat-take-here bs i b within read) ∙ find-append (is_within from last left minimum) (flat (take i bs)) b ∙ (rw (none, is) refl)

-- there is none if the rest ranks after `last`
pub none-rest : (from : ℕ) (last left minimum : ℕ) (bs : List (List Entry)) (i : ℕ) → first_within_of from last left minimum (flat (take i bs)) ≡ None → Every (λ e. last < e.rank) (flat (drop i bs)) → first_within_of from last left minimum (flat bs) ≡ None
none-rest from last left minimum bs i none a =
    ap (first_within_of from last left minimum) (flat-take-drop i bs) ∙ find-append (is_within from last left minimum) (flat (take i bs)) (flat (drop i bs)) ∙ (rw (none, none-after from last left minimum (flat (drop i bs)) a) refl)

-- blocks around the one that was read
pub split-blocks : (bs : List (List Entry)) (i : ℕ) (b : List Entry) → i < length bs → b ≡ get_or bs i b → bs ≡ take i bs ++ b ∷ drop (i + 1) bs
split-blocks bs i b within read =
    sym (take-append-drop i bs) ∙ ap (λ t. take i bs ++ t) (drop_more bs i b within ∙ ap (λ y. y ∷ drop (i + 1) bs) (sym read))
