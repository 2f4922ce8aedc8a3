-- Vectors of sixteen bytes, lane by lane.
use Rattle.std.proofs.Common.{◌≡◌, ℕ, zero, suc, ◌+◌, ◌*◌, ◌/◌, ◌^◌, ◌<◌, List, [], ◌∷◌, ◌++◌, map, length, take, drop, subst, slice_index, get_or, replicate, bit_and, refl, sym, ap, ◌∙◌, arith, w8, Fits, ◌%◌}
use Rattle.hex.specs.Hex.{encode_lower, encode_with, lower_digits}
use Rattle.std.proofs.lemmas.List.{get_or-map, length-map, ext_get_or, drop_all, append-nil}
use Rattle.std.proofs.Math.Seq.{take_at, drop_at}
use Rattle.std.proofs.lemmas.Nat.{and_le_r}
use Rattle.std.proofs.lemmas.Simd.{Each1-all, Each1-weaker, Each1-zip2, Each2-splat, below_from_Fits, length-zip2, swz_l, SwzOk, SwzOk-from_below, length-swz_l, get_or-swz_l_below}
use Rattle.std.specs.Simd.Lanes.{zip2, Each1}

-- sixteen bytes
abbrev pub IsVector : List ℕ → Type 0
IsVector v = (length v ≡ 16) × Each1 (Fits w8) v

abbrev pub down : ℕ → ℕ → ℕ
down a b = a / 2 ^ b

pub high_indices : (v : List ℕ) → IsVector v → SwzOk w8 16 16 0 (zip2 down v (replicate 16 4))
high_indices v fits =
    let small = Each1-weaker (λ a. a < 256) (λ a. a / 16 < 16) (λ a h. omega arith) v (below_from_Fits w8 v fits.1) in
    SwzOk-from_below w8 16 1 16 0 (zip2 down v (replicate 16 4)) refl (omega (arith, length-zip2 down v (replicate 16 4) fits.0))
    (Each1-zip2 down (λ j. j < 16) v (replicate 16 4) (Each2-splat (λ a b. down a b < 16) v 16 4 small))

pub low_indices : (v : List ℕ) → IsVector v → SwzOk w8 16 16 0 (zip2 bit_and v (replicate 16 15))
low_indices v fits =
    let small = Each1-all (λ a. bit_and a 15 < 16) (λ a. omega (arith, and_le_r a 15)) v in
    SwzOk-from_below w8 16 1 16 0 (zip2 bit_and v (replicate 16 15)) refl (omega (arith, length-zip2 bit_and v (replicate 16 15) fits.0))
    (Each1-zip2 bit_and (λ j. j < 16) v (replicate 16 15) (Each2-splat (λ a b. bit_and a b < 16) v 16 15 small))

lane_fits : (v : List ℕ) (i : ℕ) → Each1 (Fits w8) v → get_or v i 0 < 256
lane_fits [] i h = omega arith
lane_fits (x ∷ xs) zero h = h.0.fits
lane_fits (x ∷ xs) (suc i) h = lane_fits xs i h.1

-- a table, read at indices below 16
pub looked_up : (t : List ℕ) (g : ℕ → ℕ) (v js : List ℕ) → IsVector v → js ≡ map g v → ((x : ℕ) → x < 256 → g x < 16) → swz_l w8 16 t 0 js ≡ map (λ x. get_or t (g x) 0) v
looked_up t g v js fits e small =
    let long : length js ≡ 16 = ap length e ∙ length-map v g ∙ fits.0 in
    ext_get_or 0 _ _ (length-swz_l w8 16 t 0 js ∙ long ∙ sym (length-map v (λ x. get_or t (g x) 0) ∙ fits.0)) (λ i h.
    let lt : i < 16 = omega (arith, length-swz_l w8 16 t 0 js) in
    let within : i < length v = omega (arith, fits.0) in
    let is : get_or js i 0 ≡ g (get_or v i 0) = ap (λ l. get_or l i 0) e ∙ get_or-map g v i 0 0 within in
    let below : get_or js i 0 < 16 = omega (arith, small (get_or v i 0) (lane_fits v i fits.1)) in
    let index : 16 * ((0 + i) / 16) + get_or js i 0 ≡ g (get_or v i 0) = omega (arith, is, lt) in
    get_or-swz_l_below w8 16 t 0 js i (omega arith) below ∙ ap (λ k. get_or t k 0) index ∙ sym (get_or-map (λ x. get_or t (g x) 0) v i 0 0 within))

-- the first lanes, one by one
abbrev pub firsts : ℕ → List ℕ → List ℕ
firsts zero v = []
firsts (suc n) v = get_or v 0 0 ∷ firsts n (drop 1 v)

pub all_lanes : (n : ℕ) (v : List ℕ) → length v ≡ n → v ≡ firsts n v
all_lanes zero [] e = refl
all_lanes zero (x ∷ xs) e = absurd (omega (arith, e))
all_lanes (suc n) [] e = absurd (omega (arith, e))
all_lanes (suc n) (x ∷ xs) e = ap (λ (l : List ℕ). x ∷ l) (all_lanes n xs (omega (arith, e)))

-- two vectors, one after the other, lane by lane in turn
abbrev pub in_turn : ℕ → ℕ → List ℕ → List ℕ
in_turn zero k l = []
in_turn (suc n) k l = get_or l k 0 ∷ get_or l (16 + k) 0 ∷ in_turn n (suc k) l

abbrev pub high : ℕ → ℕ
high b = slice_index lower_digits (b / 16)

abbrev pub low : ℕ → ℕ
low b = slice_index lower_digits (b % 16)

pub digits_in_turn : (v : List ℕ) → length v ≡ 16 → in_turn 16 0 (map high v ++ map low v) ≡ encode_lower v
unfolding encode_with
digits_in_turn v e = subst (λ (w : List ℕ). in_turn 16 0 (map high w ++ map low w) ≡ encode_lower w) (sym (all_lanes 16 v e)) refl

pub map_ext : {f g : ℕ → ℕ} (v : List ℕ) → ((x : ℕ) → f x ≡ g x) → map f v ≡ map g v
map_ext [] h = refl
map_ext {f} {g} (x ∷ xs) h = ap (λ (y : ℕ). y ∷ map f xs) (h x) ∙ ap (λ (l : List ℕ). g x ∷ l) (map_ext xs h)

-- two vectors that were written one after the other
pub both_written : (xs ys zs : List ℕ) → length xs ≡ 16 → length zs ≡ 16 → take 16 (xs ++ zs) ++ (ys ++ drop 16 (drop 16 (xs ++ zs))) ≡ xs ++ ys
both_written xs ys zs e f =
    ap (λ (l : List ℕ). l ++ (ys ++ drop 16 (drop 16 (xs ++ zs)))) (take_at xs zs 16 e)
    ∙ ap (λ (l : List ℕ). xs ++ (ys ++ drop 16 l)) (drop_at xs zs 16 e)
    ∙ ap (λ (l : List ℕ). xs ++ (ys ++ l)) (drop_all 16 zs (omega (arith, f))) ∙ ap (λ (l : List ℕ). xs ++ l) (append-nil ys)
