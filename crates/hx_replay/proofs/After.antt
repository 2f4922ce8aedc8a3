-- A line after a text.
use Rattle.std.proofs.Common.{◌≡◌, ℕ, ◌+◌, ◌≤◌, List, ◌++◌, length, take, drop, sym, ap, ◌∙◌, append_assoc, arith}
use Rattle.std.proofs.lemmas.List.{take-take, length-take, length-append}
use Rattle.std.proofs.Math.Seq.{take-append_seam}

take_whole : (n : ℕ) (xs ys : List ℕ) → n ≡ length xs → take n (xs ++ ys) ≡ xs
take_whole n xs ys is = ap (λ (k : ℕ). take k (xs ++ ys)) is ∙ take-append_seam xs ys

pub line_after : (end size start : ℕ) (text items line after : List ℕ) → start ≤ length text → end ≡ start + length line → end ≤ size
    → take end (take size ((take start text ++ (line ++ after)) ++ drop (length (take start text ++ (line ++ after))) items)) ≡ take start text ++ line
line_after end size start text items line after within ends fits =
    let others = drop (length (take start text ++ (line ++ after))) items in
    let front : end ≡ length (take start text ++ line) = omega (arith, length-append (take start text) line, length-take start text) in
    take-take end size _ fits
    ∙ ap (λ (l : List ℕ). take end (l ++ others)) (sym (append_assoc (take start text) line after))
    ∙ ap (λ (l : List ℕ). take end l) (append_assoc (take start text ++ line) after others)
    ∙ take_whole end (take start text ++ line) (after ++ others) front
