-- Bytes that wait at the front of a buffer into which the next ones are read.
use Rattle.std.proofs.Common.{◌≡◌, ℕ, ◌+◌, ◌-◌, ◌≤◌, List, ◌++◌, length, take, drop, sym, ap, ◌∙◌, append_assoc, arith}
use lib.Seq.{paste}
use Rattle.std.proofs.lemmas.List.{length-take, length-drop, drop-take, drop-drop, take-append-drop}
use Rattle.std.proofs.lemmas.List.Edits.{take-paste}
use Rattle.hx_replay.proofs.After.{line_after}

-- the last ones stay
pub last_ones : (xs seen : List ℕ) (at n k : ℕ) → seen ≡ take n (drop at xs) → at + n ≤ length xs → k ≤ n
    → take k (drop (at + (n - k)) xs) ≡ drop (length seen - k) seen
last_ones xs seen at n k is within fits =
    let j = n - k in
    let size : length seen - k ≡ j = omega (arith, ap length is, length-take n (drop at xs), length-drop at xs) in
    let whole : n ≡ j + k = omega (arith, fits) in
    sym (ap (λ i. drop i seen) size ∙ ap (λ (l : List ℕ). drop j l) is ∙ ap (λ i. drop j (take i (drop at xs))) whole ∙ drop-take j k (drop at xs) ∙ ap (λ (l : List ℕ). take k l) (drop-drop j at xs))

-- they are moved to the front
pub moved_to_front : (xs moved text seen : List ℕ) (at n : ℕ) → text ≡ moved → moved ≡ paste xs 0 (drop at xs) (at + n - at) → at + n ≤ length xs → take n (drop at xs) ≡ seen → take n text ≡ seen
moved_to_front xs moved text seen at n same is within seen_is =
    let left = at + n - at in
    let size : n ≡ left = omega arith in
    let copied : n ≡ 0 + left = omega arith in
    ap (λ (l : List ℕ). take n l) (same ∙ is) ∙ ap (λ i. take i (paste xs 0 (drop at xs) left)) copied
    ∙ take-paste xs 0 (drop at xs) left (omega arith) (omega (arith, within, length-drop at xs)) ∙ ap (λ i. take i (drop at xs)) (sym size) ∙ seen_is

-- m bytes are read after them
pub read_after : (size n m : ℕ) (text items buf others : List ℕ) → n ≤ length text → m ≤ length buf → n + m ≤ size
    → take (n + m) (take size ((take n text ++ (buf ++ others)) ++ drop (length (take n text ++ (buf ++ others))) items)) ≡ take n text ++ take m buf
read_after size n m text items buf others within read fits =
    let split : buf ++ others ≡ take m buf ++ (drop m buf ++ others) =
    ap (λ (l : List ℕ). l ++ others) (sym (take-append-drop m buf)) ∙ append_assoc (take m buf) (drop m buf) others in
    ap (λ (l : List ℕ). take (n + m) (take size ((take n text ++ l) ++ drop (length (take n text ++ l)) items))) split
    ∙ line_after (n + m) size n text items (take m buf) (drop m buf ++ others) within (omega (arith, read, length-take m buf)) fits
