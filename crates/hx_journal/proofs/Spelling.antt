-- What the journal's own lines are spelled with.
use Rattle.std.proofs.Common.{◌<◌, ◌+◌, ◌^◌, ◌++◌, List, ℕ, zero, suc, [], ◌∷◌, length, take, get_or, sym, subst, arith}
use Rattle.std.proofs.lemmas.List.{take_more}
use Rattle.std.specs.Fmt.{decimal}
use Rattle.hx_units.specs.Cuts.{Lacks}
use Rattle.hx_units.proofs.Decimals.{lacks-decimal}
use Rattle.hx_journal.specs.Lines.{IsText, IsLine}
use Rattle.hx_journal.specs.Heads.{IsWord, head_of}
use Rattle.hx_journal.specs.Marks.{mark_of}

pub line-append : (a b : List ℕ) → IsLine a → IsLine b → IsLine (a ++ b)
line-append [] b f g = g
line-append (x ∷ a) b f g = (f.0, line-append a b f.1 g)

pub line_of_lacks : (bytes : List ℕ) → Lacks 0 bytes → Lacks 10 bytes → IsLine bytes
line_of_lacks [] none feed = tt
line_of_lacks (b ∷ bytes) none feed =
    ((none zero 0 (omega arith), feed zero 0 (omega arith)), line_of_lacks bytes (λ k d lt. none (suc k) d (omega arith)) (λ k d lt. feed (suc k) d (omega arith)))

line-decimal : (n : ℕ) → n < 2 ^ 64 → IsLine (decimal n)
line-decimal n lt = line_of_lacks (decimal n) (lacks-decimal 0 n (omega arith) lt) (lacks-decimal 10 n (omega arith) lt)

text : (b : ℕ) → 10 < b → IsText b
text b lt = (λ e. absurd (omega (arith, lt, e)), λ e. absurd (omega (arith, lt, e)))

pub line-mark : (first_number size previous sum : ℕ) → first_number < 2 ^ 64 → size < 2 ^ 64 → previous < 2 ^ 64 → sum < 2 ^ 64 → IsLine (mark_of first_number size previous sum)
line-mark first_number size previous sum lp ls lv lu =
    line-append (35 ∷ decimal first_number ++ 32 ∷ decimal size ++ 32 ∷ decimal previous) (32 ∷ decimal sum)
    (line-append (35 ∷ decimal first_number ++ 32 ∷ decimal size) (32 ∷ decimal previous)
    (line-append (35 ∷ decimal first_number) (32 ∷ decimal size) (text 35 (omega arith), line-decimal first_number lp) (text 32 (omega arith), line-decimal size ls))
    (text 32 (omega arith), line-decimal previous lv))
    (text 32 (omega arith), line-decimal sum lu)

line-word : (word : List ℕ) → IsWord word → IsLine word
line-word [] is = tt
line-word (b ∷ word) is = (text b (omega (arith, is.0.0)), line-word word is.1)

pub line-head : (session day setup : List ℕ) → IsWord session → IsWord day → IsWord setup → IsLine (head_of session day setup)
line-head session day setup ws wd wu =
    line-append (35 ∷ 104 ∷ 120 ∷ 49 ∷ 32 ∷ session ++ 32 ∷ day) (32 ∷ setup)
    (line-append (35 ∷ 104 ∷ 120 ∷ 49 ∷ 32 ∷ session) (32 ∷ day)
    (text 35 (omega arith), (text 104 (omega arith), (text 120 (omega arith), (text 49 (omega arith), (text 32 (omega arith), line-word session ws)))))
    (text 32 (omega arith), line-word day wd))
    (text 32 (omega arith), line-word setup wu)

word_push : (word : List ℕ) (b : ℕ) → IsWord word → 32 < b → b < 127 → IsWord (word ++ b ∷ [])
word_push [] b is low high = ((low, high), tt)
word_push (x ∷ word) b is low high = (is.0, word_push word b is.1 low high)

-- a word goes on
pub word_more : (word : List ℕ) (i d : ℕ) → i < length word → IsWord (take i word) → 32 < get_or word i d → get_or word i d < 127 → IsWord (take (i + 1) word)
word_more word i d lt so_far low high =
    subst IsWord (sym (take_more word i d lt)) (word_push (take i word) (get_or word i d) so_far low high)

-- each byte of a word is printed
pub word_at : (word : List ℕ) (i b : ℕ) → i < length word → IsWord word → (32 < get_or word i b) × (get_or word i b < 127)
word_at [] i b lt w = absurd (omega arith)
word_at (x ∷ word) zero b lt w = w.0
word_at (x ∷ word) (suc i) b lt w = word_at word i b (omega arith) w.1
