-- A line that is spelled as one is read as what it says.
use Rattle.std.proofs.Common.{◌≡◌, ℕ, suc, ◌^◌, ◌<◌, ◌/◌, ◌%◌, List, [], ◌∷◌, ◌++◌, get_or, Some, true, false, refl, ap, arith}
use Rattle.std.specs.Prelude.{slice_index, bytes_eq, if◌then◌else◌}
use Rattle.std.specs.List.{list_all}
use Rattle.std.specs.Fmt.{decimal}
use Rattle.std.proofs.lemmas.Bool.{lt-ltb, true_from_ne_false, false_from_ne_true, true≢false}
use Rattle.std.proofs.lemmas.List.Folds.{list_all_at}
use Rattle.std.proofs.lemmas.Fmt.{decimal_is_IsNumeral, decimal_nonempty}
use Rattle.std.proofs.lemmas.Str.Parse.{digit_at}
use Rattle.hex.specs.Hex.{encode_lower, encode_with, lower_digits, IsBytes}
use Rattle.hex.proofs.HexLemmas.{length-encode_with, decode_of-encode_lower}
use Rattle.hx_units.proofs.Decimals.{lacks-decimal}
use Rattle.hx_show.specs.declared.choice.Choice.{Choice}
use Rattle.hx_show.specs.declared.line.Head.{Head}
use Rattle.hx_show.specs.declared.line.Head.TheVariants as head
use Rattle.hx_show.specs.Lines.{cut, number_of, is_digit, bytes_of, line_of, is_chosen, line_words, shown_line}
use Rattle.hx_show.specs.Spelling.{IsHead, IsMessage, spelling}
use Rattle.hx_show.proofs.Cuts.{cut_at, number_some, bytes_some, same_bytes}

-- ---- the digits of a message

-- each digit that is written is one
lower_digit : (d : ℕ) → d < 16 → is_digit (slice_index lower_digits d) ≡ true
lower_digit d lt = true_from_ne_false _ (λ e.
    let none : list_all is_digit lower_digits ≡ false = list_all_at is_digit lower_digits d 0 lt e in
    true≢false none)

are_digits : (bytes : List ℕ) → IsBytes bytes → list_all is_digit (encode_lower bytes) ≡ true
unfolding encode_with
are_digits [] fits = refl
are_digits (b ∷ bytes) fits =
    let small : b < 256 = fits 0 in
    rw (lower_digit (b / 16) (omega arith), lower_digit (b % 16) (omega arith)) (are_digits bytes (λ i. fits (suc i)))

message_read : (bytes : List ℕ) → IsMessage bytes → bytes_of (encode_lower bytes) ≡ Some bytes
message_read bytes h =
    let size = length-encode_with lower_digits bytes in
    bytes_some (encode_lower bytes) bytes (omega (arith, size, h.some)) (omega (arith, size, h.few)) (are_digits bytes h.are_bytes) (decode_of-encode_lower bytes h.are_bytes)

-- ---- the words of a line

number_cut : (n : ℕ) (rest : List ℕ) → n < 10 ^ 14 → cut 32 (decimal n ++ 32 ∷ rest) ≡ Some (decimal n, rest)
number_cut n rest lt = cut_at 32 (decimal n) rest (lacks-decimal 32 n (omega arith) (omega arith))

number_read : (n : ℕ) → n < 10 ^ 14 → number_of (decimal n) ≡ Some n
number_read n lt = number_some (decimal n) n lt refl

-- a number is no word of a letter
no_letter : (c n : ℕ) → 57 < c → n < 10 ^ 14 → bytes_eq (decimal n) (c ∷ []) ≡ false
no_letter c n high lt = false_from_ne_true _ (λ h.
    let numeral = decimal_is_IsNumeral n (omega arith) in
    let same = same_bytes (decimal n) (c ∷ []) h in
    let range = digit_at (decimal n) 0 numeral.0.1 (decimal_nonempty n (omega arith)) in
    let first : get_or (decimal n) 0 0 ≡ c = ap (λ (xs : List ℕ). get_or xs 0 0) same in
    omega (arith, range, first, high))

pub line_read : (h : Head) (bytes : List ℕ) → IsHead h → line_of (spelling h bytes) ≡ Some (record { head = h; digits = encode_lower bytes })
line_read (head.Sent t m) bytes fits =
    let digits = encode_lower bytes in
    rw (
      number_cut t (decimal m ++ 32 ∷ digits) fits.0,
      number_cut m digits (omega (arith, fits.1)),
      no_letter 70 t (omega arith) fits.0,
      no_letter 77 t (omega arith) fits.0,
      number_read t fits.0,
      number_read m (omega (arith, fits.1)),
      lt-ltb m (10 ^ 4) fits.1,
    ) refl
line_read (head.OfFeed n) bytes fits = rw (number_cut n (encode_lower bytes) fits, number_read n fits) refl
line_read (head.ToMember m n) bytes fits =
    rw (number_cut m (decimal n ++ 32 ∷ encode_lower bytes) fits.0, number_cut n (encode_lower bytes) fits.1, number_read m fits.0, number_read n fits.1) refl

-- such a line is shown as what it says
pub shown_as_said : (choice : Choice) (h : Head) (bytes : List ℕ) → IsHead h → IsMessage bytes → shown_line choice (spelling h bytes) ≡ (if is_chosen choice h then line_words h bytes ++ 10 ∷ [] else [])
shown_as_said choice h bytes fits message = rw (line_read h bytes fits, message_read bytes message) refl
