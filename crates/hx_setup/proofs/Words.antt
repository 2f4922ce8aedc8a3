-- The words of a line: text that is cut at a byte, names that are filled with spaces, numbers and hexadecimal digits.
use Rattle.std.proofs.Common.{◌≡◌, ℕ, ◌-◌, ◌<◌, ◌≤◌, ◌^◌, ◌==◌, ◌&&◌, zero, suc, Bool, true, false, not, cond, nat_lt, List, [], ◌∷◌, ◌++◌, length, Option, Some, None, Result, Ok, Err, refl, sym, ap, ◌∙◌, inl, inr, arith, lt-ltb, replicate, ◌*◌}
use Rattle.std.specs.Prelude.{◌≢◌, IsSome, IfSome, IfNone, MatchOption, bytes_eq}
use Rattle.std.specs.List.{All, list_all}
use Rattle.std.specs.Fmt.{decimal}
use Rattle.std.proofs.lemmas.Bool.{true≢false, cases_Bool}
use Rattle.std.proofs.lemmas.Bool.Decides.{Decides-eqb}
use Rattle.std.proofs.lemmas.Slice.Eq.{bytes_eq-Decides}
use Rattle.std.specs.Result.{OkIff, result_ok}
use Rattle.std.proofs.lemmas.Fmt.{decimal_injective}
use Rattle.std.proofs.lemmas.List.Elements.{All-nil, All-cons, All-weaker}
use Rattle.hex.specs.Hex.{encode_lower, lower_digits, decode_of, decode_sized, is_hex_digit, IsBytes}
use Rattle.hex.proofs.HexLemmas.{decode_of-encode_lower, decode_of-ok, decode_sized-twice, decode_sized-ok, length-encode_with}
use Rattle.hx_units.specs.Spaces.{without_back}
use Rattle.hx_setup.specs.Setups.{is_filled}
use Rattle.std.proofs.lemmas.Bool.{and_parts, and_from}

-- ---- bytes that do not stand in a word

-- what passes a test that the byte fails
pub lacks : (test : ℕ → Bool) (b : ℕ) → test b ≡ false → (xs : List ℕ) → list_all test xs ≡ true → All (λ x. x ≢ b) xs
lacks test b fails [] h = All-nil (λ x. x ≢ b)
lacks test b fails (x ∷ xs) h =
    let parts = and_parts (test x) (list_all test xs) h in
    All-cons (λ n. n ≢ b) x xs (λ e. true≢false (sym parts.0 ∙ ap test e ∙ fails)) (lacks test b fails xs parts.1)

-- hexadecimal digits
pub lacks-hex : (b : ℕ) (bytes : List ℕ) → is_hex_digit b ≡ false → IsBytes bytes → All (λ x. x ≢ b) (encode_lower bytes)
lacks-hex b bytes fails are =
    All-weaker (λ x. is_hex_digit x ≡ true) (λ x. x ≢ b) (λ x h e. true≢false (sym h ∙ ap is_hex_digit e ∙ fails))
    (encode_lower bytes) (decode_of-ok (encode_lower bytes) bytes (decode_of-encode_lower bytes are)).1

pub hex-same : (a b : List ℕ) → IsBytes a → IsBytes b → encode_lower a ≡ encode_lower b → a ≡ b
hex-same a b p q e =
    let decoded : Ok a ≡ Ok b = sym (decode_of-encode_lower a p) ∙ ap decode_of e ∙ decode_of-encode_lower b q in
    cc

-- ---- names that are filled with spaces

without_back-spaces : (k : ℕ) → without_back (replicate k 32) ≡ []
without_back-spaces zero = refl
without_back-spaces (suc k) = ap (λ l. cond (bytes_eq l []) [] (32 ∷ l)) (without_back-spaces k)

without_back-filled : (test : ℕ → Bool) → test 32 ≡ false → (text : List ℕ) (k : ℕ) → list_all test text ≡ true → without_back (text ++ replicate k 32) ≡ text
without_back-filled test fails [] k h = without_back-spaces k
without_back-filled test fails (b ∷ text) k h =
    let parts = and_parts (test b) (list_all test text) h in
    let rest = without_back-filled test fails text k parts.1 in
    let other : (b == 32) ≡ false =
    elim (cases_Bool (b == 32)) [
      | inl e ↦ absurd (true≢false (sym parts.0 ∙ ap test ((Decides-eqb b 32).0 e) ∙ fails))
      | inr n ↦ n
    ] in
    ap (λ t. cond (t && bytes_eq (without_back (text ++ replicate k 32)) []) [] (b ∷ without_back (text ++ replicate k 32))) other
    ∙ ap (λ l. b ∷ l) rest

length-without_back : (bytes : List ℕ) → length (without_back bytes) ≤ length bytes
length-without_back [] = omega arith
length-without_back (b ∷ bytes) =
    at ((b == 32) && bytes_eq (without_back bytes) []) (length-without_back bytes)
  where
    at : (t : Bool) → length (without_back bytes) ≤ length bytes → length (cond t [] (b ∷ without_back bytes)) ≤ length (b ∷ bytes)
    at true h = omega arith
    at false h = omega (arith, h)

not_empty : (text : List ℕ) → false ≡ (length text == 0) → nat_lt 0 (length text) ≡ true
not_empty [] h = absurd (true≢false (sym h))
not_empty (b ∷ text) h = lt-ltb 0 (length (b ∷ text)) (omega arith)

-- what a text gives, filled to n bytes
abbrev pub Fills : ℕ → List ℕ → Option (List ℕ) → Type 0
Fills n text r = MatchOption r (n < length text) (λ bytes. (length bytes ≡ n) × (bytes ≡ text ++ replicate (n - length text) 32))

pub filled-some : (test : ℕ → Bool) → test 32 ≡ false → (r : Option (List ℕ)) (text : List ℕ) (n : ℕ) → Fills n text r → false ≡ (length text == 0) → true ≡ list_all test text
    → IfSome r (λ bytes. (length bytes ≡ n) × (is_filled test bytes ≡ true) × (text ≡ without_back bytes))
filled-some test fails None text n h some all = tt
filled-some test fails (Some bytes) text n h some all =
    let same : without_back bytes ≡ text = ap without_back h.1 ∙ without_back-filled test fails text (n - length text) (sym all) in
    (h.0, ap (λ l. nat_lt 0 (length l) && list_all test l) same ∙ and_from (nat_lt 0 (length text)) (list_all test text) (not_empty text some) (sym all), sym same)

-- no longer text is a filled one without its spaces
pub filled-none : (test : ℕ → Bool) (r : Option (List ℕ)) (text : List ℕ) (n : ℕ) → Fills n text r → IfNone r ((bytes : List ℕ) → length bytes ≡ n → is_filled test bytes ≡ true → text ≢ without_back bytes)
filled-none test None text n h = λ bytes long is e. let short = length-without_back bytes in let same = ap length e in absurd (omega (arith, h, long, short, same))
filled-none test (Some bytes) text n h = tt

-- ---- a tail

pub decodes : (text bytes : List ℕ) → length bytes ≡ 20 → IsBytes bytes → text ≡ encode_lower bytes → decode_sized text 20 ≡ Ok bytes
decodes text bytes long are e =
    let size : length text ≡ 2 * 20 = ap length e ∙ length-encode_with lower_digits bytes ∙ ap (λ (n : ℕ). 2 * n) long in
    decode_sized-twice text 20 size ∙ ap decode_of e ∙ decode_of-encode_lower bytes are

pub decoded : (text bytes : List ℕ) → decode_sized text 20 ≡ Ok bytes → (length bytes ≡ 20) × IsBytes bytes
decoded text bytes e =
    let size = decode_sized-ok text 20 bytes e in
    let parts = decode_of-ok text bytes (sym (decode_sized-twice text 20 size) ∙ e) in
    (omega (arith, size, parts.2), parts.3)

pub ok_was : {T E : Type 0} (r : Result T E) (x : T) → Some x ≡ result_ok r → r ≡ Ok x
ok_was (Ok y) x e = let same : x ≡ y = cc in ap Ok (sym same)
ok_was (Err y) x e = absurd cc

-- ---- what `ok` of a result is

pub ok_gone : {T E : Type 0} (r : Result T E) (x : T) (o : Option T) → r ≡ Ok x → o ≡ result_ok r → o ≡ None → ⊥
ok_gone r x o e is none = absurd (let some : Some x ≡ None = sym (is ∙ ap result_ok e) ∙ none in cc)

pub ok_retained : {T E : Type 0} (r : Result T E) (x y : T) (o : Option T) → r ≡ Ok x → o ≡ result_ok r → o ≡ Some y → x ≡ y
ok_retained r x y o e is some = let both : Some x ≡ Some y = sym (is ∙ ap result_ok e) ∙ some in cc

-- ---- numbers

pub decimal-same : (m n : ℕ) → m < 2 ^ 32 → n < 2 ^ 32 → decimal m ≡ decimal n → m ≡ n
decimal-same m n p q e = decimal_injective m n (omega (arith, p)) (omega (arith, q)) e

-- texts that differ are not the same
pub differ : (a b : List ℕ) → true ≡ not (bytes_eq a b) → a ≢ b
differ a b h e = true≢false (h ∙ ap not ((bytes_eq-Decides a b).1 e))

pub agree : (a b : List ℕ) → false ≡ not (bytes_eq a b) → a ≡ b
agree a b h = (bytes_eq-Decides a b).0 (same (bytes_eq a b) h)
  where
    same : (t : Bool) → false ≡ not t → t ≡ true
    same true e = refl
    same false e = e

-- ---- what conversions answer

pub small_is_ok : {T E : Type 0} (r : Result T E) (P : Type 0) (v : T) → OkIff r P v → None ≡ result_ok r → P → ⊥
small_is_ok (Ok x) P v h e p = absurd cc
small_is_ok (Err x) P v h e p = h p

pub small_is_same : {T E : Type 0} (r : Result T E) (P : Type 0) (v x : T) → OkIff r P v → Some x ≡ result_ok r → x ≡ v
small_is_same (Ok y) P v x h e = let same : x ≡ y = cc in same ∙ h.1
small_is_same (Err y) P v x h e = absurd cc

-- a number that fits into no 32 bits is no other number's text
pub too_large : {E : Type 0} (text : List ℕ) (m : ℕ) (r : Result ℕ E) (o : Option ℕ) → m < 10 ^ 14 → text ≡ decimal m → OkIff r (m < 2 ^ 32) m → o ≡ result_ok r
    → IfNone o ((n : ℕ) → n < 2 ^ 32 → text ≢ decimal n)
too_large text m r None small is h e = λ n lt same.
    let other : m ≡ n = decimal_injective m n (omega (arith, small)) (omega (arith, lt)) (sym is ∙ same) in
    small_is_ok r (m < 2 ^ 32) m h e (omega (arith, lt, other))
too_large text m r (Some x) small is h e = tt

pub unless : {A : Type 0} (r : Option A) (P Q : Type 0) → (P → IsSome r) → ((P → ⊥) → Q) → IfNone r Q
unless None P Q some rest = rest (λ p. true≢false (sym (some p)))
unless (Some x) P Q some rest = tt
