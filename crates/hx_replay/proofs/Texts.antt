-- The lines of an output text, by how they begin.
use Rattle.std.proofs.Common.{◌≡◌, ℕ, zero, suc, ◌+◌, ◌<◌, ◌≤◌, eqb, Bool, true, false, cond, not, List, [], ◌∷◌, ◌++◌, map, length, refl, sym, ap, ◌∙◌, subst, arith, slice_index, append_assoc, eq-eqb, eqb-true}
use Rattle.std.specs.Prelude.{◌/◌, ◌%◌, codes, ◌==◌, nat_lt}
use Rattle.std.specs.List.{concat, filter}
use Rattle.std.specs.Fmt.{decimal, digits, digits_onto, digit_glyph}
use Rattle.std.proofs.lemmas.Fmt.{decimal_injective, length-decimal-le}
use Rattle.std.proofs.lemmas.Bool.{and_parts, and_from}
use Rattle.hex.specs.Hex.{encode_lower, encode_with, lower_digits}
use Rattle.hx_units.proofs.Booleans.{same_bools}
use Rattle.hx_itch.specs.Message.{feed_bytes}
use Rattle.hx_ouch.specs.declared.outbound.Outbound.{Outbound}
use Rattle.hx_ouch.specs.Outbound.{outbound_bytes}
use Rattle.hx_replay.specs.Grep.{lines_in, begins_with, lines_with, of_feed, of_member, lines_except, lines_of_feed}
use Rattle.hx_replay.specs.Seen.{Numbered}
use Rattle.hx_replay.specs.Seen.Numbered.{OfFeed, OfMember}
use Rattle.hx_replay.specs.Seen.{text_of, texts_of, not_to, is_to}
use Rattle.hx_replay.specs.Quiet.{is_of_feed, feed_among}

-- ---- texts without a byte

abbrev Without : ℕ → List ℕ → Type 0
Without b [] = Unit {0}
Without b (x ∷ xs) = (eqb x b ≡ false) × Without b xs

without-append : (b : ℕ) (xs ys : List ℕ) → Without b xs → Without b ys → Without b (xs ++ ys)
without-append b [] ys h k = k
without-append b (x ∷ xs) ys h k = (h.0, without-append b xs ys h.1 k)

-- a byte below the digits is no digit's glyph
glyph_above : (b n : ℕ) → b < 48 → eqb (digit_glyph false (n % 10)) b ≡ false
glyph_above b n low = at (nat_lt (n % 10) 10)
  where
    at : (c : Bool) → eqb (cond c (48 + n % 10) (87 + n % 10)) b ≡ false
    at true = grind (arith, low)
    at false = grind (arith, low)

digits_without : (b : ℕ) → b < 48 → (k n : ℕ) (acc : List ℕ) → Without b acc → Without b (digits_onto k 10 false n acc)
digits_without b low zero n acc h = h
digits_without b low (suc k) n acc h = at (n / 10 == 0) (digits_without b low k (n / 10) (digit_glyph false (n % 10) ∷ acc) (glyph_above b n low, h))
  where
    at : (c : Bool) → Without b (digits_onto k 10 false (n / 10) (digit_glyph false (n % 10) ∷ acc))
        → Without b (cond c (digit_glyph false (n % 10) ∷ acc) (digits_onto k 10 false (n / 10) (digit_glyph false (n % 10) ∷ acc)))
    at true more = (glyph_above b n low, h)
    at false more = more

decimal_without : (b n : ℕ) → b < 48 → Without b (decimal n)
unfolding digits
decimal_without b n low = digits_without b low 64 n [] tt

-- no digit of a byte, nor what stands for one that is none, is a line feed
no_feed_digit : (k : ℕ) → eqb (slice_index lower_digits k) 10 ≡ false
no_feed_digit zero = refl
no_feed_digit (suc zero) = refl
no_feed_digit (suc (suc zero)) = refl
no_feed_digit (suc (suc (suc zero))) = refl
no_feed_digit (suc (suc (suc (suc zero)))) = refl
no_feed_digit (suc (suc (suc (suc (suc zero))))) = refl
no_feed_digit (suc (suc (suc (suc (suc (suc zero)))))) = refl
no_feed_digit (suc (suc (suc (suc (suc (suc (suc zero))))))) = refl
no_feed_digit (suc (suc (suc (suc (suc (suc (suc (suc zero)))))))) = refl
no_feed_digit (suc (suc (suc (suc (suc (suc (suc (suc (suc zero))))))))) = refl
no_feed_digit (suc (suc (suc (suc (suc (suc (suc (suc (suc (suc zero)))))))))) = refl
no_feed_digit (suc (suc (suc (suc (suc (suc (suc (suc (suc (suc (suc zero))))))))))) = refl
no_feed_digit (suc (suc (suc (suc (suc (suc (suc (suc (suc (suc (suc (suc zero)))))))))))) = refl
no_feed_digit (suc (suc (suc (suc (suc (suc (suc (suc (suc (suc (suc (suc (suc zero))))))))))))) = refl
no_feed_digit (suc (suc (suc (suc (suc (suc (suc (suc (suc (suc (suc (suc (suc (suc zero)))))))))))))) = refl
no_feed_digit (suc (suc (suc (suc (suc (suc (suc (suc (suc (suc (suc (suc (suc (suc (suc zero))))))))))))))) = refl
no_feed_digit (suc (suc (suc (suc (suc (suc (suc (suc (suc (suc (suc (suc (suc (suc (suc (suc k)))))))))))))))) = refl

hex_without : (bytes : List ℕ) → Without 10 (encode_lower bytes)
unfolding encode_with
hex_without [] = tt
hex_without (b ∷ bytes) = (no_feed_digit (b / 16), (no_feed_digit (b % 16), hex_without bytes))

-- ---- the lines of a text

line_first : (a rest : List ℕ) → Without 10 a → lines_in (a ++ 10 ∷ rest) ≡ (a ++ 10 ∷ []) ∷ lines_in rest
line_first [] rest h = refl
line_first (x ∷ a) rest h = rw (h.0, line_first a rest h.1) refl

-- a numbered line, without its line feed
abbrev front_of : Numbered → List ℕ
front_of (OfFeed number message) = codes "F " ++ (decimal number ++ (32 ∷ encode_lower (feed_bytes message)))
front_of (OfMember member number reply) = codes "M " ++ (decimal member ++ (32 ∷ (decimal number ++ (32 ∷ encode_lower (outbound_bytes reply)))))

front_without : (line : Numbered) → Without 10 (front_of line)
front_without (OfFeed number message) =
    (refl, (refl, without-append 10 (decimal number) (32 ∷ encode_lower (feed_bytes message)) (decimal_without 10 number (omega arith)) (refl, hex_without (feed_bytes message))))
front_without (OfMember member number reply) = (
  refl,
  (
    refl,
    without-append 10 (decimal member) (32 ∷ (decimal number ++ (32 ∷ encode_lower (outbound_bytes reply)))) (decimal_without 10 member (omega arith))
        (refl, without-append 10 (decimal number) (32 ∷ encode_lower (outbound_bytes reply)) (decimal_without 10 number (omega arith)) (refl, hex_without (outbound_bytes reply))),
  ),
)

text_is_front : (line : Numbered) → text_of line ≡ front_of line ++ 10 ∷ []
text_is_front (OfFeed number message) = ap (λ (x : List ℕ). codes "F " ++ x) (sym (append_assoc (decimal number) (32 ∷ encode_lower (feed_bytes message)) (10 ∷ [])))
text_is_front (OfMember member number reply) =
    ap (λ (x : List ℕ). codes "M " ++ x)
    (ap (λ (x : List ℕ). decimal member ++ (32 ∷ x)) (sym (append_assoc (decimal number) (32 ∷ encode_lower (outbound_bytes reply)) (10 ∷ [])))
    ∙ sym (append_assoc (decimal member) (32 ∷ (decimal number ++ (32 ∷ encode_lower (outbound_bytes reply)))) (10 ∷ [])))

lines_are : (lines : List Numbered) → lines_in (texts_of lines) ≡ map text_of lines
lines_are [] = refl
lines_are (line ∷ lines) =
    ap lines_in (ap (λ (x : List ℕ). x ++ texts_of lines) (text_is_front line) ∙ append_assoc (front_of line) (10 ∷ []) (texts_of lines))
    ∙ line_first (front_of line) (texts_of lines) (front_without line)
    ∙ ap (λ (x : List ℕ). x ∷ lines_in (texts_of lines)) (sym (text_is_front line))
    ∙ ap (λ (x : List (List ℕ)). text_of line ∷ x) (lines_are lines)

-- the texts of the lines that pass a test, which is one of their texts
chosen_texts : (p : List ℕ → Bool) (q : Numbered → Bool) → ((line : Numbered) → p (text_of line) ≡ q line) → (lines : List Numbered) → concat (filter p (map text_of lines)) ≡ texts_of (filter q lines)
chosen_texts p q same [] = refl
chosen_texts p q same (line ∷ lines) = rw (same line) (at (q line) (chosen_texts p q same lines))
  where
    at : (b : Bool) → concat (filter p (map text_of lines)) ≡ texts_of (filter q lines)
        → concat (cond b (text_of line ∷ filter p (map text_of lines)) (filter p (map text_of lines))) ≡ texts_of (cond b (line ∷ filter q lines) (filter q lines))
    at true h = ap (λ (x : List ℕ). text_of line ++ x) h
    at false h = h

-- ---- how lines begin

begins_same : (ds es rest : List ℕ) → Without 32 ds → Without 32 es → begins_with (ds ++ 32 ∷ []) (es ++ 32 ∷ rest) ≡ true → es ≡ ds
begins_same [] [] rest h k e = refl
begins_same [] (y ∷ es) rest h k e = absurd (grind (arith, k.0, (and_parts (32 == y) true e).0))
begins_same (x ∷ ds) [] rest h k e = absurd (grind (arith, h.0, (and_parts (x == 32) (begins_with (ds ++ 32 ∷ []) rest) e).0))
begins_same (x ∷ ds) (y ∷ es) rest h k e =
    let parts = and_parts (x == y) (begins_with (ds ++ 32 ∷ []) (es ++ 32 ∷ rest)) e in
    ap (λ (z : ℕ). z ∷ es) (sym (eqb-true x y parts.0)) ∙ ap (λ (l : List ℕ). x ∷ l) (begins_same ds es rest h.1 k.1 parts.1)

begins_itself : (ds rest : List ℕ) → begins_with (ds ++ 32 ∷ []) (ds ++ 32 ∷ rest) ≡ true
begins_itself [] rest = refl
begins_itself (x ∷ ds) rest = and_from (x == x) (begins_with (ds ++ 32 ∷ []) (ds ++ 32 ∷ rest)) (eq-eqb x x refl) (begins_itself ds rest)

-- digits only grow
longer : (k n : ℕ) (acc : List ℕ) → length acc ≤ length (digits_onto k 10 false n acc)
longer zero n acc = omega arith
longer (suc k) n acc = at (n / 10 == 0) (longer k (n / 10) (digit_glyph false (n % 10) ∷ acc))
  where
    at : (c : Bool) → suc (length acc) ≤ length (digits_onto k 10 false (n / 10) (digit_glyph false (n % 10) ∷ acc))
        → length acc ≤ length (cond c (digit_glyph false (n % 10) ∷ acc) (digits_onto k 10 false (n / 10) (digit_glyph false (n % 10) ∷ acc)))
    at true more = omega arith
    at false more = omega (arith, more)

-- one digit more, if ten or more are left
one_more : (k n : ℕ) (acc : List ℕ) → 10 ≤ n → digits_onto (suc k) 10 false n acc ≡ digits_onto k 10 false (n / 10) (digit_glyph false (n % 10) ∷ acc)
one_more k n acc h = rw (none n h) refl
  where
    none : (n : ℕ) → 10 ≤ n → (n / 10 == 0) ≡ false
    none n h = grind (arith, h)

-- a number of five digits or more has five digits or more
five : (n : ℕ) → 10000 ≤ n → 5 ≤ length (decimal n)
unfolding digits
five n h =
    rw (
      one_more 63 n [] (omega arith),
      one_more 62 (n / 10) (digit_glyph false (n % 10) ∷ []) (omega arith),
      one_more 61 (n / 10 / 10) (digit_glyph false (n / 10 % 10) ∷ digit_glyph false (n % 10) ∷ []) (omega arith),
      one_more 60 (n / 10 / 10 / 10) (digit_glyph false (n / 10 / 10 % 10) ∷ digit_glyph false (n / 10 % 10) ∷ digit_glyph false (n % 10) ∷ []) (omega arith),
    )
    (at (n / 10 / 10 / 10 / 10) (digit_glyph false (n / 10 / 10 / 10 % 10) ∷ digit_glyph false (n / 10 / 10 % 10) ∷ digit_glyph false (n / 10 % 10) ∷ digit_glyph false (n % 10) ∷ []) refl)
  where
    at : (n : ℕ) (acc : List ℕ) → length acc ≡ 4 → 5 ≤ length (digits_onto 60 10 false n acc)
    at n acc h = choose (n / 10 == 0) (longer 59 (n / 10) (digit_glyph false (n % 10) ∷ acc))
      where
        choose : (c : Bool) → suc (length acc) ≤ length (digits_onto 59 10 false (n / 10) (digit_glyph false (n % 10) ∷ acc))
            → 5 ≤ length (cond c (digit_glyph false (n % 10) ∷ acc) (digits_onto 59 10 false (n / 10) (digit_glyph false (n % 10) ∷ acc)))
        choose true more = omega (arith, h)
        choose false more = omega (arith, h, more)

-- no other number is written as a member's
same_member : (k m : ℕ) → m < 4096 → decimal k ≡ decimal m → k ≡ m
same_member k m low e = at (nat_lt k 10000) refl
  where
    at : (b : Bool) → nat_lt k 10000 ≡ b → k ≡ m
    at true h = let small : k < 10000 = grind (arith, h) in decimal_injective k m (omega arith) (omega arith) e
    at false h =
        let great : 10000 ≤ k = grind (arith, h) in
        let many = five k great in
        let few = length-decimal-le 4 m (omega arith) (omega arith) (omega arith) in
        absurd (omega (arith, many, few, ap length e))

to_member : (m : ℕ) → m < 4096 → (line : Numbered) → begins_with (of_member m) (text_of line) ≡ is_to m line
to_member m low (OfFeed number message) = refl
to_member m low (OfMember member number reply) =
    same_bools _ (member == m)
    (λ e. eq-eqb member m (same_member member m low (begins_same (decimal m) (decimal member) (rest_of number reply) (decimal_without 32 m (omega arith)) (decimal_without 32 member (omega arith)) e)))
    (λ e. subst (λ k. begins_with (decimal m ++ 32 ∷ []) (decimal k ++ 32 ∷ rest_of number reply) ≡ true) (sym (eqb-true member m e)) (begins_itself (decimal m) (rest_of number reply)))
  where
    rest_of : ℕ → Outbound → List ℕ
    rest_of number reply = decimal number ++ (32 ∷ (encode_lower (outbound_bytes reply) ++ 10 ∷ []))

-- the text without the lines to a member
pub except_texts : (m : ℕ) → m < 4096 → (lines : List Numbered) → lines_except m (texts_of lines) ≡ texts_of (not_to m lines)
except_texts m low lines =
    ap (λ (ls : List (List ℕ)). concat (filter (λ l. not (begins_with (of_member m) l)) ls)) (lines_are lines)
    ∙ chosen_texts (λ l. not (begins_with (of_member m) l)) (λ line. not (is_to m line)) (λ line. ap not (to_member m low line)) lines

-- the lines to a member
pub member_texts : (m : ℕ) → m < 4096 → (lines : List Numbered) → lines_with (of_member m) (texts_of lines) ≡ texts_of (filter (λ line. is_to m line) lines)
member_texts m low lines =
    ap (λ (ls : List (List ℕ)). concat (filter (λ l. begins_with (of_member m) l) ls)) (lines_are lines)
    ∙ chosen_texts (λ l. begins_with (of_member m) l) (λ line. is_to m line) (λ line. to_member m low line) lines

in_feed : (line : Numbered) → begins_with of_feed (text_of line) ≡ is_of_feed line
in_feed (OfFeed number message) = refl
in_feed (OfMember member number reply) = refl

-- the lines of the feed
pub feed_texts : (lines : List Numbered) → lines_of_feed (texts_of lines) ≡ texts_of (feed_among lines)
feed_texts lines =
    ap (λ (ls : List (List ℕ)). concat (filter (λ l. begins_with of_feed l) ls)) (lines_are lines)
    ∙ chosen_texts (λ l. begins_with of_feed l) is_of_feed in_feed lines
