-- What the bytes of a record are.
use Rattle.std.proofs.Common.{◌≡◌, ℕ, zero, suc, ◌+◌, ◌/◌, ◌%◌, ◌^◌, ◌<◌, Bool, true, false, ltb, cond, List, [], ◌∷◌, ◌++◌, length, get_or, slice_index, refl, sym, ap, subst, inl, inr, arith, ltb-true, ltb-false}
use Rattle.std.specs.Prelude.{◌&&◌, nat_lt, if◌then◌else◌}
use Rattle.std.proofs.lemmas.Bool.{and_parts}
use Rattle.std.proofs.lemmas.Bool.Decides.{nat_tests}
use Rattle.std.specs.List.{AllByRecursion}
use Rattle.std.specs.Fmt.{decimal}
use Rattle.std.proofs.lemmas.Fmt.{decimal_is_IsNumeral}
use Rattle.std.proofs.lemmas.Str.Parse.{digit_at}
use Rattle.hex.specs.Hex.{encode_lower, encode_with, lower_digits, IsBytes}
use Rattle.hx_rules.specs.declared.event.Event.{Event}
use Rattle.hx_tape_lines.specs.Text.{Entry, IsEntry, line, entry_of_event, all_below, is_held, record_of, IsDigit, IsSpelled, BeginsWithDigit, IsPlain}
use Rattle.hx_tape_lines.proofs.Values.{digit_is}

-- ---- tests

both : (a b : Bool) → a ≡ true → b ≡ true → a && b ≡ true
both true true p q = refl
both true false p q = q
both false b p q = p

lt_true : (a b : ℕ) → a < b → nat_lt a b ≡ true
lt_true a b h = grind (arith, nat_tests)

true_lt : (a b : ℕ) → nat_lt a b ≡ true → a < b
true_lt a b h = grind (arith, nat_tests)

-- ---- texts of such bytes

spelled_append : (xs ys : List ℕ) → AllByRecursion IsSpelled xs → AllByRecursion IsSpelled ys → AllByRecursion IsSpelled (xs ++ ys)
spelled_append [] ys p q = q
spelled_append (x ∷ xs) ys p q = (p.0, spelled_append xs ys p.1 q)

-- digits, one by one
spelled_digits : (ds : List ℕ) → ((i : ℕ) → i < length ds → IsDigit (get_or ds i 0)) → AllByRecursion IsSpelled ds
spelled_digits [] h = tt
spelled_digits (d ∷ ds) h = (inr (inl (h 0 (omega arith))), spelled_digits ds (λ i lt. h (suc i) (omega (arith, lt))))

begins_digits : (ds rest : List ℕ) → 0 < length ds → ((i : ℕ) → i < length ds → IsDigit (get_or ds i 0)) → BeginsWithDigit (ds ++ rest)
begins_digits [] rest some h = absurd (omega (arith, some))
begins_digits (d ∷ ds) rest some h = h 0 (omega arith)

-- ---- the parts of a line

decimal_digits : (n : ℕ) → n < 2 ^ 64 → (i : ℕ) → i < length (decimal n) → IsDigit (get_or (decimal n) i 0)
decimal_digits n small i lt = let range = digit_at (decimal n) i (decimal_is_IsNumeral n small).0.1 lt in (omega (arith, range), omega (arith, range))

spelled_decimal : (n : ℕ) → n < 2 ^ 64 → AllByRecursion IsSpelled (decimal n)
spelled_decimal n small = spelled_digits (decimal n) (decimal_digits n small)

spelled_digit : (d : ℕ) → d < 16 → IsSpelled (slice_index lower_digits d)
spelled_digit d lt = subst IsSpelled (sym (digit_is d lt)) (go (ltb d 10) refl)
  where
    go : (t : Bool) → ltb d 10 ≡ t → IsSpelled (cond t (48 + d) (87 + d))
    go true e = let small = ltb-true d 10 e in inr (inl (omega arith, omega (arith, small)))
    go false e = let large = ltb-false d 10 e in inr (inr (omega (arith, large), omega (arith, lt)))

spelled_hex : (bytes : List ℕ) → IsBytes bytes → AllByRecursion IsSpelled (encode_lower bytes)
unfolding encode_with
spelled_hex [] fits = tt
spelled_hex (b ∷ bytes) fits = (spelled_digit (b / 16) (omega (arith, fits 0)), (spelled_digit (b % 16) (omega (arith, fits 0)), spelled_hex bytes (λ i. fits (suc i))))

-- ---- the line

pub plain_line : (e : Entry) → e.time < 2 ^ 64 → e.member < 2 ^ 64 → IsBytes e.bytes → IsPlain (line e)
plain_line e time member fits = record {
  spelled = spelled_append (decimal e.time) _ (spelled_decimal e.time time) (inl refl, spelled_append (decimal e.member) _ (spelled_decimal e.member member) (inl refl, spelled_hex e.bytes fits));
  first = begins_digits (decimal e.time) _ (decimal_is_IsNumeral e.time time).0.0 (decimal_digits e.time time);
}

-- ---- records

below_all : (bytes : List ℕ) → IsBytes bytes → all_below 256 bytes ≡ true
below_all [] fits = refl
below_all (b ∷ bytes) fits = both (nat_lt b 256) (all_below 256 bytes) (lt_true b 256 (fits 0)) (below_all bytes (λ i. fits (suc i)))

bytes_all : (bytes : List ℕ) → all_below 256 bytes ≡ true → IsBytes bytes
bytes_all [] h i = omega arith
bytes_all (b ∷ bytes) h zero = true_lt b 256 (and_parts (nat_lt b 256) (all_below 256 bytes) h).0
bytes_all (b ∷ bytes) h (suc i) = bytes_all bytes (and_parts (nat_lt b 256) (all_below 256 bytes) h).1 i

-- numbers of fields are held
pub held : (e : Entry) → e.time < 2 ^ 64 → e.member < 2 ^ 16 → IsBytes e.bytes → is_held e ≡ true
held e time member fits =
    both (nat_lt e.time (2 ^ 64) && nat_lt e.member (2 ^ 16)) (all_below 256 e.bytes)
    (both (nat_lt e.time (2 ^ 64)) (nat_lt e.member (2 ^ 16)) (lt_true e.time (2 ^ 64) time) (lt_true e.member (2 ^ 16) member))
    (below_all e.bytes fits)

-- an entry that has a line is held
pub entry_held : (e : Entry) → IsEntry e → is_held e ≡ true
entry_held e h = held e (omega (arith, h.time)) (omega (arith, h.member)) h.are_bytes

pub record_is_line : (event : Event) → is_held (entry_of_event event) ≡ true → record_of event ≡ line (entry_of_event event)
unfolding record_of
record_is_line event h = ap (λ (b : Bool). if b then line (entry_of_event event) else 48 ∷ []) h

pub plain_record : (event : Event) → IsPlain (record_of event)
unfolding record_of
plain_record event = go (is_held (entry_of_event event)) refl
  where
    e : Entry
    e = entry_of_event event

    go : (b : Bool) → is_held e ≡ b → IsPlain (if b then line e else 48 ∷ [])
    go true h =
        let outer = and_parts (nat_lt e.time (2 ^ 64) && nat_lt e.member (2 ^ 16)) (all_below 256 e.bytes) h in
        let inner = and_parts (nat_lt e.time (2 ^ 64)) (nat_lt e.member (2 ^ 16)) outer.0 in
        plain_line e (true_lt e.time (2 ^ 64) inner.0) (let m = true_lt e.member (2 ^ 16) inner.1 in omega (arith, m)) (bytes_all e.bytes outer.1)
    go false h = record { spelled = (inr (inl (omega arith, omega arith)), tt); first = (omega arith, omega arith) }
