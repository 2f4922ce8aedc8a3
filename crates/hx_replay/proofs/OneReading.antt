-- A text is the tape of one list of events.
use Rattle.std.proofs.Common.{◌≡◌, ℕ, List, get_or, [], ◌∷◌, ◌++◌, length, true, refl, sym, ap, ◌∙◌, subst, append_assoc, arith}
use Rattle.std.specs.Prelude.{◌≢◌}
use Rattle.std.specs.List.{AllByRecursion}
use Rattle.std.specs.Fmt.{decimal}
use Rattle.std.proofs.lemmas.List.{length-append}
use Rattle.std.proofs.lemmas.List.Concat.{flat_map-cons}
use Rattle.std.proofs.lemmas.List.Elements.{All-append, All-cons}
use Rattle.hex.specs.Hex.{encode_lower, is_hex_digit, IsBytes}
use Rattle.hex.proofs.HexLemmas.{decode_of-encode_lower, decode_of-ok}
use Rattle.hx_units.specs.Cuts.{Lacks}
use Rattle.hx_tape_lines.specs.Text.{Entry, IsEntry, line, tape}
use Rattle.hx_units.proofs.Splits.{same_split}
use Rattle.hx_units.proofs.Decimals.{lacks-decimal}
use Rattle.hx_tape_lines.proofs.Lines.{after_time}
use Rattle.hx_tape_lines.proofs.OneLine.{line_same}

-- ---- no line feed stands in a line

no_digit : (c : ℕ) → c ≡ 10 → is_hex_digit c ≡ true → ⊥
no_digit c e h = let bad : is_hex_digit 10 ≡ true = subst (λ (x : ℕ). is_hex_digit x ≡ true) e h in cc

hex_no_feed : (bytes : List ℕ) → IsBytes bytes → Lacks 10 (encode_lower bytes)
hex_no_feed bytes fits k d below e =
    let digits = (decode_of-ok (encode_lower bytes) bytes (decode_of-encode_lower bytes fits)).1 in
    no_digit (get_or (encode_lower bytes) k d) e (digits k d below)

pub line_no_feed : (a : Entry) → IsEntry a → Lacks 10 (line a)
line_no_feed a p =
    let P : ℕ → Type 0 = λ x. x ≢ 10 in
    All-append P (decimal a.time) (32 ∷ after_time a) (lacks-decimal 10 a.time (omega arith) (omega (arith, p.time))) (All-cons P 32 (after_time a) (λ e. omega (arith, e))
    (All-append P (decimal a.member) (32 ∷ encode_lower a.bytes) (lacks-decimal 10 a.member (omega arith) (omega (arith, p.member))) (All-cons P 32 (encode_lower a.bytes) (λ e. omega (arith, e)) (hex_no_feed a.bytes p.are_bytes))))

pub tape-cons : (e : Entry) (es : List Entry) → tape (e ∷ es) ≡ line e ++ 10 ∷ tape es
tape-cons e es = flat_map-cons (λ x. line x ++ 10 ∷ []) e es ∙ append_assoc (line e) (10 ∷ []) (tape es)

pub tape_same : (es fs : List Entry) → AllByRecursion IsEntry es → AllByRecursion IsEntry fs → tape es ≡ tape fs → es ≡ fs
tape_same [] [] p q e = refl
tape_same [] (f ∷ fs) p q e = let none : 0 ≡ length (line f ++ 10 ∷ tape fs) = ap length (e ∙ tape-cons f fs) in absurd (omega (arith, none, length-append (line f) (10 ∷ tape fs)))
tape_same (a ∷ es) [] p q e = let none : 0 ≡ length (line a ++ 10 ∷ tape es) = ap length (sym e ∙ tape-cons a es) in absurd (omega (arith, none, length-append (line a) (10 ∷ tape es)))
tape_same (a ∷ es) (f ∷ fs) p q e =
    let cut = same_split 10 (line a) (tape es) (line f) (tape fs) (line_no_feed a p.0) (line_no_feed f q.0) (sym (tape-cons a es) ∙ e ∙ tape-cons f fs) in
    let first = line_same a f p.0 q.0 cut.0 in
    let rest = tape_same es fs p.1 q.1 cut.1 in
    ap (λ (x : Entry). x ∷ es) first ∙ ap (λ (xs : List Entry). f ∷ xs) rest
