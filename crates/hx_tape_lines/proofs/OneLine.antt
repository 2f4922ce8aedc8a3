-- A text is the line of one entry.
use Rattle.std.proofs.Common.{◌≡◌, ℕ, ◌^◌, ◌<◌, refl, sym, ap, ◌∙◌, arith}
use Rattle.std.specs.Fmt.{decimal}
use Rattle.std.specs.Str.Parse.{digits_value}
use Rattle.std.proofs.lemmas.Fmt.{decimal_is_IsNumeral}
use Rattle.hex.specs.Hex.{encode_lower}
use Rattle.hx_tape_lines.specs.Text.{Entry, IsEntry, line}
use Rattle.hx_tape_lines.proofs.Lines.{three_fields, same_entry, time_Lacks, member_Lacks, after_time}
use Rattle.hx_setup.proofs.Words.{hex-same}

decimal_same : (m n : ℕ) → m < 2 ^ 64 → n < 2 ^ 64 → decimal m ≡ decimal n → m ≡ n
decimal_same m n p q e = sym (decimal_is_IsNumeral m p).1 ∙ ap (digits_value 10) e ∙ (decimal_is_IsNumeral n q).1

pub line_same : (a b : Entry) → IsEntry a → IsEntry b → line a ≡ line b → a ≡ b
line_same a b p q e =
    let f = three_fields b (line a) (decimal a.time) (after_time a) (decimal a.member) (encode_lower a.bytes) q e refl (time_Lacks a p) refl (member_Lacks a p) in
    same_entry a b (decimal_same a.time b.time (omega (arith, p.time)) (omega (arith, q.time)) f.time)
    (decimal_same a.member b.member (omega (arith, p.member)) (omega (arith, q.member)) f.member)
    (hex-same a.bytes b.bytes p.are_bytes q.are_bytes f.hex)
