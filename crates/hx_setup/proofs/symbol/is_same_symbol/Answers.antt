use Rattle.std.proofs.Common.{◌≡◌, ℕ, ◌==◌, ◌<◌, length, get_or, sym, ap, ◌∙◌, rules}
use Rattle.std.specs.Int.{w64, to_le_bytes, from_le_bytes}
use Rattle.std.proofs.lemmas.Bool.Decides.{Decides-eqb}
use Rattle.std.proofs.lemmas.Nat.{le_bytes_8}
use Rattle.std.proofs.lemmas.Slice.Eq.{bytes_eq-Decides}
use Rattle.hx_units.specs.Names.{is_symbol}
use Rattle.hx_units.proofs.Booleans.{same_bools}
use Rattle.hx_setup.proofs.symbol.is_same_symbol.Goals as goal

pub returns : goal.returns
returns c =
    let a = c.args.a in
    let b = c.args.b in
    let m = c.symbol_word.result in
    let n = c.symbol_word-2.result in
    let long-a : length a.0 ≡ 8 = search rules in
    let long-b : length b.0 ≡ 8 = search rules in
    let bytes-a : (i : ℕ) → get_or a.0 i 0 < 256 = search rules in
    let bytes-b : (i : ℕ) → get_or b.0 i 0 < 256 = search rules in
    let letters-a = le_bytes_8 a.0 m long-a bytes-a c.symbol_word.ensures in
    let letters-b = le_bytes_8 b.0 n long-b bytes-b c.symbol_word-2.ensures in
    same_bools (m == n) (is_symbol a b)
    (λ h. (bytes_eq-Decides a.0 b.0).1 (sym letters-a ∙ ap (to_le_bytes w64) ((Decides-eqb m n).0 h) ∙ letters-b))
    (λ h. (Decides-eqb m n).1 (c.symbol_word.ensures ∙ ap (from_le_bytes w64) ((bytes_eq-Decides a.0 b.0).0 h) ∙ sym c.symbol_word-2.ensures))
