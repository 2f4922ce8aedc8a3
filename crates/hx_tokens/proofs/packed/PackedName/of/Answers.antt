use Rattle.std.proofs.Common.{◌≡◌, ℕ, ◌+◌, ◌*◌, ◌<◌, ◌^◌, length, get_or, ap, ◌∙◌, rules}
use Rattle.hx_tokens.specs.Packed.{name_of_words}
use Rattle.hx_tokens.proofs.Packing.{name_of_words-words}
use Rattle.hx_tokens.proofs.packed.PackedName.of.Goals as goal

pub returns : goal.returns
returns c =
    let t = c.args.token.now in
    let long : length t.0 ≡ 14 = search rules in
    let bytes : (i : ℕ) → get_or t.0 i 0 < 256 = search rules in
    let first = c.from_le_bytes-first.result in
    let next = c.from_le_bytes-next.result in
    let last = c.from_le_bytes-last.result in
    (λ j. name_of_words ((c.from.ensures j * 2 ^ 32 + c.from-2.ensures j) * 2 ^ 16 + c.from-3.ensures j) last)
    ∙ ap (λ m. name_of_words ((m * 2 ^ 32 + first) * 2 ^ 16 + next) last) c.get.ensures.value
    ∙ name_of_words-words c.args.member t long bytes first next last (search rules) (search rules) c.from_le_bytes-first.ensures c.from_le_bytes-next.ensures c.from_le_bytes-last.ensures
