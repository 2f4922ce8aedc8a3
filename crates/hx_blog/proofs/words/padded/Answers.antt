use Rattle.std.proofs.Common.{◌≡◌, ℕ, ◌+◌, ◌-◌, List, ◌∷◌, ◌++◌, length, drop, replicate, ap, ◌∙◌, arith}
use Rattle.std.proofs.lemmas.List.{drop-replicate}
use Rattle.hx_blog.proofs.words.padded.Goals as goal

pub returns : goal.returns
returns c =
    let m = c.args.message.now in
    let n = 1 + length m - 1 in
    let same : n ≡ length m = omega arith in
    ap (λ (bytes : List ℕ). length m ∷ (bytes ++ drop n (replicate 47 0))) c.copy_from_slice.ensures.after
    ∙ ap (λ (k : ℕ). length m ∷ (m ++ drop k (replicate 47 0))) same
    ∙ ap (λ (zeros : List ℕ). length m ∷ (m ++ zeros)) (drop-replicate (length m) 47 0)
