use Rattle.std.proofs.Common.{◌≡◌, ℕ, ◌∷◌, [], ap, ◌∙◌}
use Rattle.hx_blog.specs.Packed.{packed, word_at}
use Rattle.hx_blog.proofs.words.pack.Goals as goal

pub returns-clause-words : goal.returns-clause-words
unfolding packed
returns-clause-words c =
    let at = λ (n k : ℕ) (is : n ≡ word_at c.padded-bytes.result k). is ∙ ap (λ bytes. word_at bytes k) c.padded-bytes.ensures in
    let first = at _ _ c.word_at.ensures in
    let second = at _ _ c.word_at-2.ensures in
    let third = at _ _ c.word_at-3.ensures in
    let fourth = at _ _ c.word_at-4.ensures in
    let fifth = at _ _ c.word_at-5.ensures in
    let sixth = at _ _ c.word_at-6.ensures in
    λ i. first i ∷ second i ∷ third i ∷ fourth i ∷ fifth i ∷ sixth i ∷ []
