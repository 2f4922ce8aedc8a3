use Rattle.std.proofs.Common.{◌≡◌, ◌++◌, ◌∷◌, [], ℕ, List, refl, sym, subst, ◌∙◌}
use Rattle.hx_units.proofs.Splits.{same_split}
use Rattle.hx_operator.specs.Answers.{IsFirstLine}
use Rattle.hx_operator.proofs.answers.read_answer.Goals as goal

snoc_same : (a b : List ℕ) (x : ℕ) → a ++ x ∷ [] ≡ b ++ x ∷ [] → a ≡ b
snoc_same [] [] x e = refl
snoc_same [] (c ∷ []) x e = absurd cc
snoc_same [] (c ∷ d ∷ b) x e = absurd cc
snoc_same (y ∷ []) [] x e = absurd cc
snoc_same (y ∷ z ∷ a) [] x e = absurd cc
snoc_same (y ∷ a) (c ∷ b) x e =
    let heads : y ≡ c = cc in
    let tails : a ++ x ∷ [] ≡ b ++ x ∷ [] = cc in
    let same : a ≡ b = snoc_same a b x tails in
    cc

pub returns-in_err-is_ok-clause-none : goal.returns-in_err-is_ok-clause-none
returns-in_err-is_ok-clause-none c =
    rw c.from_residual-in_err-is_ok.ensures (λ is_ok text answer.
    let mine = c.in_ok-text.text.now in
    let first = c.in_ok-first.first.now in
    let cut = c.in_ok-first.ensures.some in
    let same : mine ≡ text = snoc_same mine text 10 (sym c.in_ok-text.ensures.some ∙ answer.bytes_are) in
    let firsts = same_split 10 first c.in_ok-first._more.now answer.is_answer.first answer.is_answer.more cut.1 answer.is_answer.one_line (sym cut.0 ∙ same ∙ answer.is_answer.text_is) in
    c.in_err-is_ok.ensures.none is_ok (subst (IsFirstLine is_ok) (sym firsts.0) answer.is_answer.says))
