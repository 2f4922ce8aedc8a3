-- The text of a request, piece by piece.
use Rattle.std.proofs.Common.{◌≡◌, ℕ, List, [], ◌∷◌, ◌++◌, refl, sym, ap, ◌∙◌, append_assoc}

pub joined : (a b c d e f g h i j k l : List ℕ) → b ≡ a ++ g → c ≡ b ++ h → d ≡ c ++ i → e ≡ d ++ j → f ≡ e ++ k → a ≡ [] → f ++ l ≡ g ++ (h ++ (i ++ (j ++ (k ++ l))))
joined a b c d e f g h i j k l p q r s t none =
    ap (λ (x : List ℕ). x ++ l) (t ∙ ap (λ (x : List ℕ). x ++ k) (s ∙ ap (λ (x : List ℕ). x ++ j) (r ∙ ap (λ (x : List ℕ). x ++ i) (q ∙ ap (λ (x : List ℕ). x ++ h) (p ∙ ap (λ (x : List ℕ). x ++ g) none)))))
    ∙ simp append_assoc
