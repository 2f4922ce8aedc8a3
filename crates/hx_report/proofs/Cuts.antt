-- A line that is cut off with its line feed.
use Rattle.std.proofs.Common.{◌≡◌, ℕ, ◌+◌, List, [], ◌∷◌, ◌++◌, length, take, sym, ap, ◌∙◌, append_assoc, length-append, arith}
use Rattle.std.proofs.lemmas.List.{take-append-le, take_all}

-- what a line feed cuts off
pub cut_line : (text body others : List ℕ) → text ≡ body ++ 10 ∷ others → take (length body + 1) text ≡ body ++ 10 ∷ []
cut_line text [] others e = ap (take 1) e
cut_line text (b ∷ body) others e = ap (take (length (b ∷ body) + 1)) e ∙ front (b ∷ body)
  where
    front : (l : List ℕ) → take (length l + 1) (l ++ 10 ∷ others) ≡ l ++ 10 ∷ []
    front l =
        ap (λ (x : List ℕ). take (length l + 1) x) (sym (append_assoc l (10 ∷ []) others))
        ∙ ap (λ (n : ℕ). take n ((l ++ 10 ∷ []) ++ others)) (sym (length-append l (10 ∷ [])))
        ∙ take-append-le (length (l ++ 10 ∷ [])) (l ++ 10 ∷ []) others (omega arith)
        ∙ take_all (length (l ++ 10 ∷ [])) (l ++ 10 ∷ []) (omega arith)
