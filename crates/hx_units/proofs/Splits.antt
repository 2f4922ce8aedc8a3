-- Text that is cut at the first offset of a byte.
use Rattle.std.proofs.Common.{◌≡◌, ◌+◌, ◌<◌, ℕ, suc, List, [], ◌∷◌, ◌++◌, length, take, drop, get_or, refl, sym, ap, ◌∙◌, arith, drop-cons, take-append-drop}
use Rattle.std.specs.Prelude.{◌≢◌}
use Rattle.std.proofs.lemmas.Bool.{eqb-true, eq-eqb}
use Rattle.std.proofs.lemmas.Grind.{get_or_default_zero}
use Rattle.std.proofs.lemmas.List.{get_or-take, length-take}
use Rattle.std.proofs.lemmas.List.Elements.{All-head, All-tail}
use Rattle.memchr.specs.Find.{NoneBefore, Nowhere, Passes, is_byte}
use Rattle.hx_units.specs.Cuts.{Lacks}

pub same_split : (b : ℕ) (a x c y : List ℕ) → Lacks b a → Lacks b c → a ++ b ∷ x ≡ c ++ b ∷ y → (a ≡ c) × (x ≡ y)
same_split b [] x [] y p q e = (refl, cc)
same_split b [] x (c ∷ cs) y p q e = absurd (All-head (λ n. n ≢ b) c cs q (cc))
same_split b (a ∷ as') x [] y p q e = absurd (All-head (λ n. n ≢ b) a as' p (cc))
same_split b (a ∷ as') x (c ∷ cs) y p q e =
    let heads : a ≡ c = cc in
    let tails : as' ++ b ∷ x ≡ cs ++ b ∷ y = cc in
    let rest = same_split b as' x cs y (All-tail (λ n. n ≢ b) a as' p) (All-tail (λ n. n ≢ b) c cs q) tails in
    (cc, rest.1)

pub none_split : (b : ℕ) (a x : List ℕ) → Lacks b (a ++ b ∷ x) → ⊥
none_split b [] x p = All-head (λ n. n ≢ b) b x p refl
none_split b (a ∷ as') x p = none_split b as' x (All-tail (λ n. n ≢ b) a (as' ++ b ∷ x) p)

passes : (text : List ℕ) (b k : ℕ) → get_or text k 0 ≡ b → Passes (is_byte b) text k
passes text b k e = eq-eqb (get_or text k 0) b e

-- a text is cut at the first offset that a search finds
pub first_index : (text : List ℕ) (b k : ℕ) → NoneBefore (Passes (is_byte b) text) 0 (length text) k × Passes (is_byte b) text k → (text ≡ take k text ++ b ∷ drop (k + 1) text) × Lacks b (take k text)
first_index text b k h =
    let here : get_or text k 0 ≡ b = eqb-true (get_or text k 0) b h.1 in
    let next : suc k ≡ k + 1 = omega arith in
    let rest : drop k text ≡ b ∷ drop (k + 1) text = drop-cons text k 0 h.0.high ∙ ap (λ (x : ℕ). x ∷ drop (suc k) text) here ∙ ap (λ (j : ℕ). b ∷ drop j text) next in (
      sym (take-append-drop k text) ∙ ap (λ (xs : List ℕ). take k text ++ xs) rest,
      λ j d below e.
          let inside : j < k = omega (arith, length-take k text) in
          let within : j < length text = omega (arith, length-take k text) in
          let same : get_or text j 0 ≡ b = sym (get_or_default_zero text j d within) ∙ sym (get_or-take k text j d inside) ∙ e in
          h.0.before j (omega arith) inside (passes text b j same),
    )

pub no_index : (text : List ℕ) (b : ℕ) → Nowhere (Passes (is_byte b) text) 0 (length text) → Lacks b text
no_index text b h k d below e = h k (omega arith) below (passes text b k (sym (get_or_default_zero text k d below) ∙ e))
