-- How the first line of a journal is cut into its parts.
use Rattle.std.proofs.Common.{◌≡◌, ℕ, zero, suc, List, [], ◌∷◌, ◌++◌, sym, ap, subst, ◌∙◌, refl, arith, append_assoc}
use Rattle.std.specs.Prelude.{Option, None, Some, IfNone}
use Rattle.hx_units.specs.Cuts.{Lacks}
use Rattle.hx_journal.specs.Heads.{IsWord, IsHeadOf, head_of}

-- what holds anyway holds if there is nothing
pub if_none : {A : Type 0} (r : Option A) (P : Type 0) → P → IfNone r P
if_none None P h = h
if_none (Some x) P h = tt

pub none_so : {A : Type 0} (r : Option A) (P Q : Type 0) → IfNone r P → (P → Q) → IfNone r Q
none_so None P Q h so = so h
none_so (Some x) P Q h so = tt

-- the tag, and the rest
pub tag_and_rest : (session day setup : List ℕ) → head_of session day setup ≡ 35 ∷ 104 ∷ 120 ∷ 49 ∷ 32 ∷ (session ++ 32 ∷ (day ++ 32 ∷ setup))
tag_and_rest session day setup = ap (λ (l : List ℕ). 35 ∷ 104 ∷ 120 ∷ 49 ∷ 32 ∷ l) (append_assoc session (32 ∷ day) (32 ∷ setup))

-- a word has no space
pub word_lacks : (word : List ℕ) → IsWord word → Lacks 32 word
word_lacks [] is k d lt = absurd (omega arith)
word_lacks (b ∷ word) is zero d lt = λ e. omega (arith, is.0.0, e)
word_lacks (b ∷ word) is (suc k) d lt = word_lacks word is.1 k d (omega arith)

-- a text with a space does not lack one
pub has_space : (front after : List ℕ) → Lacks 32 (front ++ 32 ∷ after) → ⊥
has_space [] after lacks = lacks zero 0 (omega arith) refl
has_space (b ∷ front) after lacks = has_space front after (λ k d lt. lacks (suc k) d (omega arith))

-- a text is cut at its first space in one way
pub one_cut : (a b x y : List ℕ) → Lacks 32 a → Lacks 32 b → a ++ 32 ∷ x ≡ b ++ 32 ∷ y → (a ≡ b) × (x ≡ y)
one_cut [] [] x y la lb e = (refl, cc (e))
one_cut [] (b ∷ bs) x y la lb e = let head : 32 ≡ b = cc (e) in absurd (lb zero 0 (omega arith) (sym head))
one_cut (a ∷ rest) [] x y la lb e = let head : a ≡ 32 = cc (e) in absurd (la zero 0 (omega arith) head)
one_cut (a ∷ front) (b ∷ bs) x y la lb e =
    let head : a ≡ b = cc (e) in
    let tail : front ++ 32 ∷ x ≡ bs ++ 32 ∷ y = cc (e) in
    let cut = one_cut front bs x y (λ k d lt. la (suc k) d (omega arith)) (λ k d lt. lb (suc k) d (omega arith)) tail in
    (cc (head, cut.0), cut.1)

-- what stands after the tag is cut as the line is
after_tags : (rest session day setup : List ℕ) → 35 ∷ 104 ∷ 120 ∷ 49 ∷ 32 ∷ rest ≡ head_of session day setup → rest ≡ session ++ 32 ∷ (day ++ 32 ∷ setup)
after_tags rest session day setup e =
    let whole : 35 ∷ 104 ∷ 120 ∷ 49 ∷ 32 ∷ rest ≡ 35 ∷ 104 ∷ 120 ∷ 49 ∷ 32 ∷ (session ++ 32 ∷ (day ++ 32 ∷ setup)) = e ∙ tag_and_rest session day setup in
    cc (whole)

pub no_session : (line rest session day setup : List ℕ) → line ≡ 35 ∷ 104 ∷ 120 ∷ 49 ∷ 32 ∷ rest → Lacks 32 rest → line ≡ head_of session day setup → ⊥
no_session line rest session day setup tag lacks is = let cut = after_tags rest session day setup (sym tag ∙ is) in has_space session (day ++ 32 ∷ setup) (subst (Lacks 32) cut lacks)

pub no_day : (line rest front after session day setup : List ℕ) → line ≡ 35 ∷ 104 ∷ 120 ∷ 49 ∷ 32 ∷ rest → rest ≡ front ++ 32 ∷ after → Lacks 32 front → Lacks 32 after → IsWord session → line ≡ head_of session day setup → ⊥
no_day line rest front after session day setup tag cut first second word is =
    let here = one_cut front session after (day ++ 32 ∷ setup) first (word_lacks session word) (sym cut ∙ after_tags rest session day setup (sym tag ∙ is)) in
    has_space day setup (subst (Lacks 32) here.1 second)

-- the parts of a line are its words, if it has such
pub record SameParts (a b c session day setup : List ℕ) : Type 0 where
  pub first : a ≡ session
  pub second : b ≡ day
  pub third : c ≡ setup

pub same_parts : (line a b c session day setup : List ℕ) → IsHeadOf line a b c → IsWord session → IsWord day → line ≡ head_of session day setup → SameParts a b c session day setup
same_parts line a b c session day setup cut first second is =
    let whole = after_tags (a ++ 32 ∷ (b ++ 32 ∷ c)) session day setup (sym (tag_and_rest a b c) ∙ sym cut.is ∙ is) in
    let front = one_cut a session (b ++ 32 ∷ c) (day ++ 32 ∷ setup) cut.session_ends (word_lacks session first) whole in
    let back = one_cut b day c setup cut.day_ends (word_lacks day second) front.1 in
    record { first = front.0; second = back.0; third = back.1 }
