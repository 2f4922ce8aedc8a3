-- What each of the calls of a device leaves in a run of them.
use Rattle.std.proofs.Common.{◌≡◌, ℕ, ◌≤◌, List, [], ◌∷◌, ◌++◌, length, take, get_or, refl, ap, sym, ◌∙◌, subst, arith, append_assoc, length-take}
use Rattle.hx_disk.specs.Device.{Mixed, Cut, Follows, Only}
use Rattle.hx_journal.specs.Lines.{IsLine, text_of, lines_of}
use Rattle.hx_journal.specs.Files.{IsAtRest, HasFromTo, HasThose}
use Rattle.hx_journal.proofs.Lines.{lines_of-text_before, lines_of-text, lines_of_are, text_of-append, few_lines_of}
use Rattle.hx_journal.proofs.Torn.{torn_write, torn_cut, torn_zeros, has_front}
use Rattle.hx_units.proofs.Prefixes.{prefix_self}

-- before the write
pub before_write : (file group : List ℕ) (outcomes : List ℕ → Type 0) → Only file outcomes → (c : List ℕ) → outcomes c → HasFromTo (lines_of file) (lines_of file ++ lines_of group) c
before_write file group outcomes only c left =
    subst (HasFromTo (lines_of file) (lines_of file ++ lines_of group)) (sym (only c left)) (record { begins = prefix_self (lines_of file); begun = (lines_of group, refl) })

-- in the midst of it, or until the sync
pub write_crash : (file group : List ℕ) (end : ℕ) (old new : List ℕ → Type 0) → IsAtRest file end → group ≡ text_of (lines_of group) → Only file old → Follows (Mixed end group) old new → (c : List ℕ) → new c → HasFromTo (lines_of file) (lines_of file ++ lines_of group) c
write_crash file group end old new rest lines only follows c left =
    let from = follows c left in
    torn_write file group c end rest lines (subst (λ f. Mixed end group f c) (only from.0 from.1) from.2)

-- before the cut
pub before_cut : (file : List ℕ) (end : ℕ) (outcomes : List ℕ → Type 0) → end ≤ length file → take end file ≡ text_of (lines_of (take end file)) → Only file outcomes → (c : List ℕ) → outcomes c → HasFromTo (lines_of (take end file)) (lines_of file) c
before_cut file end outcomes inside front only c left =
    subst (HasFromTo (lines_of (take end file)) (lines_of file)) (sym (only c left))
    (record { begins = has_front file (lines_of (take end file)) end inside front (lines_of_are (take end file)); begun = prefix_self (lines_of file) })

-- in the midst of it, or until the sync
pub cut_crash : (file : List ℕ) (end : ℕ) (old new : List ℕ → Type 0) → end ≤ length file → take end file ≡ text_of (lines_of (take end file)) → Only file old → Follows (Cut end) old new → (c : List ℕ) → new c → HasFromTo (lines_of (take end file)) (lines_of file) c
cut_crash file end old new inside front only follows c left =
    let from = follows c left in
    torn_cut file c (lines_of (take end file)) end inside front (lines_of_are (take end file)) (subst (λ f. Cut end f c) (only from.0 from.1) from.2)

-- a line more in a group
pub one_more : (group r : List ℕ) → group ≡ text_of (lines_of group) → IsLine r → lines_of (group ++ r ++ 10 ∷ []) ≡ lines_of group ++ r ∷ []
one_more group r lines is =
    ap lines_of (append_assoc group r (10 ∷ []) ∙ ap (λ (l : List ℕ). l ++ (r ++ 10 ∷ [])) lines)
    ∙ lines_of-text_before (lines_of group) (r ++ 10 ∷ []) (lines_of_are group)
    ∙ ap (λ l. lines_of group ++ l) (lines_of-text (r ∷ []) (is, tt))

pub still_lines : (group r : List ℕ) → group ≡ text_of (lines_of group) → IsLine r → group ++ r ++ 10 ∷ [] ≡ text_of (lines_of (group ++ r ++ 10 ∷ []))
still_lines group r lines is =
    append_assoc group r (10 ∷ []) ∙ ap (λ (l : List ℕ). l ++ (r ++ 10 ∷ [])) lines
    ∙ sym (text_of-append (lines_of group) (r ∷ []))
    ∙ ap text_of (sym (one_more group r lines is))

-- no more lines than bytes
pub few : (group : List ℕ) → group ≡ text_of (lines_of group) → length (lines_of group) ≤ length group
few group lines = omega (arith, few_lines_of (lines_of group), ap length lines)

pub few_stored : (file : List ℕ) (end : ℕ) → IsAtRest file end → length (lines_of file) ≤ end
few_stored file end rest = omega (arith, few_lines_of (lines_of file), ap length rest.front, length-take end file)

pub zeros_crash : (file zeros : List ℕ) (end : ℕ) (old new : List ℕ → Type 0) → IsAtRest file end → ((i : ℕ) → get_or zeros i 0 ≡ 0) → Only file old → Follows (Mixed end zeros) old new → (c : List ℕ) → new c → HasThose file c
zeros_crash file zeros end old new rest none only follows c left =
    let from = follows c left in
    torn_zeros file zeros c end rest none (subst (λ f. Mixed end zeros f c) (only from.0 from.1) from.2)
