-- What a crash leaves of a write and of a cut, and what they leave when they are done.
use Rattle.std.proofs.Common.{◌≡◌, ◌⊎◌, inl, inr, ⊎_elim, ℕ, zero, suc, ◌+◌, ◌-◌, ◌≤◌, ◌<◌, List, [], ◌∷◌, ◌++◌, length, take, drop, get_or, refl, ap, sym, ◌∙◌, subst, arith, append_assoc, length-append, length-take}
use Rattle.std.proofs.lemmas.List.{append-nil, take_at, take_all, get_or-take, get_or-drop, get_or_append_left, get_or-append_right, get_or_past}
use Rattle.std.proofs.lemmas.Bool.{cases_lt}
use mathlib.Core.List.{IsPrefix}
use Rattle.hx_disk.specs.Device.{Holds, Mixed, Cut, byte}
use Rattle.hx_journal.specs.Lines.{AreLines, text_of, lines_of}
use Rattle.hx_journal.specs.Crashes.{IsBetween}
use Rattle.hx_journal.specs.Files.{IsAtRest}
use Rattle.hx_journal.proofs.Prefixes.{prefix_each}
use Rattle.hx_journal.proofs.Lines.{prefix_lines_of, lines_of-text_before, lines_of_are, lines_of-zero, text_of-append}
use Rattle.hx_units.proofs.Prefixes.{prefix_both}

-- nothing is read of zeros
lines_of-zeros : (bytes : List ℕ) → ((i : ℕ) → get_or bytes i 0 ≡ 0) → lines_of bytes ≡ []
lines_of-zeros [] zeros = refl
lines_of-zeros (b ∷ bytes) zeros = lines_of-zero b bytes (zeros 0)

length_front : (file : List ℕ) (end : ℕ) → end ≤ length file → length (take end file) ≡ end
length_front file end inside = omega (arith, length-take end file)

-- lines stand in front, and these bytes stay
module _ (file c : List ℕ) (ls : List (List ℕ)) (end : ℕ) (inside : end ≤ length file) (front : take end file ≡ text_of ls) (are : AreLines ls) (long : end ≤ length c) (same : (i : ℕ) → i < end → byte c i ≡ byte file i) where
  begins : IsPrefix (text_of ls) c
  begins =
      let size : length (text_of ls) ≡ end = ap length (sym front) ∙ length_front file end inside in
      prefix_each (text_of ls) c (omega (arith, size))
      (λ i lt. let within : i < end = omega (arith, size) in same i within ∙ sym (get_or-take end file i 0 within) ∙ ap (λ l. get_or l i 0) front)

  pub keeps_front : IsPrefix ls (lines_of c)
  keeps_front =
      let p = begins in
      (lines_of p.0, sym (lines_of-text_before ls p.0 are) ∙ ap lines_of p.1)

pub torn_write : (file group c : List ℕ) (end : ℕ) → IsAtRest file end → group ≡ text_of (lines_of group) → Mixed end group file c → IsBetween (lines_of file) (lines_of c) (lines_of file ++ lines_of group)
torn_write file group c end rest lines torn = record {
  begins = keeps_front file c (lines_of file) end rest.inside rest.front (lines_of_are file) (omega (arith, torn.no_shorter, rest.inside)) old_byte;
  begun = subst (λ l. IsPrefix (lines_of c) l) all (prefix_lines_of c (text_of (lines_of file) ++ group) each);
}
  where
    size : length (text_of (lines_of file)) ≡ end
    size = ap length (sym rest.front) ∙ length_front file end rest.inside

    all : lines_of (text_of (lines_of file) ++ group) ≡ lines_of file ++ lines_of group
    all = lines_of-text_before (lines_of file) group (lines_of_are file)

    old_byte : (i : ℕ) → i < end → byte c i ≡ byte file i
    old_byte i lt = ⊎_elim (λ old. old) (λ (new : (end ≤ i) × (i < end + length group) × (byte c i ≡ byte group (i - end))). absurd (omega (arith, new.0))) (torn.each i (omega (arith, torn.no_shorter, rest.inside)))

    in_front : (i : ℕ) → i < end → byte file i ≡ get_or (text_of (lines_of file) ++ group) i 0
    in_front i lt = sym (get_or-take end file i 0 lt) ∙ ap (λ l. get_or l i 0) rest.front ∙ sym (get_or_append_left (text_of (lines_of file)) group 0 i (omega (arith, size)))

    each : (i : ℕ) → i < length c → (byte c i ≡ 0) ⊎ (byte c i ≡ get_or (text_of (lines_of file) ++ group) i 0)
    each i lt =
        ⊎_elim
        (λ (old : byte c i ≡ byte file i). ⊎_elim (λ (near : i < end). inr (old ∙ in_front i near)) (λ (far : end ≤ i). inl (old ∙ rest.zeros i far)) (cases_lt i end))
        (λ (new : (end ≤ i) × (i < end + length group) × (byte c i ≡ byte group (i - end))). inr (new.2 ∙ sym (get_or-append_right (text_of (lines_of file)) group end i 0 size new.0)))
        (torn.each i lt)

pub written : (file group new : List ℕ) (end : ℕ) → IsAtRest file end → group ≡ text_of (lines_of group) → Holds file end group new → IsAtRest new (end + length group) × (lines_of new ≡ lines_of file ++ lines_of group)
written file group new end rest lines holds = (record { inside = inside; front = front; zeros = zeros }, is)
  where
    after : List ℕ
    after = drop (end + length group) file

    size : length (text_of (lines_of file)) ≡ end
    size = ap length (sym rest.front) ∙ length_front file end rest.inside

    parts : new ≡ text_of (lines_of file) ++ group ++ drop (end + length group) file
    parts = holds ∙ ap (λ l. l ++ group ++ drop (end + length group) file) rest.front

    long : length (text_of (lines_of file) ++ group) ≡ end + length group
    long = omega (arith, size, length-append (text_of (lines_of file)) group)

    inside : end + length group ≤ length new
    inside = omega (arith, long, ap length parts, length-append (text_of (lines_of file) ++ group) (drop (end + length group) file))

    zeros_after : (i : ℕ) → get_or (drop (end + length group) file) i 0 ≡ 0
    zeros_after i = get_or-drop (end + length group) file i 0 ∙ rest.zeros (end + length group + i) (omega arith)

    only_group : lines_of (group ++ drop (end + length group) file) ≡ lines_of group
    only_group =
        ap (λ l. lines_of (l ++ drop (end + length group) file)) lines
        ∙ lines_of-text_before (lines_of group) (drop (end + length group) file) (lines_of_are group)
        ∙ ap (λ l. lines_of group ++ l) (lines_of-zeros (drop (end + length group) file) zeros_after)
        ∙ append-nil (lines_of group)

    is : lines_of new ≡ lines_of file ++ lines_of group
    is =
        ap lines_of (parts ∙ append_assoc (text_of (lines_of file)) group (drop (end + length group) file))
        ∙ lines_of-text_before (lines_of file) (group ++ drop (end + length group) file) (lines_of_are file)
        ∙ ap (λ l. lines_of file ++ l) only_group

    front : take (end + length group) new ≡ text_of (lines_of new)
    front =
        ap (λ l. take (end + length group) l) parts
        ∙ take_at (text_of (lines_of file) ++ group) (drop (end + length group) file) (end + length group) long
        ∙ ap (λ l. text_of (lines_of file) ++ l) lines
        ∙ sym (text_of-append (lines_of file) (lines_of group))
        ∙ ap text_of (sym is)

    zeros : (i : ℕ) → end + length group ≤ i → byte new i ≡ 0
    zeros i far =
        ap (λ l. get_or l i 0) parts
        ∙ get_or-append_right (text_of (lines_of file) ++ group) (drop (end + length group) file) (end + length group) i 0 long far
        ∙ zeros_after (i - (end + length group))

-- a file that begins with the text of lines has them
pub has_front : (file : List ℕ) (ls : List (List ℕ)) (end : ℕ) → end ≤ length file → take end file ≡ text_of ls → AreLines ls → IsPrefix ls (lines_of file)
has_front file ls end inside front are = keeps_front file file ls end inside front are inside (λ i lt. refl)

pub torn_cut : (file c : List ℕ) (ls : List (List ℕ)) (end : ℕ) → end ≤ length file → take end file ≡ text_of ls → AreLines ls → Cut end file c → IsBetween ls (lines_of c) (lines_of file)
torn_cut file c ls end inside front are torn = record {
  begins = keeps_front file c ls end inside front are long old_byte;
  begun = prefix_lines_of c file (λ i lt. ⊎_elim (λ old. inr old) (λ (new : (end ≤ i) × (byte c i ≡ 0)). inl new.1) (torn.each i lt));
}
  where
    long : end ≤ length c
    long = omega (arith, torn.no_shorter, inside)

    old_byte : (i : ℕ) → i < end → byte c i ≡ byte file i
    old_byte i lt = ⊎_elim (λ old. old) (λ (new : (end ≤ i) × (byte c i ≡ 0)). absurd (omega (arith, new.0))) (torn.each i (omega (arith, long)))

pub cut_done : (file : List ℕ) (end : ℕ) → end ≤ length file → take end file ≡ text_of (lines_of (take end file)) → IsAtRest (take end file) end
cut_done file end inside front =
    let size = length_front file end inside in
    record {
      inside = omega (arith, size);
      front = take_all end (take end file) (omega (arith, size)) ∙ front;
      zeros = λ i far. get_or_past (take end file) i 0 (omega (arith, size));
    }

-- zeros after the lines, in whatever mixture they come
pub torn_zeros : (file zeros c : List ℕ) (end : ℕ) → IsAtRest file end → ((i : ℕ) → get_or zeros i 0 ≡ 0) → Mixed end zeros file c → lines_of c ≡ lines_of file
torn_zeros file zeros c end rest none torn =
    prefix_both (lines_of c) (lines_of file)
    (prefix_lines_of c file (λ i lt. ⊎_elim (λ old. inr old) (λ (new : (end ≤ i) × (i < end + length zeros) × (byte c i ≡ byte zeros (i - end))). inl (new.2 ∙ none (i - end))) (torn.each i lt)))
    (keeps_front file c (lines_of file) end rest.inside rest.front (lines_of_are file) long old_byte)
  where
    long : end ≤ length c
    long = omega (arith, torn.no_shorter, rest.inside)

    old_byte : (i : ℕ) → i < end → byte c i ≡ byte file i
    old_byte i lt = ⊎_elim (λ old. old) (λ (new : (end ≤ i) × (i < end + length zeros) × (byte c i ≡ byte zeros (i - end))). absurd (omega (arith, new.0))) (torn.each i (omega (arith, long)))

zeros-append : (xs ys : List ℕ) → ((i : ℕ) → get_or xs i 0 ≡ 0) → ((i : ℕ) → get_or ys i 0 ≡ 0) → (i : ℕ) → get_or (xs ++ ys) i 0 ≡ 0
zeros-append [] ys none nothing i = nothing i
zeros-append (x ∷ xs) ys none nothing zero = none zero
zeros-append (x ∷ xs) ys none nothing (suc i) = zeros-append xs ys (λ k. none (suc k)) nothing i

pub zeros_written : (file zeros new : List ℕ) (end : ℕ) → IsAtRest file end → ((i : ℕ) → get_or zeros i 0 ≡ 0) → Holds file end zeros new → IsAtRest new end × (lines_of new ≡ lines_of file)
zeros_written file zeros new end rest none holds = (record { inside = inside; front = front; zeros = zeros_after }, is)
  where
    size : length (text_of (lines_of file)) ≡ end
    size = ap length (sym rest.front) ∙ length_front file end rest.inside

    all_zeros : (i : ℕ) → get_or (zeros ++ drop (end + length zeros) file) i 0 ≡ 0
    all_zeros = zeros-append zeros (drop (end + length zeros) file) none
        (λ i. get_or-drop (end + length zeros) file i 0 ∙ rest.zeros (end + length zeros + i) (omega arith))

    parts : new ≡ text_of (lines_of file) ++ (zeros ++ drop (end + length zeros) file)
    parts = holds ∙ ap (λ l. l ++ zeros ++ drop (end + length zeros) file) rest.front ∙ append_assoc (text_of (lines_of file)) zeros (drop (end + length zeros) file)

    inside : end ≤ length new
    inside = omega (arith, size, ap length parts, length-append (text_of (lines_of file)) (zeros ++ drop (end + length zeros) file))

    is : lines_of new ≡ lines_of file
    is =
        ap lines_of parts
        ∙ lines_of-text_before (lines_of file) (zeros ++ drop (end + length zeros) file) (lines_of_are file)
        ∙ ap (λ l. lines_of file ++ l) (lines_of-zeros (zeros ++ drop (end + length zeros) file) all_zeros)
        ∙ append-nil (lines_of file)

    front : take end new ≡ text_of (lines_of new)
    front =
        ap (λ l. take end l) parts
        ∙ take_at (text_of (lines_of file)) (zeros ++ drop (end + length zeros) file) end size
        ∙ ap text_of (sym is)

    zeros_after : (i : ℕ) → end ≤ i → byte new i ≡ 0
    zeros_after i far =
        ap (λ l. get_or l i 0) parts
        ∙ get_or-append_right (text_of (lines_of file)) (zeros ++ drop (end + length zeros) file) end i 0 size far
        ∙ all_zeros (i - end)
