-- What is read of a file, and what stays of it.
use Rattle.std.proofs.Common.{◌≡◌, ℕ, Bool, true, false, List, [], ◌∷◌, ◌++◌, take, refl, ap, sym, ◌∙◌, subst}
use mathlib.Core.List.{IsPrefix}
use Rattle.hx_units.specs.Cuts.{Lacks}
use Rattle.hx_journal.specs.Lines.{IsLine, AreLines, lines_of, text_of}
use Rattle.hx_journal.specs.Records.{is_mark, records_of, sealed, recovered, ReadsAlike}
use Rattle.hx_journal.specs.Crashes.{IsBetween}
use Rattle.hx_journal.specs.Files.{HasFromTo}
use Rattle.hx_journal.specs.Openings.{IsRefusal, IsOpenCause}
use Rattle.hx_journal.specs.declared.open_error.OpenError.{OpenError}
use Rattle.hx_journal.specs.declared.open_error.OpenError.TheVariants.{Journal, Damaged, OtherHead}
use Rattle.hx_journal.proofs.Lines.{lines_of-text, lines_of_are}
use Rattle.hx_journal.proofs.Sealing.{sealed_prefix, no_record, prefix_records, reads_alike}
use Rattle.hx_journal.proofs.Copying.{first_line}
use Rattle.hx_units.proofs.Prefixes.{prefix_trans}

are_front : (front after : List (List ℕ)) → AreLines (front ++ after) → AreLines front
are_front [] after are = tt
are_front (line ∷ front) after are = (are.0, are_front front after are.1)

pub are_sealed : (file : List ℕ) → AreLines (sealed (lines_of file))
are_sealed file =
    let p = sealed_prefix (lines_of file) in
    are_front (sealed (lines_of file)) p.0 (subst AreLines (sym p.1) (lines_of_are file))

-- the lines of the whole blocks
pub lines_of_front : (file : List ℕ) (end : ℕ) → take end file ≡ text_of (sealed (lines_of file)) → lines_of (take end file) ≡ sealed (lines_of file)
lines_of_front file end front = ap lines_of front ∙ lines_of-text (sealed (lines_of file)) (are_sealed file)

pub front_text : (file : List ℕ) (end : ℕ) → take end file ≡ text_of (sealed (lines_of file)) → take end file ≡ text_of (lines_of (take end file))
front_text file end front = front ∙ ap text_of (sym (lines_of_front file end front))

-- no crash changes what is read, if the whole blocks stay and nothing is new
pub still_read : (file c : List ℕ) (end : ℕ) → take end file ≡ text_of (sealed (lines_of file)) → HasFromTo (lines_of (take end file)) (lines_of file) c → ReadsAlike file c
still_read file c end front between =
    reads_alike file c (subst (λ l. IsBetween l (lines_of c) (lines_of file)) (lines_of_front file end front) between)

pub nothing_read : (file c : List ℕ) → sealed (lines_of file) ≡ [] → HasFromTo [] (lines_of file) c → ReadsAlike file c
nothing_read file c none between = reads_alike file c (subst (λ l. IsBetween l (lines_of c) (lines_of file)) (sym none) between)

nothing_before : (xs : List (List ℕ)) → IsPrefix xs [] → xs ≡ []
nothing_before [] p = refl
nothing_before (x ∷ xs) p = absurd (cc (p.1))

-- nor if a file without blocks gets its first line
pub head_read : (file head c : List ℕ) → sealed (lines_of file) ≡ [] → is_mark head ≡ true → HasFromTo [] (head ∷ []) c → ReadsAlike file c
head_read file head c none mark between =
    let all : IsPrefix (sealed (lines_of c)) (head ∷ []) = prefix_trans (sealed (lines_of c)) (lines_of c) (head ∷ []) (sealed_prefix (lines_of c)) between.begun in
    nothing_before (recovered c) (subst (λ (l : List (List ℕ)). IsPrefix (recovered c) l) (no_record head mark) (prefix_records (sealed (lines_of c)) (head ∷ []) all))
    ∙ sym (ap records_of none)

-- a text that begins with a line has it as its first
pub first_is : (file : List ℕ) (end : ℕ) (line rest : List ℕ) → take end file ≡ text_of (sealed (lines_of file)) → Lacks 10 line → take end file ≡ line ++ 10 ∷ rest → IsPrefix (line ∷ []) (sealed (lines_of file))
first_is file end line rest front lacks cut =
    let first = first_line (sealed (lines_of file)) line rest (are_sealed file) lacks (sym front ∙ cut) in
    (first.0, sym first.1)

pub no_text : (ls : List (List ℕ)) → [] ≡ text_of ls → ls ≡ []
no_text [] e = refl
no_text ([] ∷ ls) e = absurd (cc (e))
no_text ((b ∷ line) ∷ ls) e = absurd (cc (e))

-- no byte of blocks, no block
pub no_blocks : (file : List ℕ) (end : ℕ) → end ≡ 0 → take end file ≡ text_of (sealed (lines_of file)) → sealed (lines_of file) ≡ []
no_blocks file end none front = no_text (sealed (lines_of file)) (sym (ap (λ (n : ℕ). take n file) none) ∙ front)

-- a refusal is no fault
pub refusal_cause : (before now : ℕ) (error : OpenError) → IsRefusal error → IsOpenCause before now error
refusal_cause before now (Journal error) is = absurd is
refusal_cause before now (Damaged at) is = tt
refusal_cause before now (OtherHead part) is = tt

record_stays : (line : List ℕ) (lines : List (List ℕ)) (mark : Bool) → is_mark line ≡ mark → IsLine line → AreLines (records_of lines) → AreLines (records_of (line ∷ lines))
record_stays line lines true is line_is rest =
    let none : records_of (line ∷ lines) ≡ records_of lines = rw is refl in subst AreLines (sym none) rest
record_stays line lines false is line_is rest =
    let some : records_of (line ∷ lines) ≡ line ∷ records_of lines = rw is refl in subst AreLines (sym some) (line_is, rest)

are_records : (lines : List (List ℕ)) → AreLines lines → AreLines (records_of lines)
are_records [] are = tt
are_records (line ∷ lines) are = record_stays line lines (is_mark line) refl are.0 (are_records lines are.1)

-- the lines of the tape are the records
pub tape_lines : (file tape : List ℕ) → tape ≡ text_of (recovered file) → lines_of tape ≡ recovered file
tape_lines file tape is = ap lines_of is ∙ lines_of-text (recovered file) (are_records (sealed (lines_of file)) (are_sealed file))
