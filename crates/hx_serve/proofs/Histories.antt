-- The tape of a history, entry by entry.
use Rattle.std.proofs.Common.{◌≡◌, ℕ, suc, ◌+◌, ◌<◌, sym, ap, ◌∙◌, List, [], ◌∷◌, ◌++◌, length, drop, get_or, add-one, append-nil, append_assoc}
use Rattle.std.proofs.Math.Seq.{drop-cons}
use Rattle.hx_units.specs.Letters.{line_feed}
use Rattle.hx_desk.specs.declared.entry.Entry.{Entry}
use Rattle.hx_tape_lines.specs.Text.{line}
use Rattle.hx_tape_lines.specs.Text.{entry_of_event}
use Rattle.hx_serve.specs.LastLine.{tape_of}

-- the line of an entry
abbrev line_of : Entry → List ℕ
line_of x = line (entry_of_event x.event) ++ line_feed ∷ []

-- the tape of one entry, and that of the entries after it
pub one_and_others : (x : Entry) (others : List Entry) → tape_of (x ∷ []) ++ tape_of others ≡ tape_of (x ∷ others)
one_and_others x others = ap (λ (l : List ℕ). l ++ tape_of others) (append-nil (line_of x))

-- what was written with one entry more, and the tape of the rest
pub one_more : (history : List Entry) (i : ℕ) (x : Entry) (front all : List ℕ) → i < length history → x ≡ get_or history i x → front ++ tape_of (drop i history) ≡ all
    → (front ++ tape_of (x ∷ [])) ++ tape_of (drop (i + 1) history) ≡ all
one_more history i x front all h e p =
    let rest : drop i history ≡ x ∷ drop (i + 1) history = rw (add-one, drop-cons history i x h) (ap (λ (y : Entry). y ∷ drop (suc i) history) (sym e)) in
    append_assoc front (tape_of (x ∷ [])) (tape_of (drop (i + 1) history))
    ∙ ap (λ (l : List ℕ). front ++ l) (one_and_others x (drop (i + 1) history))
    ∙ ap (λ (es : List Entry). front ++ tape_of es) (sym rest) ∙ p
