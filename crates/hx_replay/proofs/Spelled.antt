-- Output, spelled line by line and written.
use Rattle.std.proofs.Common.{◌≡◌, ℕ, ◌+◌, ◌<◌, ◌≤◌, List, [], ◌∷◌, ◌++◌, length, drop, get_or, Option, sym, ap, ◌∙◌, subst, append_assoc, add-one, drop-cons, length-drop, arith}
use Rattle.std.specs.Io.KnownBytes.{Appends}
use Rattle.std.proofs.KnownBytes.{Appends-nil, Appends-trans}
use Rattle.std.proofs.lemmas.List.{append-nil, nil_from_length}
use Rattle.hx_itch.specs.declared.message.Feed.{Feed}
use Rattle.hx_market.specs.Outputs.{Reply}
use Rattle.hx_replay.specs.declared.unwritten.Mark.{Mark}
use Rattle.hx_replay.specs.Marks.{lines_of}
use Rattle.hx_replay.specs.Seen.{texts_of}
use Rattle.hx_units.specs.Writing.{Writes}

pub writes_then : (a b c : Option (List ℕ)) (bytes rest left : List ℕ) → Writes a b bytes rest → Writes b c rest left → Writes a c bytes left
writes_then a b c bytes rest left h k = record {
  front = h.front ++ k.front;
  bytes_are = h.bytes_are ∙ ap (λ (x : List ℕ). h.front ++ x) k.bytes_are ∙ sym (append_assoc h.front k.front left);
  wrote = Appends-trans a b c h.front k.front h.wrote k.wrote;
}

-- all of a text is written after a front of it
pub writes_whole : (a b c : Option (List ℕ)) (bytes rest : List ℕ) → Writes a b bytes rest → Appends b c rest → Appends a c bytes
writes_whole a b c bytes rest h more = subst (Appends a c) (sym h.bytes_are) (Appends-trans a b c h.front rest h.wrote more)

pub writes_from : (a b : Option (List ℕ)) (bytes : List ℕ) → Appends a b bytes → Writes a b bytes []
writes_from a b bytes h = record { front = bytes; bytes_are = sym (append-nil bytes); wrote = h }

-- of all these lines this text is left, and the text before it is written except for the spelled part
pub record IsSpelled (w v : Option (List ℕ)) (all left spelled : List ℕ) : Type 0 where
  pub wrote : Writes w v all (spelled ++ left)

-- one line more
pub spelled_one : (w v : Option (List ℕ)) (all now left spelled more : List ℕ) → IsSpelled w v all (now ++ left) spelled → more ≡ spelled ++ now → IsSpelled w v all left more
spelled_one w v all now left spelled more h one = record {
  wrote = subst (Writes w v all) (sym (append_assoc spelled now left) ∙ ap (λ (t : List ℕ). t ++ left) (sym one)) h.wrote;
}

-- some of what is spelled is written
pub spelled_less : (w v u : Option (List ℕ)) (all left spelled rest : List ℕ) → IsSpelled w v all left spelled → Writes v u spelled rest → IsSpelled w u all left rest
spelled_less w v u all left spelled rest h some = record {
  wrote = writes_then w v u all (spelled ++ left) (rest ++ left) h.wrote
      (record {
        front = some.front;
        bytes_are = ap (λ (t : List ℕ). t ++ left) some.bytes_are ∙ append_assoc some.front rest left;
        wrote = some.wrote;
      });
}

-- the mark at an index is the first of those from there on
pub mark_first : (xs : List Mark) (i : ℕ) (x : Mark) → i < length xs → drop i xs ≡ get_or xs i x ∷ drop (i + 1) xs
mark_first xs i x below = rw add-one (drop-cons xs i x below)

-- no mark is left
pub spelled_all : (w v : Option (List ℕ)) (all : List ℕ) (marks : List Mark) (i : ℕ) (feed : List Feed) (replies : List Reply) (spelled : List ℕ)
    → length marks ≤ i → IsSpelled w v all (texts_of (lines_of (drop i marks) feed replies)) spelled → Writes w v all spelled
spelled_all w v all marks i feed replies spelled after h =
    let none : drop i marks ≡ [] = nil_from_length (drop i marks) (omega (arith, length-drop i marks)) in
    subst (Writes w v all) (ap (λ (l : List Mark). spelled ++ texts_of (lines_of l feed replies)) none ∙ append-nil spelled) h.wrote
