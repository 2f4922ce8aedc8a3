-- The lines of a text and their words, one line at a time.
use Rattle.std.proofs.Common.{◌≡◌, ℕ, ◌<◌, Bool, List, [], ◌∷◌, ◌++◌, length, take, ◌-◌, Option, Some, None, eqb, true, false, inl, inr, refl, sym, ap, ◌∙◌, subst, append_assoc, arith}
use Rattle.std.specs.Prelude.{◌≢◌, IfSome, OnErr, Result, Ok, Err}
use Rattle.std.specs.Io.{StopsAt}
use Rattle.std.specs.Io.KnownBytes.{Consumes, Appends}
use Rattle.std.specs.Io.BufRead.{take_through}
use Rattle.std.proofs.KnownBytes.{Consumes-trans, Appends-trans, Appends-nil}
use Rattle.std.proofs.lemmas.Bool.{ne_eqb, eqb-true, cond-true, cond-false, cases_Bool}
use Rattle.std.proofs.lemmas.List.{append-nil, nil_from_length, length-append, take-append-le, take_all}
use Rattle.std.proofs.lemmas.List.Elements.{All-nil, All-head, All-tail, All-push}
use Rattle.hx_units.specs.Cuts.{Lacks}
use Rattle.hx_show.specs.declared.choice.Choice.{Choice}
use Rattle.hx_show.specs.Lines.{shown_line}
use Rattle.hx_units.specs.Writing.{Writes}
use Rattle.hx_show.specs.Showing.{lines_in, shown, IsAllOf, ReadsLine, IsCut, ShowsAll, ShowsSome}

-- ---- the lines of a text

-- a line with its line feed is the first
pub line_first : (l more : List ℕ) → Lacks 10 l → lines_in (l ++ 10 ∷ more) ≡ l ∷ lines_in more
line_first [] more p = refl
line_first (b ∷ l) more p = rw (ne_eqb b 10 (All-head (λ n. n ≢ 10) b l p), line_first l more (All-tail (λ n. n ≢ 10) b l p)) refl

-- bytes without a line feed are one line
pub line_last : (b : ℕ) (l : List ℕ) → Lacks 10 (b ∷ l) → lines_in (b ∷ l) ≡ (b ∷ l) ∷ []
line_last b [] p = rw (ne_eqb b 10 (All-head (λ n. n ≢ 10) b [] p)) refl
line_last b (c ∷ l) p = rw (ne_eqb b 10 (All-head (λ n. n ≢ 10) b (c ∷ l) p), line_last c l (All-tail (λ n. n ≢ 10) b (c ∷ l) p)) refl

pub shown_first : (choice : Choice) (l more : List ℕ) → Lacks 10 l → shown choice (l ++ 10 ∷ more) ≡ shown_line choice l ++ shown choice more
shown_first choice l more p = rw (line_first l more p) refl

pub shown_last : (choice : Choice) (l : List ℕ) → Lacks 10 l → 0 < length l → shown choice l ≡ shown_line choice l
shown_last choice [] p some = absurd (omega (arith, some))
shown_last choice (b ∷ l) p some = rw (line_last b l p) (append-nil (shown_line choice (b ∷ l)))

-- what a reader takes to a line feed is all, if it has none
pub take_through_all : (xs : List ℕ) → Lacks 10 (take_through 10 xs) → xs ≡ take_through 10 xs
take_through_all [] p = refl
take_through_all (x ∷ xs) p = elim (cases_Bool (eqb x 10)) [
  | inl e ↦
      let p' : Lacks 10 (x ∷ []) = rw (cond-true (eqb x 10) (x ∷ []) (x ∷ take_through 10 xs) e) at p in
      absurd (All-head (λ n. n ≢ 10) x [] p' (eqb-true x 10 e))
  | inr e ↦
      let p' : Lacks 10 (x ∷ take_through 10 xs) = rw (cond-false (eqb x 10) (x ∷ []) (x ∷ take_through 10 xs) e) at p in
      let rest = take_through_all xs (All-tail (λ n. n ≢ 10) x (take_through 10 xs) p') in
      ap (λ (ys : List ℕ). x ∷ ys) rest ∙ sym (cond-false (eqb x 10) (x ∷ []) (x ∷ take_through 10 xs) e)
]

-- ---- how far a text was shown

-- whole lines were read, and their words were written
pub record SoFar (choice : Choice) (r s w v : Option (List ℕ)) : Type 0 where
  pub text : List ℕ
  pub read : Consumes r s text
  pub written : List ℕ
  pub wrote : Appends w v written
  pub whole : (more : List ℕ) → shown choice (text ++ more) ≡ written ++ shown choice more

-- one line more
pub so_far_more : (choice : Choice) (r s s' w v v' : Option (List ℕ)) (line : List ℕ) → SoFar choice r s w v → Lacks 10 line → Consumes s s' (line ++ 10 ∷ []) → Appends v v' (shown_line choice line) → SoFar choice r s' w v'
so_far_more choice r s s' w v v' line f lacks read wrote = record {
  text = f.text ++ (line ++ 10 ∷ []);
  read = Consumes-trans r s s' f.text (line ++ 10 ∷ []) f.read read;
  written = f.written ++ shown_line choice line;
  wrote = Appends-trans w v v' f.written (shown_line choice line) f.wrote wrote;
  whole = λ more.
      ap (shown choice) (append_assoc f.text (line ++ 10 ∷ []) more ∙ ap (λ (x : List ℕ). f.text ++ x) (append_assoc line (10 ∷ []) more))
      ∙ f.whole (line ++ 10 ∷ more)
      ∙ ap (λ (x : List ℕ). f.written ++ x) (shown_first choice line more lacks)
      ∙ sym (append_assoc f.written (shown_line choice line) (shown choice more));
}

-- all that was left is all
all_after : (r s : Option (List ℕ)) (text bytes : List ℕ) → Consumes r s text → IsAllOf s bytes → IsAllOf r (text ++ bytes)
all_after None s text bytes read all = tt
all_after (Some xs) None text bytes read all = absurd read
all_after (Some xs) (Some ys) text bytes read all = read ∙ ap (λ (x : List ℕ). text ++ x) all

-- ---- a fault

-- bytes after a text, whose words come after its words
pub shows_some : (choice : Choice) (r s s' w v v' : Option (List ℕ)) (part front rest : List ℕ) → (f : SoFar choice r s w v) → Consumes s s' part → shown choice (f.text ++ part) ≡ f.written ++ (front ++ rest) → Appends v v' front → ShowsSome choice r s' w v'
shows_some choice r s s' w v v' part front rest f read words wrote = record {
  text = f.text ++ part;
  read = Consumes-trans r s s' f.text part f.read read;
  front = f.written ++ front;
  rest = rest;
  is_front = words ∙ sym (append_assoc f.written front rest);
  wrote = Appends-trans w v v' f.written front f.wrote wrote;
}

-- some bytes were read, and no more written
pub shows_read : (choice : Choice) (r s s' w v : Option (List ℕ)) (part : List ℕ) → SoFar choice r s w v → Consumes s s' part → ShowsSome choice r s' w v
shows_read choice r s s' w v part f read = shows_some choice r s s' w v v part [] (shown choice part) f read (f.whole part) (Appends-nil v)

-- ---- a line cut before its line feed

lacks_front : (front : List ℕ) (b : ℕ) → StopsAt (front ++ b ∷ []) 10 → Lacks 10 front
lacks_front front b stops =
    let size : length (front ++ b ∷ []) - 1 ≡ length front = omega (arith, length-append front (b ∷ [])) in
    let same : take (length (front ++ b ∷ []) - 1) (front ++ b ∷ []) ≡ front = ap (λ (n : ℕ). take n (front ++ b ∷ [])) size ∙ take-append-le (length front) front (b ∷ []) (omega arith) ∙ take_all (length front) front (omega arith) in
    subst (Lacks 10) same stops

pub cut_fed : (line front : List ℕ) (b : ℕ) → StopsAt line 10 → line ≡ front ++ b ∷ [] → b ≡ 10 → IsCut line front true
cut_fed line front b stops is feed = record {
  line_is = is ∙ ap (λ (x : ℕ). front ++ x ∷ []) feed;
  lacks = lacks_front front b (subst (λ (x : List ℕ). StopsAt x 10) is stops);
}

pub cut_unfed : (line front : List ℕ) (b : ℕ) → StopsAt line 10 → line ≡ front ++ b ∷ [] → (b ≡ 10 → ⊥) → IsCut line line false
cut_unfed line front b stops is other = record {
  line_is = refl;
  lacks = subst (Lacks 10) (sym is) (All-push (λ n. n ≢ 10) front b (lacks_front front b (subst (λ (x : List ℕ). StopsAt x 10) is stops)) other);
}

-- ---- one line

-- a line without a line feed is all that was left
left : (s : Option (List ℕ)) (line : List ℕ) → IfSome s (λ xs. line ≡ take_through 10 xs) → Lacks 10 line → IsAllOf s line
left None line is lacks = tt
left (Some xs) line is lacks = take_through_all xs (subst (Lacks 10) is lacks) ∙ sym is

-- the words of what was read with this line
words_after : (choice : Choice) (r s w v : Option (List ℕ)) (line front : List ℕ) (fed : Bool) → (f : SoFar choice r s w v) → IsCut line front fed → 0 < length line → shown choice (f.text ++ line) ≡ f.written ++ shown_line choice front
words_after choice r s w v line front true f cut some =
    f.whole line ∙ ap (λ (x : List ℕ). f.written ++ x) (ap (shown choice) cut.line_is ∙ shown_first choice front [] cut.lacks ∙ append-nil (shown_line choice front))
words_after choice r s w v line front false f cut some =
    f.whole line ∙ ap (λ (x : List ℕ). f.written ++ x) (ap (shown choice) cut.line_is ∙ shown_last choice front cut.lacks (omega (arith, some, ap length cut.line_is)))

-- a line was read, and not shown
pub shows_unwritten : (choice : Choice) (r s s' w v : Option (List ℕ)) (line : List ℕ) → SoFar choice r s w v → ReadsLine s s' line → ShowsSome choice r s' w v
shows_unwritten choice r s s' w v line f read = shows_read choice r s s' w v line f read.read

-- a line was read, and a front of its words was written
pub shows_front : (choice : Choice) (r s s' w v v' : Option (List ℕ)) (line front : List ℕ) (fed : Bool) (words rest : List ℕ) → SoFar choice r s w v → ReadsLine s s' line → IsCut line front fed → 0 < length line → words ≡ shown_line choice front → Writes v v' words rest → ShowsSome choice r s' w v'
shows_front choice r s s' w v v' line front fed words rest f read cut some is wrote =
    shows_some choice r s s' w v v' line wrote.front rest f read.read
    (words_after choice r s w v line front fed f cut some ∙ ap (λ (x : List ℕ). f.written ++ x) (sym is ∙ wrote.bytes_are)) wrote.wrote

-- nothing was left to read
pub shows_all : (choice : Choice) (r s s' w v : Option (List ℕ)) (line : List ℕ) → SoFar choice r s w v → ReadsLine s s' line → length line ≡ 0 → ShowsAll choice r s' w v
shows_all choice r s s' w v line f read none =
    let empty : line ≡ [] = nil_from_length line none in
    let lacks : Lacks 10 line = subst (Lacks 10) (sym empty) (All-nil (λ n. n ≢ 10)) in
    record {
      text = f.text ++ line;
      read = Consumes-trans r s s' f.text line f.read read.read;
      all = all_after r s f.text line f.read (left s line read.line_is lacks);
      wrote = subst (Appends w v) (sym (ap (λ (x : List ℕ). shown choice (f.text ++ x)) empty ∙ f.whole [] ∙ append-nil f.written)) f.wrote;
    }

-- the last line had no line feed, and its words were written
pub shows_last : (choice : Choice) (r s s' w v v' : Option (List ℕ)) (line front words : List ℕ) → SoFar choice r s w v → ReadsLine s s' line → IsCut line front false → 0 < length line → words ≡ shown_line choice front → Appends v v' words → ShowsAll choice r s' w v'
shows_last choice r s s' w v v' line front words f read cut some is wrote = record {
  text = f.text ++ line;
  read = Consumes-trans r s s' f.text line f.read read.read;
  all = all_after r s f.text line f.read (left s line read.line_is (subst (Lacks 10) (sym cut.line_is) cut.lacks));
  wrote = subst (Appends w v') (sym (words_after choice r s w v line front false f cut some ∙ ap (λ (x : List ℕ). f.written ++ x) (sym is))) (Appends-trans w v v' f.written words f.wrote wrote);
}

-- one line more
pub so_far_line : (choice : Choice) (r s s' w v v' : Option (List ℕ)) (line front words : List ℕ) → SoFar choice r s w v → ReadsLine s s' line → IsCut line front true → words ≡ shown_line choice front → Appends v v' words → SoFar choice r s' w v'
so_far_line choice r s s' w v v' line front words f read cut is wrote =
    so_far_more choice r s s' w v v' front f cut.lacks (subst (Consumes s s') cut.line_is read.read) (subst (Appends v v') is wrote)

-- what holds of a fault
pub on_err : {T E : Type 0} (r : Result T E) (P : Type 0) → P → OnErr r P
on_err (Ok x) P p = tt
on_err (Err e) P p = p
