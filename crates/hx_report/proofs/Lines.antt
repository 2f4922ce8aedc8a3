-- The lines of a text, cut off one by one.
use Rattle.std.proofs.Common.{◌≡◌, ◌≢◌, ℕ, Bool, true, false, not, ◌&&◌, eqb, List, [], ◌∷◌, ◌++◌, refl, sym, ap, ◌∙◌, subst, append-nil, append_assoc}
use Rattle.std.specs.List.{concat, starts_with}
use Rattle.std.specs.Cmp.Lexicographic.{pointwise}
use Rattle.std.proofs.lemmas.Bool.{eqb-true}
use Rattle.std.proofs.lemmas.List.Elements.{All-head, All-tail}
use Rattle.std.proofs.lemmas.Slice.Eq.{bytes_eq-Decides}
use Rattle.hx_units.specs.Cuts.{Lacks}
use Rattle.hx_units.proofs.Splits.{same_split, none_split}
use Rattle.hx_replay.specs.Grep.{lines_in, begins_with}
use Rattle.hx_report.specs.Looks.{Pick, seen_lines, seen_text}
use Rattle.hx_report.specs.Comparing.{Ends, EndsSo, FirstLine, NextLine}
use Rattle.hx_report.specs.Comparing.Ends.{ByFeed, WithText}

-- a byte that is no line feed stands in front of the first line
off : (b : ℕ) → b ≢ 10 → eqb b 10 ≡ false
off b h = at (eqb b 10) refl
  where
    at : (c : Bool) → eqb b 10 ≡ c → eqb b 10 ≡ false
    at true e = absurd (h (eqb-true b 10 e))
    at false e = e

fed_lines : (body others : List ℕ) → Lacks 10 body → lines_in (body ++ 10 ∷ others) ≡ (body ++ 10 ∷ []) ∷ lines_in others
fed_lines [] others h = refl
fed_lines (b ∷ body) others h =
    rw (off b (All-head (λ n. n ≢ 10) b body h), fed_lines body others (All-tail (λ n. n ≢ 10) b body h)) refl

last_lines : (b : ℕ) (line : List ℕ) → Lacks 10 (b ∷ line) → lines_in (b ∷ line) ≡ (b ∷ line) ∷ []
last_lines b [] h = rw (off b (All-head (λ n. n ≢ 10) b [] h)) refl
last_lines b (c ∷ line) h =
    rw (off b (All-head (λ n. n ≢ 10) b (c ∷ line) h), last_lines c line (All-tail (λ n. n ≢ 10) b (c ∷ line) h)) refl

not_empty : (body : List ℕ) → (body ++ 10 ∷ []) ≡ [] → ⊥
not_empty [] e = absurd (let z : 10 ∷ [] ≡ [] = e in cc)
not_empty (b ∷ body) e = absurd (let z : b ∷ (body ++ 10 ∷ []) ≡ [] = e in cc)

-- ---- the first line

pub fed_first : (text line body others : List ℕ) → text ≡ body ++ 10 ∷ others → Lacks 10 body → line ≡ body ++ 10 ∷ [] → FirstLine text line others
fed_first text line body others cut lacks is = record {
  lines = ap lines_in cut ∙ fed_lines body others lacks ∙ ap (λ (l : List ℕ). l ∷ lines_in others) (sym is);
  some = λ e. not_empty body (sym is ∙ e);
  end = ByFeed body;
  ends = (is, lacks);
}

pub last_first : (text : List ℕ) → text ≢ [] → Lacks 10 text → FirstLine text text []
last_first [] some lacks = absurd (some refl)
last_first (b ∷ text) some lacks = record {
  lines = last_lines b text lacks;
  some = some;
  end = WithText;
  ends = (refl, lacks);
}

-- ---- the next chosen line

pub next_text : (pick : Pick) (text line others : List ℕ) → NextLine pick text line others → seen_text pick text ≡ line ++ seen_text pick others
next_text pick text line others n = ap concat n.lines

-- ---- two lines of which one text begins with the one and with the other

-- after a line that ends with its text nothing is chosen
none_after : (pick : Pick) (others : List ℕ) → others ≡ [] → seen_text pick others ≡ []
none_after pick others e = ap (seen_text pick) e

pub one_line : (pick : Pick) (a b as' bs : List ℕ) (e f : Ends) → EndsSo a as' e → EndsSo b bs f → a ++ seen_text pick as' ≡ b ++ seen_text pick bs → a ≡ b
one_line pick a b as' bs (ByFeed x) (ByFeed y) p q same =
    let cut : x ++ 10 ∷ seen_text pick as' ≡ y ++ 10 ∷ seen_text pick bs =
    sym (append_assoc x (10 ∷ []) (seen_text pick as')) ∙ ap (λ (l : List ℕ). l ++ seen_text pick as') (sym p.0) ∙ same
    ∙ ap (λ (l : List ℕ). l ++ seen_text pick bs) q.0 ∙ append_assoc y (10 ∷ []) (seen_text pick bs) in
    p.0 ∙ ap (λ (l : List ℕ). l ++ 10 ∷ []) (same_split 10 x (seen_text pick as') y (seen_text pick bs) p.1 q.1 cut).0 ∙ sym q.0
one_line pick a b as' bs (ByFeed x) WithText p q same =
    let cut : x ++ 10 ∷ seen_text pick as' ≡ b =
    sym (append_assoc x (10 ∷ []) (seen_text pick as')) ∙ ap (λ (l : List ℕ). l ++ seen_text pick as') (sym p.0) ∙ same
    ∙ ap (λ (l : List ℕ). b ++ l) (none_after pick bs q.0) ∙ append-nil b in
    absurd (none_split 10 x (seen_text pick as') (subst (Lacks 10) (sym cut) q.1))
one_line pick a b as' bs WithText (ByFeed y) p q same =
    let cut : y ++ 10 ∷ seen_text pick bs ≡ a =
    sym (append_assoc y (10 ∷ []) (seen_text pick bs)) ∙ ap (λ (l : List ℕ). l ++ seen_text pick bs) (sym q.0) ∙ sym same
    ∙ ap (λ (l : List ℕ). a ++ l) (none_after pick as' p.0) ∙ append-nil a in
    absurd (none_split 10 y (seen_text pick bs) (subst (Lacks 10) (sym cut) p.1))
one_line pick a b as' bs WithText WithText p q same =
    sym (append-nil a) ∙ ap (λ (l : List ℕ). a ++ l) (sym (none_after pick as' p.0)) ∙ same
    ∙ ap (λ (l : List ℕ). b ++ l) (none_after pick bs q.0) ∙ append-nil b

-- what is left once one line is taken off in front of both
off_front : (a x y : List ℕ) → a ++ x ≡ a ++ y → x ≡ y
off_front [] x y e = e
off_front (b ∷ a) x y e = off_front a x y (let z : b ∷ (a ++ x) ≡ b ∷ (a ++ y) = e in cc)

-- ---- two texts, line by line

-- both have the same lines if what is left of them has, and are one text only then
pub record Meet (pick : Pick) (day struck ahead rest : List ℕ) : Type 0 where
  pub then_same : seen_lines pick rest ≡ seen_lines pick ahead → seen_lines pick struck ≡ seen_lines pick day
  pub only_then : seen_text pick struck ≡ seen_text pick day → seen_text pick rest ≡ seen_text pick ahead

pub meets_on : (pick : Pick) (day struck ahead rest line theirs others after : List ℕ) → Meet pick day struck ahead rest → NextLine pick rest line others → NextLine pick ahead theirs after
    → theirs ≡ line → Meet pick day struck after others
meets_on pick day struck ahead rest line theirs others after m n o same =
    let left : seen_text pick rest ≡ line ++ seen_text pick others = next_text pick rest line others n in
    let right : seen_text pick ahead ≡ line ++ seen_text pick after = next_text pick ahead theirs after o ∙ ap (λ (l : List ℕ). l ++ seen_text pick after) same in
    record {
      then_same = λ e. m.then_same (n.lines ∙ ap (λ (l : List (List ℕ)). line ∷ l) e ∙ sym (o.lines ∙ ap (λ (l : List ℕ). l ∷ seen_lines pick after) same));
      only_then = λ e. off_front line (seen_text pick others) (seen_text pick after) (sym left ∙ m.only_then e ∙ right);
    }

pub differ_in_line : (pick : Pick) (day struck ahead rest line theirs others after : List ℕ) → Meet pick day struck ahead rest → NextLine pick rest line others → NextLine pick ahead theirs after
    → (theirs ≡ line → ⊥) → seen_text pick struck ≡ seen_text pick day → ⊥
differ_in_line pick day struck ahead rest line theirs others after m n o other e =
    other
    (sym
    (one_line pick line theirs others after n.end o.end n.ends o.ends
    (sym (next_text pick rest line others n) ∙ m.only_then e ∙ next_text pick ahead theirs after o)))

-- ---- how a line begins

pub begins_so : (p s : List ℕ) → starts_with eqb s p ≡ begins_with p s
begins_so [] [] = refl
begins_so [] (c ∷ s) = refl
begins_so (b ∷ p) [] = refl
begins_so (b ∷ p) (c ∷ s) = ap (λ (x : Bool). eqb b c && x) (begins_so p s)

-- ---- lines that are compared

pub are_one : (a b : List ℕ) → not (pointwise eqb a b) ≡ false → a ≡ b
are_one a b h = at (pointwise eqb a b) refl h
  where
    at : (c : Bool) → pointwise eqb a b ≡ c → not c ≡ false → a ≡ b
    at true e p = (bytes_eq-Decides a b).0 e
    at false e p = absurd (let z : true ≡ false = p in cc)

pub are_two : (a b : List ℕ) → not (pointwise eqb a b) ≡ true → a ≡ b → ⊥
are_two a b h e = absurd (let z : false ≡ true = ap not (sym ((bytes_eq-Decides a b).1 e)) ∙ h in cc)
