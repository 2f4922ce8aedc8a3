-- Lines up to the last mark.
use Rattle.std.proofs.Common.{◌≡◌, ℕ, Bool, true, false, List, [], ◌∷◌, ◌++◌, refl, ap, sym, ◌∙◌, subst, append_assoc}
use Rattle.std.proofs.lemmas.List.{append-nil}
use Rattle.std.proofs.lemmas.List.Elements.{filter-append}
use mathlib.Core.List.{IsPrefix}
use Rattle.hx_journal.specs.Lines.{lines_of}
use Rattle.hx_journal.specs.Records.{is_mark, records_of, sealed_with, sealed, recovered, ReadsAlike}
use Rattle.hx_journal.specs.Crashes.{IsBetween}
use Rattle.hx_units.proofs.Prefixes.{prefix_self, prefix_trans, prefix_both}

-- a line before lines that stay
before_some : (line : List ℕ) (front : List (List ℕ)) (next : List ℕ) (rest : List (List ℕ)) → sealed_with line (front ++ next ∷ rest) ≡ line ∷ front ++ next ∷ rest
before_some line [] next rest = refl
before_some line (x ∷ front) next rest = refl

-- a mark alone stays, and a record alone does not
mark_alone : (line : List ℕ) → is_mark line ≡ true → sealed_with line [] ≡ line ∷ []
mark_alone line is = rw is refl

record_alone : (line : List ℕ) → is_mark line ≡ false → sealed_with line [] ≡ []
record_alone line is = rw is refl

pub sealed_mark : (lines : List (List ℕ)) (mark : List ℕ) → is_mark mark ≡ true → sealed (lines ++ mark ∷ []) ≡ lines ++ mark ∷ []
sealed_mark [] mark is = mark_alone mark is
sealed_mark (line ∷ lines) mark is = ap (sealed_with line) (sealed_mark lines mark is) ∙ before_some line lines mark []

pub sealed_record : (lines : List (List ℕ)) (bytes : List ℕ) → is_mark bytes ≡ false → sealed (lines ++ bytes ∷ []) ≡ sealed lines
sealed_record [] bytes is = record_alone bytes is
sealed_record (line ∷ lines) bytes is = ap (sealed_with line) (sealed_record lines bytes is)

-- what stays of lines before others, of which these stay
joined : List (List ℕ) → List (List ℕ) → List (List ℕ)
joined front [] = sealed front
joined front (next ∷ rest) = front ++ next ∷ rest

joined_none : (stay : List (List ℕ)) → stay ≡ joined [] stay
unfolding joined
joined_none [] = refl
joined_none (next ∷ rest) = refl

joined_more : (line : List ℕ) (front stay : List (List ℕ)) → sealed_with line (joined front stay) ≡ joined (line ∷ front) stay
unfolding joined
joined_more line front [] = refl
joined_more line front (next ∷ rest) = before_some line front next rest

sealed-append : (front after : List (List ℕ)) → sealed (front ++ after) ≡ joined front (sealed after)
sealed-append [] after = joined_none (sealed after)
sealed-append (line ∷ front) after = ap (sealed_with line) (sealed-append front after) ∙ joined_more line front (sealed after)

alone_prefix : (line : List ℕ) (lines : List (List ℕ)) (mark : Bool) → is_mark line ≡ mark → IsPrefix (sealed_with line []) (line ∷ lines)
alone_prefix line lines true is = subst (λ l. IsPrefix l (line ∷ lines)) (sym (mark_alone line is)) (lines, refl)
alone_prefix line lines false is = subst (λ l. IsPrefix l (line ∷ lines)) (sym (record_alone line is)) (line ∷ lines, refl)

one_more : (line : List ℕ) (stay lines : List (List ℕ)) → IsPrefix stay lines → IsPrefix (sealed_with line stay) (line ∷ lines)
one_more line [] lines p = alone_prefix line lines (is_mark line) refl
one_more line (next ∷ rest) lines p = (p.0, ap (λ (l : List (List ℕ)). line ∷ l) p.1)

-- they are a beginning
pub sealed_prefix : (lines : List (List ℕ)) → IsPrefix (sealed lines) lines
sealed_prefix [] = ([], refl)
sealed_prefix (line ∷ lines) = one_more line (sealed lines) lines (sealed_prefix lines)

alone_again : (line : List ℕ) (mark : Bool) → is_mark line ≡ mark → sealed (sealed_with line []) ≡ sealed_with line []
alone_again line true is = ap sealed (mark_alone line is)
alone_again line false is = ap sealed (record_alone line is) ∙ sym (record_alone line is)

again : (line : List ℕ) (stay : List (List ℕ)) → sealed stay ≡ stay → sealed (sealed_with line stay) ≡ sealed_with line stay
again line [] is = alone_again line (is_mark line) refl
again line (next ∷ rest) is = ap (sealed_with line) is

-- and all of them stay
pub sealed_again : (lines : List (List ℕ)) → sealed (sealed lines) ≡ sealed lines
sealed_again [] = refl
sealed_again (line ∷ lines) = again line (sealed lines) (sealed_again lines)

begins_joined : (front stay : List (List ℕ)) → sealed front ≡ front → IsPrefix front (joined front stay)
unfolding joined
begins_joined front [] is = subst (λ l. IsPrefix front l) (sym is) (prefix_self front)
begins_joined front (next ∷ rest) is = (next ∷ rest, refl)

-- whole blocks in front stay
pub keeps_sealed : (front lines : List (List ℕ)) → IsPrefix front lines → sealed front ≡ front → IsPrefix front (sealed lines)
keeps_sealed front lines p is =
    subst (λ l. IsPrefix front (sealed l)) p.1 (subst (λ l. IsPrefix front l) (sym (sealed-append front p.0)) (begins_joined front (sealed p.0) is))

-- a beginning has a beginning of the records
pub prefix_records : (front lines : List (List ℕ)) → IsPrefix front lines → IsPrefix (records_of front) (records_of lines)
prefix_records front lines p = (records_of p.0, sym (filter-append _ front p.0) ∙ ap records_of p.1)

pub records_of-append : (xs ys : List (List ℕ)) → records_of (xs ++ ys) ≡ records_of xs ++ records_of ys
records_of-append xs ys = filter-append _ xs ys

pub no_record : (mark : List ℕ) → is_mark mark ≡ true → records_of (mark ∷ []) ≡ []
no_record mark is = rw is refl

-- the same records are read of lines between the whole blocks and all that is there
pub reads_alike : (file c : List ℕ) → IsBetween (sealed (lines_of file)) (lines_of c) (lines_of file) → ReadsAlike file c
reads_alike file c between =
    ap records_of (prefix_both (sealed (lines_of c)) (sealed (lines_of file))
    (keeps_sealed (sealed (lines_of c)) (lines_of file) (prefix_trans (sealed (lines_of c)) (lines_of c) (lines_of file) (sealed_prefix (lines_of c)) between.begun) (sealed_again (lines_of c)))
    (keeps_sealed (sealed (lines_of file)) (lines_of c) between.begins (sealed_again (lines_of file))))

-- in the midst of a block: all that is stored, and nothing but a beginning of that and the records that wait
pub recovers_between : (stored waiting : List (List ℕ)) (mark c : List ℕ) → sealed stored ≡ stored → is_mark mark ≡ true → IsBetween stored (lines_of c) (stored ++ (waiting ++ mark ∷ [])) → IsBetween (records_of stored) (recovered c) (records_of (stored ++ waiting))
recovers_between stored waiting mark c whole is between = record {
  begins = prefix_records stored (sealed (lines_of c)) (keeps_sealed stored (lines_of c) between.begins whole);
  begun = subst (λ l. IsPrefix (recovered c) l) all
      (prefix_records (sealed (lines_of c)) (stored ++ (waiting ++ mark ∷ [])) (prefix_trans (sealed (lines_of c)) (lines_of c) (stored ++ (waiting ++ mark ∷ [])) (sealed_prefix (lines_of c)) between.begun));
}
  where
    all : records_of (stored ++ (waiting ++ mark ∷ [])) ≡ records_of (stored ++ waiting)
    all =
        ap records_of (sym (append_assoc stored waiting (mark ∷ [])))
        ∙ records_of-append (stored ++ waiting) (mark ∷ [])
        ∙ ap (λ (l : List (List ℕ)). records_of (stored ++ waiting) ++ l) (no_record mark is)
        ∙ append-nil (records_of (stored ++ waiting))
