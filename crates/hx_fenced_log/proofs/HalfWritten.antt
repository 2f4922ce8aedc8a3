-- Records that are written to a mirror, one by one.
use Rattle.std.proofs.Common.{◌≡◌, ℕ, Bool, true, false, List, [], ◌∷◌, ◌++◌, refl, sym, ap, ◌∙◌, subst, append_assoc}
use Rattle.std.proofs.lemmas.List.{append-nil}
use Rattle.std.specs.List.{AllByRecursion}
use Rattle.hx_units.specs.Cuts.{Lacks}
use Rattle.hx_journal.specs.Lines.{AreLines, text_of, lines_of}
use Rattle.hx_journal.specs.Records.{IsRecord}
use Rattle.hx_journal.proofs.Copying.{first_line, no_lines}
use Rattle.hx_journal.proofs.Lines.{lines_of-text, text_of-append}
use Rattle.hx_fenced_log.specs.Mirrors.{Mirrors, IsOfRecords, IsHalfWritten, IsAsFar, IsInStep}

are_lines : (records : List (List ℕ)) → AllByRecursion IsRecord records → AreLines records
are_lines [] h = tt
are_lines (r ∷ records) h = (h.0.0, are_lines records h.1)

are_append : (front later : List (List ℕ)) → AllByRecursion IsRecord front → AllByRecursion IsRecord later → AllByRecursion IsRecord (front ++ later)
are_append [] later p q = q
are_append (r ∷ front) later p q = (p.0, are_append front later p.1 q)

-- the first of the others, of a rest that is cut after it
pub next_written : (before now then all : List (List ℕ)) (rest line later : List ℕ) → IsHalfWritten before now all rest → Lacks 10 line → rest ≡ line ++ 10 ∷ later
    → IsRecord line × (then ≡ now ++ line ∷ [] → IsHalfWritten before then all later)
next_written before now then all rest line later h ends cut =
    let first = first_line h.others line later (are_lines h.others h.records) ends (sym h.rest_is ∙ cut) in
    let others = first.0 in
    let is : h.others ≡ line ∷ others = first.1 in
    let good : AllByRecursion IsRecord (line ∷ others) = subst (AllByRecursion IsRecord) is h.records in (
      good.0,
      λ (e : then ≡ now ++ line ∷ []). record {
        others = others;
        rest_is = sym first.2;
        records = good.1;
        all_are = ap (λ (l : List (List ℕ)). l ++ others) e ∙ append_assoc now (line ∷ []) others ∙ ap (λ (l : List (List ℕ)). now ++ l) (sym is) ∙ h.all_are;
      },
    )

-- if the rest has no line, all are written
pub all_written : (before now all : List (List ℕ)) (rest : List ℕ) → IsHalfWritten before now all rest → Lacks 10 rest → now ≡ before ++ all
all_written before now all rest h none =
    sym (append-nil now) ∙ ap (λ (l : List (List ℕ)). now ++ l) (sym (no_lines h.others (subst (Lacks 10) h.rest_is none))) ∙ h.all_are

-- ---- the text that waits

-- a record more
pub waits_more : (text line more : List ℕ) → IsOfRecords text → IsRecord line → more ≡ text ++ line ++ 10 ∷ [] → IsOfRecords more × (lines_of more ≡ lines_of text ++ line ∷ [])
waits_more text line more h good is =
    let all = lines_of text ++ line ∷ [] in
    let spelled : text ++ line ++ 10 ∷ [] ≡ text_of all =
    ap (λ (l : List ℕ). l ++ line ++ 10 ∷ []) h.is ∙ append_assoc (text_of (lines_of text)) line (10 ∷ []) ∙ sym (text_of-append (lines_of text) (line ∷ [])) in
    let records : AllByRecursion IsRecord all = are_append (lines_of text) (line ∷ []) h.records (good, tt) in
    let lines : lines_of more ≡ all = ap lines_of (is ∙ spelled) ∙ lines_of-text all (are_lines all records) in
    (record { is = is ∙ spelled ∙ ap text_of (sym lines); records = subst (AllByRecursion IsRecord) (sym lines) records }, lines)

-- ---- what the mirror lacks

mirrors_same : {M : Type 0} (appended durable : M → List (List ℕ)) (is_open : M → Bool) (mirror : M) (old new : List (List ℕ)) → new ≡ old → Mirrors appended durable is_open mirror old → Mirrors appended durable is_open mirror new
mirrors_same appended durable is_open mirror old new same h = record { appended_is = h.appended_is ∙ sym same; durable_is = h.durable_is ∙ sym same; opened = h.opened }

module _ {J M : Type 0} (appended durable : J → List (List ℕ)) (mirrored mirror_durable : M → List (List ℕ)) (is_open : M → Bool) where
  -- a record more, which the journal has and the mirror lacks
  pub one_more : (old new : J) (mirror : M) (text line more : List ℕ) (in_step : Bool) → IsInStep appended durable mirrored mirror_durable is_open old mirror text in_step → IsRecord line → more ≡ text ++ line ++ 10 ∷ []
      → appended new ≡ appended old ++ line ∷ [] → durable new ≡ durable old → IsInStep appended durable mirrored mirror_durable is_open new mirror more in_step
  one_more old new mirror text line more in_step h good is more_appended same =
      let waits = waits_more text line more h.text good is in
      record {
        text = waits.0;
        as_far = λ step.
            let far = h.as_far step in
            record {
              appended_is =
                  more_appended ∙ ap (λ (l : List (List ℕ)). l ++ line ∷ []) far.appended_is ∙ append_assoc (durable old) (lines_of text) (line ∷ [])
                  ∙ ap (λ (l : List (List ℕ)). l ++ (lines_of text ++ line ∷ [])) (sym same) ∙ ap (λ (l : List (List ℕ)). durable new ++ l) (sym waits.1);
              mirrors = mirrors_same mirrored mirror_durable is_open mirror (durable old) (durable new) same far.mirrors;
            };
      }
