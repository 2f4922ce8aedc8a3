-- What a journal's calls do to its records.
use Rattle.std.proofs.Common.{◌≡◌, inl, inr, ⊎_elim, ℕ, true, false, ◌+◌, List, [], ◌∷◌, ◌++◌, length, refl, ap, sym, ◌∙◌, subst, arith, append_assoc, length-append}
use Rattle.std.proofs.lemmas.List.{append-nil}
use Rattle.hx_disk.specs.Device.{LeavesOnly}
use Rattle.hx_journal.specs.Lines.{lines_of}
use Rattle.hx_journal.specs.Records.{is_mark, records_of, sealed, recovered}
use Rattle.hx_journal.specs.Crashes.{IsBetween, Leaves}
use Rattle.hx_journal.specs.Files.{LineFileState, stored, appended, HasFromTo, HasBetween}
use Rattle.hx_journal.specs.Blocks.{left_of}
use Rattle.hx_journal.proofs.Sealing.{recovers_between, keeps_sealed, sealed_prefix, sealed_mark, no_record, records_of-append, prefix_records}
use Rattle.hx_units.proofs.Prefixes.{prefix_self, prefix_trans}

-- a mark more: no record, and the blocks are whole
pub mark_added : (stored waiting : List (List ℕ)) (mark : List ℕ) → is_mark mark ≡ true → records_of (stored ++ (waiting ++ mark ∷ [])) ≡ records_of (stored ++ waiting)
mark_added stored waiting mark is =
    ap records_of (sym (append_assoc stored waiting (mark ∷ [])))
    ∙ records_of-append (stored ++ waiting) (mark ∷ [])
    ∙ ap (λ (l : List (List ℕ)). records_of (stored ++ waiting) ++ l) (no_record mark is)
    ∙ append-nil (records_of (stored ++ waiting))

pub block_whole : (stored waiting : List (List ℕ)) (mark : List ℕ) → is_mark mark ≡ true → sealed (stored ++ (waiting ++ mark ∷ [])) ≡ stored ++ (waiting ++ mark ∷ [])
block_whole stored waiting mark is =
    ap sealed (sym (append_assoc stored waiting (mark ∷ []))) ∙ sealed_mark (stored ++ waiting) mark is ∙ append_assoc stored waiting (mark ∷ [])

pub count_added : (stored waiting : List (List ℕ)) (mark : List ℕ) → is_mark mark ≡ true → records_of waiting ≡ waiting
    → length (records_of (stored ++ (waiting ++ mark ∷ []))) ≡ length (records_of stored) + length waiting
count_added stored waiting mark is only =
    ap length (mark_added stored waiting mark is ∙ records_of-append stored waiting ∙ ap (λ (l : List (List ℕ)). records_of stored ++ l) only)
    ∙ length-append (records_of stored) waiting

-- what files of lines leave, in records
pub in_records : {D : Type 0} (moment : D → ℕ) (left_since : D → ℕ → List ℕ → Type 0) (old new : D) (P : List ℕ → Type 0) (least most : List (List ℕ)) → LeavesOnly moment left_since old new P
    → ((c : List ℕ) → P c → IsBetween least (recovered c) most) → Leaves (moment old) (moment new) (left_of (left_since old)) (left_of (left_since new)) least most
in_records moment left_since old new P least most so_far so = record {
  later = so_far.later;
  each = λ t records le left.
      ⊎_elim (λ past. inl (left.0, past, left.2)) (λ p. inr (subst (λ (r : List (List ℕ)). IsBetween least r most) (sym left.2) (so left.0 p)))
      (so_far.before t left.0 le left.1);
}

-- what stands is between what is durable and what was appended
pub stands_between : (file : List ℕ) (waiting : List (List ℕ)) → sealed (lines_of file) ≡ lines_of file → IsBetween (records_of (lines_of file)) (recovered file) (records_of (lines_of file ++ waiting))
stands_between file waiting whole =
    subst (λ (l : List (List ℕ)). IsBetween (records_of (lines_of file)) (records_of l) (records_of (lines_of file ++ waiting))) (sym whole)
    (record { begins = prefix_self (records_of (lines_of file)); begun = prefix_records (lines_of file) (lines_of file ++ waiting) (waiting, refl) })

-- if nothing waits or no mark is written
pub recovers_old : (stored waiting : List (List ℕ)) (c : List ℕ) → sealed stored ≡ stored → IsBetween stored (lines_of c) (stored ++ waiting) → IsBetween (records_of stored) (recovered c) (records_of (stored ++ waiting))
recovers_old stored waiting c whole between = record {
  begins = prefix_records stored (sealed (lines_of c)) (keeps_sealed stored (lines_of c) between.begins whole);
  begun = prefix_records (sealed (lines_of c)) (stored ++ waiting) (prefix_trans (sealed (lines_of c)) (lines_of c) (stored ++ waiting) (sealed_prefix (lines_of c)) between.begun);
}

-- in the midst of a sync that writes a block
pub sealed_sync : {D : Type 0} (moment : D → ℕ) (left_since : D → ℕ → List ℕ → Type 0) (seen : D → List ℕ) (old mid : LineFileState D) (new : D) (mark : List ℕ) → sealed (stored seen old) ≡ stored seen old → is_mark mark ≡ true
    → mid.device ≡ old.device → mid.waiting ≡ old.waiting ++ mark ∷ [] → LeavesOnly moment left_since mid.device new (HasBetween seen mid)
    → Leaves (moment old.device) (moment new) (left_of (left_since old.device)) (left_of (left_since new)) (records_of (stored seen old)) (records_of (appended seen old))
sealed_sync moment left_since seen old mid new mark whole is device waits so_far =
    in_records moment left_since old.device new (HasFromTo (stored seen old) (stored seen old ++ (old.waiting ++ mark ∷ []))) (records_of (stored seen old)) (records_of (appended seen old)) here
    (λ f between. recovers_between (stored seen old) old.waiting mark f whole is between)
  where
    waiting : LeavesOnly moment left_since mid.device new (HasFromTo (lines_of (seen mid.device)) (lines_of (seen mid.device) ++ (old.waiting ++ mark ∷ [])))
    waiting = subst (λ (l : List (List ℕ)). LeavesOnly moment left_since mid.device new (HasFromTo (lines_of (seen mid.device)) (lines_of (seen mid.device) ++ l))) waits so_far

    here : LeavesOnly moment left_since old.device new (HasFromTo (stored seen old) (stored seen old ++ (old.waiting ++ mark ∷ [])))
    here = subst (λ d. LeavesOnly moment left_since d new (HasFromTo (lines_of (seen d)) (lines_of (seen d) ++ (old.waiting ++ mark ∷ [])))) device waiting
