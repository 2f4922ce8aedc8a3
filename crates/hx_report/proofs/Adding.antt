-- Rows that are added one by one.
use Rattle.std.proofs.Common.{◌≡◌, ℕ, ◌+◌, ◌<◌, List, [], ◌∷◌, ◌++◌, map, length, take, sym, ap, ◌∙◌, subst, arith, length-append}
use Rattle.std.specs.List.{AllZip, slice_index_or}
use Rattle.std.proofs.lemmas.List.{take_more, get_or_default}
use Rattle.hx_members.specs.Setups.{Setup}
use Rattle.hx_members.specs.Member.{Member}
use Rattle.hx_audit.specs.declared.auditor.Whose.TheVariants.{Of}
use Rattle.hx_tape_lines.specs.Text.{Entry}
use Rattle.hx_tape_lines.specs.Events.{event_of}
use Rattle.hx_report.specs.declared.looks.Look.TheVariants.{AllBut}
use Rattle.hx_report.specs.declared.rows.Row.{Row}
use Rattle.hx_report.specs.Counts.{IsTally}
use Rattle.hx_report.specs.Days.{IsCheck}
use Rattle.hx_report.specs.Reports.{IsRow}

push : (setup : Setup) (es : List Entry) (ms : List Member) (rows : List Row) (m : Member) (row : Row) → AllZip (IsRow setup es) ms rows → IsRow setup es m row
    → AllZip (IsRow setup es) (ms ++ m ∷ []) (rows ++ row ∷ [])
push setup es [] [] m row h r = (r, tt)
push setup es [] (b ∷ rows) m row h r = absurd h
push setup es (a ∷ ms) [] m row h r = absurd h
push setup es (a ∷ ms) (b ∷ rows) m row h r = (h.0, push setup es ms rows m row h.1 r)

pub row_more : (setup : Setup) (es : List Entry) (members : List Member) (rows next : List Row) (row : Row) (index : ℕ) → length rows ≡ index → index < length members
    → ((d : Member) → IsRow setup es (slice_index_or members index d) row) → next ≡ rows ++ row ∷ []
    → AllZip (IsRow setup es) (take (length rows) members) rows → AllZip (IsRow setup es) (take (length next) members) next
row_more setup es [] rows next row index size lt is more h = absurd (omega (arith, lt))
row_more setup es (m ∷ members) rows next row index size lt is more h =
    let longer : length next ≡ index + 1 = ap length more ∙ length-append rows (row ∷ []) ∙ ap (λ n. n + 1) size in
    let one : AllZip (IsRow setup es) (take (index + 1) (m ∷ members)) (rows ++ row ∷ []) =
    subst (λ (l : List Member). AllZip (IsRow setup es) l (rows ++ row ∷ [])) (sym (take_more (m ∷ members) index m lt))
    (push setup es (take index (m ∷ members)) rows (slice_index_or (m ∷ members) index m) row
    (subst (λ n. AllZip (IsRow setup es) (take n (m ∷ members)) rows) size h) (is m)) in
    subst (λ (l : List Row). AllZip (IsRow setup es) (take (length next) (m ∷ members)) l) (sym more) (subst (λ n. AllZip (IsRow setup es) (take n (m ∷ members)) (rows ++ row ∷ [])) (sym longer) one)

-- the row of the member at an index, whatever else is given if there is none
pub row_is : (setup : Setup) (es : List Entry) (members : List Member) (index : ℕ) (a d : Member) (row : Row) → index < length members → row.member ≡ (slice_index_or members index a).number
    → IsTally setup (slice_index_or members index a).number (map event_of es) row.tally
    → IsCheck setup es (Of (slice_index_or members index a).number) (AllBut (slice_index_or members index a).number) row.check
    → IsRow setup es (slice_index_or members index d) row
row_is setup es members index a d row lt his tally check =
    subst (λ (m : Member). IsRow setup es m row) (get_or_default members index a d lt) (record { member_is = his; tally = tally; check = check })
