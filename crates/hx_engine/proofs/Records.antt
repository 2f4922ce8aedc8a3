-- The record of an event is a record of a journal.
use Rattle.std.proofs.Common.{◌≡◌, ℕ, eqb, false, List, [], ◌∷◌, inl, inr, arith}
use Rattle.std.specs.List.{AllByRecursion}
use Rattle.std.proofs.lemmas.Bool.Decides.{nat_tests}
use Rattle.hx_rules.specs.declared.event.Event.{Event}
use Rattle.hx_journal.specs.Lines.{IsText, IsLine}
use Rattle.hx_journal.specs.Records.{IsRecord, is_mark}
use Rattle.hx_tape_lines.specs.Text.{record_of, IsDigit, IsSpelled, BeginsWithDigit, IsPlain}
use Rattle.hx_tape_lines.proofs.Plain.{plain_record}

is_text : (b : ℕ) → IsSpelled b → IsText b
is_text b (inl is) = (λ e. omega (arith, is, e), λ e. omega (arith, is, e))
is_text b (inr (inl digit)) = (λ e. omega (arith, digit, e), λ e. omega (arith, digit, e))
is_text b (inr (inr letter)) = (λ e. omega (arith, letter, e), λ e. omega (arith, letter, e))

is_line : (text : List ℕ) → AllByRecursion IsSpelled text → IsLine text
is_line [] h = tt
is_line (b ∷ text) h = (is_text b h.0, is_line text h.1)

no_mark_byte : (b : ℕ) → IsDigit b → eqb b 35 ≡ false
no_mark_byte b digit = grind (arith, nat_tests)

no_mark : (text : List ℕ) → BeginsWithDigit text → is_mark text ≡ false
no_mark [] h = absurd h
no_mark (b ∷ text) h = no_mark_byte b h

pub plain_is_record : (text : List ℕ) → IsPlain text → IsRecord text
plain_is_record text h = (is_line text h.spelled, no_mark text h.first)

pub recorded : (event : Event) → IsRecord (record_of event)
recorded event = plain_is_record (record_of event) (plain_record event)
