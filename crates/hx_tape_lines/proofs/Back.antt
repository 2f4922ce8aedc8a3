-- An entry that says something is that of its event.
use Rattle.std.proofs.Common.{◌≡◌, ℕ, eqb, Bool, true, false, ◌&&◌, List, [], ◌∷◌, ◌++◌, length, Some, None, refl, sym, ap, subst, ◌∙◌, eqb-true, arith}
use Rattle.std.specs.Prelude.{is_none, if◌then◌else◌, ◌==◌}
use Rattle.std.specs.List.{list_any}
use Rattle.std.specs.Option.{option_map_or}
use Rattle.std.proofs.lemmas.Bool.{and_parts}
use Rattle.hx_units.specs.Fields.{AreBytes, byte_at, text_at, number_at}
use Rattle.hx_units.proofs.FieldLaws.{by_cells, spelled_at_8}
use Rattle.hx_rules.specs.declared.event.Event.{Event}
use Rattle.hx_rules.specs.declared.event.Event.TheVariants.{Message, Tick, Hours}
use Rattle.hx_rules.specs.Hours.{hours_codes}
use Rattle.hx_rules.specs.OperatorMessages.{is_halt, halt_of, halt_bytes, is_break, break_of, break_bytes, letter_event, operator_event}
use Rattle.hx_tape_lines.specs.Text.{Entry, entry_of_event, is_held, line, record_of}
use Rattle.hx_tape_lines.proofs.Plain.{entry_held, record_is_line}
use Rattle.hx_tape_lines.specs.Events.{event_of, message_of, is_operator, IsKnown, IsLineOf}

of_letter : (t m : ℕ) (bytes : List ℕ) → m ≡ 0 → is_none (letter_event t bytes) ≡ false
    → entry_of_event (option_map_or (λ x. x) (letter_event t bytes) (Message m t bytes)) ≡ (let e : Entry = record { time = t; member = m; bytes = bytes } in e)
of_letter t m [] none h = absurd (let z : true ≡ false = h in cc)
of_letter t m (b ∷ c ∷ more) none h = absurd (let z : true ≡ false = h in cc)
of_letter t m (b ∷ []) none h = at (eqb b 75) refl (list_any (λ code. eqb code b) hours_codes) h
  where
    at : (p : Bool) → eqb b 75 ≡ p → (q : Bool) → is_none (if p then Some (Tick t) else (if q then Some (Hours t b) else None)) ≡ false
        → entry_of_event (option_map_or (λ x. x) (if p then Some (Tick t) else (if q then Some (Hours t b) else None)) (Message m t (b ∷ []))) ≡ (let e : Entry = record { time = t; member = m; bytes = b ∷ [] } in e)
    at true is q h = ap (λ c. (let e : Entry = record { time = t; member = 0; bytes = c ∷ [] } in e)) (sym (eqb-true b 75 is)) ∙ ap (λ k. (let e : Entry = record { time = t; member = k; bytes = b ∷ [] } in e)) (sym none)
    at false is true h = ap (λ k. (let e : Entry = record { time = t; member = k; bytes = b ∷ [] } in e)) (sym none)
    at false is false h = absurd (let z : true ≡ false = h in cc)

-- what is read of a halt is spelled so
halt_spelled : (bytes : List ℕ) → length bytes ≡ 14 → byte_at 0 bytes ≡ 72
    → halt_bytes (record { 0 = text_at 1 8 bytes }) (byte_at 9 bytes) (text_at 10 4 bytes) ≡ bytes
halt_spelled bytes len first =
    let parts : ℕ → List ℕ → List ℕ = λ kind b. (kind ∷ []) ++ text_at 1 8 b ++ (byte_at 9 b ∷ []) ++ text_at 10 4 b in
    let whole : parts (byte_at 0 bytes) bytes ≡ bytes = by_cells (λ b. parts (byte_at 0 b) b ≡ b) 14 bytes len refl in
    ap (λ (kind : ℕ). parts kind bytes) (sym first) ∙ whole

-- and so is what is read of a break
break_spelled : (bytes : List ℕ) → AreBytes bytes → length bytes ≡ 9 → byte_at 0 bytes ≡ 66 → break_bytes (number_at 1 8 bytes) ≡ bytes
break_spelled bytes fits len first =
    let parts : ℕ → List ℕ → List ℕ = λ kind b. (kind ∷ []) ++ text_at 1 8 b in
    let whole : parts (byte_at 0 bytes) bytes ≡ bytes = by_cells (λ b. parts (byte_at 0 b) b ≡ b) 9 bytes len refl in
    let spells : break_bytes (number_at 1 8 bytes) ≡ parts 66 bytes = ap (λ (l : List ℕ). 66 ∷ l) (spelled_at_8 1 bytes (omega arith) fits) in
    spells ∙ ap (λ (kind : ℕ). parts kind bytes) (sym first) ∙ whole

of_bytes : (t m : ℕ) (bytes : List ℕ) → AreBytes bytes → m ≡ 0 → is_none (operator_event t bytes) ≡ false
    → entry_of_event (option_map_or (λ x. x) (operator_event t bytes) (Message m t bytes)) ≡ (let e : Entry = record { time = t; member = m; bytes = bytes } in e)
of_bytes t m bytes fits none h = at (is_halt bytes) refl (is_break bytes) refl h
  where
    at : (p : Bool) → is_halt bytes ≡ p → (q : Bool) → is_break bytes ≡ q
        → is_none (if p then Some (halt_of t bytes) else (if q then Some (break_of t bytes) else letter_event t bytes)) ≡ false
        → entry_of_event (option_map_or (λ x. x) (if p then Some (halt_of t bytes) else (if q then Some (break_of t bytes) else letter_event t bytes)) (Message m t bytes))
        ≡ (let e : Entry = record { time = t; member = m; bytes = bytes } in e)
    at true is q f h =
        let both = and_parts (length bytes == 14) (byte_at 0 bytes == 72) is in
        ap (λ (l : List ℕ). (let e : Entry = record { time = t; member = 0; bytes = l } in e)) (halt_spelled bytes (eqb-true (length bytes) 14 both.0) (eqb-true (byte_at 0 bytes) 72 both.1))
        ∙ ap (λ k. (let e : Entry = record { time = t; member = k; bytes = bytes } in e)) (sym none)
    at false is true f h =
        let both = and_parts (length bytes == 9) (byte_at 0 bytes == 66) f in
        ap (λ (l : List ℕ). (let e : Entry = record { time = t; member = 0; bytes = l } in e)) (break_spelled bytes fits (eqb-true (length bytes) 9 both.0) (eqb-true (byte_at 0 bytes) 66 both.1))
        ∙ ap (λ k. (let e : Entry = record { time = t; member = k; bytes = bytes } in e)) (sym none)
    at false is false f h = of_letter t m bytes none h

pub entry_back : (e : Entry) → IsKnown e → entry_of_event (event_of e) ≡ e
entry_back e k = at (is_operator e) refl k.known
  where
    at : (b : Bool) → is_operator e ≡ b → (b && is_none (operator_event e.time e.bytes)) ≡ false
        → entry_of_event (if b then option_map_or (λ x. x) (operator_event e.time e.bytes) (message_of e) else message_of e) ≡ e
    at true m h = of_bytes e.time e.member e.bytes k.entry.are_bytes (eqb-true e.member 0 m) h
    at false m h = refl

-- the line of an event is its record
pub line_is_record : (text : List ℕ) (event : Event) → IsLineOf text event → text ≡ record_of event
line_is_record text event l =
    let back : entry_of_event event ≡ l.entry = ap entry_of_event l.event_is ∙ entry_back l.entry l.is_known in
    l.is_line ∙ ap line (sym back) ∙ sym (record_is_line event (subst (λ (e : Entry). is_held e ≡ true) (sym back) (entry_held l.entry l.is_known.entry)))
