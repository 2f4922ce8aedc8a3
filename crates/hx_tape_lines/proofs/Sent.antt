-- An event that can be sent is read back from its record.
use Rattle.std.proofs.Common.{◌≡◌, ℕ, zero, suc, ◌/◌, ◌%◌, ◌^◌, ◌<◌, ◌≤◌, eqb, Bool, true, false, ◌&&◌, cond, List, [], ◌∷◌, length, Some, None, refl, sym, ap, ◌∙◌, subst, inl, inr, arith, eqb-true}
use Rattle.std.specs.Prelude.{is_none, ◌==◌}
use Rattle.std.specs.List.{list_any}
use Rattle.std.specs.Int.{byte_at, bytes_high_first}
use Rattle.std.specs.Option.{option_map_or}
use Rattle.std.proofs.lemmas.Bool.{cond-true, cond-false}
use Rattle.std.proofs.lemmas.Bool.Decides.{nat_tests}
use Rattle.hex.specs.Hex.{IsBytes}
use Rattle.hx_units.specs.Fields.{number, spelled}
use Rattle.hx_units.specs.declared.names.Symbol.{Symbol}
use Rattle.hx_units.proofs.FieldLaws.{cells, by_cells, number_8}
use Rattle.hx_rules.specs.declared.event.Event.{Event}
use Rattle.hx_rules.specs.declared.event.Event.TheVariants.{Message, Tick, Hours, Halt, Break}
use Rattle.hx_rules.specs.Hours.{hours_codes}
use Rattle.hx_rules.specs.OperatorMessages.{halt_bytes, break_bytes, operator_event}
use Rattle.hx_tape_lines.specs.Text.{Entry, line, entry_of_event, record_of}
use Rattle.hx_tape_lines.specs.Events.{event_of, is_operator, is_unknown, message_of, IsKnown, IsNoLine, IsOnlyLineOf, CanBeSent}
use Rattle.hx_tape_lines.proofs.OneLine.{line_same}
use Rattle.hx_tape_lines.proofs.Plain.{entry_held, record_is_line}

-- what an entry of this event is: one that says something, and this event
pub record Says (event : Event) : Type 0 where
  pub known : IsKnown (entry_of_event event)
  pub back : event_of (entry_of_event event) ≡ event

-- ---- the bytes of a message

-- a member's number is not the operator's
member_is : (m : ℕ) → 0 < m → eqb m 0 ≡ false
member_is m some = grind (arith, nat_tests)

of_member : (m t : ℕ) (bytes : List ℕ) → CanBeSent (Message m t bytes) → Says (Message m t bytes)
of_member m t bytes h =
    let e : Entry = entry_of_event (Message m t bytes) in
    let no : is_operator e ≡ false = member_is m h.1.0 in
    record {
      known = record {
        entry = record { time = omega (arith, h.0); member = omega (arith, h.1.1); some = h.2; few = h.3; are_bytes = h.4 };
        known = ap (λ (b : Bool). b && is_none (operator_event t bytes)) no;
      };
      back = cond-false (is_operator e) (option_map_or (λ x. x) (operator_event t bytes) (message_of e)) (message_of e) no;
    }

-- ---- the bytes of the operator

of_operator : (event : Event) (t : ℕ) (bytes : List ℕ) → entry_of_event event ≡ (let e : Entry = record { time = t; member = 0; bytes = bytes } in e)
    → t < 10 ^ 14 → 0 < length bytes → length bytes ≤ 1023 → IsBytes bytes → operator_event t bytes ≡ Some event → Says event
of_operator event t bytes is time some few fits said =
    let e : Entry = record { time = t; member = 0; bytes = bytes } in
    let known : IsKnown e = record {
      entry = record { time = time; member = omega arith; some = some; few = few; are_bytes = fits };
      known = ap is_none said;
    } in
    record {
      known = subst IsKnown (sym is) known;
      back = ap event_of is ∙ ap (λ o. option_map_or (λ x. x) o (message_of e)) said;
    }

one_byte : (b : ℕ) → b < 256 → IsBytes (b ∷ [])
one_byte b small zero = small
one_byte b small (suc i) = omega arith

-- a code of the hours is not the letter of a tick
hours_said : (t code : ℕ) → list_any (λ x. x == code) hours_codes ≡ true → operator_event t (code ∷ []) ≡ Some (Hours t code)
hours_said t code h = at (eqb code 75) refl
  where
    at : (b : Bool) → eqb code 75 ≡ b → (cond b (Some (Tick t)) (cond (list_any (λ x. x == code) hours_codes) (Some (Hours t code)) None)) ≡ Some (Hours t code)
    at true e = absurd (let bad : list_any (λ x. x == 75) hours_codes ≡ true = subst (λ (c : ℕ). list_any (λ x. x == c) hours_codes ≡ true) (eqb-true code 75 e) h in let z : false ≡ true = bad in cc)
    at false e = cond-true (list_any (λ x. x == code) hours_codes) (Some (Hours t code)) None h

-- and it is a byte
hours_small : (code : ℕ) → list_any (λ x. x == code) hours_codes ≡ true → code < 256
hours_small code h = grind (arith, nat_tests)

halt_said : (t : ℕ) (stock : Symbol) (state : ℕ) (reason : List ℕ) → length stock.0 ≡ 8 → length reason ≡ 4 → operator_event t (halt_bytes stock state reason) ≡ Some (Halt t stock state reason)
halt_said t stock state reason eight four =
    by_cells (λ (s : List ℕ). operator_event t (halt_bytes (record { 0 = s }) state reason) ≡ Some (Halt t (record { 0 = s }) state reason)) 8 stock.0 eight
    (by_cells (λ (r : List ℕ). operator_event t (halt_bytes (record { 0 = cells 8 stock.0 }) state r) ≡ Some (Halt t (record { 0 = cells 8 stock.0 }) state r)) 4 reason four refl)

halt_length : (stock : Symbol) (state : ℕ) (reason : List ℕ) → length stock.0 ≡ 8 → length reason ≡ 4 → length (halt_bytes stock state reason) ≡ 14
halt_length stock state reason eight four =
    by_cells (λ (s : List ℕ). length (halt_bytes (record { 0 = s }) state reason) ≡ 14) 8 stock.0 eight
    (by_cells (λ (r : List ℕ). length (halt_bytes (record { 0 = cells 8 stock.0 }) state r) ≡ 14) 4 reason four refl)

eight_bytes : (n : ℕ) → length (spelled 8 n) ≡ 8
unfolding spelled
eight_bytes n = refl

small : (n : ℕ) → n % 256 < 256
small n = omega arith

byte_small : (k n : ℕ) → byte_at k n < 256
byte_small zero n = small n
byte_small (suc k) n = small (n / 256 ^ suc k)

bytes_high : (k n : ℕ) → IsBytes (bytes_high_first k n)
bytes_high zero n i = omega arith
bytes_high (suc k) n zero = byte_small k n
bytes_high (suc k) n (suc i) = bytes_high k n i

break_fits : (n : ℕ) → IsBytes (break_bytes n)
unfolding spelled
break_fits n zero = omega arith
break_fits n (suc i) = bytes_high 8 n i

break_said : (t n : ℕ) → n < 2 ^ 64 → operator_event t (break_bytes n) ≡ Some (Break t n)
break_said t n small =
    by_cells (λ (b : List ℕ). operator_event t (66 ∷ b) ≡ Some (Break t (number b))) 8 (spelled 8 n) (eight_bytes n) refl ∙ ap (λ (v : ℕ). Some (Break t v)) (number_8 n small)

-- ---- any event that can be sent

pub says : (event : Event) → CanBeSent event → Says event
says (Message m t bytes) h = of_member m t bytes h
says (Tick t) h = of_operator (Tick t) t (75 ∷ []) refl (omega (arith, h)) (omega arith) (omega arith) (one_byte 75 (omega arith)) refl
says (Hours t code) h = of_operator (Hours t code) t (code ∷ []) refl (omega (arith, h.0)) (omega arith) (omega arith) (one_byte code (hours_small code h.1)) (hours_said t code h.1)
says (Halt t stock state reason) h =
    let size = halt_length stock state reason h.1 h.2 in
    of_operator (Halt t stock state reason) t (halt_bytes stock state reason) refl (omega (arith, h.0)) (omega (arith, size)) (omega (arith, size)) h.3 (halt_said t stock state reason h.1 h.2)
says (Break t n) h =
    let size : length (break_bytes n) ≡ 9 = omega (arith, eight_bytes n) in
    of_operator (Break t n) t (break_bytes n) refl (omega (arith, h.0)) (omega (arith, size)) (omega (arith, size)) (break_fits n) (break_said t n h.1)

pub sent_is_known : (event : Event) → CanBeSent event → IsKnown (entry_of_event event)
sent_is_known event h = (says event h).known

-- a record is the line of its event alone
pub one_event : (event : Event) → CanBeSent event → IsOnlyLineOf (record_of event) event
one_event event h =
    let s = says event h in
    let own : Entry = entry_of_event event in
    let is : record_of event ≡ line own = record_is_line event (entry_held own s.known.entry) in
    record {
      its_line = record { entry = own; is_known = s.known; is_line = is; event_is = sym s.back };
      of_no_other = λ other l. l.event_is ∙ ap event_of (line_same l.entry own l.is_known.entry s.known.entry (sym l.is_line ∙ is)) ∙ s.back;
      a_line = λ no. none own s.known (subst IsNoLine is no);
    }
  where
    none : (own : Entry) → IsKnown own → IsNoLine (line own) → ⊥
    none own known (inl nowhere) = nowhere own known.entry refl
    none own known (inr (e, entry, is, unknown)) =
        let same : is_unknown own ≡ true = ap is_unknown (line_same own e known.entry entry is) ∙ unknown in
        let bad : false ≡ true = sym known.known ∙ same in
        cc
