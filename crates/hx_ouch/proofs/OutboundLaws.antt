-- What is read is spelled so, and what is spelled so is read.
use Rattle.std.proofs.Common.{◌≡◌, ℕ, List, [], ◌∷◌, ◌++◌, length, Some, None, refl, sym, ap, ◌∙◌, arith}
use Rattle.std.specs.Prelude.{◌↔◌, IfSome, IsSome, IsTrue, is_some}
use Rattle.hx_units.specs.Fields.{is_message, byte_at, text_at, spelled, AreBytes}
use Rattle.hx_units.proofs.FieldLaws.{cells, by_cells, first_message, number_4, number_8, spelled_at_4, spelled_at_8}
use Rattle.hx_units.proofs.Options.{is_some-next, is_some-last, is_some-first}
use Rattle.hx_ouch.specs.declared.outbound.SystemEvent.{SystemEvent}
use Rattle.hx_ouch.specs.declared.outbound.Accepted.{Accepted}
use Rattle.hx_ouch.specs.declared.outbound.Replaced.{Replaced}
use Rattle.hx_ouch.specs.declared.outbound.Canceled.{Canceled}
use Rattle.hx_ouch.specs.declared.outbound.Executed.{Executed}
use Rattle.hx_ouch.specs.declared.outbound.Rejected.{Rejected}
use Rattle.hx_ouch.specs.declared.outbound.BrokenTrade.{BrokenTrade}
use Rattle.hx_ouch.specs.declared.outbound.Outbound.{Outbound}
use Rattle.hx_ouch.specs.declared.outbound.Outbound.TheVariants as variant
use Rattle.hx_ouch.specs.Outbound.{system_event_bytes, accepted_bytes, replaced_bytes, canceled_bytes, executed_bytes, rejected_bytes, broken_trade_bytes, system_event_of, accepted_of, replaced_of, canceled_of, executed_of, rejected_of, broken_trade_of, IsSystemEvent, IsAccepted, IsReplaced, IsCanceled, IsExecuted, IsRejected, IsBrokenTrade, outbound_of, outbound_bytes, IsOutbound, is_outbound}

-- ---- System Event

system_event_again : (m : SystemEvent) → IsSystemEvent m → outbound_of (system_event_bytes m) ≡ Some (variant.SystemEvent m)
unfolding spelled
system_event_again m fits =
    rw (number_8 m.time fits.time) refl

system_event_spelled : (bytes : List ℕ) → AreBytes bytes → length bytes ≡ 10 → byte_at 0 bytes ≡ 83 → bytes ≡ system_event_bytes (system_event_of bytes)
system_event_spelled bytes fits len first =
    let parts : ℕ → List ℕ → List ℕ = λ kind b. (kind ∷ []) ++ text_at 1 8 b ++ (byte_at 9 b ∷ []) in
    let whole : parts (byte_at 0 bytes) bytes ≡ bytes = by_cells (λ b. parts (byte_at 0 b) b ≡ b) 10 bytes len refl in
    let spells : system_event_bytes (system_event_of bytes) ≡ parts 83 bytes = rw (
    spelled_at_8 1 bytes (omega arith) fits) refl in
    sym (spells ∙ ap (λ (kind : ℕ). parts kind bytes) (sym first) ∙ whole)

-- ---- Accepted

accepted_again : (m : Accepted) → IsAccepted m → outbound_of (accepted_bytes m) ≡ Some (variant.Accepted m)
unfolding spelled
accepted_again m fits =
    let made : List ℕ → List ℕ → List ℕ → Accepted = λ t0 t1 t2. record m { token = record { 0 = t0 }; stock = record { 0 = t1 }; firm = record { 0 = t2 } } in
    let Back : List ℕ → List ℕ → List ℕ → Type 0 = λ t0 t1 t2. outbound_of (accepted_bytes (made t0 t1 t2)) ≡ Some (variant.Accepted (made t0 t1 t2)) in
    by_cells (λ x. Back x m.stock.0 m.firm.0) 14 m.token.0 fits.token
    (by_cells (λ x. Back (cells 14 m.token.0) x m.firm.0) 8 m.stock.0 fits.stock
    (by_cells (λ x. Back (cells 14 m.token.0) (cells 8 m.stock.0) x) 4 m.firm.0 fits.firm
    (rw (number_8 m.time fits.time, number_4 m.shares fits.shares, number_4 m.price fits.price, number_4 m.time_in_force fits.time_in_force, number_8 m.reference fits.reference, number_4 m.minimum_quantity fits.minimum_quantity) refl)))

accepted_spelled : (bytes : List ℕ) → AreBytes bytes → length bytes ≡ 66 → byte_at 0 bytes ≡ 65 → bytes ≡ accepted_bytes (accepted_of bytes)
accepted_spelled bytes fits len first =
    let parts : ℕ → List ℕ → List ℕ = λ kind b. (kind ∷ []) ++ text_at 1 8 b ++ text_at 9 14 b ++ (byte_at 23 b ∷ [])
    ++ text_at 24 4 b ++ text_at 28 8 b ++ text_at 36 4 b ++ text_at 40 4 b ++ text_at 44 4 b ++ (byte_at 48 b ∷ [])
    ++ text_at 49 8 b ++ (byte_at 57 b ∷ []) ++ (byte_at 58 b ∷ []) ++ text_at 59 4 b ++ (byte_at 63 b ∷ [])
    ++ (byte_at 64 b ∷ []) ++ (byte_at 65 b ∷ []) in
    let whole : parts (byte_at 0 bytes) bytes ≡ bytes = by_cells (λ b. parts (byte_at 0 b) b ≡ b) 66 bytes len refl in
    let spells : accepted_bytes (accepted_of bytes) ≡ parts 65 bytes = rw (
      spelled_at_8 1 bytes (omega arith) fits,
      spelled_at_4 24 bytes (omega arith) fits,
      spelled_at_4 36 bytes (omega arith) fits,
      spelled_at_4 40 bytes (omega arith) fits,
      spelled_at_8 49 bytes (omega arith) fits,
      spelled_at_4 59 bytes (omega arith) fits,
    ) refl in
    sym (spells ∙ ap (λ (kind : ℕ). parts kind bytes) (sym first) ∙ whole)

-- ---- Replaced

replaced_again : (m : Replaced) → IsReplaced m → outbound_of (replaced_bytes m) ≡ Some (variant.Replaced m)
unfolding spelled
replaced_again m fits =
    let made : List ℕ → List ℕ → List ℕ → List ℕ → Replaced = λ t0 t1 t2 t3. record m { replacement_token = record { 0 = t0 }; stock = record { 0 = t1 }; firm = record { 0 = t2 }; previous_token = record { 0 = t3 } } in
    let Back : List ℕ → List ℕ → List ℕ → List ℕ → Type 0 = λ t0 t1 t2 t3. outbound_of (replaced_bytes (made t0 t1 t2 t3)) ≡ Some (variant.Replaced (made t0 t1 t2 t3)) in
    by_cells (λ x. Back x m.stock.0 m.firm.0 m.previous_token.0) 14 m.replacement_token.0 fits.replacement_token
    (by_cells (λ x. Back (cells 14 m.replacement_token.0) x m.firm.0 m.previous_token.0) 8 m.stock.0 fits.stock
    (by_cells (λ x. Back (cells 14 m.replacement_token.0) (cells 8 m.stock.0) x m.previous_token.0) 4 m.firm.0 fits.firm
    (by_cells (λ x. Back (cells 14 m.replacement_token.0) (cells 8 m.stock.0) (cells 4 m.firm.0) x) 14 m.previous_token.0 fits.previous_token
    (rw (number_8 m.time fits.time, number_4 m.shares fits.shares, number_4 m.price fits.price, number_4 m.time_in_force fits.time_in_force, number_8 m.reference fits.reference, number_4 m.minimum_quantity fits.minimum_quantity) refl))))

replaced_spelled : (bytes : List ℕ) → AreBytes bytes → length bytes ≡ 80 → byte_at 0 bytes ≡ 85 → bytes ≡ replaced_bytes (replaced_of bytes)
replaced_spelled bytes fits len first =
    let parts : ℕ → List ℕ → List ℕ = λ kind b. (kind ∷ []) ++ text_at 1 8 b ++ text_at 9 14 b ++ (byte_at 23 b ∷ [])
    ++ text_at 24 4 b ++ text_at 28 8 b ++ text_at 36 4 b ++ text_at 40 4 b ++ text_at 44 4 b ++ (byte_at 48 b ∷ [])
    ++ text_at 49 8 b ++ (byte_at 57 b ∷ []) ++ (byte_at 58 b ∷ []) ++ text_at 59 4 b ++ (byte_at 63 b ∷ [])
    ++ (byte_at 64 b ∷ []) ++ text_at 65 14 b ++ (byte_at 79 b ∷ []) in
    let whole : parts (byte_at 0 bytes) bytes ≡ bytes = by_cells (λ b. parts (byte_at 0 b) b ≡ b) 80 bytes len refl in
    let spells : replaced_bytes (replaced_of bytes) ≡ parts 85 bytes = rw (
      spelled_at_8 1 bytes (omega arith) fits,
      spelled_at_4 24 bytes (omega arith) fits,
      spelled_at_4 36 bytes (omega arith) fits,
      spelled_at_4 40 bytes (omega arith) fits,
      spelled_at_8 49 bytes (omega arith) fits,
      spelled_at_4 59 bytes (omega arith) fits,
    ) refl in
    sym (spells ∙ ap (λ (kind : ℕ). parts kind bytes) (sym first) ∙ whole)

-- ---- Canceled

canceled_again : (m : Canceled) → IsCanceled m → outbound_of (canceled_bytes m) ≡ Some (variant.Canceled m)
unfolding spelled
canceled_again m fits =
    let made : List ℕ → Canceled = λ t0. record m { token = record { 0 = t0 } } in
    let Back : List ℕ → Type 0 = λ t0. outbound_of (canceled_bytes (made t0)) ≡ Some (variant.Canceled (made t0)) in
    by_cells (λ x. Back x) 14 m.token.0 fits.token
    (rw (number_8 m.time fits.time, number_4 m.shares fits.shares) refl)

canceled_spelled : (bytes : List ℕ) → AreBytes bytes → length bytes ≡ 28 → byte_at 0 bytes ≡ 67 → bytes ≡ canceled_bytes (canceled_of bytes)
canceled_spelled bytes fits len first =
    let parts : ℕ → List ℕ → List ℕ = λ kind b. (kind ∷ []) ++ text_at 1 8 b ++ text_at 9 14 b ++ text_at 23 4 b
    ++ (byte_at 27 b ∷ []) in
    let whole : parts (byte_at 0 bytes) bytes ≡ bytes = by_cells (λ b. parts (byte_at 0 b) b ≡ b) 28 bytes len refl in
    let spells : canceled_bytes (canceled_of bytes) ≡ parts 67 bytes = rw (
      spelled_at_8 1 bytes (omega arith) fits,
      spelled_at_4 23 bytes (omega arith) fits,
    ) refl in
    sym (spells ∙ ap (λ (kind : ℕ). parts kind bytes) (sym first) ∙ whole)

-- ---- Executed

executed_again : (m : Executed) → IsExecuted m → outbound_of (executed_bytes m) ≡ Some (variant.Executed m)
unfolding spelled
executed_again m fits =
    let made : List ℕ → Executed = λ t0. record m { token = record { 0 = t0 } } in
    let Back : List ℕ → Type 0 = λ t0. outbound_of (executed_bytes (made t0)) ≡ Some (variant.Executed (made t0)) in
    by_cells (λ x. Back x) 14 m.token.0 fits.token
    (rw (number_8 m.time fits.time, number_4 m.shares fits.shares, number_4 m.price fits.price, number_8 m.match_number fits.match_number) refl)

executed_spelled : (bytes : List ℕ) → AreBytes bytes → length bytes ≡ 40 → byte_at 0 bytes ≡ 69 → bytes ≡ executed_bytes (executed_of bytes)
executed_spelled bytes fits len first =
    let parts : ℕ → List ℕ → List ℕ = λ kind b. (kind ∷ []) ++ text_at 1 8 b ++ text_at 9 14 b ++ text_at 23 4 b
    ++ text_at 27 4 b ++ (byte_at 31 b ∷ []) ++ text_at 32 8 b in
    let whole : parts (byte_at 0 bytes) bytes ≡ bytes = by_cells (λ b. parts (byte_at 0 b) b ≡ b) 40 bytes len refl in
    let spells : executed_bytes (executed_of bytes) ≡ parts 69 bytes = rw (
      spelled_at_8 1 bytes (omega arith) fits,
      spelled_at_4 23 bytes (omega arith) fits,
      spelled_at_4 27 bytes (omega arith) fits,
      spelled_at_8 32 bytes (omega arith) fits,
    ) refl in
    sym (spells ∙ ap (λ (kind : ℕ). parts kind bytes) (sym first) ∙ whole)

-- ---- Rejected

rejected_again : (m : Rejected) → IsRejected m → outbound_of (rejected_bytes m) ≡ Some (variant.Rejected m)
unfolding spelled
rejected_again m fits =
    let made : List ℕ → Rejected = λ t0. record m { token = record { 0 = t0 } } in
    let Back : List ℕ → Type 0 = λ t0. outbound_of (rejected_bytes (made t0)) ≡ Some (variant.Rejected (made t0)) in
    by_cells (λ x. Back x) 14 m.token.0 fits.token
    (rw (number_8 m.time fits.time) refl)

rejected_spelled : (bytes : List ℕ) → AreBytes bytes → length bytes ≡ 24 → byte_at 0 bytes ≡ 74 → bytes ≡ rejected_bytes (rejected_of bytes)
rejected_spelled bytes fits len first =
    let parts : ℕ → List ℕ → List ℕ = λ kind b. (kind ∷ []) ++ text_at 1 8 b ++ text_at 9 14 b ++ (byte_at 23 b ∷ []) in
    let whole : parts (byte_at 0 bytes) bytes ≡ bytes = by_cells (λ b. parts (byte_at 0 b) b ≡ b) 24 bytes len refl in
    let spells : rejected_bytes (rejected_of bytes) ≡ parts 74 bytes = rw (spelled_at_8 1 bytes (omega arith) fits) refl in
    sym (spells ∙ ap (λ (kind : ℕ). parts kind bytes) (sym first) ∙ whole)

-- ---- Broken Trade

broken_trade_again : (m : BrokenTrade) → IsBrokenTrade m → outbound_of (broken_trade_bytes m) ≡ Some (variant.BrokenTrade m)
unfolding spelled
broken_trade_again m fits =
    let made : List ℕ → BrokenTrade = λ t0. record m { token = record { 0 = t0 } } in
    let Back : List ℕ → Type 0 = λ t0. outbound_of (broken_trade_bytes (made t0)) ≡ Some (variant.BrokenTrade (made t0)) in
    by_cells (λ x. Back x) 14 m.token.0 fits.token
    (rw (number_8 m.time fits.time, number_8 m.match_number fits.match_number) refl)

broken_trade_spelled : (bytes : List ℕ) → AreBytes bytes → length bytes ≡ 32 → byte_at 0 bytes ≡ 66 → bytes ≡ broken_trade_bytes (broken_trade_of bytes)
broken_trade_spelled bytes fits len first =
    let parts : ℕ → List ℕ → List ℕ = λ kind b. (kind ∷ []) ++ text_at 1 8 b ++ text_at 9 14 b ++ text_at 23 8 b
    ++ (byte_at 31 b ∷ []) in
    let whole : parts (byte_at 0 bytes) bytes ≡ bytes = by_cells (λ b. parts (byte_at 0 b) b ≡ b) 32 bytes len refl in
    let spells : broken_trade_bytes (broken_trade_of bytes) ≡ parts 66 bytes = rw (
      spelled_at_8 1 bytes (omega arith) fits,
      spelled_at_8 23 bytes (omega arith) fits,
    ) refl in
    sym (spells ∙ ap (λ (kind : ℕ). parts kind bytes) (sym first) ∙ whole)

-- ---- any message

pub outbound_again : (m : Outbound) → IsOutbound m → outbound_of (outbound_bytes m) ≡ Some m
outbound_again (variant.SystemEvent m) fits = system_event_again m fits
outbound_again (variant.Accepted m) fits = accepted_again m fits
outbound_again (variant.Replaced m) fits = replaced_again m fits
outbound_again (variant.Canceled m) fits = canceled_again m fits
outbound_again (variant.Executed m) fits = executed_again m fits
outbound_again (variant.Rejected m) fits = rejected_again m fits
outbound_again (variant.BrokenTrade m) fits = broken_trade_again m fits

pub outbound_spelled : (bytes : List ℕ) → AreBytes bytes → IfSome (outbound_of bytes) (λ m. bytes ≡ outbound_bytes m)
outbound_spelled bytes fits =
    let Spelled : Outbound → Type 0 = λ m. bytes ≡ outbound_bytes m in
    first_message Spelled 10 83 bytes (variant.SystemEvent (system_event_of bytes)) _ (system_event_spelled bytes fits)
    (first_message Spelled 66 65 bytes (variant.Accepted (accepted_of bytes)) _ (accepted_spelled bytes fits)
    (first_message Spelled 80 85 bytes (variant.Replaced (replaced_of bytes)) _ (replaced_spelled bytes fits)
    (first_message Spelled 28 67 bytes (variant.Canceled (canceled_of bytes)) _ (canceled_spelled bytes fits)
    (first_message Spelled 40 69 bytes (variant.Executed (executed_of bytes)) _ (executed_spelled bytes fits)
    (first_message Spelled 24 74 bytes (variant.Rejected (rejected_of bytes)) _ (rejected_spelled bytes fits)
    (first_message Spelled 32 66 bytes (variant.BrokenTrade (broken_trade_of bytes)) None (broken_trade_spelled bytes fits) tt))))))

-- ---- which bytes are a message

pub outbound_readable : (bytes : List ℕ) → IsSome (outbound_of bytes) ↔ IsTrue (is_outbound bytes)
outbound_readable bytes =
    let same : is_some (outbound_of bytes) ≡ is_outbound bytes =
    is_some-first (is_message 10 83 bytes) (variant.SystemEvent (system_event_of bytes)) _
    ∙ is_some-next _ (is_message 66 65 bytes) (variant.Accepted (accepted_of bytes)) _
    ∙ is_some-next _ (is_message 80 85 bytes) (variant.Replaced (replaced_of bytes)) _
    ∙ is_some-next _ (is_message 28 67 bytes) (variant.Canceled (canceled_of bytes)) _
    ∙ is_some-next _ (is_message 40 69 bytes) (variant.Executed (executed_of bytes)) _
    ∙ is_some-next _ (is_message 24 74 bytes) (variant.Rejected (rejected_of bytes)) _
    ∙ is_some-last _ (is_message 32 66 bytes) (variant.BrokenTrade (broken_trade_of bytes)) in
    (λ s. sym same ∙ s, λ t. same ∙ t)
