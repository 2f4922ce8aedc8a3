-- What is read is spelled so, and what is spelled so is read.
use Rattle.std.proofs.Common.{◌≡◌, ℕ, List, [], ◌∷◌, ◌++◌, length, Some, None, refl, sym, ap, ◌∙◌, arith}
use Rattle.std.specs.Prelude.{◌↔◌, IfSome, IsSome, IsTrue, is_some}
use Rattle.hx_units.specs.Fields.{is_message, byte_at, text_at, spelled, AreBytes}
use Rattle.hx_units.proofs.FieldLaws.{cells, by_cells, first_message, number_4, spelled_at_4}
use Rattle.hx_units.proofs.Options.{is_some-next, is_some-last, is_some-first}
use Rattle.hx_ouch.specs.declared.inbound.Enter.{Enter}
use Rattle.hx_ouch.specs.declared.inbound.Replace.{Replace}
use Rattle.hx_ouch.specs.declared.inbound.Cancel.{Cancel}
use Rattle.hx_ouch.specs.declared.inbound.Inbound.{Inbound}
use Rattle.hx_ouch.specs.declared.inbound.Inbound.TheVariants as variant
use Rattle.hx_ouch.specs.Inbound.{enter_bytes, replace_bytes, cancel_bytes, enter_of, replace_of, cancel_of, IsEnter, IsReplace, IsCancel, inbound_of, inbound_bytes, IsInbound, is_inbound}

-- ---- Enter Order

enter_again : (m : Enter) → IsEnter m → inbound_of (enter_bytes m) ≡ Some (variant.Enter m)
unfolding spelled
enter_again m fits =
    let made : List ℕ → List ℕ → List ℕ → Enter = λ t0 t1 t2. record m { token = record { 0 = t0 }; stock = record { 0 = t1 }; firm = record { 0 = t2 } } in
    let Back : List ℕ → List ℕ → List ℕ → Type 0 = λ t0 t1 t2. inbound_of (enter_bytes (made t0 t1 t2)) ≡ Some (variant.Enter (made t0 t1 t2)) in
    by_cells (λ x. Back x m.stock.0 m.firm.0) 14 m.token.0 fits.token
    (by_cells (λ x. Back (cells 14 m.token.0) x m.firm.0) 8 m.stock.0 fits.stock
    (by_cells (λ x. Back (cells 14 m.token.0) (cells 8 m.stock.0) x) 4 m.firm.0 fits.firm
    (rw (number_4 m.shares fits.shares, number_4 m.price fits.price, number_4 m.time_in_force fits.time_in_force, number_4 m.minimum_quantity fits.minimum_quantity) refl)))

enter_spelled : (bytes : List ℕ) → AreBytes bytes → length bytes ≡ 49 → byte_at 0 bytes ≡ 79 → bytes ≡ enter_bytes (enter_of bytes)
enter_spelled bytes fits len first =
    let parts : ℕ → List ℕ → List ℕ = λ kind b. (kind ∷ []) ++ text_at 1 14 b ++ (byte_at 15 b ∷ []) ++ text_at 16 4 b
    ++ text_at 20 8 b ++ text_at 28 4 b ++ text_at 32 4 b ++ text_at 36 4 b ++ (byte_at 40 b ∷ [])
    ++ (byte_at 41 b ∷ []) ++ (byte_at 42 b ∷ []) ++ text_at 43 4 b ++ (byte_at 47 b ∷ []) ++ (byte_at 48 b ∷ []) in
    let whole : parts (byte_at 0 bytes) bytes ≡ bytes = by_cells (λ b. parts (byte_at 0 b) b ≡ b) 49 bytes len refl in
    let spells : enter_bytes (enter_of bytes) ≡ parts 79 bytes = rw (
      spelled_at_4 16 bytes (omega arith) fits,
      spelled_at_4 28 bytes (omega arith) fits,
      spelled_at_4 32 bytes (omega arith) fits,
      spelled_at_4 43 bytes (omega arith) fits,
    ) refl in
    sym (spells ∙ ap (λ (kind : ℕ). parts kind bytes) (sym first) ∙ whole)

-- ---- Replace Order

replace_again : (m : Replace) → IsReplace m → inbound_of (replace_bytes m) ≡ Some (variant.Replace m)
unfolding spelled
replace_again m fits =
    let made : List ℕ → List ℕ → Replace = λ t0 t1. record m { existing_token = record { 0 = t0 }; replacement_token = record { 0 = t1 } } in
    let Back : List ℕ → List ℕ → Type 0 = λ t0 t1. inbound_of (replace_bytes (made t0 t1)) ≡ Some (variant.Replace (made t0 t1)) in
    by_cells (λ x. Back x m.replacement_token.0) 14 m.existing_token.0 fits.existing_token
    (by_cells (λ x. Back (cells 14 m.existing_token.0) x) 14 m.replacement_token.0 fits.replacement_token
    (rw (number_4 m.shares fits.shares, number_4 m.price fits.price, number_4 m.time_in_force fits.time_in_force, number_4 m.minimum_quantity fits.minimum_quantity) refl))

replace_spelled : (bytes : List ℕ) → AreBytes bytes → length bytes ≡ 47 → byte_at 0 bytes ≡ 85 → bytes ≡ replace_bytes (replace_of bytes)
replace_spelled bytes fits len first =
    let parts : ℕ → List ℕ → List ℕ = λ kind b. (kind ∷ []) ++ text_at 1 14 b ++ text_at 15 14 b ++ text_at 29 4 b
    ++ text_at 33 4 b ++ text_at 37 4 b ++ (byte_at 41 b ∷ []) ++ (byte_at 42 b ∷ []) ++ text_at 43 4 b in
    let whole : parts (byte_at 0 bytes) bytes ≡ bytes = by_cells (λ b. parts (byte_at 0 b) b ≡ b) 47 bytes len refl in
    let spells : replace_bytes (replace_of bytes) ≡ parts 85 bytes = rw (
      spelled_at_4 29 bytes (omega arith) fits,
      spelled_at_4 33 bytes (omega arith) fits,
      spelled_at_4 37 bytes (omega arith) fits,
      spelled_at_4 43 bytes (omega arith) fits,
    ) refl in
    sym (spells ∙ ap (λ (kind : ℕ). parts kind bytes) (sym first) ∙ whole)

-- ---- Cancel Order

cancel_again : (m : Cancel) → IsCancel m → inbound_of (cancel_bytes m) ≡ Some (variant.Cancel m)
unfolding spelled
cancel_again m fits =
    let made : List ℕ → Cancel = λ t0. record m { token = record { 0 = t0 } } in
    let Back : List ℕ → Type 0 = λ t0. inbound_of (cancel_bytes (made t0)) ≡ Some (variant.Cancel (made t0)) in
    by_cells (λ x. Back x) 14 m.token.0 fits.token
    (rw (number_4 m.shares fits.shares) refl)

cancel_spelled : (bytes : List ℕ) → AreBytes bytes → length bytes ≡ 19 → byte_at 0 bytes ≡ 88 → bytes ≡ cancel_bytes (cancel_of bytes)
cancel_spelled bytes fits len first =
    let parts : ℕ → List ℕ → List ℕ = λ kind b. (kind ∷ []) ++ text_at 1 14 b ++ text_at 15 4 b in
    let whole : parts (byte_at 0 bytes) bytes ≡ bytes = by_cells (λ b. parts (byte_at 0 b) b ≡ b) 19 bytes len refl in
    let spells : cancel_bytes (cancel_of bytes) ≡ parts 88 bytes = rw (spelled_at_4 15 bytes (omega arith) fits) refl in
    sym (spells ∙ ap (λ (kind : ℕ). parts kind bytes) (sym first) ∙ whole)

-- ---- any message

pub inbound_again : (m : Inbound) → IsInbound m → inbound_of (inbound_bytes m) ≡ Some m
inbound_again (variant.Enter m) fits = enter_again m fits
inbound_again (variant.Replace m) fits = replace_again m fits
inbound_again (variant.Cancel m) fits = cancel_again m fits

pub inbound_spelled : (bytes : List ℕ) → AreBytes bytes → IfSome (inbound_of bytes) (λ m. bytes ≡ inbound_bytes m)
inbound_spelled bytes fits =
    let Spelled : Inbound → Type 0 = λ m. bytes ≡ inbound_bytes m in
    first_message Spelled 49 79 bytes (variant.Enter (enter_of bytes)) _ (enter_spelled bytes fits)
    (first_message Spelled 47 85 bytes (variant.Replace (replace_of bytes)) _ (replace_spelled bytes fits)
    (first_message Spelled 19 88 bytes (variant.Cancel (cancel_of bytes)) None (cancel_spelled bytes fits) tt))

-- ---- which bytes are a message

pub inbound_readable : (bytes : List ℕ) → IsSome (inbound_of bytes) ↔ IsTrue (is_inbound bytes)
inbound_readable bytes =
    let same : is_some (inbound_of bytes) ≡ is_inbound bytes =
    is_some-first (is_message 49 79 bytes) (variant.Enter (enter_of bytes)) _
    ∙ is_some-next _ (is_message 47 85 bytes) (variant.Replace (replace_of bytes)) _
    ∙ is_some-last _ (is_message 19 88 bytes) (variant.Cancel (cancel_of bytes)) in
    (λ s. sym same ∙ s, λ t. same ∙ t)
