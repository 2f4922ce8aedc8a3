-- A number that is read is spelled so.
use Rattle.std.proofs.Common.{◌≡◌, ℕ, ◌^◌, ◌<◌, List, Option, Some, None, sym, ap, ◌∙◌, subst}
use Rattle.std.specs.Prelude.{IfSome}
use Rattle.std.specs.Option.{SomeIff}
use Rattle.std.specs.Str.Parse.{AllDigits, digits_value}
use Rattle.hx_units.specs.Spaces.{trimmed}
use Rattle.hx_soup.specs.Logins.{SpellsNumber}
use Rattle.hx_units.proofs.Trimming.{trimmed-digits, trimmed_spaces}

-- what is read of the digits, and of the text that has spaces round them
abbrev pub IsRead : List ℕ → Option ℕ → Type 0
IsRead digits read = SomeIff read (AllDigits 10 digits × (digits_value 10 digits < 2 ^ 64)) (digits_value 10 digits)

pub number_found : (text : List ℕ) (read : Option ℕ) → IsRead (trimmed text) read → IfSome read (SpellsNumber text)
number_found text None h = tt
number_found text (Some n) h =
    let w = trimmed_spaces text in
    record { before = w.0; digits = trimmed text; after = w.1; whole = w.2; are_digits = h.0.0; value = h.1; fits = subst (λ (m : ℕ). m < 2 ^ 64) (sym h.1) h.0.1 }

is_some : (digits : List ℕ) (read : Option ℕ) (n : ℕ) → IsRead digits read → AllDigits 10 digits → n ≡ digits_value 10 digits → n < 2 ^ 64 → read ≡ Some n
is_some digits None n h are value fits = absurd (h (are, subst (λ (m : ℕ). m < 2 ^ 64) value fits))
is_some digits (Some m) n h are value fits = ap (λ (k : ℕ). Some k) (h.1 ∙ sym value)

pub number_only : (text : List ℕ) (read : Option ℕ) (n : ℕ) → IsRead (trimmed text) read → SpellsNumber text n → read ≡ Some n
number_only text read n h s =
    let digits : trimmed text ≡ s.digits = ap trimmed s.whole ∙ trimmed-digits s.before s.after s.digits s.are_digits in
    is_some s.digits read n (subst (λ (t : List ℕ). IsRead t read) digits h) s.are_digits s.value s.fits
