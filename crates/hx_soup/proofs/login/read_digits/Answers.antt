use Rattle.std.proofs.Common.{rules, refl, ◌≡◌, ℕ, List, [], ◌∷◌, true, false, Result, Ok, Err}
use Rattle.std.specs.Result.{MatchResult, is_ok}
use Rattle.std.specs.List.{list_all}
use Rattle.std.specs.Char.{is_ascii_digit}
use Rattle.std.specs.Str.Parse.{AllDigits}
use Rattle.std.proofs.lemmas.Str.{IsUtf8-from_ascii}
use Rattle.std.proofs.lemmas.Str.Parse.{digit_from_value}
use Rattle.std.proofs.lemmas.Fmt.{IsAscii-from_digits}
use Rattle.hx_soup.proofs.login.read_digits.Goals as goal

failed : {T E : Type 0} (r : Result T E) (P : T → Type 0) (Q : Type 0) (R : E → Type 0) → MatchResult r P (λ e. Q × R e) → false ≡ is_ok r → Q
failed (Ok x) P Q R h e = absurd cc
failed (Err x) P Q R h e = h.0

all_digits : (digits : List ℕ) → AllDigits 10 digits → list_all is_ascii_digit digits ≡ true
all_digits [] are = refl
all_digits (c ∷ digits) are = let range = digit_from_value c are.0 in rw (all_digits digits are.1) (search (rules, range))

pub returns-then-not-are_digits : goal.returns-then-not-are_digits
returns-then-not-are_digits c = λ digits. let all = all_digits c.args.digits.now digits.0 in let none = c.if-not-are_digits.true in absurd cc

pub returns-in_err-ok : goal.returns-in_err-ok
returns-in_err-ok c = rw c.from_residual.ensures (λ digits. failed _ _ _ _ c.from_utf8.ensures.cases c.in_err-ok.ensures.variant (IsUtf8-from_ascii c.args.digits.now (IsAscii-from_digits c.args.digits.now digits.0)))
