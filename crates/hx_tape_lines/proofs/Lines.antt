-- A line's fields are those of its one event.
use Rattle.std.proofs.Common.{◌≡◌, ◌<◌, ◌≤◌, ◌^◌, ℕ, ◌*◌, List, ◌∷◌, ◌++◌, length, Option, Some, None, refl, sym, ap, ◌∙◌, subst, arith}
use Rattle.std.specs.Prelude.{IfSome, IfNone}
use Rattle.std.specs.Fmt.{decimal}
use Rattle.std.proofs.lemmas.Fmt.{length-decimal-le}
use Rattle.hex.specs.Hex.{encode_lower, IsBytes}
use Rattle.hex.proofs.HexLemmas.{length-encode_with}
use Rattle.hx_units.specs.Cuts.{Lacks}
use Rattle.hx_tape_lines.specs.Text.{Entry, IsEntry, line, HasParts}
use Rattle.hx_units.proofs.Decimals.{lacks-decimal}
use Rattle.hx_units.proofs.Splits.{same_split}

-- the text after the time
abbrev pub after_time : Entry → List ℕ
after_time e = decimal e.member ++ 32 ∷ encode_lower e.bytes

pub time_Lacks : (e : Entry) → IsEntry e → Lacks 32 (decimal e.time)
time_Lacks e fits = lacks-decimal 32 e.time (omega arith) (omega (arith, fits.time))

pub member_Lacks : (e : Entry) → IsEntry e → Lacks 32 (decimal e.member)
member_Lacks e fits = lacks-decimal 32 e.member (omega arith) (omega (arith, fits.member))

two_fields : (e : Entry) (text a b : List ℕ) → IsEntry e → text ≡ line e → text ≡ a ++ 32 ∷ b → Lacks 32 a → (a ≡ decimal e.time) × (b ≡ after_time e)
two_fields e text a b fits is cut none = same_split 32 a b (decimal e.time) (after_time e) none (time_Lacks e fits) (sym cut ∙ is)

-- all three
pub record Fields (e : Entry) (a b x : List ℕ) : Type 0 where
  pub time : a ≡ decimal e.time
  pub member : b ≡ decimal e.member
  pub hex : x ≡ encode_lower e.bytes

pub three_fields : (e : Entry) (text a others b x : List ℕ) → IsEntry e → text ≡ line e → text ≡ a ++ 32 ∷ others → Lacks 32 a → others ≡ b ++ 32 ∷ x → Lacks 32 b → Fields e a b x
three_fields e text a others b x fits is cut none cut2 none2 =
    let first = two_fields e text a others fits is cut none in
    let second = same_split 32 b x (decimal e.member) (encode_lower e.bytes) none2 (member_Lacks e fits) (sym cut2 ∙ first.1) in
    record { time = first.0; member = second.0; hex = second.1 }

-- the same if the fields are numbers that were read
pub later_time : (e : Entry) (text : List ℕ) (t : ℕ) (others : List ℕ) → IsEntry e → text ≡ line e → t < 10 ^ 14 → text ≡ decimal t ++ 32 ∷ others → others ≡ after_time e
later_time e text t others fits is small cut = (two_fields e text (decimal t) others fits is cut (lacks-decimal 32 t (omega arith) (omega (arith, small)))).1

pub numbers_read : (e : Entry) (text others x : List ℕ) (t m : ℕ) → IsEntry e → text ≡ line e → t < 10 ^ 14 → text ≡ decimal t ++ 32 ∷ others → m < 10 ^ 14 → others ≡ decimal m ++ 32 ∷ x
    → Fields e (decimal t) (decimal m) x
numbers_read e text others x t m fits is small cut few cut2 =
    three_fields e text (decimal t) others (decimal m) x fits is cut (lacks-decimal 32 t (omega arith) (omega (arith, small))) cut2 (lacks-decimal 32 m (omega arith) (omega (arith, few)))

-- how many digits a number of 64 bits has at most
pub decimal_fits : (n : ℕ) → n < 2 ^ 64 → length (decimal n) ≤ 20
decimal_fits n lt = length-decimal-le 20 n (omega arith) (omega (arith, lt)) lt

pub hex_length : (bytes : List ℕ) → length (encode_lower bytes) ≡ 2 * length bytes
hex_length bytes = length-encode_with _ bytes

-- the digits of a line
pub parts_digits : (e : Entry) (text : List ℕ) (t m : ℕ) (digits : List ℕ) → IsEntry e → HasParts text t m digits → text ≡ line e → digits ≡ encode_lower e.bytes
parts_digits e text t m digits fits h is =
    (three_fields e text (decimal t) (decimal m ++ 32 ∷ digits) (decimal m) digits fits is h.text_is (lacks-decimal 32 t (omega arith) (omega (arith, h.time))) refl (lacks-decimal 32 m (omega arith) (omega (arith, h.member)))).hex

pub parts_found : (text : List ℕ) (t m : ℕ) (digits bytes : List ℕ) → HasParts text t m digits → digits ≡ encode_lower bytes → IsBytes bytes
    → (let e : Entry = record { time = t; member = m; bytes = bytes } in (text ≡ line e) × IsEntry e)
parts_found text t m digits bytes h is fits =
    let size : length digits ≡ 2 * length bytes = ap length is ∙ hex_length bytes in (
      h.text_is ∙ ap (λ (x : List ℕ). decimal t ++ 32 ∷ (decimal m ++ 32 ∷ x)) is,
      record { time = h.time; member = h.member; some = omega (arith, size, h.some); few = omega (arith, size, h.few); are_bytes = fits },
    )

pub same_entry : (a b : Entry) → a.time ≡ b.time → a.member ≡ b.member → a.bytes ≡ b.bytes → a ≡ b
same_entry a b p q r =
    let made : ℕ → ℕ → List ℕ → Entry = λ t m bs. record { time = t; member = m; bytes = bs } in
    ap (λ (t : ℕ). made t a.member a.bytes) p ∙ ap (λ (m : ℕ). made b.time m a.bytes) q ∙ ap (λ (bs : List ℕ). made b.time b.member bs) r

-- an option in an answer, once it is known which it is
pub some_of : {A : Type 0} (P : A → Type 0) (o : Option A) (x : A) → o ≡ Some x → IfSome o P → P x
some_of {A} P o x e h = let Q : Option A → Type 0 = λ v. IfSome v P in subst Q e h

pub none_of : {A : Type 0} (P : Type 0) (o : Option A) → o ≡ None → IfNone o P → P
none_of {A} P o e h = let Q : Option A → Type 0 = λ v. IfNone v P in subst Q e h
