-- Staging messages one after another.
use Rattle.std.proofs.Common.{◌≡◌, ℕ, suc, ◌+◌, ◌<◌, List, [], ◌∷◌, ◌++◌, length, drop, get_or, true, false, Result, Ok, Err, ap, sym, ◌∙◌, subst, append_assoc, arith}
use Rattle.std.proofs.Math.Seq.{drop-cons}
use Rattle.std.specs.Prelude.{OnOk, is_err}
use Rattle.std.specs.List.{AllByRecursion}
use Rattle.hx_itch.specs.declared.message.Feed.{Feed}
use Rattle.hx_itch.specs.Message.{feed_bytes}
use Rattle.hx_desk.specs.Entries.{feed_spelled}

-- what holds if there is no error
pub on_ok : {T E : Type 0} (r : Result T E) (P : Type 0) → is_err r ≡ false → OnOk r P → P
on_ok (Ok x) P f h = h
on_ok (Err e) P f h = absurd (let z : true ≡ false = f in cc)

-- the rest of a list begins with the element at its index
pub rest_at : {A : Type 0} (xs : List A) (i : ℕ) (d : A) → i < length xs → drop i xs ≡ get_or xs i d ∷ drop (i + 1) xs
rest_at xs i d in' = drop-cons xs i d in' ∙ ap (λ k. get_or xs i d ∷ drop k xs) (let e : suc i ≡ i + 1 = omega arith in e)

pub staged_next : (staged : List (List ℕ)) (messages : List Feed) (i : ℕ) (d : Feed) (bytes : List ℕ) → i < length messages → bytes ≡ feed_bytes (get_or messages i d)
    → (staged ++ bytes ∷ []) ++ feed_spelled (drop (i + 1) messages) ≡ staged ++ feed_spelled (drop i messages)
staged_next staged messages i d bytes in' is =
    append_assoc staged (bytes ∷ []) (feed_spelled (drop (i + 1) messages))
    ∙ ap (λ (x : List (List ℕ)). staged ++ x) (ap (λ (b : List ℕ). b ∷ feed_spelled (drop (i + 1) messages)) is ∙ ap feed_spelled (sym (rest_at messages i d in')))

pub all_next : {A : Type 0} (P : A → Type 0) (xs : List A) (i : ℕ) (d : A) → i < length xs → AllByRecursion P (drop i xs) → AllByRecursion P (drop (i + 1) xs)
all_next P xs i d in' all = (subst (AllByRecursion P) (rest_at xs i d in') all).1
