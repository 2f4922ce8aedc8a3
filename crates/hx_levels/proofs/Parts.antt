-- Which keys a part of the orders has.
use Rattle.std.proofs.Common.{◌≡◌, ℕ, ◌||◌, Bool, false, List, [], ◌∷◌, refl, ap, ◌∙◌}
use Rattle.std.specs.List.{filter}
use Rattle.std.proofs.lemmas.Bool.{cond_both, or_parts}
use Rattle.hx_book.specs.declared.order.Live.{Live}
use Rattle.hx_book.specs.Book.{is_under, has_key, KeysDiffer}

pub has_key-filtered : (keep : Live → Bool) (key : ℕ) (xs : List Live) → has_key key xs ≡ false → has_key key (filter keep xs) ≡ false
has_key-filtered keep key [] h = refl
has_key-filtered keep key (x ∷ xs) h =
    let p = or_parts (is_under key x) (has_key key xs) h in
    cond_both (keep x) (x ∷ filter keep xs) (filter keep xs) (λ r. has_key key r ≡ false)
    (λ _. ap (λ b. b || has_key key (filter keep xs)) p.0 ∙ has_key-filtered keep key xs p.1) (λ _. has_key-filtered keep key xs p.1)

pub differ-filtered : (keep : Live → Bool) (xs : List Live) → KeysDiffer xs → KeysDiffer (filter keep xs)
differ-filtered keep [] d = tt
differ-filtered keep (x ∷ xs) d =
    cond_both (keep x) (x ∷ filter keep xs) (filter keep xs) (λ r. KeysDiffer r)
    (λ _. (has_key-filtered keep x.key.0 xs d.0, differ-filtered keep xs d.1)) (λ _. differ-filtered keep xs d.1)
