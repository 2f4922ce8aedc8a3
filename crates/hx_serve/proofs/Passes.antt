-- Passes that come back from their slots.
use Rattle.std.proofs.Common.{◌≡◌, ◌<◌, ℕ, suc, List, [], ◌∷◌, ◌++◌, length, map, Option, Some, filter_map, refl, sym, ap, ◌∙◌, arith, slice_index_or}
use Rattle.std.proofs.lemmas.List.{map-append}
use Rattle.std.proofs.lemmas.List.Elements.{filter_map-append}
use Rattle.std.specs.List.{cons_option}

-- two lists that agree at each index give the same list
pub same_in_all : {S X : Type 0} (f : S → Option X) (olds news : List S) → length news ≡ length olds
    → ((i : ℕ) (d : S) → i < length olds → f (slice_index_or news i d) ≡ f (slice_index_or olds i d))
    → filter_map f news ≡ filter_map f olds
same_in_all f [] [] len each = refl
same_in_all f [] (n ∷ ns) len each = absurd (omega (arith, len))
same_in_all f (o ∷ os) [] len each = absurd (omega (arith, len))
same_in_all f (o ∷ os) (n ∷ ns) len each =
    let head : f n ≡ f o = each 0 o (omega arith) in
    let tail : filter_map f ns ≡ filter_map f os = same_in_all f os ns (omega (arith, len)) (λ i d h. each (suc i) d (omega (arith, h))) in
    ap (λ x. cons_option x (filter_map f ns)) head ∙ ap (cons_option (f o)) tail

-- what a call that was made with what stands in a slot, and left what stands there then, says of the slot
pub same_there : {S X : Type 0} (f : S → Option X) {given left old new : S} → given ≡ old → left ≡ new → f left ≡ f given → f new ≡ f old
same_there f same is e = sym (ap f is) ∙ e ∙ ap f same

-- one more slot after the others, whose pass has this number
pub one_more : {S P : Type 0} (f : S → Option ℕ) (number : P → ℕ) (slots : List S) (s : S) (done : List P) (p : P) → f s ≡ Some (number p) → filter_map f slots ≡ map number done
    → filter_map f (slots ++ s ∷ []) ≡ map number (done ++ p ∷ [])
one_more f number slots s done p is so_far =
    filter_map-append f slots (s ∷ [])
    ∙ ap (λ o. filter_map f slots ++ cons_option o []) is
    ∙ ap (λ l. l ++ number p ∷ []) so_far
    ∙ sym (map-append number done (p ∷ []))
