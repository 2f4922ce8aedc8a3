-- One message more is applied to a book.
use Rattle.std.proofs.Common.{◌≡◌, ℕ, ◌+◌, ◌<◌, suc, length, take, drop, get_or, refl, sym, ap, ◌∙◌, subst, List, [], ◌∷◌, ◌++◌, None, true, add-one}
use Rattle.std.proofs.Math.Seq.{take-suc, split_at}
use Rattle.hx_itch.specs.declared.message.Feed.{Feed}
use Rattle.hx_itch.specs.declared.shown_order.ShownOrder.{ShownOrder}
use Rattle.hx_itch.specs.Books.{book_after, book_from}
use Rattle.hx_reader.specs.declared.fault.ApplyError.{ApplyError}
use Rattle.hx_reader.specs.declared.fault.ApplyError.TheVariants as errors
use Rattle.hx_reader.specs.Faults.{fault_of, adds, IsCause, AreFaultless, StopsAt}

book_more : (book : List ShownOrder) (xs : List Feed) (x : Feed) → book_from book (xs ++ x ∷ []) ≡ book_after (book_from book xs) x
book_more book [] x = refl
book_more book (y ∷ xs) x = book_more (book_after book y) xs x

faultless_more : (book : List ShownOrder) (xs : List Feed) (x : Feed) → AreFaultless book xs → fault_of (book_from book xs) x ≡ None → AreFaultless book (xs ++ x ∷ [])
faultless_more book [] x all here = (here, tt)
faultless_more book (y ∷ xs) x all here = (all.0, faultless_more (book_after book y) xs x all.1 here)

-- what is known before the message of an index: the book is that of the messages before it, none of which has a fault
abbrev pub Took : (old : List ShownOrder) → List Feed → (index : ℕ) → List ShownOrder → Type 0
Took old xs i book = (book ≡ book_from old (take i xs)) × AreFaultless old (take i xs)

pub one_more : (old a b : List ShownOrder) (xs : List Feed) (i : ℕ) (d : Feed) → i < length xs → Took old xs i a → b ≡ book_after a (get_or xs i d) → fault_of a (get_or xs i d) ≡ None
    → Took old xs (i + 1) b
one_more old a b xs i d h so is fits =
    let x = get_or xs i d in
    let more : take (i + 1) xs ≡ take i xs ++ x ∷ [] = rw (add-one, take-suc xs i d) refl in (
      is ∙ ap (λ (c : List ShownOrder). book_after c x) so.0 ∙ sym (book_more old (take i xs) x) ∙ ap (book_from old) (sym more),
      subst (AreFaultless old) (sym more) (faultless_more old (take i xs) x so.1 (ap (λ (c : List ShownOrder). fault_of c x) (sym so.0) ∙ fits)),
    )

pub stops : (old a b : List ShownOrder) (xs : List Feed) (i : ℕ) (d : Feed) (error : ApplyError) → i < length xs → Took old xs i a → b ≡ a → IsCause error (fault_of a (get_or xs i d))
    → (error ≡ errors.NoMemory → adds (get_or xs i d) ≡ true) → StopsAt old xs b error
stops old a b xs i d error h so is cause memory =
    record {
      before = take i xs;
      message = get_or xs i d;
      later = drop (suc i) xs;
      split = split_at xs i d h;
      faultless = so.1;
      applied = is ∙ so.0;
      cause = subst (λ (c : List ShownOrder). IsCause error (fault_of c (get_or xs i d))) (sym is) cause;
      memory = memory;
    }
