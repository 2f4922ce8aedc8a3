-- Orders that end together, in the book of the feed.
use Rattle.std.proofs.Common.{◌≡◌, ℕ, Bool, true, false, cond, eqb, eq-eqb, refl, ap, sym, ◌∙◌, not, List, [], ◌∷◌, ◌++◌}
use Rattle.std.specs.List.{AllByRecursion, filter}
use Rattle.hx_book.proofs.Lists.{all_weaker, all_filtered}
use Rattle.hx_members.specs.Setups.{Setup}
use Rattle.hx_itch.specs.declared.message.Feed.TheVariants.{OrderDelete}
use Rattle.hx_rules.specs.Orders.{Order}
use Rattle.hx_rules.specs.Hours.{all_deleted}
use Rattle.hx_laws.specs.FeedBook.{ShownOrder, without, book_from, shown_as}
use Rattle.hx_laws.proofs.FeedBook.ShownExecutions.{shows, IsApart, AreApart}
use Rattle.hx_laws.proofs.FeedBook.ShownLeaving.{shows-cons}

-- the shown ones have other references than r
abbrev pub HaveOthers : ℕ → List Order → Type 0
HaveOthers r zs = AllByRecursion (λ z. z.shown ≡ true → eqb r z.reference ≡ false) zs

-- the first order of the book stays if none of its reference is deleted
first_stays : (time : ℕ) (x : ShownOrder) (b : List ShownOrder) (zs : List Order) → HaveOthers x.reference zs → book_from (x ∷ b) (all_deleted time zs) ≡ x ∷ book_from b (all_deleted time zs)
first_stays time x b [] a = refl
first_stays time x b (z ∷ zs) a = choose z.shown a.0 (λ b. first_stays time x b zs a.1)
  where
    delete : ℕ → Bool → List ShownOrder → List ShownOrder
    delete time d b = book_from b (cond d (OrderDelete (record { locate = z.locate; time = time; reference = z.reference }) ∷ []) [] ++ all_deleted time zs)

    choose : (d : Bool) → (d ≡ true → eqb x.reference z.reference ≡ false) → ((b : List ShownOrder) → book_from (x ∷ b) (all_deleted time zs) ≡ x ∷ book_from b (all_deleted time zs))
        → delete time d (x ∷ b) ≡ x ∷ delete time d b
    choose true f ih = ap (λ (c : Bool). book_from (cond c b (x ∷ without z.reference b)) (all_deleted time zs)) (f refl) ∙ ih (without z.reference b)
    choose false f ih = ih b

pub ended_others : (due : Order → Bool) (y : Order) → y.shown ≡ true → (xs : List Order) → AllByRecursion (IsApart y) xs → HaveOthers y.reference (filter due xs)
ended_others due y e xs a = all_filtered _ due xs (all_weaker (IsApart y) _ (λ z k h. k.reference e h) xs a)

pub ended_book : (setup : Setup) (due : Order → Bool) (time : ℕ) (xs : List Order) → AreApart xs
    → book_from (shows setup xs) (all_deleted time (filter due xs)) ≡ shows setup (filter (λ x. not (due x)) xs)
ended_book setup due time [] a = refl
ended_book setup due time (y ∷ ys) a = choose (due y) refl y.shown refl (ended_book setup due time ys a.1)
  where
    ends : List Order
    ends = filter due ys

    stay : List Order
    stay = filter (λ x. not (due x)) ys

    delete : Bool → List ShownOrder → List ShownOrder
    delete d b = book_from b (cond d (OrderDelete (record { locate = y.locate; time = time; reference = y.reference }) ∷ []) [] ++ all_deleted time ends)

    shown_first : (d : Bool) → d ≡ true → delete d (shown_as setup y ∷ shows setup ys) ≡ book_from (shows setup ys) (all_deleted time ends)
    shown_first true h = ap (λ (c : Bool). book_from (cond c (shows setup ys) (shown_as setup y ∷ without y.reference (shows setup ys))) (all_deleted time ends)) (eq-eqb y.reference y.reference refl)
    shown_first false h = absurd (let z : false ≡ true = h in cc)

    hidden_first : (d : Bool) → d ≡ false → delete d (shows setup ys) ≡ book_from (shows setup ys) (all_deleted time ends)
    hidden_first true h = absurd (let z : true ≡ false = h in cc)
    hidden_first false h = refl

    choose : (b : Bool) → due y ≡ b → (d : Bool) → y.shown ≡ d → book_from (shows setup ys) (all_deleted time ends) ≡ shows setup stay
        → book_from (shows setup (y ∷ ys)) (all_deleted time (cond b (y ∷ ends) ends)) ≡ shows setup (cond (not b) (y ∷ stay) stay)
    choose true g true e ih = ap (λ b. book_from b (all_deleted time (y ∷ ends))) (shows-cons setup y ys true e) ∙ shown_first y.shown e ∙ ih
    choose true g false e ih = ap (λ b. book_from b (all_deleted time (y ∷ ends))) (shows-cons setup y ys false e) ∙ hidden_first y.shown e ∙ ih
    choose false g true e ih =
        ap (λ b. book_from b (all_deleted time ends)) (shows-cons setup y ys true e)
        ∙ first_stays time (shown_as setup y) (shows setup ys) ends (ended_others due y e ys a.0) ∙ ap (λ z. shown_as setup y ∷ z) ih ∙ sym (shows-cons setup y stay true e)
    choose false g false e ih = ap (λ b. book_from b (all_deleted time ends)) (shows-cons setup y ys false e) ∙ ih ∙ sym (shows-cons setup y stay false e)
