-- Deletes, cancels and replaces in the book of the feed.
use Rattle.std.proofs.Common.{◌≡◌, ℕ, ◌-◌, Bool, true, false, cond, ltb, eq-eqb, refl, ap, sym, ◌∙◌, List, [], ◌∷◌, ◌++◌, Some}
use Rattle.std.specs.List.{AllByRecursion, find}
use Rattle.hx_members.specs.Setups.{Setup}
use Rattle.hx_members.proofs.ChainLaws.{is_same-parts}
use Rattle.hx_itch.specs.declared.message.Feed.TheVariants.{OrderCancel, OrderDelete, OrderReplace}
use Rattle.hx_rules.specs.Orders.{Order, Token, is_called}
use Rattle.hx_rules.specs.Removal.{less, lessened, others, deleted, taken_off}
use Rattle.hx_laws.specs.FeedBook.{ShownOrder, taken_from, without, renewed, book_from, shown_as}
use Rattle.hx_laws.proofs.History.CoherentSteps.{found_of}
use Rattle.hx_laws.proofs.FeedBook.ShownExecutions.{shows, shows-less, IsApart, AreApart}

-- no order of the list has the name
abbrev pub NoneCalled : ℕ → Token → List Order → Type 0
NoneCalled m t xs = AllByRecursion (λ z. is_called m t z ≡ false) xs

none_called : (m : ℕ) (t : Token) (y : Order) → is_called m t y ≡ true → (ys : List Order) → AllByRecursion (IsApart y) ys → NoneCalled m t ys
none_called m t y h [] a = tt
none_called m t y h (z ∷ ys) a = (by z a.0, none_called m t y h ys a.1)
  where
    by : (z : Order) → IsApart y z → is_called m t z ≡ false
    by z k = let p = is_same-parts y.member y.token m t h in rw (← p.0, ← p.1) k.name

others_none : (m : ℕ) (t : Token) (ys : List Order) → NoneCalled m t ys → others m t ys ≡ ys
others_none m t [] n = refl
others_none m t (y ∷ ys) n = rw (n.0, others_none m t ys n.1) refl

pub shows-cons : (setup : Setup) (x : Order) (xs : List Order) (b : Bool) → x.shown ≡ b → shows setup (x ∷ xs) ≡ cond b (shown_as setup x ∷ shows setup xs) (shows setup xs)
shows-cons setup x xs b e = ap (λ c. cond c (shown_as setup x ∷ shows setup xs) (shows setup xs)) e

-- what happens to the named order x in a list, as a change of its entry, seen from the front
pub found_ind : (m : ℕ) (t : Token) (x : Order) (P : List Order → Type 0) → ((ys : List Order) → is_called m t x ≡ true → AllByRecursion (IsApart x) ys → NoneCalled m t ys → P (x ∷ ys))
    → ((y : Order) (ys : List Order) → is_called m t y ≡ false → IsApart y x → P ys → P (y ∷ ys)) → (xs : List Order) → AreApart xs → find (is_called m t) xs ≡ Some x → P xs
found_ind m t x P here there [] a h = absurd (cc h)
found_ind m t x P here there (y ∷ ys) a h = choose (is_called m t y) refl (found_ind m t x P here there ys a.1) h
  where
    choose : (b : Bool) → is_called m t y ≡ b → (find (is_called m t) ys ≡ Some x → P ys) → cond b (Some y) (find (is_called m t) ys) ≡ Some x → P (y ∷ ys)
    choose true e ih h =
        let same : x ≡ y = cc in
        rw (← same) (here ys (rw same e) (rw same a.0) (none_called m t y e ys a.0))
    choose false e ih h = there y ys e (found_of (IsApart y) m t ys x a.0 h).0 (ih h)

-- The order is deleted.

gone_found : (setup : Setup) (m : ℕ) (t : Token) (x : Order) → x.shown ≡ true → (xs : List Order) → AreApart xs → find (is_called m t) xs ≡ Some x
    → without x.reference (shows setup xs) ≡ shows setup (others m t xs)
gone_found setup m t x e = found_ind m t x (λ xs. without x.reference (shows setup xs) ≡ shows setup (others m t xs)) here there
  where
    here : (ys : List Order) → is_called m t x ≡ true → AllByRecursion (IsApart x) ys → NoneCalled m t ys → without x.reference (shows setup (x ∷ ys)) ≡ shows setup (others m t (x ∷ ys))
    here ys c a n = ap (without x.reference) (shows-cons setup x ys true e) ∙ (rw (eq-eqb x.reference x.reference refl, c, others_none m t ys n) refl)

    there : (y : Order) (ys : List Order) → is_called m t y ≡ false → IsApart y x → without x.reference (shows setup ys) ≡ shows setup (others m t ys)
        → without x.reference (shows setup (y ∷ ys)) ≡ shows setup (others m t (y ∷ ys))
    there y ys c a ih = rw c (choose y.shown refl)
      where
        choose : (b : Bool) → y.shown ≡ b → without x.reference (shows setup (y ∷ ys)) ≡ shows setup (y ∷ others m t ys)
        choose true f =
            ap (without x.reference) (shows-cons setup y ys true f)
            ∙ ((ap (λ (b : Bool). cond b (shows setup ys) (shown_as setup y ∷ without x.reference (shows setup ys))) (a.reference f e) ∙ ap (λ z. shown_as setup y ∷ z) ih) ∙ sym (shows-cons setup y (others m t ys) true f))
        choose false f = ap (without x.reference) (shows-cons setup y ys false f) ∙ (ih ∙ sym (shows-cons setup y (others m t ys) false f))

hidden_found : (setup : Setup) (m : ℕ) (t : Token) (x : Order) → x.shown ≡ false → (xs : List Order) → AreApart xs → find (is_called m t) xs ≡ Some x → shows setup xs ≡ shows setup (others m t xs)
hidden_found setup m t x e = found_ind m t x (λ xs. shows setup xs ≡ shows setup (others m t xs)) here there
  where
    here : (ys : List Order) → is_called m t x ≡ true → AllByRecursion (IsApart x) ys → NoneCalled m t ys → shows setup (x ∷ ys) ≡ shows setup (others m t (x ∷ ys))
    here ys c a n = shows-cons setup x ys false e ∙ (rw (c, others_none m t ys n) refl)

    there : (y : Order) (ys : List Order) → is_called m t y ≡ false → IsApart y x → shows setup ys ≡ shows setup (others m t ys) → shows setup (y ∷ ys) ≡ shows setup (others m t (y ∷ ys))
    there y ys c a ih = rw (c, ih) refl

pub deleted_found : (setup : Setup) (time m : ℕ) (t : Token) (x : Order) (xs : List Order) → AreApart xs → find (is_called m t) xs ≡ Some x
    → book_from (shows setup xs) (deleted time x) ≡ shows setup (others m t xs)
deleted_found setup time m t x xs a h = choose x.shown refl
  where
    choose : (b : Bool) → x.shown ≡ b
        → book_from (shows setup xs) (cond b (OrderDelete (record { locate = x.locate; time = time; reference = x.reference }) ∷ []) []) ≡ shows setup (others m t xs)
    choose true e = gone_found setup m t x e xs a h
    choose false e = hidden_found setup m t x e xs a h

-- Shares are taken off the order.

taken_found : (setup : Setup) (m : ℕ) (t : Token) (by : ℕ) (x : Order) → x.shown ≡ true → (xs : List Order) → AreApart xs → find (is_called m t) xs ≡ Some x
    → taken_from x.reference by (shows setup xs) ≡ shows setup (lessened m t by xs)
taken_found setup m t by x e = found_ind m t x (λ xs. taken_from x.reference by (shows setup xs) ≡ shows setup (lessened m t by xs)) here there
  where
    here : (ys : List Order) → is_called m t x ≡ true → AllByRecursion (IsApart x) ys → NoneCalled m t ys → taken_from x.reference by (shows setup (x ∷ ys)) ≡ shows setup (lessened m t by (x ∷ ys))
    here ys c a n =
        ap (taken_from x.reference by) (shows-cons setup x ys true e)
        ∙ ((rw (eq-eqb x.reference x.reference refl) (sides x.shown e))
        ∙ (sym (shows-less setup x by ys) ∙ ap (shows setup) (sym (ap (λ b. cond b (less x by ++ ys) (x ∷ lessened m t by ys)) c))))
      where
        sides : (d : Bool) → d ≡ true
            → cond (ltb by x.shares) (record (shown_as setup x) { shares = x.shares - by } ∷ shows setup ys) (shows setup ys)
            ≡ cond (ltb by x.shares) (cond d (record (shown_as setup x) { shares = x.shares - by } ∷ shows setup ys) (shows setup ys)) (shows setup ys)
        sides true h = refl
        sides false h = absurd (let z : false ≡ true = h in cc)

    there : (y : Order) (ys : List Order) → is_called m t y ≡ false → IsApart y x → taken_from x.reference by (shows setup ys) ≡ shows setup (lessened m t by ys)
        → taken_from x.reference by (shows setup (y ∷ ys)) ≡ shows setup (lessened m t by (y ∷ ys))
    there y ys c a ih = rw c (choose y.shown refl)
      where
        choose : (b : Bool) → y.shown ≡ b → taken_from x.reference by (shows setup (y ∷ ys)) ≡ shows setup (y ∷ lessened m t by ys)
        choose true f =
            ap (taken_from x.reference by) (shows-cons setup y ys true f)
            ∙ ((ap (λ (b : Bool). cond b (cond (ltb by y.shares) (record (shown_as setup y) { shares = y.shares - by } ∷ shows setup ys) (shows setup ys)) (shown_as setup y ∷ taken_from x.reference by (shows setup ys))) (a.reference f e)
            ∙ ap (λ z. shown_as setup y ∷ z) ih) ∙ sym (shows-cons setup y (lessened m t by ys) true f))
        choose false f = ap (taken_from x.reference by) (shows-cons setup y ys false f) ∙ (ih ∙ sym (shows-cons setup y (lessened m t by ys) false f))

-- taking all shares off is a delete
taken_all : (setup : Setup) (x : Order) (by : ℕ) → ltb by x.shares ≡ false → (m : ℕ) (t : Token) → x.shown ≡ true → (xs : List Order) → AreApart xs → find (is_called m t) xs ≡ Some x
    → taken_from x.reference by (shows setup xs) ≡ without x.reference (shows setup xs)
taken_all setup x by l m t e = found_ind m t x (λ xs. taken_from x.reference by (shows setup xs) ≡ without x.reference (shows setup xs)) here there
  where
    here : (ys : List Order) → is_called m t x ≡ true → AllByRecursion (IsApart x) ys → NoneCalled m t ys → taken_from x.reference by (shows setup (x ∷ ys)) ≡ without x.reference (shows setup (x ∷ ys))
    here ys c a n =
        ap (taken_from x.reference by) (shows-cons setup x ys true e) ∙ ((rw (eq-eqb x.reference x.reference refl, l) refl) ∙ sym (ap (without x.reference) (shows-cons setup x ys true e)))

    there : (y : Order) (ys : List Order) → is_called m t y ≡ false → IsApart y x → taken_from x.reference by (shows setup ys) ≡ without x.reference (shows setup ys)
        → taken_from x.reference by (shows setup (y ∷ ys)) ≡ without x.reference (shows setup (y ∷ ys))
    there y ys c a ih = choose y.shown refl
      where
        choose : (b : Bool) → y.shown ≡ b → taken_from x.reference by (shows setup (y ∷ ys)) ≡ without x.reference (shows setup (y ∷ ys))
        choose true f = ap (taken_from x.reference by) (shows-cons setup y ys true f) ∙ ((rw (a.reference f e) (ap (λ z. shown_as setup y ∷ z) ih)) ∙ sym (ap (without x.reference) (shows-cons setup y ys true f)))
        choose false f = ap (taken_from x.reference by) (shows-cons setup y ys false f) ∙ (ih ∙ sym (ap (without x.reference) (shows-cons setup y ys false f)))

hidden_lessened : (setup : Setup) (m : ℕ) (t : Token) (by : ℕ) (x : Order) → x.shown ≡ false → (xs : List Order) → AreApart xs → find (is_called m t) xs ≡ Some x → shows setup xs ≡ shows setup (lessened m t by xs)
hidden_lessened setup m t by x e = found_ind m t x (λ xs. shows setup xs ≡ shows setup (lessened m t by xs)) here there
  where
    here : (ys : List Order) → is_called m t x ≡ true → AllByRecursion (IsApart x) ys → NoneCalled m t ys → shows setup (x ∷ ys) ≡ shows setup (lessened m t by (x ∷ ys))
    here ys c a n =
        shows-cons setup x ys false e
        ∙ (sides x.shown e (ltb by x.shares)
        ∙ (sym (shows-less setup x by ys) ∙ ap (shows setup) (sym (ap (λ b. cond b (less x by ++ ys) (x ∷ lessened m t by ys)) c))))
      where
        sides : (d : Bool) → d ≡ false → (c : Bool) → shows setup ys ≡ cond c (cond d (record (shown_as setup x) { shares = x.shares - by } ∷ shows setup ys) (shows setup ys)) (shows setup ys)
        sides true h c = absurd (let z : true ≡ false = h in cc)
        sides false h true = refl
        sides false h false = refl

    there : (y : Order) (ys : List Order) → is_called m t y ≡ false → IsApart y x → shows setup ys ≡ shows setup (lessened m t by ys) → shows setup (y ∷ ys) ≡ shows setup (lessened m t by (y ∷ ys))
    there y ys c a ih = rw (c, ih) refl

pub taken_off_found : (setup : Setup) (time m : ℕ) (t : Token) (by : ℕ) (x : Order) (xs : List Order) → AreApart xs → find (is_called m t) xs ≡ Some x
    → book_from (shows setup xs) (taken_off time by x) ≡ shows setup (lessened m t by xs)
taken_off_found setup time m t by x xs a h = choose x.shown refl (ltb by x.shares) refl
  where
    choose : (b : Bool) → x.shown ≡ b → (c : Bool) → ltb by x.shares ≡ c
        → book_from (shows setup xs)
        (cond c (cond b (OrderCancel (record { locate = x.locate; time = time; reference = x.reference; shares = by }) ∷ []) [])
        (cond b (OrderDelete (record { locate = x.locate; time = time; reference = x.reference }) ∷ []) []))
        ≡ shows setup (lessened m t by xs)
    choose true e true l = taken_found setup m t by x e xs a h
    choose true e false l = sym (taken_all setup x by l m t e xs a h) ∙ taken_found setup m t by x e xs a h
    choose false e true l = hidden_lessened setup m t by x e xs a h
    choose false e false l = hidden_lessened setup m t by x e xs a h

-- The order is replaced by one message.

renewed_found : (setup : Setup) (m : ℕ) (t : Token) (new n p : ℕ) (x : Order) → x.shown ≡ true → (xs : List Order) → AreApart xs → find (is_called m t) xs ≡ Some x
    → renewed x.reference new n p (shows setup xs) ≡ record (shown_as setup x) { reference = new; shares = n; price = p } ∷ []
renewed_found setup m t new n p x e = found_ind m t x (λ xs. renewed x.reference new n p (shows setup xs) ≡ new_entry) here there
  where
    new_entry : List ShownOrder
    new_entry = record (shown_as setup x) { reference = new; shares = n; price = p } ∷ []

    here : (ys : List Order) → is_called m t x ≡ true → AllByRecursion (IsApart x) ys → NoneCalled m t ys → renewed x.reference new n p (shows setup (x ∷ ys)) ≡ new_entry
    here ys c a k = ap (renewed x.reference new n p) (shows-cons setup x ys true e) ∙ (rw (eq-eqb x.reference x.reference refl) refl)

    there : (y : Order) (ys : List Order) → is_called m t y ≡ false → IsApart y x → renewed x.reference new n p (shows setup ys) ≡ new_entry → renewed x.reference new n p (shows setup (y ∷ ys)) ≡ new_entry
    there y ys c a ih = choose y.shown refl
      where
        choose : (b : Bool) → y.shown ≡ b → renewed x.reference new n p (shows setup (y ∷ ys)) ≡ new_entry
        choose true f = ap (renewed x.reference new n p) (shows-cons setup y ys true f) ∙ (rw (a.reference f e) ih)
        choose false f = ap (renewed x.reference new n p) (shows-cons setup y ys false f) ∙ ih

pub replaced_found : (setup : Setup) (m : ℕ) (t : Token) (locate time new n p : ℕ) (x : Order) → x.shown ≡ true → (xs : List Order) → AreApart xs → find (is_called m t) xs ≡ Some x
    → book_from (shows setup xs) (OrderReplace (record { locate = locate; time = time; original_reference = x.reference; reference = new; shares = n; price = p }) ∷ [])
    ≡ shows setup (others m t xs) ++ record (shown_as setup x) { reference = new; shares = n; price = p } ∷ []
replaced_found setup m t locate time new n p x e xs a h = rw (gone_found setup m t x e xs a h, renewed_found setup m t new n p x e xs a h) refl
