-- The tables that store a book, and what each change makes of them.
use Rattle.std.proofs.Common.{◌≡◌, ℕ, ◌-◌, ◌<◌, ◌==◌, nat_lt, List, [], ◌∷◌, ◌++◌, Bool, true, false, Some, None, cond, refl, sym, ap, subst, ◌∙◌, arith}
use Rattle.std.specs.Option.{IsSome}
use Rattle.std.specs.Ordering.{nat_cmp}
use Rattle.std.specs.declared.cmp.Ordering.TheVariants.{Greater}
use Rattle.std.specs.List.{AllByRecursion}
use Rattle.std.specs.Map.{lookup, remove_entry, set_value}
use Rattle.std.specs.BTreeMap.{insert_entry}
use Rattle.std.proofs.lemmas.Bool.Decides.{nat_tests}
use Rattle.std.proofs.lemmas.Option.{same_Some}
use Rattle.hx_itch.specs.declared.shown_order.ShownOrder.{ShownOrder}
use Rattle.hx_itch.specs.Books.{taken_from, without, renewed}
use Rattle.hx_reader.specs.Faults.{order_of}
use Rattle.hx_reader.specs.Tables.{Entries, orders_in, is_number, order_at, AreBelow, HasNone, AreSame}

-- ---- numbers

pub is_itself : (k : ℕ) → is_number k k ≡ true
is_itself k = grind (arith, nat_tests)

pub is_other : (k n : ℕ) → n < k → is_number k n ≡ false
is_other k n h = grind (arith, nat_tests)

pub is_below : (k n : ℕ) → k < n → is_number k n ≡ false
is_below k n h = grind (arith, nat_tests)

pub is_only : (k n : ℕ) → is_number k n ≡ true → k ≡ n
is_only k n h = grind (arith, nat_tests)

-- ---- an order comes last

pub comes_last : (n : ℕ) (x : ShownOrder) (es : Entries) → AreBelow n es → insert_entry nat_cmp es n x ≡ es ++ (n, x) ∷ []
comes_last n x [] h = refl
comes_last n x (e ∷ es) h = rw (above e.0 h.0) (ap (λ l. e ∷ l) (comes_last n x es h.1))
  where
    above : (m : ℕ) → m < n → nat_cmp n m ≡ Greater
    above m lt = grind (arith, nat_tests)

pub goes_again : (n : ℕ) (x : ShownOrder) (es : Entries) → AreBelow n es → remove_entry (is_number n) (es ++ (n, x) ∷ []) ≡ es
goes_again n x [] h = ap (λ b. cond b [] ((n, x) ∷ [])) (is_itself n)
goes_again n x (e ∷ es) h = ap (λ b. cond b (es ++ (n, x) ∷ []) (e ∷ remove_entry (is_number n) (es ++ (n, x) ∷ []))) (is_other n e.0 h.0) ∙ ap (λ l. e ∷ l) (goes_again n x es h.1)

pub orders_last : (n : ℕ) (x : ShownOrder) (es : Entries) → orders_in (es ++ (n, x) ∷ []) ≡ orders_in es ++ x ∷ []
orders_last n x [] = refl
orders_last n x (e ∷ es) = ap (λ l. e.1 ∷ l) (orders_last n x es)

pub below_more : (n m : ℕ) (x : ShownOrder) (es : Entries) → n < m → AreBelow n es → AreBelow m (es ++ (n, x) ∷ [])
below_more n m x [] lt h = (lt, tt)
below_more n m x (e ∷ es) lt h = (omega (arith, lt, h.0), below_more n m x es lt h.1)

-- ---- what holds of all entries holds of those that stay

pub all_left : (P : ℕ × ShownOrder → Type 0) (p : ℕ → Bool) (es : Entries) → AllByRecursion P es → AllByRecursion P (remove_entry p es)
all_left P p [] h = h
all_left P p (e ∷ es) h = at (p e.0) (all_left P p es h.1)
  where
    at : (b : Bool) → AllByRecursion P (remove_entry p es) → AllByRecursion P (cond b es (e ∷ remove_entry p es))
    at true ih = h.1
    at false ih = (h.0, ih)

pub all_more : (P : ℕ × ShownOrder → Type 0) (e : ℕ × ShownOrder) (es : Entries) → AllByRecursion P es → P e → AllByRecursion P (es ++ e ∷ [])
all_more P e [] h i = (i, tt)
all_more P e (f ∷ es) h i = (h.0, all_more P e es h.1 i)

-- and if what holds does not depend on the shares, once an order lost some
pub all_set : (P : ℕ × ShownOrder → Type 0) (p : ℕ → Bool) (n : ℕ) (x : ShownOrder) (es : Entries) → ((k : ℕ) → P (k, x) → P (k, record x { shares = n })) → lookup p es ≡ Some x
    → AllByRecursion P es → AllByRecursion P (set_value p es (record x { shares = n }))
all_set P p n x [] keep there h = h
all_set P p n x (e ∷ es) keep there h = at (p e.0) there (λ z. all_set P p n x es keep z h.1)
  where
    at : (b : Bool) → cond b (Some e.1) (lookup p es) ≡ Some x → (lookup p es ≡ Some x → AllByRecursion P (set_value p es (record x { shares = n })))
        → AllByRecursion P (cond b ((e.0, record x { shares = n }) ∷ es) (e ∷ set_value p es (record x { shares = n })))
    at true z ih = (keep e.0 (subst (λ (o : ShownOrder). P (e.0, o)) (same_Some e.1 x z) h.0), h.1)
    at false z ih = (h.0, ih z)

-- the one that is found
pub all_found : (P : ℕ × ShownOrder → Type 0) (k : ℕ) (x : ShownOrder) (es : Entries) → order_at k es ≡ Some x → AllByRecursion P es → P (k, x)
all_found P k x [] there h = absurd (let e : None ≡ Some x = there in cc)
all_found P k x (e ∷ es) there h = at (is_number k e.0) refl there (λ z. all_found P k x es z h.1)
  where
    at : (b : Bool) → is_number k e.0 ≡ b → cond b (Some e.1) (order_at k es) ≡ Some x → (order_at k es ≡ Some x → P (k, x)) → P (k, x)
    at true t z ih = subst (λ (o : ShownOrder). P (k, o)) (same_Some e.1 x z) (subst (λ m. P (m, e.1)) (sym (is_only k e.0 t)) h.0)
    at false t z ih = ih z

-- a value that is written as it was
pub set_same : (p : ℕ → Bool) (x : ShownOrder) (es : Entries) → lookup p es ≡ Some x → set_value p es x ≡ es
set_same p x [] h = refl
set_same p x (e ∷ es) h = at (p e.0) h (set_same p x es)
  where
    at : (b : Bool) → cond b (Some e.1) (lookup p es) ≡ Some x → (lookup p es ≡ Some x → set_value p es x ≡ es) → cond b ((e.0, x) ∷ es) (e ∷ set_value p es x) ≡ e ∷ es
    at true z ih = ap (λ (o : ShownOrder). (e.0, o) ∷ es) (sym (same_Some e.1 x z))
    at false z ih = ap (λ l. e ∷ l) (ih z)

-- ---- the order of a reference

pub found_none : (q : ℕ) (es : Entries) → HasNone q es → order_of q (orders_in es) ≡ None
found_none q [] h = refl
found_none q (e ∷ es) h = ap (λ b. cond b (Some e.1) (order_of q (orders_in es))) h.0 ∙ found_none q es h.1

pub found_same : (q k : ℕ) (es : Entries) → AreSame q k es → order_of q (orders_in es) ≡ order_at k es
found_same q k [] h = refl
found_same q k (e ∷ es) h = ap (λ b. cond b (Some e.1) (order_of q (orders_in es))) (sym h.0) ∙ ap (λ o. cond (is_number k e.0) (Some e.1) o) (found_same q k es h.1)

pub removed_same : (q k : ℕ) (es : Entries) → AreSame q k es → orders_in (remove_entry (is_number k) es) ≡ without q (orders_in es)
removed_same q k [] h = refl
removed_same q k (e ∷ es) h = at (is_number k e.0) (removed_same q k es h.1) ∙ ap (λ b. cond b (orders_in es) (e.1 ∷ without q (orders_in es))) h.0
  where
    at : (b : Bool) → orders_in (remove_entry (is_number k) es) ≡ without q (orders_in es) → orders_in (cond b es (e ∷ remove_entry (is_number k) es)) ≡ cond b (orders_in es) (e.1 ∷ without q (orders_in es))
    at true ih = refl
    at false ih = ap (λ l. e.1 ∷ l) ih

-- shares are taken off, and some are left
pub taken_some : (q k n : ℕ) (x : ShownOrder) (es : Entries) → AreSame q k es → order_at k es ≡ Some x → nat_lt n x.shares ≡ true
    → orders_in (set_value (is_number k) es (record x { shares = x.shares - n })) ≡ taken_from q n (orders_in es)
taken_some q k n x [] h there lt = refl
taken_some q k n x (e ∷ es) h there lt =
    at (is_number k e.0) there (λ z. taken_some q k n x es h.1 z lt) ∙ ap (λ b. cond b (left e.1) (e.1 ∷ taken_from q n (orders_in es))) h.0
  where
    left : ShownOrder → List ShownOrder
    left y = cond (nat_lt n y.shares) (record y { shares = y.shares - n } ∷ orders_in es) (orders_in es)

    at : (b : Bool) → cond b (Some e.1) (order_at k es) ≡ Some x
        → (order_at k es ≡ Some x → orders_in (set_value (is_number k) es (record x { shares = x.shares - n })) ≡ taken_from q n (orders_in es))
        → orders_in (cond b ((e.0, record x { shares = x.shares - n }) ∷ es) (e ∷ set_value (is_number k) es (record x { shares = x.shares - n }))) ≡ cond b (left e.1) (e.1 ∷ taken_from q n (orders_in es))
    at true z ih = ap (λ b. cond b (record x { shares = x.shares - n } ∷ orders_in es) (orders_in es)) (sym lt) ∙ ap left (sym (same_Some e.1 x z))
    at false z ih = ap (λ l. e.1 ∷ l) (ih z)

-- the order that replaces another
pub renewed_is : (k reference shares price : ℕ) (x : ShownOrder) (book : List ShownOrder) → order_of k book ≡ Some x
    → renewed k reference shares price book ≡ record x { reference = reference; shares = shares; price = price } ∷ []
renewed_is k reference shares price x [] there = absurd (let e : None ≡ Some x = there in cc)
renewed_is k reference shares price x (y ∷ book) there = at (y.reference == k) there (renewed_is k reference shares price x book)
  where
    at : (b : Bool) → cond b (Some y) (order_of k book) ≡ Some x
        → (order_of k book ≡ Some x → renewed k reference shares price book ≡ record x { reference = reference; shares = shares; price = price } ∷ [])
        → cond b (record y { reference = reference; shares = shares; price = price } ∷ []) (renewed k reference shares price book) ≡ record x { reference = reference; shares = shares; price = price } ∷ []
    at true z ih = ap (λ (o : ShownOrder). record o { reference = reference; shares = shares; price = price } ∷ []) (same_Some y x z)
    at false z ih = ih z

-- ---- an order comes last, and another leaves

pub removed_more : (k : ℕ) (e : ℕ × ShownOrder) (es : Entries) → IsSome (order_at k es) → remove_entry (is_number k) (es ++ e ∷ []) ≡ remove_entry (is_number k) es ++ e ∷ []
removed_more k e [] h = absurd (let f : false ≡ true = h in cc)
removed_more k e (y ∷ es) h = at (is_number k y.0) h (removed_more k e es)
  where
    at : (b : Bool) → IsSome (cond b (Some y.1) (order_at k es)) → (IsSome (order_at k es) → remove_entry (is_number k) (es ++ e ∷ []) ≡ remove_entry (is_number k) es ++ e ∷ [])
        → cond b (es ++ e ∷ []) (y ∷ remove_entry (is_number k) (es ++ e ∷ [])) ≡ cond b es (y ∷ remove_entry (is_number k) es) ++ e ∷ []
    at true z ih = refl
    at false z ih = ap (λ l. y ∷ l) (ih z)

pub none_front : (k : ℕ) (es more : Entries) → order_at k (es ++ more) ≡ None → order_at k es ≡ None
none_front k [] more h = refl
none_front k (y ∷ es) more h = at (is_number k y.0) h (none_front k es more)
  where
    at : (b : Bool) → cond b (Some y.1) (order_at k (es ++ more)) ≡ None → (order_at k (es ++ more) ≡ None → order_at k es ≡ None) → cond b (Some y.1) (order_at k es) ≡ None
    at true z ih = z
    at false z ih = ih z

-- an order that has no more shares than are taken leaves
pub taken_is_without : (q n : ℕ) (x : ShownOrder) (book : List ShownOrder) → order_of q book ≡ Some x → nat_lt n x.shares ≡ false → taken_from q n book ≡ without q book
taken_is_without q n x [] there lt = refl
taken_is_without q n x (y ∷ book) there lt = at (y.reference == q) there (λ z. taken_is_without q n x book z lt)
  where
    at : (b : Bool) → cond b (Some y) (order_of q book) ≡ Some x → (order_of q book ≡ Some x → taken_from q n book ≡ without q book)
        → cond b (cond (nat_lt n y.shares) (record y { shares = y.shares - n } ∷ book) book) (y ∷ taken_from q n book) ≡ cond b book (y ∷ without q book)
    at true z ih = ap (λ (o : ShownOrder). cond (nat_lt n o.shares) (record o { shares = o.shares - n } ∷ book) book) (same_Some y x z) ∙ ap (λ b. cond b (record x { shares = x.shares - n } ∷ book) book) lt
    at false z ih = ap (λ l. y ∷ l) (ih z)
