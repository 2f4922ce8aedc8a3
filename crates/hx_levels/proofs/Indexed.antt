-- The ranked blocks hold the conditional orders, after each change too.
use Rattle.std.proofs.Common.{◌≡◌, ℕ, ◌-◌, ◌^◌, ◌<◌, Bool, true, false, ◌&&◌, cond, eqb, List, [], ◌∷◌, ◌++◌, Option, Some, None, refl, sym, ap, ◌∙◌, subst, arith, eqb-true, eq-eqb}
use Rattle.std.specs.List.{AllByRecursion, find}
use Rattle.std.specs.Option.{option_map}
use Rattle.std.proofs.lemmas.Bool.{cond-true, cond-false, eqb-false, and_parts}
use Rattle.hx_book.specs.declared.order.Live.{Live}
use Rattle.hx_book.specs.Lists.{drop_first}
use Rattle.hx_book.specs.Book.{is_under, is_conditional, with_less, reduced, terms_of}
use Rattle.hx_levels.specs.LevelBook.{AreNumbered, AreIndexed, rank_at, rank_of, level_key_of, least_of, entry_of, entry_at, is_waiting_at}
use Rattle.hx_book.proofs.Lists.{found_among, or_else}
use Rattle.hx_levels.proofs.Numbers.{AreSame, all-below, ranks-differ}
use Rattle.hx_ranked.specs.declared.entry.Entry.{Entry}
use Rattle.hx_ranked.specs.Ranked.{inserted, without, renewed, with_least, IsFree}
use Rattle.hx_ranked.proofs.Found.{find-inserted, find-without, find-renewed}

mapped : {A B : Type 0} (f : A → B) (b : Bool) (x : A) (r : Option A) → option_map f (cond b (Some x) r) ≡ cond b (Some (f x)) (option_map f r)
mapped f true x r = refl
mapped f false x r = refl

-- the entry of the first, if it has the rank, or of one of the others
pub entry-step : (n : ℕ → ℕ) (rank : ℕ) (x : Live) (xs : List Live) → entry_at n rank (x ∷ xs) ≡ cond (is_waiting_at n rank x) (Some (entry_of n x)) (entry_at n rank xs)
entry-step n rank x xs = mapped (entry_of n) (is_waiting_at n rank x) x (find (is_waiting_at n rank) xs)

-- orders whose numbers stay have the same entries
pub entry-same : (n m : ℕ → ℕ) (rank : ℕ) (orders : List Live) → AreSame n m orders → entry_at m rank orders ≡ entry_at n rank orders
entry-same n m rank [] e = refl
entry-same n m rank (x ∷ xs) e =
    entry-step m rank x xs
    ∙ ap (λ k. cond (is_conditional x.order && eqb (rank_at (level_key_of (terms_of x.order)) x.order.shown k) rank)
    (Some (record { rank = rank_at (level_key_of (terms_of x.order)) x.order.shown k; key = x.key.0; least = least_of x.order; shares = x.order.shares }))
    (entry_at m rank xs)) e.0
    ∙ ap (λ r. cond (is_waiting_at n rank x) (Some (entry_of n x)) r) (entry-same n m rank xs e.1)
    ∙ sym (entry-step n rank x xs)

pub indexed-same : (n m : ℕ → ℕ) (entries : List Entry) (orders : List Live) → AreSame n m orders → AreIndexed n entries orders → AreIndexed m entries orders
indexed-same n m entries orders e i rank = i rank ∙ sym (entry-same n m rank orders e)

-- an order that is not conditional has no entry
not_waiting : (n : ℕ → ℕ) (rank : ℕ) (x : Live) → is_conditional x.order ≡ false → is_waiting_at n rank x ≡ false
not_waiting n rank x c = ap (λ b. b && eqb (rank_of n x) rank) c

waiting-is : (n : ℕ → ℕ) (rank : ℕ) (x : Live) → is_conditional x.order ≡ true → is_waiting_at n rank x ≡ eqb (rank_of n x) rank
waiting-is n rank x c = ap (λ b. b && eqb (rank_of n x) rank) c

other_rank : (n : ℕ → ℕ) (rank : ℕ) (x : Live) → eqb (rank_of n x) rank ≡ false → is_waiting_at n rank x ≡ false
other_rank n rank x e = at (is_conditional x.order) (eqb (rank_of n x) rank) e
  where
    at : (a b : Bool) → b ≡ false → (a && b) ≡ false
    at true b f = f
    at false b f = refl

-- no order has this rank
abbrev pub NoneAt : (n : ℕ → ℕ) → (rank : ℕ) → List Live → Type 0
NoneAt n rank orders = AllByRecursion (λ y. eqb (rank_of n y) rank ≡ false) orders

pub none-at : (n : ℕ → ℕ) (rank : ℕ) (orders : List Live) → NoneAt n rank orders → entry_at n rank orders ≡ None
none-at n rank [] a = refl
none-at n rank (x ∷ xs) a =
    entry-step n rank x xs ∙ cond-false (is_waiting_at n rank x) (Some (entry_of n x)) (entry_at n rank xs) (other_rank n rank x a.0) ∙ none-at n rank xs a.1

-- an order with another number has another rank
apart : (n : ℕ → ℕ) (x y : Live) → n x.key.0 < n y.key.0 → n y.key.0 < 2 ^ 63 → eqb (rank_of n y) (rank_of n x) ≡ false
apart n x y l b = ranks-differ (level_key_of (terms_of y.order)) (level_key_of (terms_of x.order)) y.order.shown x.order.shown (n y.key.0) (n x.key.0) b (omega arith) (λ e. let h : n y.key.0 ≡ n x.key.0 = e in omega arith)

apart_before : (n : ℕ → ℕ) (x y : Live) → n x.key.0 < n y.key.0 → n y.key.0 < 2 ^ 63 → eqb (rank_of n x) (rank_of n y) ≡ false
apart_before n x y l b = ranks-differ (level_key_of (terms_of x.order)) (level_key_of (terms_of y.order)) x.order.shown y.order.shown (n x.key.0) (n y.key.0) (omega arith) b (λ e. let h : n x.key.0 ≡ n y.key.0 = e in omega arith)

none-later : (n : ℕ → ℕ) (x : Live) (orders : List Live) → AllByRecursion (λ y. n x.key.0 < n y.key.0) orders → AllByRecursion (λ y. n y.key.0 < 2 ^ 63) orders → NoneAt n (rank_of n x) orders
none-later n x [] a b = tt
none-later n x (y ∷ ys) a b = (apart n x y a.0 b.0, none-later n x ys a.1 b.1)

none-earlier : (n : ℕ → ℕ) (x : Live) (orders : List Live) → AllByRecursion (λ y. n y.key.0 < n x.key.0) orders → n x.key.0 < 2 ^ 63 → NoneAt n (rank_of n x) orders
none-earlier n x [] a b = tt
none-earlier n x (y ∷ ys) a b = (apart_before n y x a.0 b, none-earlier n x ys a.1 b)

pub all-small : (n : ℕ → ℕ) (next : ℕ) (orders : List Live) → AreNumbered n next orders → next < 2 ^ 63 → AllByRecursion (λ y. n y.key.0 < 2 ^ 63) orders
all-small n next [] a l = tt
all-small n next (x ∷ xs) a l = (let h : n x.key.0 < next = a.1 in omega arith, all-small n next xs a.2 l)

-- an order comes last

entry-push : (n : ℕ → ℕ) (rank : ℕ) (orders : List Live) (x : Live) → entry_at n rank (orders ++ x ∷ []) ≡ or_else (entry_at n rank orders) (cond (is_waiting_at n rank x) (Some (entry_of n x)) None)
entry-push n rank [] x = entry-step n rank x []
entry-push n rank (y ∷ ys) x =
    entry-step n rank y (ys ++ x ∷ []) ∙ ap (λ r. cond (is_waiting_at n rank y) (Some (entry_of n y)) r) (entry-push n rank ys x)
    ∙ at (is_waiting_at n rank y) ∙ ap (λ r. or_else r (cond (is_waiting_at n rank x) (Some (entry_of n x)) None)) (sym (entry-step n rank y ys))
  where
    at : (b : Bool) → cond b (Some (entry_of n y)) (or_else (entry_at n rank ys) (cond (is_waiting_at n rank x) (Some (entry_of n x)) None))
        ≡ or_else (cond b (Some (entry_of n y)) (entry_at n rank ys)) (cond (is_waiting_at n rank x) (Some (entry_of n x)) None)
    at true = refl
    at false = refl

or-none : {A : Type 0} (r : Option A) → or_else r None ≡ r
or-none None = refl
or-none (Some x) = refl

pub indexed-push : (n : ℕ → ℕ) (entries : List Entry) (orders : List Live) (x : Live) → is_conditional x.order ≡ false → AreIndexed n entries orders → AreIndexed n entries (orders ++ x ∷ [])
indexed-push n entries orders x c i rank =
    i rank ∙ sym (entry-push n rank orders x
    ∙ ap (or_else (entry_at n rank orders)) (cond-false (is_waiting_at n rank x) (Some (entry_of n x)) None (not_waiting n rank x c)) ∙ or-none (entry_at n rank orders))

pub free-last : (n : ℕ → ℕ) (next : ℕ) (entries : List Entry) (orders : List Live) (x : Live) → AreNumbered n next orders → n x.key.0 ≡ next → next < 2 ^ 63
    → AreIndexed n entries orders → IsFree (rank_of n x) entries
free-last n next entries orders x a e l i =
    i (rank_of n x) ∙ none-at n (rank_of n x) orders (none-earlier n x orders
    (subst (λ k. AllByRecursion (λ y. n y.key.0 < k) orders) (sym e) (all-below n next orders a)) (subst (λ k. k < 2 ^ 63) (sym e) l))

pub indexed-insert : (n : ℕ → ℕ) (next : ℕ) (entries : List Entry) (orders : List Live) (x : Live) → AreNumbered n next orders → n x.key.0 ≡ next → next < 2 ^ 63
    → is_conditional x.order ≡ true → AreIndexed n entries orders → AreIndexed n (inserted (entry_of n x) entries) (orders ++ x ∷ [])
indexed-insert n next entries orders x a e l c i rank =
    find-inserted rank (entry_of n x) entries (free-last n next entries orders x a e l i)
    ∙ ap (λ r. cond (eqb (rank_of n x) rank) (Some (entry_of n x)) r) (i rank)
    ∙ at (eqb (rank_of n x) rank) refl
    ∙ sym (entry-push n rank orders x ∙ ap (λ b. or_else (entry_at n rank orders) (cond b (Some (entry_of n x)) None)) (waiting-is n rank x c))
  where
    fresh : entry_at n (rank_of n x) orders ≡ None
    fresh = sym (i (rank_of n x)) ∙ free-last n next entries orders x a e l i

    at : (b : Bool) → eqb (rank_of n x) rank ≡ b → cond b (Some (entry_of n x)) (entry_at n rank orders) ≡ or_else (entry_at n rank orders) (cond b (Some (entry_of n x)) None)
    at true h = sym (ap (λ r. or_else r (Some (entry_of n x))) (ap (λ k. entry_at n k orders) (sym (eqb-true (rank_of n x) rank h)) ∙ fresh))
    at false h = sym (or-none (entry_at n rank orders))

-- an order goes

pub indexed-drop : (n : ℕ → ℕ) (key : ℕ) (live : Live) (entries : List Entry) (orders : List Live) → find (is_under key) orders ≡ Some live → is_conditional live.order ≡ false
    → AreIndexed n entries orders → AreIndexed n entries (drop_first (is_under key) orders)
indexed-drop n key live entries orders f c i rank = i rank ∙ sym (dropped orders f)
  where
    dropped : (xs : List Live) → find (is_under key) xs ≡ Some live → entry_at n rank (drop_first (is_under key) xs) ≡ entry_at n rank xs
    dropped [] g = refl
    dropped (x ∷ xs) g = at (is_under key x) g (dropped xs)
      where
        at : (b : Bool) → cond b (Some x) (find (is_under key) xs) ≡ Some live → (find (is_under key) xs ≡ Some live → entry_at n rank (drop_first (is_under key) xs) ≡ entry_at n rank xs)
            → entry_at n rank (cond b xs (x ∷ drop_first (is_under key) xs)) ≡ entry_at n rank (x ∷ xs)
        at true h ih =
            let e : x ≡ live = cc in
            sym (entry-step n rank x xs ∙ cond-false (is_waiting_at n rank x) (Some (entry_of n x)) (entry_at n rank xs) (not_waiting n rank x (ap (λ (y : Live). is_conditional y.order) e ∙ c)))
        at false h ih =
            entry-step n rank x (drop_first (is_under key) xs) ∙ ap (λ r. cond (is_waiting_at n rank x) (Some (entry_of n x)) r) (ih h) ∙ sym (entry-step n rank x xs)

pub indexed-without : (n : ℕ → ℕ) (next key : ℕ) (live : Live) (entries : List Entry) (orders : List Live) → AreNumbered n next orders → next < 2 ^ 63
    → find (is_under key) orders ≡ Some live → is_conditional live.order ≡ true
    → AreIndexed n entries orders → AreIndexed n (without (rank_of n live) entries) (drop_first (is_under key) orders)
indexed-without n next key live entries orders a l f c i rank =
    find-without rank (rank_of n live) entries ∙ ap (λ r. cond (eqb rank (rank_of n live)) None r) (i rank) ∙ dropped orders a f
  where
    dropped : (xs : List Live) → AreNumbered n next xs → find (is_under key) xs ≡ Some live
        → cond (eqb rank (rank_of n live)) None (entry_at n rank xs) ≡ entry_at n rank (drop_first (is_under key) xs)
    dropped [] b g = cc
    dropped (x ∷ xs) b g =
        ap (λ r. cond (eqb rank (rank_of n live)) None r) (entry-step n rank x xs)
        ∙ at (is_under key x) (eqb rank (rank_of n live)) (is_waiting_at n rank x) refl refl g (dropped xs b.2)
      where
        at : (u q w : Bool) → eqb rank (rank_of n live) ≡ q → is_waiting_at n rank x ≡ w → cond u (Some x) (find (is_under key) xs) ≡ Some live
            → (find (is_under key) xs ≡ Some live → cond (eqb rank (rank_of n live)) None (entry_at n rank xs) ≡ entry_at n rank (drop_first (is_under key) xs))
            → cond q None (cond w (Some (entry_of n x)) (entry_at n rank xs)) ≡ entry_at n rank (cond u xs (x ∷ drop_first (is_under key) xs))
        at true true w eq ew h ih =
            let e : x ≡ live = cc in
            let r : rank ≡ rank_of n x = eqb-true rank (rank_of n live) eq ∙ ap (rank_of n) (sym e) in
            sym (ap (λ k. entry_at n k xs) r ∙ none-at n (rank_of n x) xs (none-later n x xs b.0 (all-small n next xs b.2 l)))
        at true false true eq ew h ih =
            let e : x ≡ live = cc in
            let p = and_parts (is_conditional x.order) (eqb (rank_of n x) rank) ew in
            absurd (eqb-false rank (rank_of n live) eq (sym (eqb-true (rank_of n x) rank p.1) ∙ ap (rank_of n) e))
        at true false false eq ew h ih = refl
        at false true true eq ew h ih =
            let p = and_parts (is_conditional x.order) (eqb (rank_of n x) rank) ew in
            let less : n x.key.0 < n live.key.0 = found_among (λ y. n x.key.0 < n y.key.0) (is_under key) live xs b.0 h in
            let small : n live.key.0 < 2 ^ 63 = found_among (λ y. n y.key.0 < 2 ^ 63) (is_under key) live xs (all-small n next xs b.2 l) h in
            absurd (eqb-false (rank_of n x) (rank_of n live) (apart_before n x live less small) (eqb-true (rank_of n x) rank p.1 ∙ eqb-true rank (rank_of n live) eq))
        at false true false eq ew h ih =
            sym (cond-true (eqb rank (rank_of n live)) None (entry_at n rank xs) eq) ∙ ih h
            ∙ sym (entry-step n rank x (drop_first (is_under key) xs) ∙ cond-false (is_waiting_at n rank x) (Some (entry_of n x)) (entry_at n rank (drop_first (is_under key) xs)) ew)
        at false false true eq ew h ih = sym (entry-step n rank x (drop_first (is_under key) xs) ∙ cond-true (is_waiting_at n rank x) (Some (entry_of n x)) (entry_at n rank (drop_first (is_under key) xs)) ew)
        at false false false eq ew h ih =
            sym (cond-false (eqb rank (rank_of n live)) None (entry_at n rank xs) eq) ∙ ih h
            ∙ sym (entry-step n rank x (drop_first (is_under key) xs) ∙ cond-false (is_waiting_at n rank x) (Some (entry_of n x)) (entry_at n rank (drop_first (is_under key) xs)) ew)

-- an order has fewer shares

pub indexed-reduce : (n : ℕ → ℕ) (key by : ℕ) (live : Live) (entries : List Entry) (orders : List Live) → find (is_under key) orders ≡ Some live → is_conditional live.order ≡ false
    → AreIndexed n entries orders → AreIndexed n entries (reduced key by orders)
indexed-reduce n key by live entries orders f c i rank = i rank ∙ sym (less orders f)
  where
    less : (xs : List Live) → find (is_under key) xs ≡ Some live → entry_at n rank (reduced key by xs) ≡ entry_at n rank xs
    less [] g = refl
    less (x ∷ xs) g = at (is_under key x) g (less xs)
      where
        at : (b : Bool) → cond b (Some x) (find (is_under key) xs) ≡ Some live → (find (is_under key) xs ≡ Some live → entry_at n rank (reduced key by xs) ≡ entry_at n rank xs)
            → entry_at n rank (cond b (record x { order = with_less by x.order } ∷ xs) (x ∷ reduced key by xs)) ≡ entry_at n rank (x ∷ xs)
        at true h ih =
            let e : x ≡ live = cc in
            let p : is_conditional x.order ≡ false = ap (λ (y : Live). is_conditional y.order) e ∙ c in
            let y : Live = record x { order = with_less by x.order } in
            entry-step n rank y xs ∙ cond-false (is_waiting_at n rank y) (Some (entry_of n y)) (entry_at n rank xs) (not_waiting n rank y p)
            ∙ sym (entry-step n rank x xs ∙ cond-false (is_waiting_at n rank x) (Some (entry_of n x)) (entry_at n rank xs) (not_waiting n rank x p))
        at false h ih =
            entry-step n rank x (reduced key by xs) ∙ ap (λ r. cond (is_waiting_at n rank x) (Some (entry_of n x)) r) (ih h) ∙ sym (entry-step n rank x xs)

pub indexed-renew : (n : ℕ → ℕ) (next key by : ℕ) (live : Live) (entries : List Entry) (orders : List Live) → AreNumbered n next orders → next < 2 ^ 63
    → find (is_under key) orders ≡ Some live
    → AreIndexed n entries orders → AreIndexed n (renewed (rank_of n live) (least_of (with_less by live.order)) (live.order.shares - by) entries) (reduced key by orders)
indexed-renew n next key by live entries orders a l f i rank =
    find-renewed rank (rank_of n live) least shares entries ∙ ap (option_map change) (i rank) ∙ renew orders a f
  where
    least : ℕ
    least = least_of (with_less by live.order)

    shares : ℕ
    shares = live.order.shares - by

    change : Entry → Entry
    change = with_least (rank_of n live) (least_of (with_less by live.order)) (live.order.shares - by)

    -- entries of other ranks stay
    same : (xs : List Live) → NoneAt n (rank_of n live) xs → option_map (with_least (rank_of n live) (least_of (with_less by live.order)) (live.order.shares - by)) (entry_at n rank xs) ≡ entry_at n rank xs
    same [] b = refl
    same (x ∷ xs) b =
        ap (option_map (with_least (rank_of n live) (least_of (with_less by live.order)) (live.order.shares - by))) (entry-step n rank x xs)
        ∙ mapped (with_least (rank_of n live) (least_of (with_less by live.order)) (live.order.shares - by)) (is_waiting_at n rank x) (entry_of n x) (entry_at n rank xs)
        ∙ ap (λ v. cond (is_waiting_at n rank x) (Some v) (option_map (with_least (rank_of n live) (least_of (with_less by live.order)) (live.order.shares - by)) (entry_at n rank xs)))
        (cond-false (eqb (rank_of n x) (rank_of n live)) _ (entry_of n x) b.0)
        ∙ ap (λ r. cond (is_waiting_at n rank x) (Some (entry_of n x)) r) (same xs b.1)
        ∙ sym (entry-step n rank x xs)

    renew : (xs : List Live) → AreNumbered n next xs → find (is_under key) xs ≡ Some live
        → option_map (with_least (rank_of n live) (least_of (with_less by live.order)) (live.order.shares - by)) (entry_at n rank xs) ≡ entry_at n rank (reduced key by xs)
    renew [] b g = cc
    renew (x ∷ xs) b g =
        ap (option_map (with_least (rank_of n live) (least_of (with_less by live.order)) (live.order.shares - by))) (entry-step n rank x xs)
        ∙ mapped (with_least (rank_of n live) (least_of (with_less by live.order)) (live.order.shares - by)) (is_waiting_at n rank x) (entry_of n x) (entry_at n rank xs)
        ∙ at (is_under key x) g (renew xs b.2)
      where
        at : (u : Bool) → cond u (Some x) (find (is_under key) xs) ≡ Some live
            → (find (is_under key) xs ≡ Some live → option_map (with_least (rank_of n live) (least_of (with_less by live.order)) (live.order.shares - by)) (entry_at n rank xs) ≡ entry_at n rank (reduced key by xs))
            → cond (is_waiting_at n rank x) (Some (with_least (rank_of n live) (least_of (with_less by live.order)) (live.order.shares - by) (entry_of n x)))
            (option_map (with_least (rank_of n live) (least_of (with_less by live.order)) (live.order.shares - by)) (entry_at n rank xs))
            ≡ entry_at n rank (cond u (record x { order = with_less by x.order } ∷ xs) (x ∷ reduced key by xs))
        at true h ih =
            let e : x ≡ live = cc in
            let y : Live = record x { order = with_less by x.order } in
            let own : with_least (rank_of n live) (least_of (with_less by live.order)) (live.order.shares - by) (entry_of n x) ≡ entry_of n y =
            subst (λ (v : Live). with_least (rank_of n v) (least_of (with_less by v.order)) (v.order.shares - by) (entry_of n x) ≡ entry_of n y) e
            (cond-true (eqb (rank_of n x) (rank_of n x)) _ (entry_of n x) (eq-eqb (rank_of n x) (rank_of n x) refl)) in
            ap (λ v. cond (is_waiting_at n rank x) (Some v) (option_map (with_least (rank_of n live) (least_of (with_less by live.order)) (live.order.shares - by)) (entry_at n rank xs))) own
            ∙ ap (λ r. cond (is_waiting_at n rank x) (Some (entry_of n y)) r)
            (same xs (subst (λ (v : Live). NoneAt n (rank_of n v) xs) e (none-later n x xs b.0 (all-small n next xs b.2 l))))
            ∙ sym (entry-step n rank y xs)
        at false h ih =
            let less : n x.key.0 < n live.key.0 = found_among (λ y. n x.key.0 < n y.key.0) (is_under key) live xs b.0 h in
            let small : n live.key.0 < 2 ^ 63 = found_among (λ y. n y.key.0 < 2 ^ 63) (is_under key) live xs (all-small n next xs b.2 l) h in
            ap (λ v. cond (is_waiting_at n rank x) (Some v) (option_map (with_least (rank_of n live) (least_of (with_less by live.order)) (live.order.shares - by)) (entry_at n rank xs)))
            (cond-false (eqb (rank_of n x) (rank_of n live)) _ (entry_of n x) (apart_before n x live less small))
            ∙ ap (λ r. cond (is_waiting_at n rank x) (Some (entry_of n x)) r) (ih h)
            ∙ sym (entry-step n rank x (reduced key by xs))
