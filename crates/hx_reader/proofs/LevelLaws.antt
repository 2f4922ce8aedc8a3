-- What stands at a price, after each change of a book.
use Rattle.std.proofs.Common.{◌≡◌, ℕ, ◌+◌, ◌-◌, ◌≤◌, ◌==◌, ◌&&◌, zero, suc, List, [], ◌∷◌, ◌++◌, Bool, true, false, Option, Some, None, cond, refl, sym, ap, subst, ◌∙◌, arith}
use Rattle.std.specs.Option.{IfSome, IsSome}
use Rattle.std.specs.Map.{lookup, remove_entry, set_value}
use Rattle.std.proofs.lemmas.Bool.Decides.{Decides-eqb}
use Rattle.std.proofs.lemmas.Option.{same_Some}
use Rattle.hx_itch.specs.declared.shown_order.ShownOrder.{ShownOrder}
use Rattle.hx_reader.specs.declared.levels.LevelKey.{LevelKey}
use Rattle.hx_reader.specs.declared.levels.Level.{Level}
use Rattle.hx_reader.specs.Prices.{is_at, orders_at, shares_at}
use Rattle.hx_reader.specs.Levels.{grown, reduced, lessened, level_with, level_in}
use Rattle.hx_reader.specs.LevelKeys.{level_key_of}
use Rattle.hx_reader.specs.Tables.{Entries, orders_in}

-- whether an order is at a level key
abbrev pub stands : LevelKey → ShownOrder → Bool
stands q x = is_at q.locate q.side q.price x

abbrev pub orders_on : LevelKey → List ShownOrder → ℕ
orders_on q book = orders_at q.locate q.side q.price book

abbrev pub shares_on : LevelKey → List ShownOrder → ℕ
shares_on q book = shares_at q.locate q.side q.price book

both : (a b : Bool) → a && b ≡ true → (a ≡ true) × (b ≡ true)
both true b h = (refl, h)
both false b h = absurd (let e : false ≡ true = h in cc)

same_test : (n : ℕ) → (n == n) ≡ true
same_test n = (Decides-eqb n n).1 refl

-- an order is at its level key and at no other
pub stands_at : (x : ShownOrder) → stands (level_key_of x) x ≡ true
stands_at x =
    ap (λ b. (b && x.side == x.side) && x.price == x.price) (same_test x.locate)
    ∙ ap (λ b. b && x.price == x.price) (same_test x.side)
    ∙ same_test x.price

pub stands_only : (q : LevelKey) (x : ShownOrder) → stands q x ≡ true → q ≡ level_key_of x
stands_only q x h =
    let p = both (x.locate == q.locate && x.side == q.side) (x.price == q.price) h in
    let o = both (x.locate == q.locate) (x.side == q.side) p.0 in
    let a : x.locate ≡ q.locate = (Decides-eqb x.locate q.locate).0 o.0 in
    let b : x.side ≡ q.side = (Decides-eqb x.side q.side).0 o.1 in
    let c : x.price ≡ q.price = (Decides-eqb x.price q.price).0 p.1 in
    ap (λ n. record q { locate = n }) (sym a) ∙ ap (λ n. record { locate = x.locate; side = n; price = q.price }) (sym b) ∙ ap (λ n. record { locate = x.locate; side = x.side; price = n }) (sym c)

-- two additions in either order
swapped : (b c : Bool) (f g : ℕ → ℕ) (n : ℕ) → f (g n) ≡ g (f n) → cond b (f (cond c (g n) n)) (cond c (g n) n) ≡ cond c (g (cond b (f n) n)) (cond b (f n) n)
swapped true true f g n h = h
swapped true false f g n h = refl
swapped false true f g n h = refl
swapped false false f g n h = refl

-- there are no shares if there is no order
none_there : (q : LevelKey) (book : List ShownOrder) → orders_on q book ≡ 0 → shares_on q book ≡ 0
none_there q [] h = refl
none_there q (x ∷ book) h = at (stands q x) h (none_there q book)
  where
    at : (b : Bool) → cond b (suc (orders_on q book)) (orders_on q book) ≡ 0 → (orders_on q book ≡ 0 → shares_on q book ≡ 0)
        → cond b (x.shares + shares_on q book) (shares_on q book) ≡ 0
    at true z ih = absurd (let e : suc (orders_on q book) ≡ 0 = z in omega (arith, e))
    at false z ih = ih z

-- ---- an order comes last

orders_more : (q : LevelKey) (x : ShownOrder) (book : List ShownOrder) → orders_on q (book ++ x ∷ []) ≡ cond (stands q x) (suc (orders_on q book)) (orders_on q book)
orders_more q x [] = refl
orders_more q x (y ∷ book) = ap (λ n. cond (stands q y) (suc n) n) (orders_more q x book) ∙ swapped (stands q y) (stands q x) suc suc (orders_on q book) refl

shares_more : (q : LevelKey) (x : ShownOrder) (book : List ShownOrder) → shares_on q (book ++ x ∷ []) ≡ cond (stands q x) (x.shares + shares_on q book) (shares_on q book)
shares_more q x [] = refl
shares_more q x (y ∷ book) =
    ap (λ n. cond (stands q y) (y.shares + n) n) (shares_more q x book)
    ∙ swapped (stands q y) (stands q x) (λ n. y.shares + n) (λ n. x.shares + n) (shares_on q book) (omega arith)

with_more : (n s t : ℕ) → (n ≡ 0 → s ≡ 0) → level_with (suc n) (t + s) ≡ grown t (level_with n s)
with_more zero s t h = ap (level_with 1) (let e : s ≡ 0 = h refl in let d : t + s ≡ t = omega (arith, e) in d)
with_more (suc n) s t h = ap (level_with (suc (suc n))) (let d : t + s ≡ s + t = omega arith in d)

pub level_joined : (q : LevelKey) (x : ShownOrder) (book : List ShownOrder) → level_in q (book ++ x ∷ []) ≡ cond (stands q x) (grown x.shares (level_in q book)) (level_in q book)
level_joined q x book =
    ap (λ n. level_with n (shares_on q (book ++ x ∷ []))) (orders_more q x book)
    ∙ ap (λ s. level_with (cond (stands q x) (suc (orders_on q book)) (orders_on q book)) s) (shares_more q x book)
    ∙ at (stands q x)
  where
    at : (b : Bool) → level_with (cond b (suc (orders_on q book)) (orders_on q book)) (cond b (x.shares + shares_on q book) (shares_on q book)) ≡ cond b (grown x.shares (level_in q book)) (level_in q book)
    at true = with_more (orders_on q book) (shares_on q book) x.shares (none_there q book)
    at false = refl

-- ---- an order leaves

orders_less : (q : LevelKey) (p : ℕ → Bool) (x : ShownOrder) (es : Entries) → lookup p es ≡ Some x
    → orders_on q (orders_in es) ≡ cond (stands q x) (suc (orders_on q (orders_in (remove_entry p es)))) (orders_on q (orders_in (remove_entry p es)))
orders_less q p x [] h = absurd (let e : None ≡ Some x = h in cc)
orders_less q p x (e ∷ es) h = at (p e.0) h (orders_less q p x es)
  where
    left : ℕ
    left = orders_on q (orders_in (remove_entry p es))

    at : (b : Bool) → cond b (Some e.1) (lookup p es) ≡ Some x
        → (lookup p es ≡ Some x → orders_on q (orders_in es) ≡ cond (stands q x) (suc left) left)
        → orders_on q (orders_in (e ∷ es)) ≡ cond (stands q x) (suc (orders_on q (orders_in (cond b es (e ∷ remove_entry p es))))) (orders_on q (orders_in (cond b es (e ∷ remove_entry p es))))
    at true z ih = ap (λ (o : ShownOrder). cond (stands q o) (suc (orders_on q (orders_in es))) (orders_on q (orders_in es))) (same_Some e.1 x z)
    at false z ih = ap (λ n. cond (stands q e.1) (suc n) n) (ih z) ∙ swapped (stands q e.1) (stands q x) suc suc left refl

shares_less : (q : LevelKey) (p : ℕ → Bool) (x : ShownOrder) (es : Entries) → lookup p es ≡ Some x
    → shares_on q (orders_in es) ≡ cond (stands q x) (x.shares + shares_on q (orders_in (remove_entry p es))) (shares_on q (orders_in (remove_entry p es)))
shares_less q p x [] h = absurd (let e : None ≡ Some x = h in cc)
shares_less q p x (e ∷ es) h = at (p e.0) h (shares_less q p x es)
  where
    left : ℕ
    left = shares_on q (orders_in (remove_entry p es))

    at : (b : Bool) → cond b (Some e.1) (lookup p es) ≡ Some x
        → (lookup p es ≡ Some x → shares_on q (orders_in es) ≡ cond (stands q x) (x.shares + left) left)
        → shares_on q (orders_in (e ∷ es)) ≡ cond (stands q x) (x.shares + shares_on q (orders_in (cond b es (e ∷ remove_entry p es)))) (shares_on q (orders_in (cond b es (e ∷ remove_entry p es))))
    at true z ih = ap (λ (o : ShownOrder). cond (stands q o) (o.shares + shares_on q (orders_in es)) (shares_on q (orders_in es))) (same_Some e.1 x z)
    at false z ih = ap (λ n. cond (stands q e.1) (e.1.shares + n) n) (ih z) ∙ swapped (stands q e.1) (stands q x) (λ n. e.1.shares + n) (λ n. x.shares + n) left (omega arith)

-- one order more, and then less
back : (m s t : ℕ) → level_with m t ≡ lessened s (level_with (suc m) (s + t))
back m s t = ap (λ j. level_with m j) (let e : t ≡ (s + t) - s = omega arith in e) ∙ ap (λ i. level_with i ((s + t) - s)) (let e : m ≡ suc m - 1 = omega arith in e)

pub level_left : (q : LevelKey) (p : ℕ → Bool) (x : ShownOrder) (es : Entries) → lookup p es ≡ Some x
    → level_in q (orders_in (remove_entry p es)) ≡ cond (stands q x) (lessened x.shares (level_in q (orders_in es))) (level_in q (orders_in es))
level_left q p x es h = at (stands q x) (orders_less q p x es h) (shares_less q p x es h)
  where
    left : List ShownOrder
    left = orders_in (remove_entry p es)

    at : (b : Bool) → orders_on q (orders_in es) ≡ cond b (suc (orders_on q left)) (orders_on q left) → shares_on q (orders_in es) ≡ cond b (x.shares + shares_on q left) (shares_on q left)
        → level_in q left ≡ cond b (lessened x.shares (level_in q (orders_in es))) (level_in q (orders_in es))
    at true n s =
        back (orders_on q left) x.shares (shares_on q left)
        ∙ ap (λ i. lessened x.shares (level_with i (x.shares + shares_on q left))) (sym n)
        ∙ ap (λ j. lessened x.shares (level_with (orders_on q (orders_in es)) j)) (sym s)
    at false n s = ap (λ i. level_with i (shares_on q left)) (sym n) ∙ ap (λ j. level_with (orders_on q (orders_in es)) j) (sym s)

-- the level of an order that is there has it
pub record HasShares (shares : ℕ) (l : Option Level) : Type 0 where
  pub there : IsSome l
  pub enough : IfSome l (λ v. shares ≤ v.shares)
  pub some : IfSome l (λ v. 1 ≤ v.orders)

has_shares : (m s t : ℕ) → HasShares s (level_with (suc m) (s + t))
has_shares m s t = record { there = refl; enough = omega arith; some = omega arith }

pub level_has : (p : ℕ → Bool) (x : ShownOrder) (es : Entries) → lookup p es ≡ Some x → HasShares x.shares (level_in (level_key_of x) (orders_in es))
level_has p x es h =
    let q = level_key_of x in
    let left = orders_in (remove_entry p es) in
    let n : orders_on q (orders_in es) ≡ suc (orders_on q left) = orders_less q p x es h ∙ ap (λ b. cond b (suc (orders_on q left)) (orders_on q left)) (stands_at x) in
    let s : shares_on q (orders_in es) ≡ x.shares + shares_on q left = shares_less q p x es h ∙ ap (λ b. cond b (x.shares + shares_on q left) (shares_on q left)) (stands_at x) in
    subst (HasShares x.shares) (ap (λ j. level_with (suc (orders_on q left)) j) (sym s) ∙ ap (λ i. level_with i (shares_on q (orders_in es))) (sym n)) (has_shares (orders_on q left) x.shares (shares_on q left))

-- ---- an order loses shares

abbrev pub less : ℕ → ShownOrder → ShownOrder
less n x = record x { shares = x.shares - n }

orders_same : (q : LevelKey) (p : ℕ → Bool) (n : ℕ) (x : ShownOrder) (es : Entries) → lookup p es ≡ Some x
    → orders_on q (orders_in (set_value p es (less n x))) ≡ orders_on q (orders_in es)
orders_same q p n x [] h = refl
orders_same q p n x (e ∷ es) h = at (p e.0) h (orders_same q p n x es)
  where
    at : (b : Bool) → cond b (Some e.1) (lookup p es) ≡ Some x
        → (lookup p es ≡ Some x → orders_on q (orders_in (set_value p es (less n x))) ≡ orders_on q (orders_in es))
        → orders_on q (orders_in (cond b ((e.0, less n x) ∷ es) (e ∷ set_value p es (less n x)))) ≡ orders_on q (orders_in (e ∷ es))
    at true z ih = ap (λ (o : ShownOrder). orders_on q (o ∷ orders_in es)) (sym (same_Some e.1 x z))
    at false z ih = ap (λ m. cond (stands q e.1) (suc m) m) (ih z)

shares_reduced : (q : LevelKey) (p : ℕ → Bool) (n : ℕ) (x : ShownOrder) (es : Entries) → lookup p es ≡ Some x → n ≤ x.shares
    → shares_on q (orders_in es) ≡ cond (stands q x) (n + shares_on q (orders_in (set_value p es (less n x)))) (shares_on q (orders_in (set_value p es (less n x))))
shares_reduced q p n x [] h le = absurd (let e : None ≡ Some x = h in cc)
shares_reduced q p n x (e ∷ es) h le = at (p e.0) h (λ z. shares_reduced q p n x es z le)
  where
    left : ℕ
    left = shares_on q (orders_in (set_value p es (less n x)))

    this : (b : Bool) (t : ℕ) → cond b (x.shares + t) t ≡ cond b (n + cond b ((x.shares - n) + t) t) (cond b ((x.shares - n) + t) t)
    this true t = omega (arith, le)
    this false t = refl

    at : (b : Bool) → cond b (Some e.1) (lookup p es) ≡ Some x
        → (lookup p es ≡ Some x → shares_on q (orders_in es) ≡ cond (stands q x) (n + left) left)
        → shares_on q (orders_in (e ∷ es)) ≡ cond (stands q x) (n + shares_on q (orders_in (cond b ((e.0, less n x) ∷ es) (e ∷ set_value p es (less n x))))) (shares_on q (orders_in (cond b ((e.0, less n x) ∷ es) (e ∷ set_value p es (less n x)))))
    at true z ih = ap (λ (o : ShownOrder). shares_on q (o ∷ orders_in es)) (same_Some e.1 x z) ∙ this (stands q x) (shares_on q (orders_in es))
    at false z ih = ap (λ m. cond (stands q e.1) (e.1.shares + m) m) (ih z) ∙ swapped (stands q e.1) (stands q x) (λ m. e.1.shares + m) (λ m. n + m) left (omega arith)

less_there : (i n t : ℕ) → level_with i t ≡ reduced n (level_with i (n + t))
less_there zero n t = refl
less_there (suc i) n t = ap (level_with (suc i)) (let e : t ≡ (n + t) - n = omega arith in e)

pub level_reduced : (q : LevelKey) (p : ℕ → Bool) (n : ℕ) (x : ShownOrder) (es : Entries) → lookup p es ≡ Some x → n ≤ x.shares
    → level_in q (orders_in (set_value p es (less n x))) ≡ cond (stands q x) (reduced n (level_in q (orders_in es))) (level_in q (orders_in es))
level_reduced q p n x es h le = ap (λ i. level_with i (shares_on q left)) (orders_same q p n x es h) ∙ at (stands q x) (shares_reduced q p n x es h le)
  where
    left : List ShownOrder
    left = orders_in (set_value p es (less n x))

    at : (b : Bool) → shares_on q (orders_in es) ≡ cond b (n + shares_on q left) (shares_on q left)
        → level_with (orders_on q (orders_in es)) (shares_on q left) ≡ cond b (reduced n (level_in q (orders_in es))) (level_in q (orders_in es))
    at true s = less_there (orders_on q (orders_in es)) n (shares_on q left) ∙ ap (λ j. reduced n (level_with (orders_on q (orders_in es)) j)) (sym s)
    at false s = ap (λ j. level_with (orders_on q (orders_in es)) j) (sym s)

-- the levels that are stored

-- what is written at one level key, and stays at the others
pub at_each : (q at : LevelKey) (x : ShownOrder) (new old here : Option Level) → at ≡ level_key_of x → (q ≡ at → new ≡ here) → ((q ≡ at → ⊥) → new ≡ old) → new ≡ cond (stands q x) here old
at_each q at x new old here is this others = by (stands q x) refl
  where
    by : (b : Bool) → stands q x ≡ b → new ≡ cond b here old
    by true t = this (stands_only q x t ∙ sym is)
    by false t = others (λ e. (let f : true ≡ false = sym (stands_at x) ∙ ap (λ r. stands r x) (sym (e ∙ is)) ∙ t in cc))

-- so the levels are those of the book again, once one level and the book have changed alike
pub retained_alike : (new old : LevelKey → Option Level) (at : LevelKey) (x : ShownOrder) (book then : List ShownOrder) (f : Option Level → Option Level) → at ≡ level_key_of x
    → new at ≡ f (old at) → ((q : LevelKey) → (q ≡ at → ⊥) → new q ≡ old q) → ((q : LevelKey) → old q ≡ level_in q book)
    → ((q : LevelKey) → level_in q then ≡ cond (stands q x) (f (level_in q book)) (level_in q book)) → (q : LevelKey) → new q ≡ level_in q then
retained_alike new old at x book then f is here others was changed q =
    at_each q at x (new q) (old q) (f (old q)) is (λ e. ap new e ∙ here ∙ ap (λ r. f (old r)) (sym e)) (others q)
    ∙ ap (λ o. cond (stands q x) (f o) o) (was q)
    ∙ sym (changed q)

pub retained_has : (old : LevelKey → Option Level) (at : LevelKey) (p : ℕ → Bool) (x : ShownOrder) (es : Entries) → at ≡ level_key_of x → lookup p es ≡ Some x → ((q : LevelKey) → old q ≡ level_in q (orders_in es)) → HasShares x.shares (old at)
retained_has old at p x es is there was = subst (HasShares x.shares) (sym (was at ∙ ap (λ r. level_in r (orders_in es)) is)) (level_has p x es there)

pub enough_for : (n s : ℕ) (l : Option Level) → n ≤ s → IfSome l (λ v. s ≤ v.shares) → IfSome l (λ v. n ≤ v.shares)
enough_for n s None le h = tt
enough_for n s (Some l) le h = omega (arith, le, h)
