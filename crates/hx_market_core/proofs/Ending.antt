-- The orders that are over are those at the indices that are entered.
use Rattle.std.proofs.Common.{◌≡◌, ℕ, ◌+◌, ◌<◌, Bool, true, false, cond, eqb, ltb, List, [], ◌∷◌, ◌++◌, length, Option, Some, None, Contains, refl, sym, ap, ◌∙◌, subst, inl, inr, arith, eq-eqb, eqb-true, slice_get}
use Rattle.std.specs.Option.{option_map}
use Rattle.std.specs.List.{AllByRecursion, filter, find}
use Rattle.std.proofs.lemmas.Bool.{cond-true, cond-false, ne_eqb}
use Rattle.std.proofs.lemmas.Bool.Decides.{nat_tests}
use Rattle.hx_units.specs.declared.names.Token.{Token}
use Rattle.hx_units.proofs.Lists.{find-same_all}
use Rattle.hx_day.specs.Increasing.{AreIncreasing}
use Rattle.hx_day.specs.declared.expiries.entry.Entry.{Entry}
use Rattle.hx_day.specs.Expiries.{IsDue, AreIndicesUntil}
use Rattle.hx_day.proofs.Elements.{none_of_none, first_or_after, of_all}
use Rattle.hx_book.specs.declared.order.Life.{Life}
use Rattle.hx_book.specs.declared.order.Life.TheVariants.{Market as ToMarket, System as ToSystem, Until}
use Rattle.hx_book.specs.declared.order.Order.{Order}
use Rattle.hx_book.specs.declared.order.Live.{Live}
use Rattle.hx_book.specs.Book.{lives, is_under, order_of}
use Rattle.hx_book.proofs.Lists.{all_weaker, find-none}
use Rattle.hx_members.specs.Chains.{Used, is_used, index_of, entered_of, replacing_used}
use Rattle.hx_members.specs.Rows.{name_of}
use Rattle.hx_members.specs.Tokens.{name_at}
use Rattle.hx_members.proofs.ChainLaws.{slice_get-index_of}
use Rattle.hx_rules.specs.Orders.{is_called, expiry_of}
use Rattle.hx_rules.specs.Hours.{is_over}
use Rattle.hx_market_core.specs.OrderKeys.{AreKeyed}
use Rattle.hx_market_core.specs.Effects.{IsOnly}
use Rattle.hx_market_core.specs.Expiries.{order_index, order_at, one_or_none, orders_at, IsEntered, AreInOrder, AreEntered}
use Rattle.hx_day.proofs.ChainShares.{name-self}
use Rattle.hx_day.proofs.UsedTokens.{same-name}
use Rattle.hx_market_core.proofs.OrderKeys.{StandsUsed, stand_used, used_index, index-unused}

-- The order at an index.

-- none stands below all of them
none_below : (ts : List Used) (q n : ℕ) (xs : List Live) → q < n → AreInOrder ts n (lives xs) → order_at ts q xs ≡ None
none_below ts q n [] l h = refl
none_below ts q n (x ∷ xs) l h =
    let a = h.0 in
    cond-false (eqb (order_index ts x.order) q) (Some x) (order_at ts q xs) (ne_eqb (order_index ts x.order) q (λ e. absurd (omega arith)))
    ∙ none_below ts q (order_index ts x.order + 1) xs (omega arith) h.1

none_at_all : (ts : List Used) (qs : List ℕ) → orders_at ts qs [] ≡ []
none_at_all ts [] = refl
none_at_all ts (q ∷ qs) = none_at_all ts qs

-- an order before all indices is at none of them
skipped : (ts : List Used) (x : Live) (xs : List Live) (qs : List ℕ) → AllByRecursion (λ q. order_index ts x.order < q) qs → orders_at ts qs (x ∷ xs) ≡ orders_at ts qs xs
skipped ts x xs [] h = refl
skipped ts x xs (q ∷ qs) h =
    ap (λ o. one_or_none o ++ orders_at ts qs (x ∷ xs)) (cond-false (eqb (order_index ts x.order) q) (Some x) (order_at ts q xs) (ne_eqb (order_index ts x.order) q (λ e. let a = h.0 in absurd (omega arith))))
    ∙ ap (λ l. one_or_none (order_at ts q xs) ++ l) (skipped ts x xs qs h.1)

-- the orders that pass are at these indices
abbrev StandAt : (Live → Bool) → List Used → List ℕ → List Live → Type 0
StandAt test ts qs xs = AllByRecursion (λ x. test x ≡ true → Contains qs (order_index ts x.order)) xs

-- at the others, if none stands at the first
stand_after : (test : Live → Bool) (ts : List Used) (q : ℕ) (qs : List ℕ) (n : ℕ) (xs : List Live) → q < n → AreInOrder ts n (lives xs) → StandAt test ts (q ∷ qs) xs → StandAt test ts qs xs
stand_after test ts q qs n [] l h s = tt
stand_after test ts q qs n (x ∷ xs) l h s = (
  λ t. elim (first_or_after q qs (order_index ts x.order) (s.0 t)) [ inl e ↦ (let a = h.0 in absurd (omega arith)) | inr m ↦ m ],
  stand_after test ts q qs (order_index ts x.order + 1) xs (let a = h.0 in omega arith) h.1 s.1,
)

passed_over : (test : Live → Bool) (x : Live) (xs : List Live) → (test x ≡ true → ⊥) → filter test (x ∷ xs) ≡ filter test xs
passed_over test x xs n = at (test x) refl
  where
    at : (b : Bool) → test x ≡ b → cond b (x ∷ filter test xs) (filter test xs) ≡ filter test xs
    at true e = absurd (n e)
    at false e = refl

-- in order, those at the indices that pass are all that pass
Meets : (Live → Bool) → List Used → List Live → Type 0
Meets test ts xs = (qs : List ℕ) → AreIncreasing qs → StandAt test ts qs xs → filter test (orders_at ts qs xs) ≡ filter test xs

-- the same for the indices after the first, of orders that begin with x
meets_at : (test : Live → Bool) (ts : List Used) (x : Live) (xs : List Live) (q : ℕ) (qs : List ℕ) → AreInOrder ts (order_index ts x.order) (lives (x ∷ xs)) → Meets test ts xs
    → AreIncreasing (q ∷ qs) → StandAt test ts (q ∷ qs) (x ∷ xs) → (StandAt test ts qs (x ∷ xs) → filter test (orders_at ts qs (x ∷ xs)) ≡ filter test (x ∷ xs))
    → (a : Bool) → ltb q (order_index ts x.order) ≡ a → (b : Bool) → ltb (order_index ts x.order) q ≡ b → filter test (orders_at ts (q ∷ qs) (x ∷ xs)) ≡ filter test (x ∷ xs)
unfolding Meets
meets_at test ts x xs q qs h ih i s later true e b f =
    let p : ℕ = order_index ts x.order in
    let l : q < p = grind (arith, nat_tests) in
    ap (λ o. filter test (one_or_none o ++ orders_at ts qs (x ∷ xs))) (none_below ts q p (x ∷ xs) l h)
    ∙ later (stand_after test ts q qs p (x ∷ xs) l h s)
meets_at test ts x xs q qs h ih i s later false e true f =
    let p : ℕ = order_index ts x.order in
    let l : p < q = grind (arith, nat_tests) in
    let above : AllByRecursion (λ z. p < z) (q ∷ qs) = (l, all_weaker (λ z. q < z) (λ z. p < z) (λ z k. omega arith) qs i.0) in
    ap (filter test) (skipped ts x xs (q ∷ qs) above) ∙ ih (q ∷ qs) i s.1
    ∙ sym (passed_over test x xs (λ t. let k : p < p = of_all (λ z. p < z) (q ∷ qs) p above (s.0 t) in absurd (omega arith)))
meets_at test ts x xs q qs h ih i s later false e false f =
    let p : ℕ = order_index ts x.order in
    let same : p ≡ q = grind (arith, nat_tests) in
    let above : AllByRecursion (λ z. p < z) qs = all_weaker (λ z. q < z) (λ z. p < z) (λ z k. omega arith) qs i.0 in
    let rest : filter test (orders_at ts qs (x ∷ xs)) ≡ filter test xs =
    ap (filter test) (skipped ts x xs qs above) ∙ ih qs i.1 (stand_after test ts q qs (p + 1) xs (omega arith) h.1 s.1) in
    ap (λ o. filter test (one_or_none o ++ orders_at ts qs (x ∷ xs))) (cond-true (eqb p q) (Some x) (order_at ts q xs) (eq-eqb p q same))
    ∙ ap (λ l. cond (test x) (x ∷ l) l) rest

meets_more : (test : Live → Bool) (ts : List Used) (x : Live) (xs : List Live) → AreInOrder ts (order_index ts x.order) (lives (x ∷ xs)) → Meets test ts xs
    → (qs : List ℕ) → AreIncreasing qs → StandAt test ts qs (x ∷ xs) → filter test (orders_at ts qs (x ∷ xs)) ≡ filter test (x ∷ xs)
unfolding Meets
meets_more test ts x xs h ih [] i s = ih [] i s.1 ∙ sym (passed_over test x xs (λ t. none_of_none (order_index ts x.order) (s.0 t)))
meets_more test ts x xs h ih (q ∷ qs) i s =
    meets_at test ts x xs q qs h ih i s (meets_more test ts x xs h ih qs i.1) (ltb q (order_index ts x.order)) refl (ltb (order_index ts x.order) q) refl

meets : (test : Live → Bool) (ts : List Used) (n : ℕ) (xs : List Live) → AreInOrder ts n (lives xs) → Meets test ts xs
unfolding Meets
meets test ts n [] h = λ qs i s. ap (filter test) (none_at_all ts qs)
meets test ts n (x ∷ xs) h = meets_more test ts x xs ((omega arith), h.1) (meets test ts (order_index ts x.order + 1) xs h.1)

-- The orders that are over are those at the indices that are entered until then.
pub over_are : (es : List Entry) (ts : List Used) (time : ℕ) (indices : List ℕ) (orders : List Live) → AreEntered es ts (lives orders) → AreIndicesUntil es time indices
    → filter (λ l. is_over time l.order.life) (orders_at ts indices orders) ≡ filter (λ l. is_over time l.order.life) orders
unfolding Meets
over_are es ts time indices orders h until = meets (λ l. is_over time l.order.life) ts 0 orders h.in_order indices until.increasing (stand orders h.each)
  where
    due : (x : Order) (life : Life) → x.life ≡ life → IsEntered es ts x → is_over time life ≡ true → IsDue es time (order_index ts x)
    due x ToMarket l i o = absurd (let z : false ≡ true = o in cc)
    due x ToSystem l i o = absurd (let z : false ≡ true = o in cc)
    due x (Until e) l i o = (e, (grind (arith, nat_tests)), i e (ap expiry_of l))

    stand : (xs : List Live) → AllByRecursion (IsEntered es ts) (lives xs) → StandAt (λ l. is_over time l.order.life) ts indices xs
    stand [] i = tt
    stand (x ∷ xs) i = (λ o. (until.due (order_index ts x.order)).1 (due x.order x.order.life refl i.0 o), stand xs i.1)

-- The order at an index is found by its token.

-- two used tokens at one index are the same
same_at : (ts : List Used) (m i : ℕ) (t u : Token) → is_used ts m t ≡ true → is_used ts i u ≡ true → index_of ts i u ≡ index_of ts m t → (i ≡ m) × (u ≡ t)
same_at ts m i t u a b e =
    let x : Some (replacing_used i u (entered_of ts i u)) ≡ Some (replacing_used m t (entered_of ts m t)) =
    sym (slice_get-index_of ts i u b) ∙ ap (slice_get ts) e ∙ slice_get-index_of ts m t a in
    let y : replacing_used i u (entered_of ts i u) ≡ replacing_used m t (entered_of ts m t) = cc in
    (ap (λ (w : Used). w.member) y, ap (λ (w : Used). w.token) y)

-- an order is at the index of a token exactly if it is called so
abbrev pub AtCalled : List Used → (index m : ℕ) → Token → List Live → Type 0
AtCalled ts index m t xs = AllByRecursion (λ x. eqb (order_index ts x.order) index ≡ is_called m t x.order) xs

at_called : (ts : List Used) (ks : List (Option ℕ)) (index m : ℕ) (t : Token) (xs : List Live) → AreKeyed ts ks xs → index_of ts m t ≡ index → AtCalled ts index m t xs
at_called ts ks index m t xs k e = each xs (stand_used ts ks xs k)
  where
    named : (x : Order) → is_called m t x ≡ true → order_index ts x ≡ index
    named x c = let s = same-name x.member m x.token t c in ap (λ n. index_of ts n x.token) s.0 ∙ ap (λ (z : Token). index_of ts m z) s.1 ∙ e

    called : (x : Order) → is_used ts x.member x.token ≡ true → order_index ts x < length ts → order_index ts x ≡ index → is_called m t x ≡ true
    called x u l p = at (is_used ts m t) refl
      where
        at : (b : Bool) → is_used ts m t ≡ b → is_called m t x ≡ true
        at true f =
            let s = same_at ts m x.member t x.token f u (p ∙ sym e) in
            subst (λ n. is_called n t x ≡ true) s.0 (subst (λ (z : Token). is_called x.member z x ≡ true) s.1 (name-self x.member x.token))
        at false f = let a = index-unused ts m t f in absurd (omega arith)

    one : (x : Order) → order_index ts x < length ts → (b : Bool) → is_called m t x ≡ b → eqb (order_index ts x) index ≡ b
    one x l true c = eq-eqb (order_index ts x) index (named x c)
    one x l false c = ne_eqb (order_index ts x) index (λ p. let z : true ≡ false = sym (called x (used_index ts x.member x.token l) l p) ∙ c in cc)

    each : (ys : List Live) → AllByRecursion (StandsUsed ts) ys → AtCalled ts index m t ys
    each [] b = tt
    each (y ∷ ys) b = (one y.order b.0 (is_called m t y.order) refl, each ys b.1)

find_lives : (test : Order → Bool) (xs : List Live) → option_map (λ x. x.order) (find (λ x. test x.order) xs) ≡ find test (lives xs)
find_lives test [] = refl
find_lives test (x ∷ xs) = at (test x.order) (find_lives test xs)
  where
    at : (b : Bool) → option_map (λ z. z.order) (find (λ z. test z.order) xs) ≡ find test (lives xs)
        → option_map (λ z. z.order) (cond b (Some x) (find (λ z. test z.order) xs)) ≡ cond b (Some x.order) (find test (lives xs))
    at true ih = refl
    at false ih = ih

none_of_map : (o : Option Live) → option_map (λ x. x.order) o ≡ None → o ≡ None
none_of_map None h = refl
none_of_map (Some x) h = absurd (let z : Some x.order ≡ None = h in cc)

pub none_called_at : (ts : List Used) (ks : List (Option ℕ)) (index m : ℕ) (t : Token) (xs : List Live) → AreKeyed ts ks xs → index_of ts m t ≡ index → find (is_called m t) (lives xs) ≡ None
    → order_at ts index xs ≡ None
none_called_at ts ks index m t xs k e n =
    find-same_all (λ (x : Live). eqb (order_index ts x.order) index) (λ (x : Live). is_called m t x.order) xs (at_called ts ks index m t xs k e)
    ∙ none_of_map (find (λ x. is_called m t x.order) xs) (find_lives (is_called m t) xs ∙ n)

-- what is found under a key stands under it
found_under : (key : ℕ) (o : Order) (xs : List Live) → order_of key xs ≡ Some o → find (is_under key) xs ≡ Some (record { key = record { 0 = key }; order = o })
found_under key o [] h = absurd (let z : None ≡ Some o = h in cc)
found_under key o (x ∷ xs) h = at (is_under key x) refl h (found_under key o xs)
  where
    at : (b : Bool) → is_under key x ≡ b → option_map (λ l. l.order) (cond b (Some x) (find (is_under key) xs)) ≡ Some o
        → (order_of key xs ≡ Some o → find (is_under key) xs ≡ Some (record { key = record { 0 = key }; order = o }))
        → cond b (Some x) (find (is_under key) xs) ≡ Some (record { key = record { 0 = key }; order = o })
    at true e h ih =
        let same : x.order ≡ o = let z : Some x.order ≡ Some o = h in cc in
        let k : x.key.0 ≡ key = eqb-true x.key.0 key e in
        ap (λ n. Some (let l : Live = record { key = record { 0 = n }; order = x.order } in l)) k ∙ ap (λ y. Some (let l : Live = record { key = record { 0 = key }; order = y } in l)) same
    at false e h ih = ih h

pub only_called_at : (ts : List Used) (ks : List (Option ℕ)) (index m : ℕ) (t : Token) (xs : List Live) (live : Live) → AreKeyed ts ks xs → index_of ts m t ≡ index → IsOnly xs m t live
    → order_at ts index xs ≡ Some live
only_called_at ts ks index m t xs live k e only =
    find-same_all (λ (x : Live). eqb (order_index ts x.order) index) (λ (x : Live). is_called m t x.order) xs (at_called ts ks index m t xs k e)
    ∙ find-same_all (λ (x : Live). is_called m t x.order) (is_under live.key.0) xs only.only
    ∙ found_under live.key.0 live.order xs only.found

pub none_named_at : (ts : List Used) (ks : List (Option ℕ)) (index : ℕ) (xs : List Live) → AreKeyed ts ks xs → name_at ts index ≡ None → order_at ts index xs ≡ None
none_named_at ts ks index xs k n = find-none (λ x. eqb (order_index ts x.order) index) xs (each xs (stand_used ts ks xs k))
  where
    some : (x : Order) → order_index ts x < length ts → order_index ts x ≡ index → ⊥
    some x l e =
        let a : slice_get ts index ≡ Some (replacing_used x.member x.token (entered_of ts x.member x.token)) = ap (slice_get ts) (sym e) ∙ slice_get-index_of ts x.member x.token (used_index ts x.member x.token l) in
        at (slice_get ts index) n a
      where
        at : (o : Option Used) → option_map (λ u. name_of u.member u.token) o ≡ None → o ≡ Some (replacing_used x.member x.token (entered_of ts x.member x.token)) → ⊥
        at None h a = let z : None ≡ Some (replacing_used x.member x.token (entered_of ts x.member x.token)) = a in cc
        at (Some u) h a = let z : Some (name_of u.member u.token) ≡ None = h in cc

    each : (ys : List Live) → AllByRecursion (StandsUsed ts) ys → AllByRecursion (λ x. eqb (order_index ts x.order) index ≡ false) ys
    each [] b = tt
    each (y ∷ ys) b = (ne_eqb (order_index ts y.order) index (some y.order b.0), each ys b.1)
