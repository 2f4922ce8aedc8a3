-- The key of each live order stands at its token: so the order is found, and stays so.
use Rattle.std.proofs.Common.{◌≡◌, ℕ, zero, suc, ◌+◌, ◌<◌, Bool, true, false, cond, ltb, ◌||◌, List, [], ◌∷◌, ◌++◌, length, Option, Some, None, refl, sym, ap, ◌∙◌, subst, arith, eq-eqb, eqb-true, slice_get, slice_set}
use Rattle.std.specs.Option.{option_map, option_map_or}
use Rattle.std.specs.List.{AllByRecursion, find}
use Rattle.std.proofs.lemmas.Bool.{cond_both}
use Rattle.std.proofs.lemmas.Option.{slice_get_past, slice_get_within}
use Rattle.hx_units.specs.declared.names.Token.{Token}
use Rattle.hx_units.proofs.Lists.{all_pushed}
use Rattle.hx_book.specs.declared.order.Order.{Order}
use Rattle.hx_book.specs.declared.order.Live.{Live}
use Rattle.hx_book.specs.Book.{order_of, is_under, has_key, KeysDiffer, reduced, without, with_less, lives}
use Rattle.hx_book.proofs.Lists.{all_dropped, all_weaker}
use Rattle.hx_book.proofs.Orders.{none_under}
use Rattle.hx_match.specs.declared.fills.Fill.{Fill}
use Rattle.hx_match.specs.Executing.{taken, left_by, left_with}
use Rattle.hx_members.specs.Chains.{Used, Chain, is_use, is_used, index_of, entered_of, executed_by}
use Rattle.hx_members.specs.TokenState.{TokenState}
use Rattle.hx_members.specs.Tokens.{key_at, facts_of, state_of}
use Rattle.hx_members.proofs.ChainLaws.{index_of-pushed, index_of-new, slice_get-pushed}
use Rattle.hx_members.proofs.TokenLaws.{executed_facts}
use Rattle.hx_rules.specs.Orders.{is_called}
use Rattle.hx_market_core.specs.OrderKeys.{AreKeyed, AreBefore}
use Rattle.hx_market_core.specs.Effects.{IsOnly, confirmed}
use Rattle.hx_day.proofs.UsedTokens.{same-name}

-- An order is found by the key at its token.

-- the orders that the member calls by this token stand under this key
abbrev AreUnder : ℕ → Token → Option ℕ → List Live → Type 0
AreUnder m t k orders = AllByRecursion (λ live. is_called m t live.order ≡ true → k ≡ Some live.key.0) orders

called_under : (ts : List Used) (ks : List (Option ℕ)) (m : ℕ) (t : Token) (orders : List Live) → AllByRecursion (λ live. key_at ks (index_of ts live.order.member live.order.token) ≡ Some live.key.0) orders → AreUnder m t (key_at ks (index_of ts m t)) orders
called_under ts ks m t [] h = tt
called_under ts ks m t (x ∷ xs) h = (
  (λ c. let s = same-name x.order.member m x.order.token t c in
      ap (λ n. key_at ks (index_of ts n t)) (sym s.0) ∙ ap (λ (z : Token). key_at ks (index_of ts x.order.member z)) (sym s.1) ∙ h.0),
  called_under ts ks m t xs h.1,
)

none_called : (m : ℕ) (t : Token) (xs : List Live) → AllByRecursion (λ live. is_called m t live.order ≡ true → ⊥) xs → find (is_called m t) (lives xs) ≡ None
none_called m t [] h = refl
none_called m t (x ∷ xs) h = at (is_called m t x.order) refl (none_called m t xs h.1)
  where
    at : (b : Bool) → is_called m t x.order ≡ b → find (is_called m t) (lives xs) ≡ None → cond b (Some x.order) (find (is_called m t) (lives xs)) ≡ None
    at true e ih = absurd (h.0 e)
    at false e ih = ih

no_called : (m : ℕ) (t : Token) (key : ℕ) (xs : List Live) → AreUnder m t (Some key) xs → has_key key xs ≡ false → AllByRecursion (λ live. is_called m t live.order ≡ true → ⊥) xs
no_called m t key [] u n = tt
no_called m t key (x ∷ xs) u n = at (is_under key x) refl n (no_called m t key xs u.1)
  where
    under : is_called m t x.order ≡ true → is_under key x ≡ true
    under c = let same : key ≡ x.key.0 = let z : Some key ≡ Some x.key.0 = u.0 c in cc in eq-eqb x.key.0 key (sym same)

    at : (b : Bool) → is_under key x ≡ b → (b || has_key key xs) ≡ false → (has_key key xs ≡ false → AllByRecursion (λ live. is_called m t live.order ≡ true → ⊥) xs) → AllByRecursion (λ live. is_called m t live.order ≡ true → ⊥) (x ∷ xs)
    at true e n ih = absurd (let z : true ≡ false = n in cc)
    at false e n ih = ((λ c. let z : true ≡ false = sym (under c) ∙ e in cc), ih n)

key_of_under : (key : ℕ) (x : Live) (xs : List Live) → is_under key x ≡ true → has_key x.key.0 xs ≡ false → has_key key xs ≡ false
key_of_under key x xs e h = subst (λ k. has_key k xs ≡ false) (eqb-true x.key.0 key e) h

found_at : (m : ℕ) (t : Token) (key : ℕ) (xs : List Live) → AreUnder m t (Some key) xs → KeysDiffer xs → find (is_called m t) (lives xs) ≡ confirmed m t (order_of key xs)
found_at m t key [] u d = refl
found_at m t key (x ∷ xs) u d = at (is_under key x) refl (is_called m t x.order) refl (found_at m t key xs u.1 d.1)
  where
    none : is_under key x ≡ true → find (is_called m t) (lives xs) ≡ None
    none e = none_called m t xs (no_called m t key xs u.1 (key_of_under key x xs e d.0))

    at : (b : Bool) → is_under key x ≡ b → (c : Bool) → is_called m t x.order ≡ c → find (is_called m t) (lives xs) ≡ confirmed m t (order_of key xs)
        → cond c (Some x.order) (find (is_called m t) (lives xs)) ≡ confirmed m t (option_map (λ l. l.order) (cond b (Some x) (find (is_under key) xs)))
    at true e true f ih = sym (ap (λ b. cond b (Some x.order) None) f)
    at true e false f ih = none e ∙ sym (ap (λ b. cond b (Some x.order) None) f)
    at false e true f ih = absurd (let same : key ≡ x.key.0 = let z : Some key ≡ Some x.key.0 = u.0 f in cc in let z : true ≡ false = sym (eq-eqb x.key.0 key (sym same)) ∙ e in cc)
    at false e false f ih = ih

-- if there is no key at the token, it names no live order
pub none_found : (ts : List Used) (ks : List (Option ℕ)) (m : ℕ) (t : Token) (orders : List Live) → AreKeyed ts ks orders → key_at ks (index_of ts m t) ≡ None → find (is_called m t) (lives orders) ≡ None
none_found ts ks m t orders h e = none_called m t orders (none orders (subst (λ (o : Option ℕ). AreUnder m t o orders) e (called_under ts ks m t orders h.each)))
  where
    none : (xs : List Live) → AreUnder m t None xs → AllByRecursion (λ live. is_called m t live.order ≡ true → ⊥) xs
    none [] u = tt
    none (x ∷ xs) u = ((λ c. let z : None ≡ Some x.key.0 = u.0 c in cc), none xs u.1)

-- else it names the one under that key, if that is confirmed
pub found_is : (ts : List Used) (ks : List (Option ℕ)) (m : ℕ) (t : Token) (orders : List Live) (key : ℕ) → AreKeyed ts ks orders → KeysDiffer orders → key_at ks (index_of ts m t) ≡ Some key
    → find (is_called m t) (lives orders) ≡ confirmed m t (order_of key orders)
found_is ts ks m t orders key h d e = found_at m t key orders (subst (λ (o : Option ℕ). AreUnder m t o orders) e (called_under ts ks m t orders h.each)) d

pub index-unused : (ts : List Used) (m : ℕ) (t : Token) → is_used ts m t ≡ false → index_of ts m t ≡ length ts
index-unused [] m t h = refl
index-unused (u ∷ ts) m t h = at (is_use m t u) (index-unused ts m t) h
  where
    at : (b : Bool) → (is_used ts m t ≡ false → index_of ts m t ≡ length ts) → (b || is_used ts m t) ≡ false → cond b 0 (index_of ts m t + 1) ≡ suc (length ts)
    at true ih h = absurd (let z : true ≡ false = h in cc)
    at false ih h = let a = ih h in omega arith

-- at a token that is not used stands no key
pub none_at : (ts : List Used) (ks : List (Option ℕ)) (m : ℕ) (t : Token) → length ks ≡ length ts → is_used ts m t ≡ false → key_at ks (index_of ts m t) ≡ None
none_at ts ks m t l h = ap (λ o. option_map_or (λ key. key) o None) (slice_get_past ks (index_of ts m t) (let a = index-unused ts m t h in omega arith))

-- the state of a used token, and that another has none
pub output_used : (ts : List Used) (cs : List Chain) (ks : List (Option ℕ)) (m : ℕ) (t : Token) (s : TokenState) → Some s ≡ state_of ts cs ks m t
    → (key_at ks (index_of ts m t) ≡ s.key) × (s.facts.executed ≡ executed_by cs m (entered_of ts m t))
output_used ts cs ks m t s h = at (is_used ts m t) h
  where
    at : (b : Bool) → Some s ≡ cond b (Some (record { chain = index_of ts m (entered_of ts m t); facts = facts_of cs m (entered_of ts m t); key = key_at ks (index_of ts m t) })) None
        → (key_at ks (index_of ts m t) ≡ s.key) × (s.facts.executed ≡ executed_by cs m (entered_of ts m t))
    at true e =
        let z : s ≡ record { chain = index_of ts m (entered_of ts m t); facts = facts_of cs m (entered_of ts m t); key = key_at ks (index_of ts m t) } = let w : Some s ≡ Some (record { chain = index_of ts m (entered_of ts m t); facts = facts_of cs m (entered_of ts m t); key = key_at ks (index_of ts m t) }) = e in cc in
        (sym (ap (λ (v : TokenState). v.key) z), ap (λ (v : TokenState). v.facts.executed) z ∙ executed_facts cs m (entered_of ts m t))
    at false e = absurd (let z : Some s ≡ None = e in cc)

pub output_unused : (ts : List Used) (cs : List Chain) (ks : List (Option ℕ)) (m : ℕ) (t : Token) → None ≡ state_of ts cs ks m t → is_used ts m t ≡ false
output_unused ts cs ks m t h = at (is_used ts m t) h
  where
    at : (b : Bool) → ◌≡◌ {A = Option TokenState} None (cond b (Some (record { chain = index_of ts m (entered_of ts m t); facts = facts_of cs m (entered_of ts m t); key = key_at ks (index_of ts m t) })) None) → b ≡ false
    at true e = absurd (let z : ◌≡◌ {A = Option TokenState} None (Some (record { chain = index_of ts m (entered_of ts m t); facts = facts_of cs m (entered_of ts m t); key = key_at ks (index_of ts m t) })) = e in cc)
    at false e = refl

-- what a confirmed order is
pub confirmed_is : (m : ℕ) (t : Token) (o : Option Order) (x : Order) → Some x ≡ confirmed m t o → (o ≡ Some x) × (is_called m t x ≡ true)
confirmed_is m t None x e = absurd (let z : Some x ≡ None = e in cc)
confirmed_is m t (Some y) x e = at (is_called m t y) refl e
  where
    at : (b : Bool) → is_called m t y ≡ b → Some x ≡ cond b (Some y) None → (◌≡◌ {A = Option Order} (Some y) (Some x)) × (is_called m t x ≡ true)
    at true f e = (sym e, (let z : x ≡ y = let w : Some x ≡ Some y = e in cc in ap (λ (o : Order). is_called m t o) z ∙ f))
    at false f e = absurd (let z : Some x ≡ None = e in cc)

-- the order that is found is the only one that is called so
pub only_is : (ts : List Used) (ks : List (Option ℕ)) (m : ℕ) (t : Token) (orders : List Live) (live : Live) → AreKeyed ts ks orders → KeysDiffer orders → key_at ks (index_of ts m t) ≡ Some live.key.0
    → order_of live.key.0 orders ≡ Some live.order → is_called m t live.order ≡ true → IsOnly orders m t live
only_is ts ks m t orders live h d k f c =
    record { found = f; called = c; differ = d; only = only orders (subst (λ (o : Option ℕ). AreUnder m t o orders) k (called_under ts ks m t orders h.each)) d f }
  where
    none : (xs : List Live) → AllByRecursion (λ other. is_called m t other.order ≡ true → ⊥) xs → AllByRecursion (λ y. is_under live.key.0 y ≡ false) xs → AllByRecursion (λ other. is_called m t other.order ≡ is_under live.key.0 other) xs
    none [] a b = tt
    none (x ∷ xs) a b = (at (is_called m t x.order) refl, none xs a.1 b.1)
      where
        at : (q : Bool) → is_called m t x.order ≡ q → q ≡ is_under live.key.0 x
        at true e = absurd (a.0 e)
        at false e = sym b.0

    step : (x : Live) (xs : List Live) → AreUnder m t (Some live.key.0) (x ∷ xs) → KeysDiffer (x ∷ xs) → (b : Bool) → is_under live.key.0 x ≡ b
        → option_map (λ l. l.order) (cond b (Some x) (find (is_under live.key.0) xs)) ≡ Some live.order
        → (order_of live.key.0 xs ≡ Some live.order → AllByRecursion (λ other. is_called m t other.order ≡ is_under live.key.0 other) xs)
        → AllByRecursion (λ other. is_called m t other.order ≡ is_under live.key.0 other) (x ∷ xs)
    step x xs u d true e f ih =
        let same : x.order ≡ live.order = let z : Some x.order ≡ Some live.order = f in cc in
        let n = key_of_under live.key.0 x xs e d.0 in
        (ap (λ (o : Order). is_called m t o) same ∙ c ∙ sym e, none xs (no_called m t live.key.0 xs u.1 n) (none_under live.key.0 xs n))
    step x xs u d false e f ih = (at (is_called m t x.order) refl ∙ sym e, ih f)
      where
        at : (q : Bool) → is_called m t x.order ≡ q → q ≡ false
        at true g = absurd (let same : live.key.0 ≡ x.key.0 = let z : Some live.key.0 ≡ Some x.key.0 = u.0 g in cc in let z : true ≡ false = sym (eq-eqb x.key.0 live.key.0 (sym same)) ∙ e in cc)
        at false g = refl

    only : (xs : List Live) → AreUnder m t (Some live.key.0) xs → KeysDiffer xs → order_of live.key.0 xs ≡ Some live.order → AllByRecursion (λ other. is_called m t other.order ≡ is_under live.key.0 other) xs
    only [] u d f = tt
    only (x ∷ xs) u d f = step x xs u d (is_under live.key.0 x) refl f (λ g. only xs u.1 d.1 g)

-- What the book loses, and what is used, leaves the others keyed.

-- of what is left, all that does not speak of the open shares holds
pub all_reduced : (P : Live → Type 0) → ((x : Live) (n : ℕ) → P x → P (record x { order = with_less n x.order })) → (key by : ℕ) (xs : List Live) → AllByRecursion P xs → AllByRecursion P (reduced key by xs)
all_reduced P same key by [] h = tt
all_reduced P same key by (x ∷ xs) h =
    cond_both (is_under key x) (record x { order = with_less by x.order } ∷ xs) (x ∷ reduced key by xs) (AllByRecursion P) (λ _. (same x by h.0, h.1)) (λ _. (h.0, all_reduced P same key by xs h.1))

pub all_without : (P : Live → Type 0) (key : ℕ) (xs : List Live) → AllByRecursion P xs → AllByRecursion P (without key xs)
all_without P key xs h = all_dropped P (is_under key) xs h

pub all_left : (P : Live → Type 0) → ((x : Live) (n : ℕ) → P x → P (record x { order = with_less n x.order })) → (fills : List Fill) (xs : List Live) → AllByRecursion P xs → AllByRecursion P (left_by fills xs)
all_left P same [] xs h = h
all_left P same (f ∷ fills) xs h = at (order_of f.key.0 xs) (λ ys k. all_left P same fills ys k)
  where
    at : (o : Option Order) → ((ys : List Live) → AllByRecursion P ys → AllByRecursion P (left_by fills ys)) → AllByRecursion P (left_with (left_by fills) f xs o)
    at None ih = h
    at (Some x) ih =
        ih (taken f.key.0 f.shares x xs)
        (cond_both (ltb f.shares x.shares) (reduced f.key.0 f.shares xs) (without f.key.0 xs) (AllByRecursion P) (λ _. all_reduced P same f.key.0 f.shares xs h) (λ _. all_without P f.key.0 xs h))

pub keyed_reduced : (ts : List Used) (ks : List (Option ℕ)) (key by : ℕ) (xs : List Live) → AreKeyed ts ks xs → AreKeyed ts ks (reduced key by xs)
keyed_reduced ts ks key by xs h = record { as_many = h.as_many; each = all_reduced _ (λ x n e. e) key by xs h.each }

pub keyed_without : (ts : List Used) (ks : List (Option ℕ)) (key : ℕ) (xs : List Live) → AreKeyed ts ks xs → AreKeyed ts ks (without key xs)
keyed_without ts ks key xs h = record { as_many = h.as_many; each = all_without _ key xs h.each }

pub keyed_left : (ts : List Used) (ks : List (Option ℕ)) (fills : List Fill) (xs : List Live) → AreKeyed ts ks xs → AreKeyed ts ks (left_by fills xs)
keyed_left ts ks fills xs h = record { as_many = h.as_many; each = all_left _ (λ x n e. e) fills xs h.each }

pub before_left : (ts : List Used) (index : ℕ) (fills : List Fill) (xs : List Live) → AreBefore ts index xs → AreBefore ts index (left_by fills xs)
before_left ts index fills xs h = all_left _ (λ x n e. e) fills xs h

key_index : (ks : List (Option ℕ)) (index key : ℕ) → key_at ks index ≡ Some key → slice_get ks index ≡ Some (Some key)
key_index ks index key e = at (slice_get ks index) e
  where
    at : (o : Option (Option ℕ)) → option_map_or (λ key. key) o None ≡ Some key → o ≡ Some (Some key)
    at None e = absurd (let z : None ≡ Some key = e in cc)
    at (Some k) e = ap (λ z. Some z) e

pub used_index : (ts : List Used) (m : ℕ) (t : Token) → index_of ts m t < length ts → is_used ts m t ≡ true
used_index ts m t h = at (is_used ts m t) refl
  where
    at : (b : Bool) → is_used ts m t ≡ b → b ≡ true
    at true e = refl
    at false e = absurd (let a = index-unused ts m t e in omega arith)

-- the token of a live order stands among the used ones
abbrev pub StandsUsed : List Used → Live → Type 0
StandsUsed ts live = index_of ts live.order.member live.order.token < length ts

pub stand_used : (ts : List Used) (ks : List (Option ℕ)) (xs : List Live) → AreKeyed ts ks xs → AllByRecursion (StandsUsed ts) xs
stand_used ts ks xs h = all_weaker _ _ (λ x e. let a = slice_get_within ks (index_of ts x.order.member x.order.token) (Some x.key.0) (key_index ks _ x.key.0 e) in let b = h.as_many in omega arith) xs h.each

length-one : {X : Type 0} (xs : List X) (x : X) → length (xs ++ x ∷ []) ≡ length xs + 1
length-one [] x = omega arith
length-one (y ∷ xs) x = let h : length (xs ++ x ∷ []) ≡ length xs + 1 = length-one xs x in omega arith

pub keyed_pushed : (ts : List Used) (ks : List (Option ℕ)) (u : Used) (xs : List Live) → AreKeyed ts ks xs → AreKeyed (ts ++ u ∷ []) (ks ++ None ∷ []) xs
keyed_pushed ts ks u xs h = record {
  as_many = (let a = length-one ts u in let b : length (ks ++ None ∷ []) ≡ length ks + 1 = length-one ks None in let c = h.as_many in omega arith);
  each = both xs h.each (stand_used ts ks xs h);
}
  where
    both : (xs : List Live) → AllByRecursion (λ live. key_at ks (index_of ts live.order.member live.order.token) ≡ Some live.key.0) xs → AllByRecursion (StandsUsed ts) xs
        → AllByRecursion (λ live. key_at (ks ++ None ∷ []) (index_of (ts ++ u ∷ []) live.order.member live.order.token) ≡ Some live.key.0) xs
    both [] a b = tt
    both (x ∷ xs) a b = (
      ap (key_at (ks ++ None ∷ [])) (index_of-pushed ts u x.order.member x.order.token (used_index ts x.order.member x.order.token b.0))
          ∙ ap (λ o. option_map_or (λ key. key) o None) (slice_get-pushed ks None (index_of ts x.order.member x.order.token) (Some x.key.0) (key_index ks _ x.key.0 a.0)),
      both xs a.1 b.1,
    )

-- a token that is used for the first time comes after those of the live orders
pub before_new : (ts : List Used) (ks : List (Option ℕ)) (u : Used) (xs : List Live) → AreKeyed ts ks xs → is_used ts u.member u.token ≡ false
    → AreBefore (ts ++ u ∷ []) (index_of (ts ++ u ∷ []) u.member u.token) xs
before_new ts ks u xs h new = all_weaker _ _ (λ x b.
    let p : index_of (ts ++ u ∷ []) x.order.member x.order.token ≡ index_of ts x.order.member x.order.token = index_of-pushed ts u x.order.member x.order.token (used_index ts x.order.member x.order.token b) in
    let q : index_of (ts ++ u ∷ []) u.member u.token ≡ length ts = index_of-new ts u new in omega arith) xs (stand_used ts ks xs h)

set-get-same : (ks : List (Option ℕ)) (i : ℕ) (v : Option ℕ) → i < length ks → slice_get (slice_set ks i v) i ≡ Some v
set-get-same [] i v h = absurd (omega arith)
set-get-same (k ∷ ks) zero v h = refl
set-get-same (k ∷ ks) (suc i) v h = set-get-same ks i v (omega arith)

set-get-before : (ks : List (Option ℕ)) (i j : ℕ) (v : Option ℕ) → j < i → slice_get (slice_set ks i v) j ≡ slice_get ks j
set-get-before [] i j v h = refl
set-get-before (k ∷ ks) zero j v h = absurd (omega arith)
set-get-before (k ∷ ks) (suc i) zero v h = refl
set-get-before (k ∷ ks) (suc i) (suc j) v h = set-get-before ks i j v (omega arith)

length-set : (ks : List (Option ℕ)) (i : ℕ) (v : Option ℕ) → length (slice_set ks i v) ≡ length ks
length-set [] i v = refl
length-set (k ∷ ks) zero v = refl
length-set (k ∷ ks) (suc i) v = ap (λ n. suc n) (length-set ks i v)

pub index-used : (ts : List Used) (m : ℕ) (t : Token) → is_used ts m t ≡ true → index_of ts m t < length ts
index-used [] m t h = absurd (let z : false ≡ true = h in cc)
index-used (u ∷ ts) m t h = at (is_use m t u) (index-used ts m t) h
  where
    at : (b : Bool) → (is_used ts m t ≡ true → index_of ts m t < length ts) → (b || is_used ts m t) ≡ true → cond b 0 (index_of ts m t + 1) < suc (length ts)
    at true ih h = omega arith
    at false ih h = let a = ih h in omega arith

-- an order rests under its token, after the others
pub keyed_rest : (ts : List Used) (ks : List (Option ℕ)) (xs : List Live) (x : Live) → AreKeyed ts ks xs → is_used ts x.order.member x.order.token ≡ true
    → AreBefore ts (index_of ts x.order.member x.order.token) xs → AreKeyed ts (slice_set ks (index_of ts x.order.member x.order.token) (Some x.key.0)) (xs ++ x ∷ [])
keyed_rest ts ks xs x h used before =
    let index : ℕ = index_of ts x.order.member x.order.token in
    let within : index < length ks = let a = index-used ts x.order.member x.order.token used in let b = h.as_many in omega arith in
    record {
      as_many = length-set ks index (Some x.key.0) ∙ h.as_many;
      each = all_pushed _ xs x (both xs h.each before) (ap (λ o. option_map_or (λ key. key) o None) (set-get-same ks index (Some x.key.0) within));
    }
  where
    both : (ys : List Live) → AllByRecursion (λ live. key_at ks (index_of ts live.order.member live.order.token) ≡ Some live.key.0) ys → AreBefore ts (index_of ts x.order.member x.order.token) ys
        → AllByRecursion (λ live. key_at (slice_set ks (index_of ts x.order.member x.order.token) (Some x.key.0)) (index_of ts live.order.member live.order.token) ≡ Some live.key.0) ys
    both [] a b = tt
    both (y ∷ ys) a b = (
      ap (λ o. option_map_or (λ key. key) o None) (set-get-before ks (index_of ts x.order.member x.order.token) (index_of ts y.order.member y.order.token) (Some x.key.0) b.0) ∙ a.0,
      both ys a.1 b.1,
    )
