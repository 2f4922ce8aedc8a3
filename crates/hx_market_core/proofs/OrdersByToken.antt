-- The live order that the member calls by a token stands under one key: what changes of it by name changes by key.
use Rattle.std.proofs.Common.{◌≡◌, ℕ, ◌-◌, ◌<◌, ◌≤◌, Bool, true, false, cond, ltb, ◌||◌, not, List, [], ◌∷◌, ◌++◌, Some, None, refl, sym, ap, ◌∙◌, subst, arith, eqb-true}
use Rattle.std.specs.Option.{option_map}
use Rattle.std.specs.List.{AllByRecursion, find}
use Rattle.std.proofs.lemmas.Bool.Decides.{nat_tests}
use Rattle.hx_units.specs.declared.names.Token.{Token}
use Rattle.hx_book.specs.declared.order.Order.{Order}
use Rattle.hx_book.specs.declared.order.Live.{Live}
use Rattle.hx_book.specs.Book.{order_of, is_under, has_key, KeysDiffer, reduced, without, with_less, lives}
use Rattle.hx_book.proofs.Orders.{none_under}
use Rattle.hx_match.specs.Matching.{with_shares}
use Rattle.hx_rules.specs.Orders.{is_called}
use Rattle.hx_rules.specs.Removal.{others, less, lessened}

abbrev AreOnly : ℕ → Token → ℕ → List Live → Type 0
AreOnly m t key xs = AllByRecursion (λ other. is_called m t other.order ≡ is_under key other) xs

pub has_found : (key : ℕ) (x : Order) (xs : List Live) → order_of key xs ≡ Some x → has_key key xs ≡ true
has_found key x [] h = absurd (let z : None ≡ Some x = h in cc)
has_found key x (y ∷ ys) h = at (is_under key y) h (has_found key x ys)
  where
    at : (b : Bool) → option_map (λ l. l.order) (cond b (Some y) (find (is_under key) ys)) ≡ Some x → (order_of key ys ≡ Some x → has_key key ys ≡ true) → (b || has_key key ys) ≡ true
    at true e ih = refl
    at false e ih = ih e

-- it is the order that the name finds
pub only_found : (m : ℕ) (t : Token) (key : ℕ) (x : Order) (xs : List Live) → AreOnly m t key xs → order_of key xs ≡ Some x → find (is_called m t) (lives xs) ≡ Some x
only_found m t key x [] h f = absurd (let z : None ≡ Some x = f in cc)
only_found m t key x (y ∷ ys) h f = at (is_under key y) refl f (only_found m t key x ys h.1)
  where
    at : (b : Bool) → is_under key y ≡ b → option_map (λ l. l.order) (cond b (Some y) (find (is_under key) ys)) ≡ Some x → (order_of key ys ≡ Some x → find (is_called m t) (lives ys) ≡ Some x)
        → cond (is_called m t y.order) (Some y.order) (find (is_called m t) (lives ys)) ≡ Some x
    at true e f ih = ap (λ b. cond b (Some y.order) (find (is_called m t) (lives ys))) (h.0 ∙ e) ∙ f
    at false e f ih = ap (λ b. cond b (Some y.order) (find (is_called m t) (lives ys))) (h.0 ∙ e) ∙ ih f

none_of : (m : ℕ) (t : Token) (key : ℕ) (xs : List Live) → AreOnly m t key xs → AllByRecursion (λ y. is_under key y ≡ false) xs → lives xs ≡ others m t (lives xs)
none_of m t key [] h n = refl
none_of m t key (x ∷ xs) h n =
    ap (λ l. x.order ∷ l) (none_of m t key xs h.1 n.1)
    ∙ sym (ap (λ b. cond (not b) (x.order ∷ others m t (lives xs)) (others m t (lives xs))) (h.0 ∙ n.0))

-- the others by name are the others by key
pub others_lives : (m : ℕ) (t : Token) (key : ℕ) (xs : List Live) → AreOnly m t key xs → KeysDiffer xs → lives (without key xs) ≡ others m t (lives xs)
others_lives m t key [] h d = refl
others_lives m t key (x ∷ xs) h d = at (is_under key x) refl (others_lives m t key xs h.1 d.1)
  where
    at : (b : Bool) → is_under key x ≡ b → lives (without key xs) ≡ others m t (lives xs) → lives (cond b xs (x ∷ without key xs)) ≡ others m t (lives (x ∷ xs))
    at true e ih =
        none_of m t key xs h.1 (none_under key xs (subst (λ k. has_key k xs ≡ false) (eqb-true x.key.0 key e) d.0))
        ∙ sym (ap (λ b. cond (not b) (x.order ∷ others m t (lives xs)) (others m t (lives xs))) (h.0 ∙ e))
    at false e ih = ap (λ l. x.order ∷ l) ih ∙ sym (ap (λ b. cond (not b) (x.order ∷ others m t (lives xs)) (others m t (lives xs))) (h.0 ∙ e))

-- fewer shares by name are fewer by key
pub lessened_reduced : (m : ℕ) (t : Token) (key by : ℕ) (y : Order) (xs : List Live) → AreOnly m t key xs → order_of key xs ≡ Some y → by < y.shares → lives (reduced key by xs) ≡ lessened m t by (lives xs)
lessened_reduced m t key by y [] h f l = refl
lessened_reduced m t key by y (x ∷ xs) h f l = at (is_under key x) refl f (lessened_reduced m t key by y xs h.1)
  where
    some : (s : ℕ) → by < s → ltb by s ≡ true
    some s k = grind (arith, nat_tests)

    at : (b : Bool) → is_under key x ≡ b → option_map (λ l. l.order) (cond b (Some x) (find (is_under key) xs)) ≡ Some y → (order_of key xs ≡ Some y → by < y.shares → lives (reduced key by xs) ≡ lessened m t by (lives xs))
        → lives (cond b (record x { order = with_less by x.order } ∷ xs) (x ∷ reduced key by xs)) ≡ lessened m t by (lives (x ∷ xs))
    at true e f ih =
        let same : x.order ≡ y = let z : Some x.order ≡ Some y = f in cc in
        let more : ltb by x.order.shares ≡ true = some x.order.shares (subst (λ (o : Order). by < o.shares) (sym same) l) in
        ap (λ b. cond b (with_shares x.order (x.order.shares - by) ∷ []) [] ++ lives xs) (sym more)
        ∙ sym (ap (λ b. cond b (less x.order by ++ lives xs) (x.order ∷ lessened m t by (lives xs))) (h.0 ∙ e))
    at false e f ih = ap (λ z. x.order ∷ z) (ih f l) ∙ sym (ap (λ b. cond b (less x.order by ++ lives xs) (x.order ∷ lessened m t by (lives xs))) (h.0 ∙ e))

pub lessened_without : (m : ℕ) (t : Token) (key by : ℕ) (y : Order) (xs : List Live) → AreOnly m t key xs → order_of key xs ≡ Some y → y.shares ≤ by → lives (without key xs) ≡ lessened m t by (lives xs)
lessened_without m t key by y [] h f l = refl
lessened_without m t key by y (x ∷ xs) h f l = at (is_under key x) refl f (lessened_without m t key by y xs h.1)
  where
    none : (s : ℕ) → s ≤ by → ltb by s ≡ false
    none s k = grind (arith, nat_tests)

    at : (b : Bool) → is_under key x ≡ b → option_map (λ l. l.order) (cond b (Some x) (find (is_under key) xs)) ≡ Some y → (order_of key xs ≡ Some y → y.shares ≤ by → lives (without key xs) ≡ lessened m t by (lives xs))
        → lives (cond b xs (x ∷ without key xs)) ≡ lessened m t by (lives (x ∷ xs))
    at true e f ih =
        let same : x.order ≡ y = let z : Some x.order ≡ Some y = f in cc in
        let no : ltb by x.order.shares ≡ false = none x.order.shares (subst (λ (o : Order). o.shares ≤ by) (sym same) l) in
        ap (λ b. cond b (with_shares x.order (x.order.shares - by) ∷ []) [] ++ lives xs) (sym no)
        ∙ sym (ap (λ b. cond b (less x.order by ++ lives xs) (x.order ∷ lessened m t by (lives xs))) (h.0 ∙ e))
    at false e f ih = ap (λ z. x.order ∷ z) (ih f l) ∙ sym (ap (λ b. cond b (less x.order by ++ lives xs) (x.order ∷ lessened m t by (lives xs))) (h.0 ∙ e))
