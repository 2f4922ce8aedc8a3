-- A walk through a list of orders in time.
use Rattle.std.proofs.Common.{◌≡◌, ℕ, Bool, true, false, cond, eqb, List, [], ◌∷◌, ◌++◌, length, Option, Some, None, refl, sym, ap, ◌∙◌, subst, suc, eq-eqb, eqb-true}
use Rattle.std.specs.Option.{option_map}
use Rattle.std.specs.List.{find}
use Rattle.std.proofs.lemmas.Bool.{cond-true, cond-false, or_parts}
use Rattle.hx_book.specs.declared.order.Key.{Key}
use Rattle.hx_book.specs.declared.order.Order.{Order}
use Rattle.hx_book.specs.declared.order.Live.{Live}
use Rattle.hx_book.specs.Lists.{head_of, after_first}
use Rattle.hx_book.specs.Book.{order_of, is_under, has_key, KeysDiffer, next_by_time, lives}

-- the orders after the key, or the whole list
abbrev pub later : Option Key → List Live → List Live
later None orders = orders
later (Some key) orders = after_first (is_under key.0) orders

-- the list begins with some orders, and goes on so
Ends : List Live → List Live → Type 0
Ends orders rest = (front : List Live) × (orders ≡ front ++ rest)

ends : (after : Option Key) (orders : List Live) → Ends orders (later after orders)
unfolding Ends
ends None orders = ([], refl)
ends (Some key) [] = ([], refl)
ends (Some key) (x ∷ xs) = at (is_under key.0 x) (ends (Some key) xs)
  where
    at : (b : Bool) → Ends xs (later (Some key) xs) → Ends (x ∷ xs) (cond b xs (after_first (is_under key.0) xs))
    at true h = (x ∷ [], refl)
    at false h = (x ∷ h.0, ap (λ l. x ∷ l) h.1)

-- the order at the key, and those after it
pub record StandsAt (orders : List Live) (live : Live) (rest : List Live) : Type 0 where
  pub order : order_of live.key.0 orders ≡ Some live.order
  pub after_is : later (Some live.key) orders ≡ rest

other_key : (front : List Live) (live : Live) (rest : List Live) (k : ℕ) → has_key k (front ++ live ∷ rest) ≡ false → is_under live.key.0 (record live { key = record { 0 = k } }) ≡ false
other_key [] live rest k h = flip k live.key.0 (or_parts (is_under k live) (has_key k rest) h).0
  where
    flip : (k n : ℕ) → eqb n k ≡ false → eqb k n ≡ false
    flip k n e = at (eqb k n) refl
      where
        at : (b : Bool) → eqb k n ≡ b → b ≡ false
        at true t = absurd (let z : true ≡ false = sym (eq-eqb n k (sym (eqb-true k n t))) ∙ e in cc)
        at false t = refl
other_key (x ∷ front) live rest k h = other_key front live rest k (or_parts (is_under k x) (has_key k (front ++ live ∷ rest)) h).1

at_front : (front : List Live) (live : Live) (rest : List Live) → KeysDiffer (front ++ live ∷ rest) → StandsAt (front ++ live ∷ rest) live rest
at_front [] live rest h = record {
  order = ap (λ b. option_map (λ l. l.order) (cond b (Some live) (find (is_under live.key.0) rest))) (eq-eqb live.key.0 live.key.0 refl);
  after_is = cond-true (is_under live.key.0 live) rest (after_first (is_under live.key.0) rest) (eq-eqb live.key.0 live.key.0 refl);
}
at_front (x ∷ front) live rest h =
    let no : is_under live.key.0 x ≡ false = other_key front live rest x.key.0 h.0 in
    let k = at_front front live rest h.1 in
    record {
      order = ap (λ b. option_map (λ l. l.order) (cond b (Some x) (find (is_under live.key.0) (front ++ live ∷ rest)))) no ∙ k.order;
      after_is = cond-false (is_under live.key.0 x) (front ++ live ∷ rest) (after_first (is_under live.key.0) (front ++ live ∷ rest)) no ∙ k.after_is;
    }

pub stands : (after : Option Key) (orders : List Live) (live : Live) (rest : List Live) → KeysDiffer orders → later after orders ≡ live ∷ rest → StandsAt orders live rest
unfolding Ends
stands after orders live rest h e =
    let s = ends after orders in
    let split : orders ≡ s.0 ++ live ∷ rest = s.1 ∙ ap (λ l. s.0 ++ l) e in
    subst (λ (l : List Live). StandsAt l live rest) (sym split) (at_front s.0 live rest (subst KeysDiffer split h))

-- the next order in time, if there is one
pub next_stands : (after : Option Key) (orders : List Live) (key : Key) → KeysDiffer orders → next_by_time after orders ≡ Some key → (live : Live) × (rest : List Live) × (live.key ≡ key) × (later after orders ≡ live ∷ rest) × StandsAt orders live rest
next_stands after orders key h e = at (later after orders) refl (next_is after ∙ e)
  where
    next_is : (a : Option Key) → option_map (λ l. l.key) (head_of (later a orders)) ≡ next_by_time a orders
    next_is None = refl
    next_is (Some k) = refl

    at : (l : List Live) → later after orders ≡ l → option_map (λ z. z.key) (head_of l) ≡ Some key → (live : Live) × (rest : List Live) × (live.key ≡ key) × (later after orders ≡ live ∷ rest) × StandsAt orders live rest
    at [] b n = absurd (let z : None ≡ Some key = n in cc)
    at (x ∷ xs) b n = (x, xs, (let z : Some x.key ≡ Some key = n in cc), b, stands after orders x xs h b)

-- one step of the walk: the order at the next key is the first of those after the current one, and the others come
-- after it
pub record IsStep (after : Option Key) (orders : List Live) (key : Key) (x : Order) : Type 0 where
  pub rest : List Live
  pub after_is : later (Some key) orders ≡ rest
  pub before : lives (later after orders) ≡ x ∷ lives rest
  pub shorter : length (later after orders) ≡ suc (length rest)

pub is_step : (after : Option Key) (orders : List Live) (key : Key) (x : Order) → KeysDiffer orders → next_by_time after orders ≡ Some key → order_of key.0 orders ≡ Some x → IsStep after orders key x
is_step after orders key x h e f =
    let n = next_stands after orders key h e in
    let same : n.0.order ≡ x = let z : Some n.0.order ≡ Some x = sym n.4.order ∙ ap (λ (k : Key). order_of k.0 orders) n.2 ∙ f in cc in
    record {
      rest = n.1;
      after_is = ap (λ (k : Key). later (Some k) orders) (sym n.2) ∙ n.4.after_is;
      before = ap lives n.3 ∙ ap (λ (y : Order). y ∷ lives n.1) same;
      shorter = ap (λ (l : List Live). length l) n.3;
    }

-- the same with the order's key
pub record IsNext (after : Option Key) (orders : List Live) (key : Key) (x : Order) : Type 0 where
  pub rest : List Live
  pub after_is : later (Some key) orders ≡ rest
  pub before : later after orders ≡ (let live : Live = record { key = key; order = x } in live) ∷ rest
  pub shorter : length (later after orders) ≡ suc (length rest)

pub is_next : (after : Option Key) (orders : List Live) (key : Key) (x : Order) → KeysDiffer orders → next_by_time after orders ≡ Some key → order_of key.0 orders ≡ Some x → IsNext after orders key x
is_next after orders key x h e f =
    let n = next_stands after orders key h e in
    let same : n.0.order ≡ x = let z : Some n.0.order ≡ Some x = sym n.4.order ∙ ap (λ (k : Key). order_of k.0 orders) n.2 ∙ f in cc in
    record {
      rest = n.1;
      after_is = ap (λ (k : Key). later (Some k) orders) (sym n.2) ∙ n.4.after_is;
      before = n.3 ∙ ap (λ (k : Key). (let live : Live = record { key = k; order = n.0.order } in live) ∷ n.1) n.2 ∙ ap (λ (y : Order). (let live : Live = record { key = key; order = y } in live) ∷ n.1) same;
      shorter = ap (λ (l : List Live). length l) n.3;
    }
