-- Orders that end, out of a list of orders under keys.
use Rattle.std.proofs.Common.{◌≡◌, Bool, true, false, cond, eqb, not, ◌||◌, ℕ, ◌<◌, List, [], ◌∷◌, ◌++◌, Option, Some, None, length, drop, get_or, ◌+◌, refl, sym, ap, ◌∙◌, subst, eq-eqb, eqb-true}
use Rattle.std.specs.List.{filter}
use Rattle.std.specs.Option.{IfSome}
use Rattle.std.proofs.lemmas.List.{drop_more}
use Rattle.hx_book.specs.declared.order.Key.{Key}
use Rattle.std.proofs.lemmas.Bool.{cond-true, cond-false}
use Rattle.hx_book.specs.declared.order.Order.{Order}
use Rattle.hx_book.specs.declared.order.Live.{Live}
use Rattle.hx_book.specs.Book.{is_under, has_key, without, KeysDiffer, lives, next_by_time}

-- a choice by the order is that of the orders without their keys
pub lives-filter : (p : Order → Bool) (xs : List Live) → lives (filter (λ l. p l.order) xs) ≡ filter p (lives xs)
lives-filter p [] = refl
lives-filter p (x ∷ xs) = at (p x.order) (lives-filter p xs)
  where
    at : (b : Bool) → lives (filter (λ l. p l.order) xs) ≡ filter p (lives xs) → lives (cond b (x ∷ filter (λ l. p l.order) xs) (filter (λ l. p l.order) xs)) ≡ cond b (x.order ∷ filter p (lives xs)) (filter p (lives xs))
    at true h = ap (λ (l : List Order). x.order ∷ l) h
    at false h = h

-- the first of the chosen orders is taken out: the others of them are left, and so are all that are not chosen
pub record TakesOut (p : Live → Bool) (live : Live) (rest xs : List Live) : Type 0 where
  pub has : has_key live.key.0 xs ≡ true
  pub left : rest ≡ filter p (without live.key.0 xs)
  pub others : filter (λ x. not (p x)) (without live.key.0 xs) ≡ filter (λ x. not (p x)) xs

first : {X : Type 0} (y x : X) (ys zs : List X) → y ∷ ys ≡ x ∷ zs → (y ≡ x) × (ys ≡ zs)
first y x ys zs e = (cc, cc)

or_left : (a b : Bool) → a ≡ true → (a || b) ≡ true
or_left true b e = refl
or_left false b e = absurd (let z : false ≡ true = e in cc)

or_right : (a b : Bool) → b ≡ true → (a || b) ≡ true
or_right true b e = refl
or_right false b e = e

-- an order whose key none of the others has is not under the key of one of them
not_under : (k : ℕ) (x : Live) (xs : List Live) → has_key x.key.0 xs ≡ false → has_key k xs ≡ true → is_under k x ≡ false
not_under k x xs d h = at (is_under k x) refl
  where
    at : (b : Bool) → is_under k x ≡ b → b ≡ false
    at true e = absurd (let z : true ≡ false = sym (subst (λ n. has_key n xs ≡ true) (sym (eqb-true x.key.0 k e)) h) ∙ d in cc)
    at false e = refl

pub takes_out : (p : Live → Bool) (live : Live) (rest xs : List Live) → KeysDiffer xs → live ∷ rest ≡ filter p xs → TakesOut p live rest xs
takes_out p live rest [] d h = absurd (let z : live ∷ rest ≡ [] = h in cc)
takes_out p live rest (x ∷ xs) d h = at (p x) refl h (takes_out p live rest xs d.1)
  where
    at : (b : Bool) → p x ≡ b → live ∷ rest ≡ cond b (x ∷ filter p xs) (filter p xs) → (live ∷ rest ≡ filter p xs → TakesOut p live rest xs) → TakesOut p live rest (x ∷ xs)
    at true e h ih =
        let s = first live x rest (filter p xs) h in
        let same : is_under live.key.0 x ≡ true = ap (λ (y : Live). eqb x.key.0 y.key.0) s.0 ∙ eq-eqb x.key.0 x.key.0 refl in
        let gone : without live.key.0 (x ∷ xs) ≡ xs = cond-true (is_under live.key.0 x) xs (x ∷ without live.key.0 xs) same in
        record {
          has = or_left (is_under live.key.0 x) (has_key live.key.0 xs) same;
          left = s.1 ∙ ap (λ (l : List Live). filter p l) (sym gone);
          others = ap (λ (l : List Live). filter (λ y. not (p y)) l) gone ∙ sym (cond-false (not (p x)) (x ∷ filter (λ y. not (p y)) xs) (filter (λ y. not (p y)) xs) (ap not e));
        }
    at false e h ih =
        let t = ih h in
        let other : is_under live.key.0 x ≡ false = not_under live.key.0 x xs d.0 t.has in
        let retained : without live.key.0 (x ∷ xs) ≡ x ∷ without live.key.0 xs = cond-false (is_under live.key.0 x) xs (x ∷ without live.key.0 xs) other in
        record {
          has = or_right (is_under live.key.0 x) (has_key live.key.0 xs) t.has;
          left = t.left ∙ sym (cond-false (p x) (x ∷ filter p (without live.key.0 xs)) (filter p (without live.key.0 xs)) e) ∙ ap (λ (l : List Live). filter p l) (sym retained);
          others =
              ap (λ (l : List Live). filter (λ y. not (p y)) l) retained
              ∙ cond-true (not (p x)) (x ∷ filter (λ y. not (p y)) (without live.key.0 xs)) (filter (λ y. not (p y)) (without live.key.0 xs)) (ap not e)
              ∙ ap (λ (l : List Live). x ∷ l) t.others
              ∙ sym (cond-true (not (p x)) (x ∷ filter (λ y. not (p y)) xs) (filter (λ y. not (p y)) xs) (ap not e));
        }

-- if none is chosen all are the others
pub all_others : {X : Type 0} (p : X → Bool) (xs : List X) → [] ≡ filter p xs → filter (λ x. not (p x)) xs ≡ xs
all_others p [] h = refl
all_others p (x ∷ xs) h = at (p x) refl h (all_others p xs)
  where
    at : (b : Bool) → p x ≡ b → [] ≡ cond b (x ∷ filter p xs) (filter p xs) → ([] ≡ filter p xs → filter (λ y. not (p y)) xs ≡ xs) → cond (not (p x)) (x ∷ filter (λ y. not (p y)) xs) (filter (λ y. not (p y)) xs) ≡ x ∷ xs
    at true e h ih = absurd (let z : [] ≡ x ∷ filter p xs = h in cc)
    at false e h ih = cond-true (not (p x)) (x ∷ filter (λ y. not (p y)) xs) (filter (λ y. not (p y)) xs) (ap not e) ∙ ap (λ (l : List _). x ∷ l) (ih h)

-- what holds at the next order to take out
pub next_out : (p : Live → Bool) (items : List Live) (i : ℕ) (live : Live) (xs : List Live) → i < length items → live ≡ get_or items i live → KeysDiffer xs → drop i items ≡ filter p xs → TakesOut p live (drop (i + 1) items) xs
next_out p items i live xs l e d h =
    takes_out p live (drop (i + 1) items) xs d (ap (λ (z : Live). z ∷ drop (i + 1) items) e ∙ sym (drop_more items i live l) ∙ h)

pub filter-step : {X : Type 0} (p : X → Bool) (x : X) (xs : List X) → filter p (x ∷ []) ++ filter p xs ≡ filter p (x ∷ xs)
filter-step p x xs = at (p x)
  where
    at : (b : Bool) → cond b (x ∷ []) [] ++ filter p xs ≡ cond b (x ∷ filter p xs) (filter p xs)
    at true = refl
    at false = refl
