-- Along a queue of a level, from one order on.
use Rattle.std.proofs.Common.{◌≡◌, ℕ, ◌≤◌, ◌<◌, Bool, true, false, cond, max, List, [], ◌∷◌, length, Option, Some, None, refl, sym, ap, ◌∙◌, subst, arith, eqb-true, eq-eqb}
use Rattle.std.specs.List.{find}
use Rattle.std.specs.Option.{IfSome, option_map}
use Rattle.std.proofs.lemmas.Bool.{cond_both, cond-true, cond-false, true≢false, false_from_ne_true, or_left, or_right}
use Rattle.std.proofs.lemmas.Bool.Decides.{nat_tests}
use Rattle.slab.specs.Slab.{Slab, get}
use Rattle.hx_book.specs.declared.order.Live.{Live}
use Rattle.hx_levels.specs.declared.level_book.linked_orders.LinkedOrder.{LinkedOrder}
use Rattle.hx_levels.specs.declared.level_book.linked_orders.Links.{Links}
use Rattle.hx_book.specs.Lists.{head_of, after_first}
use Rattle.hx_levels.specs.OrderLinks.{queue_links}
use Rattle.hx_levels.specs.LevelKeys.{LevelKey}
use Rattle.hx_levels.specs.Levels.{LevelStore, level_at, ends_in}
use Rattle.hx_book.specs.Book.{is_under, has_key, KeysDiffer}
use Rattle.hx_levels.specs.LevelBook.{keys_of, is_in, line, HaveAtMost, unconditional}
use Rattle.hx_book.proofs.Lists.{find-filter}
use Rattle.hx_book.proofs.Orders.{once_under}
use Rattle.hx_levels.proofs.Chains.{chain-after}
use Rattle.hx_levels.proofs.Queues.{has-keys}
use Rattle.hx_levels.proofs.LevelNext.{IsQueued, some_found, after-keys}

-- the order with the key and those after it
abbrev pub from_key : ℕ → List Live → List Live
from_key key [] = []
from_key key (x ∷ xs) = cond (is_under key x) (x ∷ xs) (from_key key xs)

-- the same, of the key that there may be
abbrev pub from_next : Option ℕ → List Live → List Live
from_next None xs = []
from_next (Some key) xs = from_key key xs

pub head_has : (xs : List Live) → IfSome (head_of (keys_of xs)) (λ key. has_key key xs ≡ true)
head_has [] = tt
head_has (x ∷ xs) = or_left (is_under x.key.0 x) (has_key x.key.0 xs) (eq-eqb x.key.0 x.key.0 refl)

pub after_has : (test : Live → Bool) (xs : List Live) → IfSome (head_of (keys_of (after_first test xs))) (λ key. has_key key xs ≡ true)
after_has test [] = tt
after_has test (x ∷ xs) = cond_both (test x) xs (after_first test xs) (λ r. IfSome (head_of (keys_of r)) (λ key. has_key key (x ∷ xs) ≡ true))
    (λ _. more (head_of (keys_of xs)) (head_has xs)) (λ _. more (head_of (keys_of (after_first test xs))) (after_has test xs))
  where
    more : (o : Option ℕ) → IfSome o (λ key. has_key key xs ≡ true) → IfSome o (λ key. has_key key (x ∷ xs) ≡ true)
    more None h = tt
    more (Some key) h = or_right (is_under key x) (has_key key xs) h

-- all stand from the first on
pub from_first : (xs : List Live) → from_next (head_of (keys_of xs)) xs ≡ xs
from_first [] = refl
from_first (x ∷ xs) = cond-true (is_under x.key.0 x) (x ∷ xs) (from_key x.key.0 xs) (eq-eqb x.key.0 x.key.0 refl)

-- an order before those does not count
skipped : (o : Option ℕ) (x : Live) (xs : List Live) → IfSome o (λ key. has_key key xs ≡ true) → has_key x.key.0 xs ≡ false → from_next o (x ∷ xs) ≡ from_next o xs
skipped None x xs h n = refl
skipped (Some key) x xs h n =
    cond-false (is_under key x) (x ∷ xs) (from_key key xs)
    (false_from_ne_true (is_under key x) (λ t. true≢false (sym h ∙ ap (λ k. has_key k xs) (sym (eqb-true x.key.0 key t)) ∙ n)))

-- from the next on stand those after it
pub from_after : (key : ℕ) (xs : List Live) → KeysDiffer xs → from_next (head_of (keys_of (after_first (is_under key) xs))) xs ≡ after_first (is_under key) xs
from_after key [] d = refl
from_after key (x ∷ xs) d = cond_both (is_under key x) xs (after_first (is_under key) xs) (λ r. from_next (head_of (keys_of r)) (x ∷ xs) ≡ r)
    (λ _. skipped (head_of (keys_of xs)) x xs (head_has xs) d.0 ∙ from_first xs)
    (λ _. skipped (head_of (keys_of (after_first (is_under key) xs))) x xs (after_has (is_under key) xs) d.0 ∙ from_after key xs d.1)

-- from a key on stand its order and those after it
pub from_found : (key : ℕ) (live : Live) (xs : List Live) → find (is_under key) xs ≡ Some live → from_key key xs ≡ live ∷ after_first (is_under key) xs
from_found key live [] f = cc
from_found key live (x ∷ xs) f = at (is_under key x) f (from_found key live xs)
  where
    at : (b : Bool) → cond b (Some x) (find (is_under key) xs) ≡ Some live → (find (is_under key) xs ≡ Some live → from_key key xs ≡ live ∷ after_first (is_under key) xs)
        → cond b (x ∷ xs) (from_key key xs) ≡ live ∷ cond b xs (after_first (is_under key) xs)
    at true g ih = let e : x ≡ live = cc in ap (λ y. y ∷ xs) e
    at false g ih = ih g

-- what is known of a queue once those before one order have no more shares
abbrev pub IsBounded : (most : ℕ) → Option ℕ → List Live → Type 0
IsBounded most next xs = (n : ℕ) → most ≤ n → HaveAtMost n (from_next next xs) → HaveAtMost n xs

pub bounded_first : (xs : List Live) → IsBounded 0 (head_of (keys_of xs)) xs
bounded_first xs n l h = subst (HaveAtMost n) (from_first xs) h

pub bounded_next : (most shares key : ℕ) (live : Live) (xs : List Live) → KeysDiffer xs → find (is_under key) xs ≡ Some live → shares ≡ live.order.shares → IsBounded most (Some key) xs
    → IsBounded (max most shares) (head_of (keys_of (after_first (is_under key) xs))) xs
bounded_next most shares key live xs d f s b n l h =
    b n (low most shares n l)
    (subst (HaveAtMost n) (sym (from_found key live xs f)) (subst (λ m. m ≤ n) s (high most shares n l), subst (HaveAtMost n) (from_after key xs d) h))
  where
    low : (a b n : ℕ) → max a b ≤ n → a ≤ n
    low a b n l = grind (arith, nat_tests)

    high : (a b n : ℕ) → max a b ≤ n → b ≤ n
    high a b n l = grind (arith, nat_tests)

pub fewer_left : (key : ℕ) (live : Live) (xs : List Live) → KeysDiffer xs → find (is_under key) xs ≡ Some live
    → length (from_next (head_of (keys_of (after_first (is_under key) xs))) xs) < length (from_key key xs)
fewer_left key live xs d f =
    subst (λ r. length r < length (from_key key xs)) (sym (from_after key xs d))
    (subst (λ r. length (after_first (is_under key) xs) < length r) (sym (from_found key live xs f)) (omega arith))

-- the order under a key of a queue
pub record InLine (linked_orders : Slab LinkedOrder) (queued : List Live) (key : ℕ) : Type 0 where
  pub live : Live
  pub found : find (is_under key) queued ≡ Some live
  pub stored : option_map (λ (n : LinkedOrder). n.order) (get linked_orders key) ≡ Some live.order

module _ (linked_orders : Slab LinkedOrder) (levels : LevelStore) (retained : Option LevelKey) (orders : List Live) (book : IsQueued linked_orders levels retained (unconditional orders))
    (at : LevelKey) (shown : Bool) (key : ℕ) (has : has_key key (line at shown orders) ≡ true) where
  pub in_line : InLine linked_orders (line at shown orders) key
  in_line =
      let f = some_found key (line at shown orders) has in
      record {
        live = f.0;
        found = f.1;
        stored = book.stored key f.0 (find-filter (is_in at shown) (is_under key) (unconditional orders) f.0 (once_under key (unconditional orders) book.differ) f.1);
      }

  pub line_after : (links : Links) → queue_links linked_orders key ≡ Some links → links.after ≡ head_of (keys_of (after_first (is_under key) (line at shown orders)))
  line_after links e =
      chain-after (queue_links linked_orders) key links None (ends_in shown (level_at levels at)).last (keys_of (line at shown orders)) (book.in_level at shown).chain
      (has-keys key (line at shown orders) ∙ has) e
      ∙ ap head_of (after-keys key (line at shown orders))
