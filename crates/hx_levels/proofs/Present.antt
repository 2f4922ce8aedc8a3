-- Whether there is an order: through a map, under its key, next in time.
use Rattle.std.proofs.Common.{◌≡◌, ℕ, ◌||◌, Bool, true, false, cond, List, [], ◌∷◌, Option, Some, None, refl, sym, subst}
use Rattle.std.specs.List.{find}
use Rattle.std.specs.Option.{option_map, is_some, IfSome}
use Rattle.hx_book.specs.declared.order.Key.{Key}
use Rattle.hx_book.specs.declared.order.Live.{Live}
use Rattle.hx_book.specs.Book.{is_under, has_key, order_of, next_by_time}
use Rattle.hx_book.proofs.Orders.{key_after-has}

pub is_some-map : {A B : Type 0} (f : A → B) (o : Option A) → is_some (option_map f o) ≡ is_some o
is_some-map f None = refl
is_some-map f (Some x) = refl

pub is_some-order : (key : ℕ) (orders : List Live) → is_some (order_of key orders) ≡ has_key key orders
is_some-order key [] = refl
is_some-order key (x ∷ xs) = at (is_under key x) (is_some-order key xs)
  where
    at : (b : Bool) → is_some (order_of key xs) ≡ has_key key xs → is_some (option_map (λ (y : Live). y.order) (cond b (Some x) (find (is_under key) xs))) ≡ (b || has_key key xs)
    at true h = refl
    at false h = h

pub result_live : (result : Option Key) (after : Option Key) (orders : List Live) → result ≡ next_by_time after orders → IfSome result (λ key. has_key key.0 orders ≡ true)
result_live result after orders e = let P : Option Key → Type 0 = λ r. IfSome r (λ key. has_key key.0 orders ≡ true) in subst P (sym e) (key_after-has after orders)
