-- What is matched of entries is, for the orders that they hold, what is matched of the orders.
use Rattle.std.proofs.Common.{◌≡◌, ℕ, zero, suc, ◌-◌, min, Bool, true, false, cond, ltb, refl, ap, sym, ◌∙◌, List, [], ◌∷◌, ◌++◌, map, Some, None, Option}
use Rattle.std.specs.Option.{option_map}
use Rattle.hx_book.specs.declared.order.Order.{Order}
use Rattle.hx_book.specs.Book.{outranks}
use Rattle.hx_match.specs.declared.fills.Incoming.{Incoming}
use Rattle.hx_match.specs.Rules.{orders_of_matched}
use Rattle.hx_match.specs.Matching.{PositionOf, later, first_of_entries, first_entry, less_of, after_fill, matched_by, matched_entries, itself, with_shares}

orders_of_position : {X : Type 0} → (X → Order) → PositionOf X → PositionOf Order
orders_of_position order_of p = record { front = map order_of p.front; order = order_of p.order; back = map order_of p.back }

first_of_orders : {X : Type 0} (order_of : X → Order) (inc : Incoming) (x : X) (xs : List X) (t : Bool) (o : Option (PositionOf X)) →
    first_of_entries itself inc (order_of x) (map order_of xs) t (option_map (orders_of_position order_of) o) ≡ option_map (orders_of_position order_of) (first_of_entries order_of inc x xs t o)
unfolding orders_of_position
first_of_orders order_of inc x xs false None = refl
first_of_orders order_of inc x xs false (Some p) = refl
first_of_orders order_of inc x xs true None = refl
first_of_orders order_of inc x xs true (Some p) = choose (outranks inc.side (order_of p.order) (order_of x))
  where
    choose : (b : Bool) →
        cond b (Some (later (order_of x) (orders_of_position order_of p))) (Some (record { front = []; order = order_of x; back = map order_of xs }))
        ≡ option_map (orders_of_position order_of) (cond b (Some (later x p)) (Some (record { front = []; order = x; back = xs })))
    choose true = refl
    choose false = refl

first_of_map : {X : Type 0} (order_of : X → Order) (inc : Incoming) (r : ℕ) (xs : List X) →
    first_entry itself inc r (map order_of xs) ≡ option_map (orders_of_position order_of) (first_entry order_of inc r xs)
first_of_map order_of inc r [] = refl
first_of_map order_of inc r (x ∷ xs) = rw (first_of_map order_of inc r xs) (first_of_orders order_of inc x xs _ _)

map-append : {X Y : Type 0} (f : X → Y) (xs ys : List X) → map f (xs ++ ys) ≡ map f xs ++ map f ys
map-append f [] ys = refl
map-append f (x ∷ xs) ys = rw (map-append f xs ys) refl

less_of_map : {X : Type 0} (order_of : X → Order) (cut : X → ℕ → X) → ((x : X) (n : ℕ) → order_of (cut x n) ≡ with_shares (order_of x) n) → (x : X) (f : ℕ) →
    map order_of (less_of order_of cut x f) ≡ less_of itself with_shares (order_of x) f
less_of_map order_of cut same x f = choose (ltb f (order_of x).shares)
  where
    choose : (b : Bool) → map order_of (cond b (cut x ((order_of x).shares - f) ∷ []) []) ≡ cond b (with_shares (order_of x) ((order_of x).shares - f) ∷ []) []
    choose true = ap (λ (z : Order). z ∷ []) (same x _)
    choose false = refl

pub matched_of_map : {X : Type 0} (order_of : X → Order) (cut : X → ℕ → X) → ((x : X) (n : ℕ) → order_of (cut x n) ≡ with_shares (order_of x) n) → (n : ℕ) (inc : Incoming) (r : ℕ) (xs : List X) →
    matched_entries itself with_shares n inc r (map order_of xs) ≡ orders_of_matched order_of (matched_entries order_of cut n inc r xs)
unfolding matched_entries orders_of_matched orders_of_position
matched_of_map order_of cut same zero inc r xs = refl
matched_of_map {X = X} order_of cut same (suc n) inc r xs =
    ap (matched_by itself with_shares (matched_entries itself with_shares n inc) r (map order_of xs)) (first_of_map order_of inc r xs)
    ∙ choose (first_entry order_of inc r xs) (matched_of_map order_of cut same n inc)
  where
    choose : (o : Option (PositionOf X)) → ((r : ℕ) (ys : List X) → matched_entries itself with_shares n inc r (map order_of ys) ≡ orders_of_matched order_of (matched_entries order_of cut n inc r ys)) →
        matched_by itself with_shares (matched_entries itself with_shares n inc) r (map order_of xs) (option_map (orders_of_position order_of) o)
        ≡ orders_of_matched order_of (matched_by order_of cut (matched_entries order_of cut n inc) r xs o)
    choose None ih = refl
    choose (Some p) ih =
        let f : ℕ = min r (order_of p.order).shares in
        let e : map order_of (p.front ++ (less_of order_of cut p.order f ++ p.back)) ≡ map order_of p.front ++ (less_of itself with_shares (order_of p.order) f ++ map order_of p.back)
        = map-append order_of p.front _ ∙ (ap (λ z. map order_of p.front ++ z) (map-append order_of (less_of order_of cut p.order f) p.back ∙ ap (λ z. z ++ map order_of p.back) (less_of_map order_of cut same p.order f))) in
        ap (λ z. after_fill (record { order = order_of p.order; shares = f }) (matched_entries itself with_shares n inc (r - f) z)) (sym e)
        ∙ ap (after_fill (record { order = order_of p.order; shares = f })) (ih (r - f) (p.front ++ (less_of order_of cut p.order f ++ p.back)))
