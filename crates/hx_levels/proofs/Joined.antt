-- The linked orders that the orders of a slab make with their links.
use Rattle.std.proofs.Common.{◌≡◌, ℕ, zero, suc, ◌+◌, ◌<◌, ◌≤◌, Bool, true, false, cond, eqb, leb, leb-true, le-leb, List, [], ◌∷◌, length, get_or, set, length-set, slice_get, is_some, count_by, Option, Some, None, refl, sym, ap, ◌∙◌, subst, arith, eqb-true, eq-eqb}
use Rattle.std.specs.Option.{option_map, IsSome}
use Rattle.std.proofs.lemmas.Bool.{true≢false, cond-true, cond-false, eqb-false}
use Rattle.std.proofs.lemmas.List.Sums.{sum_by-cons, sum_by-set}
use Rattle.std.proofs.lemmas.Option.{slice_get_within, slice_get_past, slice_get-get_or}
use Rattle.slab.proofs.SlabLemmas.{Updates-with_value, ContainsKey-within}
use Rattle.slab.specs.Slab.{Slab, get, slab_len, ContainsKey, HasRoomFor, Updates, with_value}
use Rattle.hx_book.specs.declared.order.Order.{Order}
use Rattle.hx_levels.specs.declared.level_book.linked_orders.LinkedOrder.{LinkedOrder}
use Rattle.hx_levels.specs.declared.level_book.linked_orders.Both.{Both}
use Rattle.hx_book.specs.Book.{with_less}
use Rattle.hx_levels.specs.Chain.{is_key}
use Rattle.hx_levels.specs.OrderLinks.{linked_order_at, joined, linked_orders_of, HaveLinks, with_links, less_at, time_links, queue_links, number_at}
use Rattle.hx_levels.proofs.Present.{is_some-map}

-- the linked order at a key
pub get-joined : (slots : List (Option Order)) (links : List Both) (k : ℕ) → get_or (joined slots links) k None ≡ linked_order_at (get_or slots k None) (slice_get links k)
get-joined [] links k = refl
get-joined (None ∷ slots) [] zero = refl
get-joined (Some order ∷ slots) [] zero = refl
get-joined (slot ∷ slots) [] (suc k) = get-joined slots [] k
get-joined (slot ∷ slots) (both ∷ links) zero = refl
get-joined (slot ∷ slots) (both ∷ links) (suc k) = get-joined slots links k

no_linked_order : (slot : Option Order) → linked_order_at slot None ≡ None
no_linked_order None = refl
no_linked_order (Some order) = refl

-- there are equally many linked orders and orders
pub count-joined : (slots : List (Option Order)) (links : List Both) → ((k : ℕ) → IsSome (get_or slots k None) → k < length links)
    → count_by is_some (joined slots links) ≡ count_by is_some slots
count-joined [] links h = refl
count-joined (None ∷ slots) [] h =
    omega (
      arith,
      sum_by-cons (λ (o : Option LinkedOrder). cond (is_some o) 1 0) None (joined slots []),
      sum_by-cons (λ (o : Option Order). cond (is_some o) 1 0) None slots,
      count-joined slots [] (λ k i. let l : suc k < 0 = h (suc k) i in omega arith),
    )
count-joined (Some order ∷ slots) [] h = let l : 0 < 0 = h 0 refl in absurd (omega arith)
count-joined (None ∷ slots) (both ∷ links) h =
    omega (
      arith,
      sum_by-cons (λ (o : Option LinkedOrder). cond (is_some o) 1 0) None (joined slots links),
      sum_by-cons (λ (o : Option Order). cond (is_some o) 1 0) None slots,
      count-joined slots links (λ k i. let l : suc k < suc (length links) = h (suc k) i in omega arith),
    )
count-joined (Some order ∷ slots) (both ∷ links) h =
    omega (
      arith,
      sum_by-cons (λ (o : Option LinkedOrder). cond (is_some o) 1 0) (Some (record { order = order; time = both.time; queue = both.queue; number = both.number })) (joined slots links),
      sum_by-cons (λ (o : Option Order). cond (is_some o) 1 0) (Some order) slots,
      count-joined slots links (λ k i. let l : suc k < suc (length links) = h (suc k) i in omega arith),
    )

pub len-joined : (orders : Slab Order) (links : List Both) (indices : ℕ) → HaveLinks orders links → slab_len (linked_orders_of orders links indices) ≡ slab_len orders
len-joined orders links indices h = count-joined orders.slots links h

-- under a key below their number there are links
pub links_below : (links : List Both) (k : ℕ) → k < length links → (both : Both) × (slice_get links k ≡ Some both)
links_below [] k l = absurd (omega arith)
links_below (both ∷ links) zero l = (both, refl)
links_below (both ∷ links) (suc k) l = links_below links k (omega arith)

pub read_links : (links : List Both) (k : ℕ) (both : Both) → k < length links → both ≡ get_or links k both → slice_get links k ≡ Some both
read_links links k both l e = slice_get-get_or links k both l ∙ ap Some (sym e)

pub set_own : (links : List Both) (k : ℕ) (both : Both) → k < length links → slice_get (set links k both) k ≡ Some both
set_own [] k both l = absurd (omega arith)
set_own (x ∷ links) zero both l = refl
set_own (x ∷ links) (suc k) both l = set_own links k both (omega arith)

pub set_other : (links : List Both) (key k : ℕ) (both : Both) → (k ≡ key → ⊥) → slice_get (set links key both) k ≡ slice_get links k
set_other [] key k both n = refl
set_other (x ∷ links) zero zero both n = absurd (n refl)
set_other (x ∷ links) zero (suc k) both n = refl
set_other (x ∷ links) (suc key) zero both n = refl
set_other (x ∷ links) (suc key) (suc k) both n = set_other links key k both (λ e. n (ap suc e))

pub have-set : (orders : Slab Order) (links : List Both) (key : ℕ) (both : Both) → HaveLinks orders links → HaveLinks orders (set links key both)
have-set orders links key both h = λ k i. let l = h k i in let e = length-set links key both in omega arith

pub len_set : (orders : Slab Order) (links : List Both) (indices key : ℕ) (both : Both) → HaveLinks orders links
    → slab_len (linked_orders_of orders (set links key both) indices) ≡ slab_len (linked_orders_of orders links indices)
len_set orders links indices key both h =
    len-joined orders (set links key both) indices (have-set orders links key both h) ∙ sym (len-joined orders links indices h)

-- links are written at a key: what `change` makes of the linked order there
module _ (slots : List (Option Order)) (links : List Both) (at : Option ℕ) (key : ℕ) (leads : at ≡ Some key) (change : Bool → LinkedOrder → LinkedOrder) where
  at_key : (k : ℕ) → eqb key k ≡ is_key at k
  at_key k = ap (λ o. is_key o k) (sym leads)

  retained : ((n : LinkedOrder) → n ≡ change false n) → (k : ℕ) → eqb key k ≡ false → (o : Option LinkedOrder) → o ≡ option_map (change (is_key at k)) o
  retained other k e None = refl
  retained other k e (Some n) = ap Some (other n ∙ ap (λ b. change b n) (sym e ∙ at_key k))

  pub written : (old new : Both) → slice_get links key ≡ Some old
      → ((o : Order) → record { order = o; time = new.time; queue = new.queue; number = new.number } ≡ change true (record { order = o; time = old.time; queue = old.queue; number = old.number }))
      → ((n : LinkedOrder) → n ≡ change false n)
      → (k : ℕ) → get_or (joined slots (set links key new)) k None ≡ option_map (change (is_key at k)) (get_or (joined slots links) k None)
  written old new there own other k =
      get-joined slots (set links key new) k ∙ by (eqb key k) refl ∙ ap (option_map (change (is_key at k))) (sym (get-joined slots links k))
    where
      made : (o : Option Order) → linked_order_at o (Some new) ≡ option_map (change true) (linked_order_at o (Some old))
      made None = refl
      made (Some o) = ap Some (own o)

      by : (b : Bool) → eqb key k ≡ b → linked_order_at (get_or slots k None) (slice_get (set links key new) k) ≡ option_map (change (is_key at k)) (linked_order_at (get_or slots k None) (slice_get links k))
      by true e =
          let s : key ≡ k = eqb-true key k e in
          ap (λ j. linked_order_at (get_or slots k None) (slice_get (set links key new) j)) (sym s)
          ∙ ap (linked_order_at (get_or slots k None)) (set_own links key new (slice_get_within links key old there))
          ∙ made (get_or slots k None)
          ∙ ap (λ o. option_map (change true) (linked_order_at (get_or slots k None) o)) (sym there ∙ ap (slice_get links) s)
          ∙ ap (λ b. option_map (change b) (linked_order_at (get_or slots k None) (slice_get links k))) (sym e ∙ at_key k)
      by false e =
          ap (linked_order_at (get_or slots k None)) (set_other links key k new (λ s. eqb-false key k e (sym s)))
          ∙ retained other k e (linked_order_at (get_or slots k None) (slice_get links k))

  -- there are none at the key
  pub unwritten : slice_get links key ≡ None → ((n : LinkedOrder) → n ≡ change false n)
      → (k : ℕ) → get_or (joined slots links) k None ≡ option_map (change (is_key at k)) (get_or (joined slots links) k None)
  unwritten none other k = by (eqb key k) refl
    where
      by : (b : Bool) → eqb key k ≡ b → get_or (joined slots links) k None ≡ option_map (change (is_key at k)) (get_or (joined slots links) k None)
      by true e =
          let n : get_or (joined slots links) k None ≡ None =
          get-joined slots links k ∙ ap (λ j. linked_order_at (get_or slots k None) (slice_get links j)) (sym (eqb-true key k e))
          ∙ ap (linked_order_at (get_or slots k None)) none ∙ no_linked_order (get_or slots k None) in
          n ∙ ap (option_map (change (is_key at k))) (sym n)
      by false e = retained other k e (get_or (joined slots links) k None)

-- if there is room for a linked order, there is room for its order and for its links
pub room-joined : (orders : Slab Order) (links : List Both) (indices : ℕ) → HaveLinks orders links → HasRoomFor (linked_orders_of orders links indices) 1
    → HasRoomFor orders 1 × (orders.capacity ≤ indices)
room-joined orders links indices h room = by (leb orders.capacity indices) refl room
  where
    by : (b : Bool) → leb orders.capacity indices ≡ b → slab_len (linked_orders_of orders links indices) + 1 ≤ cond b orders.capacity 0 → HasRoomFor orders 1 × (orders.capacity ≤ indices)
    by true e r = (subst (λ n. n + 1 ≤ orders.capacity) (len-joined orders links indices h) r, leb-true orders.capacity indices e)
    by false e r = absurd (omega arith)

-- room for an order and its links is room for a linked order
pub joined-room : (orders : Slab Order) (links : List Both) (indices : ℕ) → HaveLinks orders links → HasRoomFor orders 1 → orders.capacity ≤ indices
    → HasRoomFor (linked_orders_of orders links indices) 1
joined-room orders links indices h room l =
    let count = len-joined orders links indices h in
    let c : cond (leb orders.capacity indices) orders.capacity 0 ≡ orders.capacity = cond-true (leb orders.capacity indices) orders.capacity 0 (le-leb orders.capacity indices l) in
    let r : slab_len orders + 1 ≤ orders.capacity = room in
    subst (λ n. slab_len (linked_orders_of orders links indices) + 1 ≤ n) (sym c) (subst (λ n. n + 1 ≤ orders.capacity) (sym count) r)

-- the order at a key, of which there are the links
pub order-joined : (orders : Slab Order) (links : List Both) (indices : ℕ) → HaveLinks orders links → (k : ℕ)
    → get orders k ≡ option_map (λ (n : LinkedOrder). n.order) (get (linked_orders_of orders links indices) k)
order-joined orders links indices h k = by (get orders k) refl ∙ ap (option_map (λ (n : LinkedOrder). n.order)) (sym (get-joined orders.slots links k))
  where
    by : (o : Option Order) → get orders k ≡ o → get orders k ≡ option_map (λ (n : LinkedOrder). n.order) (linked_order_at (get orders k) (slice_get links k))
    by None e = e ∙ ap (λ v. option_map (λ (n : LinkedOrder). n.order) (linked_order_at v (slice_get links k))) (sym e)
    by (Some order) e =
        let b = links_below links k (h k (ap is_some e)) in
        e ∙ ap (λ v. option_map (λ (n : LinkedOrder). n.order) (linked_order_at (Some order) v)) (sym b.1)
        ∙ ap (λ v. option_map (λ (n : LinkedOrder). n.order) (linked_order_at v (slice_get links k))) (sym e)

-- a key with a linked order has an order
pub has-order : (orders : Slab Order) (links : List Both) (indices : ℕ) (linked_orders : Slab LinkedOrder) → linked_orders_of orders links indices ≡ linked_orders → HaveLinks orders links
    → (k : ℕ) → ContainsKey linked_orders k → ContainsKey orders k
has-order orders links indices linked_orders e h k i =
    ap is_some (order-joined orders links indices h k) ∙ is_some-map (λ (n : LinkedOrder). n.order) (get (linked_orders_of orders links indices) k) ∙ ap (λ (s : Slab LinkedOrder). is_some (get s k)) e ∙ i

-- and the linked order of that order has the links at the key
pub linked_order-joined : (orders : Slab Order) (links : List Both) (indices : ℕ) (k : ℕ) (order : Order) (both : Both) → get orders k ≡ Some order → slice_get links k ≡ Some both
    → get (linked_orders_of orders links indices) k ≡ Some (record { order = order; time = both.time; queue = both.queue; number = both.number })
linked_order-joined orders links indices k order both o l = get-joined orders.slots links k ∙ ap (λ v. linked_order_at v (slice_get links k)) o ∙ ap (linked_order_at (Some order)) l

pub links-joined : (orders : Slab Order) (links : List Both) (indices : ℕ) (k : ℕ) (both : Both) → IsSome (get orders k) → slice_get links k ≡ Some both
    → (time_links (linked_orders_of orders links indices) k ≡ Some both.time) × (queue_links (linked_orders_of orders links indices) k ≡ Some both.queue) × (number_at (linked_orders_of orders links indices) k ≡ Some both.number)
links-joined orders links indices k both i l = by (get orders k) refl i
  where
    by : (o : Option Order) → get orders k ≡ o → IsSome o → (time_links (linked_orders_of orders links indices) k ≡ Some both.time) × (queue_links (linked_orders_of orders links indices) k ≡ Some both.queue) × (number_at (linked_orders_of orders links indices) k ≡ Some both.number)
    by None e none = absurd (true≢false (sym none))
    by (Some order) e some =
        let n = linked_order-joined orders links indices k order both e l in
        (ap (option_map (λ (n : LinkedOrder). n.time)) n, ap (option_map (λ (n : LinkedOrder). n.queue)) n, ap (option_map (λ (n : LinkedOrder). n.number)) n)

-- what a change of one order leaves at each key
module _ (orders orders' : Slab Order) (links : List Both) (indices indices' : ℕ) (key : ℕ) (slot : Option Order) (updates : Updates orders orders' key slot) where
  pub changed-others : (k : ℕ) → eqb k key ≡ false → get (linked_orders_of orders' links indices') k ≡ get (linked_orders_of orders links indices) k
  changed-others k n =
      get-joined orders'.slots links k ∙ ap (λ v. linked_order_at v (slice_get links k)) (updates.others k (eqb-false k key n)) ∙ sym (get-joined orders.slots links k)

  pub changed-own : get (linked_orders_of orders' links indices') key ≡ linked_order_at slot (slice_get links key)
  changed-own = get-joined orders'.slots links key ∙ ap (λ v. linked_order_at v (slice_get links key)) updates.changed

  -- each order has links still, if the changed one has
  pub have-changed : HaveLinks orders links → (IsSome slot → key < length links) → HaveLinks orders' links
  have-changed h own k i = by (eqb k key) refl
    where
      by : (b : Bool) → eqb k key ≡ b → k < length links
      by true e = let s = eqb-true k key e in subst (λ j. j < length links) (sym s) (own (ap is_some (sym updates.changed) ∙ ap (λ j. is_some (get orders' j)) (sym s) ∙ i))
      by false e = h k (ap is_some (sym (updates.others k (eqb-false k key e))) ∙ i)

less-other : (key by k : ℕ) → eqb k key ≡ false → (o : Option LinkedOrder) → o ≡ option_map (less_at key by k) o
less-other key by k n None = refl
less-other key by k n (Some linked_order) =
    ap (λ o. Some (record { order = o; time = linked_order.time; queue = linked_order.queue; number = linked_order.number })) (sym (cond-false (eqb k key) (with_less by linked_order.order) linked_order.order n))

-- an order is changed in place
module _ (orders : Slab Order) (links : List Both) (indices : ℕ) (key : ℕ) (old new : Order) (there : get orders key ≡ Some old) where
  present : ContainsKey orders key
  present = ap is_some there

  pub have-reordered : HaveLinks orders links → HaveLinks (with_value orders key new) links
  have-reordered h = have-changed orders (with_value orders key new) links indices indices key (Some new) (Updates-with_value orders key new present) h (λ _. h key present)

  pub len-reordered : HaveLinks orders links → slab_len (linked_orders_of (with_value orders key new) links indices) ≡ slab_len (linked_orders_of orders links indices)
  len-reordered h =
      let count : slab_len (with_value orders key new) + cond (is_some (get orders key)) 1 0 ≡ slab_len orders + 1
      = sum_by-set (λ (o : Option Order). cond (is_some o) 1 0) orders.slots key (Some new) None (ContainsKey-within orders key present) in
      let was : ◌≡◌ {A = ℕ} (cond (is_some (get orders key)) 1 0) 1 = ap (λ o. cond {A = ℕ} (is_some o) 1 0) there in
      let same : slab_len (with_value orders key new) ≡ slab_len orders = omega (arith, count, was) in
      len-joined (with_value orders key new) links indices (have-reordered h) ∙ same ∙ sym (len-joined orders links indices h)

  pub less-joined : (by : ℕ) → new ≡ with_less by old → (k : ℕ) → get (linked_orders_of (with_value orders key new) links indices) k ≡ option_map (less_at key by k) (get (linked_orders_of orders links indices) k)
  less-joined by e k = on (eqb k key) refl
    where
      own : (both : Option Both) → linked_order_at (Some new) both ≡ option_map (less_at key by key) (linked_order_at (Some old) both)
      own None = refl
      own (Some both) =
          ap (λ o. Some (record { order = o; time = both.time; queue = both.queue; number = both.number })) (e ∙ sym (cond-true (eqb key key) (with_less by old) old (eq-eqb key key refl)))

      on : (b : Bool) → eqb k key ≡ b → get (linked_orders_of (with_value orders key new) links indices) k ≡ option_map (less_at key by k) (get (linked_orders_of orders links indices) k)
      on true q =
          subst (λ j. get (linked_orders_of (with_value orders key new) links indices) j ≡ option_map (less_at key by j) (get (linked_orders_of orders links indices) j)) (sym (eqb-true k key q))
          (changed-own orders (with_value orders key new) links indices indices key (Some new) (Updates-with_value orders key new present) ∙ own (slice_get links key)
          ∙ ap (option_map (less_at key by key)) (ap (λ o. linked_order_at o (slice_get links key)) (sym there) ∙ sym (get-joined orders.slots links key)))
      on false q =
          changed-others orders (with_value orders key new) links indices indices key (Some new) (Updates-with_value orders key new present) k q
          ∙ less-other key by k q (get (linked_orders_of orders links indices) k)

-- if there is no order to be changed
pub none-less : (linked_orders : Slab LinkedOrder) (key by : ℕ) → get linked_orders key ≡ None → (k : ℕ) → get linked_orders k ≡ option_map (less_at key by k) (get linked_orders k)
none-less linked_orders key by none k = on (eqb k key) refl
  where
    on : (b : Bool) → eqb k key ≡ b → get linked_orders k ≡ option_map (less_at key by k) (get linked_orders k)
    on true q = let n : get linked_orders k ≡ None = ap (get linked_orders) (eqb-true k key q) ∙ none in n ∙ ap (option_map (less_at key by k)) (sym n)
    on false q = less-other key by k q (get linked_orders k)

-- the links at a key are written
pub linked-own : (slots : List (Option Order)) (links : List Both) (key : ℕ) (both : Both) → key < length links
    → get_or (joined slots (set links key both)) key None ≡ option_map (with_links both) (get_or (joined slots links) key None)
linked-own slots links key both l =
    let old = links_below links key l in
    get-joined slots (set links key both) key ∙ ap (linked_order_at (get_or slots key None)) (set_own links key both l)
    ∙ on (get_or slots key None) old.0 ∙ ap (option_map (with_links both)) (ap (linked_order_at (get_or slots key None)) (sym old.1) ∙ sym (get-joined slots links key))
  where
    on : (o : Option Order) (old : Both) → linked_order_at o (Some both) ≡ option_map (with_links both) (linked_order_at o (Some old))
    on None old = refl
    on (Some order) old = refl

pub linked-others : (slots : List (Option Order)) (links : List Both) (key : ℕ) (both : Both) (k : ℕ) → eqb k key ≡ false
    → get_or (joined slots (set links key both)) k None ≡ get_or (joined slots links) k None
linked-others slots links key both k n =
    get-joined slots (set links key both) k ∙ ap (linked_order_at (get_or slots k None)) (set_other links key k both (eqb-false k key n)) ∙ sym (get-joined slots links k)

-- past the links there is no linked order
pub none-past : (slots : List (Option Order)) (links : List Both) (key : ℕ) → length links ≤ key → get_or (joined slots links) key None ≡ None
none-past slots links key l = get-joined slots links key ∙ ap (linked_order_at (get_or slots key None)) (slice_get_past links key l) ∙ no_linked_order (get_or slots key None)

-- an order is stored, and its links are written after or among those that are there
module _ (orders orders' : Slab Order) (links links' : List Both) (key : ℕ) (order : Order) (both : Both) (updates : Updates orders orders' key (Some order))
    (have : HaveLinks orders links) (longer : length links ≤ length links') (own : slice_get links' key ≡ Some both)
    (others : (k : ℕ) → k < length links → eqb k key ≡ false → slice_get links' k ≡ slice_get links k) where
  pub have-stored : HaveLinks orders' links'
  have-stored =
      have-changed orders orders' links' 0 0 key (Some order) updates (λ k i. let l = have k i in omega (arith, l, longer))
      (λ _. slice_get_within links' key both own)

  pub stored-others : (indices indices' : ℕ) (k : ℕ) → eqb k key ≡ false → get (linked_orders_of orders' links' indices') k ≡ get (linked_orders_of orders links indices) k
  stored-others indices indices' k n =
      changed-others orders orders' links' indices indices' key (Some order) updates k n
      ∙ get-joined orders.slots links' k ∙ by (get orders k) refl ∙ sym (get-joined orders.slots links k)
    where
      by : (o : Option Order) → get orders k ≡ o → linked_order_at (get orders k) (slice_get links' k) ≡ linked_order_at (get orders k) (slice_get links k)
      by None e = ap (λ o. linked_order_at o (slice_get links' k)) e ∙ ap (λ o. linked_order_at o (slice_get links k)) (sym e)
      by (Some x) e = ap (linked_order_at (get orders k)) (others k (have k (ap is_some e)) n)

-- a linked order is known by its order and its links
pub linked_order_by_parts : (o : Option LinkedOrder) (linked_order : LinkedOrder) → option_map (λ (n : LinkedOrder). n.order) o ≡ Some linked_order.order → option_map (λ (n : LinkedOrder). n.time) o ≡ Some linked_order.time
    → option_map (λ (n : LinkedOrder). n.queue) o ≡ Some linked_order.queue → option_map (λ (n : LinkedOrder). n.number) o ≡ Some linked_order.number → o ≡ Some linked_order
linked_order_by_parts None linked_order a b c d = cc
linked_order_by_parts (Some n) linked_order a b c d = same (cc) (cc) (cc) (cc)
  where
    same : n.order ≡ linked_order.order → n.time ≡ linked_order.time → n.queue ≡ linked_order.queue → n.number ≡ linked_order.number → Some n ≡ Some linked_order
    same order time queue number =
        ap (λ v. Some (record { order = v; time = n.time; queue = n.queue; number = n.number })) order
        ∙ ap (λ v. Some (record { order = linked_order.order; time = v; queue = n.queue; number = n.number })) time
        ∙ ap (λ v. Some (record { order = linked_order.order; time = linked_order.time; queue = v; number = n.number })) queue
        ∙ ap (λ v. Some (record { order = linked_order.order; time = linked_order.time; queue = linked_order.queue; number = v })) number
