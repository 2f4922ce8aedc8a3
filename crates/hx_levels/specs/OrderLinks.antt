-- LinkedOrders of a slab, and what each change of links leaves at a key.
use Rattle.hx_book.specs.Book.{with_less}
use Rattle.std.specs.Prelude.{ℕ, ◌<◌, ◌==◌, leb, List, [], ◌∷◌, length, Option, Some, None, if◌then◌else◌}
use Rattle.std.specs.Option.{option_map}
use Rattle.slab.specs.Slab.{Slab, get, ContainsKey}
use Rattle.hx_book.specs.declared.order.Order.{Order}
use Rattle.hx_levels.specs.declared.level_book.linked_orders.LinkedOrder.{LinkedOrder}
use Rattle.hx_levels.specs.declared.level_book.linked_orders.Links.{Links}
use Rattle.hx_levels.specs.declared.level_book.linked_orders.Both.{Both}
use Rattle.hx_levels.specs.declared.level_book.linked_orders.Ends.{Ends}
use Rattle.hx_levels.specs.Chain.{is_key, links_to, relinked, last_after}

-- an order with its links, if there are both
abbrev pub linked_order_at : Option Order → Option Both → Option LinkedOrder
linked_order_at None both = None
linked_order_at (Some order) None = None
linked_order_at (Some order) (Some both) =
    Some (record { order = order; time = both.time; queue = both.queue; number = both.number })

-- the orders in slots, each with the links under its key
abbrev pub joined : List (Option Order) → List Both → List (Option LinkedOrder)
joined [] links = []
joined (slot ∷ slots) [] = None ∷ joined slots []
joined (slot ∷ slots) (both ∷ links) = linked_order_at slot (Some both) ∷ joined slots links

-- a slab of orders with their links. It has room only if the links have the same room
abbrev pub linked_orders_of : Slab Order → List Both → (indices : ℕ) → Slab LinkedOrder
linked_orders_of orders links indices =
    record {
      slots = joined orders.slots links;
      vacant_key = orders.vacant_key;
      capacity = if leb orders.capacity indices then orders.capacity else 0;
    }

-- there are links under the key of each order
abbrev pub HaveLinks : Slab Order → List Both → Type 0
HaveLinks orders links = (key : ℕ) → ContainsKey orders key → key < length links

-- an order's links, with another key after it if the order is the one at `at`
abbrev pub after_at : (at to : Option ℕ) → (key : ℕ) → Links → Links
after_at at to key links =
    record { before = links.before; after = if is_key at key then to else links.after }

-- the same, with another key before it
abbrev pub before_at : (at to : Option ℕ) → (key : ℕ) → Links → Links
before_at at to key links =
    record { before = if is_key at key then to else links.before; after = links.after }

-- a linked order with its links of time changed
abbrev pub on_time : (Links → Links) → LinkedOrder → LinkedOrder
on_time change linked_order =
    record {
      order = linked_order.order;
      time = change linked_order.time;
      queue = linked_order.queue;
      number = linked_order.number;
    }

-- a linked order with its links of its queue changed
abbrev pub on_queue : (Links → Links) → LinkedOrder → LinkedOrder
on_queue change linked_order =
    record {
      order = linked_order.order;
      time = linked_order.time;
      queue = change linked_order.queue;
      number = linked_order.number;
    }

-- the links of an order that is not linked yet
abbrev pub no_links : Both
no_links = record { time = links_to None None; queue = links_to None None; number = 0 }

-- an order that is not linked yet
abbrev pub not_linked : Order → LinkedOrder
not_linked order =
    record {
      order = order;
      time = links_to None None;
      queue = links_to None None;
      number = 0;
    }

-- a linked order with other links
abbrev pub with_links : Both → LinkedOrder → LinkedOrder
with_links both linked_order =
    record {
      order = linked_order.order;
      time = both.time;
      queue = both.queue;
      number = both.number;
    }

-- an order that is linked as the last of its queue and the last in time, under this number
abbrev pub linked_last : (queue_last time_last : Option ℕ) → (number : ℕ) → LinkedOrder → LinkedOrder
linked_last queue_last time_last number linked_order =
    record {
      order = linked_order.order;
      time = links_to time_last None;
      queue = links_to queue_last None;
      number = number;
    }

-- the linked order at a key once x is linked after the last of its queue and the last in time
abbrev pub with_next : (queue_last time_last : Option ℕ) → (x key : ℕ) → LinkedOrder → LinkedOrder
with_next queue_last time_last x key linked_order =
    on_time (after_at time_last (Some x) key) (on_queue (after_at queue_last (Some x) key) linked_order)

-- the linked order at a key once the linked order `out` is unlinked
abbrev pub unlinked : LinkedOrder → ℕ → LinkedOrder → LinkedOrder
unlinked out key linked_order =
    record {
      order = linked_order.order;
      time = relinked out.time.before out.time.after key linked_order.time;
      queue = relinked out.queue.before out.queue.after key linked_order.queue;
      number = linked_order.number;
    }

-- the links of time of the linked order at a key
abbrev pub time_links : Slab LinkedOrder → ℕ → Option Links
time_links linked_orders key = option_map (λ linked_order. linked_order.time) (get linked_orders key)

-- its links of its queue
abbrev pub queue_links : Slab LinkedOrder → ℕ → Option Links
queue_links linked_orders key = option_map (λ linked_order. linked_order.queue) (get linked_orders key)

-- the number of the linked order at a key
abbrev pub number_at : Slab LinkedOrder → ℕ → Option ℕ
number_at linked_orders key = option_map (λ linked_order. linked_order.number) (get linked_orders key)

-- the first key, or this one if there is none
abbrev pub or_key : (first : Option ℕ) → (key : ℕ) → Option ℕ
or_key None key = Some key
or_key (Some k) key = Some k

-- the ends of an empty list
abbrev pub no_ends : Ends
no_ends = record { first = None; last = None }

-- the ends of a list once x is put last
abbrev pub ends_with : ℕ → Ends → Ends
ends_with x ends = record { first = or_key ends.first x; last = Some x }

-- the ends of a list once one with these links is out
abbrev pub ends_without : Links → Ends → Ends
ends_without links ends =
    record {
      first = last_after links.after links.before ends.first;
      last = last_after links.before links.after ends.last;
    }

-- the linked order at a key once the order under another, or this one, has less shares
abbrev pub less_at : (at by key : ℕ) → LinkedOrder → LinkedOrder
less_at at by key linked_order =
    record {
      order = if key == at then with_less by linked_order.order else linked_order.order;
      time = linked_order.time;
      queue = linked_order.queue;
      number = linked_order.number;
    }
