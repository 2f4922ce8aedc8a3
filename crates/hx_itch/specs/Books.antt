-- The book that a reader of the feed builds (TotalView-ITCH 5.0, Add Order Messages and Modify
-- Order Messages).
use Rattle.std.specs.Prelude.{ℕ, ◌-◌, ◌==◌, nat_lt, if◌then◌else◌, List, [], ◌∷◌, ◌++◌, Some, None}
use Rattle.hx_itch.specs.declared.message.Feed.{Feed}
use Rattle.hx_itch.specs.declared.message.Feed.TheVariants.{AddOrder, AddOrderWithAttribution, OrderExecuted, OrderCancel, OrderDelete, OrderReplace, Trade, SystemEvent, StockDirectory, StockTradingAction, BrokenTrade}
use Rattle.hx_itch.specs.declared.shown_order.ShownOrder.{ShownOrder}

-- shares are taken off the order of this reference, which leaves if none are left (Order Executed, Order Cancel)
abbrev pub taken_from : (reference shares : ℕ) → List ShownOrder → List ShownOrder
taken_from reference shares [] = []
taken_from reference shares (x ∷ book) =
    if x.reference == reference
    then (if nat_lt shares x.shares then record x { shares = x.shares - shares } ∷ book else book)
    else x ∷ taken_from reference shares book

-- the order of this reference leaves (Order Delete)
abbrev pub without : (reference : ℕ) → List ShownOrder → List ShownOrder
without reference [] = []
without reference (x ∷ book) = if x.reference == reference then book else x ∷ without reference book

-- the order of this reference, with a new reference, new shares and a new price (Order Replace)
abbrev pub renewed : (original reference shares price : ℕ) → List ShownOrder → List ShownOrder
renewed original reference shares price [] = []
renewed original reference shares price (x ∷ book) =
    if x.reference == original
    then record x { reference = reference; shares = shares; price = price } ∷ []
    else renewed original reference shares price book

-- the book after a message: what is added or replaced stands last
abbrev pub book_after : List ShownOrder → Feed → List ShownOrder
book_after book (AddOrder a) =
    book
    ++ record {
      reference = a.reference;
      locate = a.locate;
      side = a.side;
      shares = a.shares;
      stock = a.stock;
      price = a.price;
      attribution = None;
    }
    ∷ []
book_after book (AddOrderWithAttribution a) =
    book
    ++ record {
      reference = a.reference;
      locate = a.locate;
      side = a.side;
      shares = a.shares;
      stock = a.stock;
      price = a.price;
      attribution = Some a.attribution;
    }
    ∷ []
book_after book (OrderExecuted e) = taken_from e.reference e.shares book
book_after book (OrderCancel c) = taken_from c.reference c.shares book
book_after book (OrderDelete d) = without d.reference book
book_after book (OrderReplace r) =
    without r.original_reference book
    ++ renewed r.original_reference r.reference r.shares r.price book
book_after book (Trade t) = book
book_after book (SystemEvent s) = book
book_after book (StockDirectory d) = book
book_after book (StockTradingAction h) = book
book_after book (BrokenTrade b) = book

-- the book after these messages, one after the other
abbrev pub book_from : List ShownOrder → List Feed → List ShownOrder
book_from book [] = book
book_from book (message ∷ feed) = book_from (book_after book message) feed

-- the book after these messages, from the empty one
unfoldable pub shown_book : List Feed → List ShownOrder
shown_book feed = book_from [] feed
