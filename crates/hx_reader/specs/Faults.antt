-- What is no message of a venue's feed.
use Rattle.std.specs.Prelude.{◌≡◌, ℕ, ◌==◌, nat_lt, if◌then◌else◌, Bool, true, false, is_some, List, [], ◌∷◌, ◌++◌, Option, Some, None}
use Rattle.hx_itch.specs.declared.message.Feed.{Feed}
use Rattle.hx_itch.specs.declared.message.Feed.TheVariants.{AddOrder, AddOrderWithAttribution, OrderExecuted, OrderCancel, OrderDelete, OrderReplace, Trade, SystemEvent, StockDirectory, StockTradingAction, BrokenTrade}
use Rattle.hx_itch.specs.declared.shown_order.ShownOrder.{ShownOrder}
use Rattle.hx_itch.specs.Books.{book_after, book_from}
use Rattle.hx_reader.specs.declared.fault.ApplyError.{ApplyError}
use Rattle.hx_reader.specs.declared.fault.ApplyError.TheVariants as errors

-- the order of this reference
abbrev pub order_of : (reference : ℕ) → List ShownOrder → Option ShownOrder
order_of reference [] = None
order_of reference (x ∷ book) =
    if x.reference == reference then Some x else order_of reference book

-- whether the book has an order of this reference
abbrev pub has : (reference : ℕ) → List ShownOrder → Bool
has reference book = is_some (order_of reference book)

-- the fault of a message that adds an order under this reference
abbrev pub if_known : (reference : ℕ) → List ShownOrder → Option ApplyError
if_known reference book = if has reference book then Some errors.Known else None

-- the fault of a message that names an order which must be in the book
abbrev pub if_unknown : (reference : ℕ) → List ShownOrder → Option ApplyError
if_unknown reference book = if has reference book then None else Some errors.Unknown

-- the fault of a message that takes shares off an order, which must be there and have that many
abbrev pub if_short : (shares : ℕ) → Option ShownOrder → Option ApplyError
if_short shares None = Some errors.Unknown
if_short shares (Some x) = if nat_lt x.shares shares then Some errors.TooMany else None

-- whether an order other than the original has this reference
abbrev pub is_clash : (reference original : ℕ) → List ShownOrder → Bool
is_clash reference original book = if reference == original then false else has reference book

-- the fault of a message that replaces the original by an order of this reference
abbrev pub if_misplaced : (reference original : ℕ) → List ShownOrder → Option ApplyError
if_misplaced reference original book =
    if has original book
    then (if is_clash reference original book then Some errors.Known else None)
    else Some errors.Unknown

-- why a message cannot be the next one of a feed with this book: it adds a reference that the book
-- has, names one that it has not, or takes more shares off an order than are open (TotalView-ITCH
-- 5.0, Add Order Messages and Modify Order Messages)
abbrev pub fault_of : List ShownOrder → Feed → Option ApplyError
fault_of book (AddOrder a) = if_known a.reference book
fault_of book (AddOrderWithAttribution a) = if_known a.reference book
fault_of book (OrderExecuted e) = if_short e.shares (order_of e.reference book)
fault_of book (OrderCancel c) = if_short c.shares (order_of c.reference book)
fault_of book (OrderDelete d) = if_unknown d.reference book
fault_of book (OrderReplace r) = if_misplaced r.reference r.original_reference book
fault_of book (Trade t) = None
fault_of book (SystemEvent s) = None
fault_of book (StockDirectory d) = None
fault_of book (StockTradingAction h) = None
fault_of book (BrokenTrade b) = None

-- whether a message brings an order into the book: an order is added, or replaces another
abbrev pub adds : Feed → Bool
adds (AddOrder a) = true
adds (AddOrderWithAttribution a) = true
adds (OrderExecuted e) = false
adds (OrderCancel c) = false
adds (OrderDelete d) = false
adds (OrderReplace r) = true
adds (Trade t) = false
adds (SystemEvent s) = false
adds (StockDirectory d) = false
adds (StockTradingAction h) = false
adds (BrokenTrade b) = false

-- an error names the fault; want of memory is reported only if there is none
abbrev pub IsCause : ApplyError → (fault : Option ApplyError) → Type 0
IsCause errors.Unknown fault = fault ≡ Some errors.Unknown
IsCause errors.Known fault = fault ≡ Some errors.Known
IsCause errors.TooMany fault = fault ≡ Some errors.TooMany
IsCause errors.NoMemory fault = fault ≡ None

-- each of these messages is one of a feed with the book of those before it
abbrev pub AreFaultless : List ShownOrder → List Feed → Type 0
AreFaultless book [] = Unit {0}
AreFaultless book (message ∷ messages) =
    (fault_of book message ≡ None) × AreFaultless (book_after book message) messages

-- Those before one of these messages are applied to the book, and it is not, for this reason.
pub record StopsAt (old : List ShownOrder) (messages : List Feed) (new : List ShownOrder)
    (error : ApplyError) : Type 0 where
  pub before : List Feed
  pub message : Feed
  pub later : List Feed
  pub split : messages ≡ before ++ message ∷ later
  pub faultless : AreFaultless old before
  pub applied : new ≡ book_from old before
  pub cause : IsCause error (fault_of new message)
  pub memory : error ≡ errors.NoMemory → adds message ≡ true
