-- What a screen reads, and what a step of it does.
use Rattle.std.specs.Prelude.{ℕ, ◌≡◌, List, true, Option, Some, None, is_some, Result, Ok, Err}
use Rattle.hx_itch.specs.declared.message.Feed.{Feed}
use Rattle.hx_itch.specs.Message.{feed_message_of}
use Rattle.hx_itch.specs.Books.{book_after}
use Rattle.hx_reader.specs.declared.fault.ApplyError.{ApplyError}
use Rattle.hx_reader.specs.declared.fault.ApplyError.TheVariants as errors
use Rattle.hx_reader.specs.declared.fault.ScreenError.{ScreenError}
use Rattle.hx_reader.specs.declared.fault.ScreenError.TheVariants as faults
use Rattle.hx_reader.specs.declared.screen.Screen.{Screen}
use Rattle.hx_reader.specs.Faults.{fault_of, adds}
use Rattle.hx_reader.specs.Readings.{ready, handed}

-- the message of bytes that have come
abbrev pub readable : Option (List ℕ) → Option Feed
readable None = None
readable (Some bytes) = feed_message_of bytes

-- The next message has not come: nothing changes.
pub record Waits (old new : Screen) : Type 0 where
  pub none : ready old.reader ≡ None
  pub same : new ≡ old

-- The next message is one of a feed with this book: it is handed out, applied to the book.
pub record Applies (old new : Screen) (message : Feed) : Type 0 where
  pub next : readable (ready old.reader) ≡ Some message
  pub fits : fault_of old.book message ≡ None
  pub reader : new.reader ≡ handed old.reader (ready old.reader)
  pub book : new.book ≡ book_after old.book message

-- What has come is no message: it is gone from the reader, and the book is as it was.
pub record DropsBytes (old new : Screen) : Type 0 where
  pub come : is_some (ready old.reader) ≡ true
  pub unreadable : readable (ready old.reader) ≡ None
  pub reader : new.reader ≡ handed old.reader (ready old.reader)
  pub book : new.book ≡ old.book

-- The next message is none of a feed with this book, for this reason: it is gone from the reader, and
-- the book is as it was.
pub record Drops (old new : Screen) (error : ApplyError) : Type 0 where
  pub message : Feed
  pub next : readable (ready old.reader) ≡ Some message
  pub cause : fault_of old.book message ≡ Some error
  pub reader : new.reader ≡ handed old.reader (ready old.reader)
  pub book : new.book ≡ old.book

-- There is no memory for the order that the next message adds: nothing changes, so that the message
-- can be asked for again.
pub record Keeps (old new : Screen) : Type 0 where
  pub message : Feed
  pub next : readable (ready old.reader) ≡ Some message
  pub fits : fault_of old.book message ≡ None
  pub brings : adds message ≡ true
  pub same : new ≡ old

-- what a step gives
abbrev pub StepGives : (old new : Screen) → Result (Option Feed) ScreenError → Type 0
StepGives old new (Ok None) = Waits old new
StepGives old new (Ok (Some message)) = Applies old new message
StepGives old new (Err faults.Unreadable) = DropsBytes old new
StepGives old new (Err (faults.Apply errors.Unknown)) = Drops old new errors.Unknown
StepGives old new (Err (faults.Apply errors.Known)) = Drops old new errors.Known
StepGives old new (Err (faults.Apply errors.TooMany)) = Drops old new errors.TooMany
StepGives old new (Err (faults.Apply errors.NoMemory)) = Keeps old new
