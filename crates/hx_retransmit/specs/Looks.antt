-- What a look at the log does to a reader.
use Rattle.std.specs.Prelude.{◌≡◌, ◌+◌, length, take}
use mathlib.Core.List.{IsPrefix}
use Rattle.hx_blog.specs.Feed.{feed}
use Rattle.hx_blog.specs.Ends.{ReaderState}

-- The count of the log was loaded once: all messages of the feed that the reader now knows are seen, what
-- it knew is a beginning of what it knows, and what it has read stays.
pub record Looks {E : Type 0} (old new : ReaderState E) : Type 0 where
  pub log : new.log ≡ old.log
  pub known : IsPrefix old.known new.known
  pub seen : new.seen ≡ length (feed new.known)
  pub loads : new.loads ≡ old.loads + 1
  pub read : new.read ≡ old.read

-- after a look the messages that can be asked for are the feed of what the reader knows
abbrev pub SeesTheFeed : (E : Type 0) → Type 0
SeesTheFeed E =
    (old new : ReaderState E) → Looks old new → take new.seen (feed new.known) ≡ feed new.known
