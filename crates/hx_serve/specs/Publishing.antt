-- What the publishing worker does in one turn.
use Rattle.std.specs.Prelude.{ℕ, ◌≤◌, length}
use Rattle.hx_blog.specs.Feed.{feed}
use Rattle.hx_blog.specs.Ends.{ReaderState}
use Rattle.hx_desk.specs.declared.entry.Entry.{Entry}

-- all messages of the feed that a reader knows are among the first `sent`
abbrev pub KnowsNoMore : ReaderState Entry → ℕ → Type 0
KnowsNoMore reader sent = length (feed reader.known) ≤ sent
