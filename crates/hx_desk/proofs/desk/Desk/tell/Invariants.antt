use Rattle.std.proofs.Common.{take, drop}
use Rattle.hx_blog.specs.Feed.{feed}
use Rattle.hx_desk.specs.Entries.{ledger}
use Rattle.hx_desk.proofs.desk.Desk.tell.Given as goal

-- the sealed entries, and the messages of the entries after them
abbrev pub ghosts-publish_up_to : goal.ghosts-publish_up_to
ghosts-publish_up_to a = record {
  entries = drop a.published_end.entries (take a.sealed.entries (ledger a.market.now.setup a.history.now));
  left = feed (drop a.sealed.entries (ledger a.market.now.setup a.history.now));
}
