use Rattle.hx_laws.proofs.FeedBook.ShownRuns.{feed_is_book, feed_is_uncrossed}
use Rattle.hx_laws.proofs.feed_and_book.Goals as goal

pub returns : goal.returns
returns c = record { book = feed_is_book; uncrossed = feed_is_uncrossed }
