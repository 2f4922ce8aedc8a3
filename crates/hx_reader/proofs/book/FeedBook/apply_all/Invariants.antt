use Rattle.std.proofs.Common.{◌≡◌, take}
use Rattle.hx_itch.specs.Books.{book_from}
use Rattle.hx_reader.specs.Faults.{AreFaultless}
use Rattle.hx_reader.proofs.book.FeedBook.apply_all.Given as goal

-- the messages so far are applied
abbrev pub invariant-loop-message : goal.invariant-loop-message
invariant-loop-message l =
    (l.self ≡ book_from l.fn.self (take l.message-index l.messages))
    × AreFaultless l.fn.self (take l.message-index l.messages)
