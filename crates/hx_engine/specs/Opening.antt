-- How an exchange is opened.
use Rattle.std.specs.Prelude.{ℕ, ◌≡◌, []}
use Rattle.hx_blog.specs.Ends.{LogId, WriterState}
use Rattle.hx_desk.specs.declared.entry.Entry.{Entry}

-- a log of this name, with its writer, which has written nothing
abbrev pub IsNewLog : LogId → LogId × WriterState Entry → Type 0
IsNewLog name ends =
    (ends.0 ≡ name) × (ends.1 ≡ record { log = name; published = []; staged = [] })

-- the most passes of an exchange
abbrev pub most_passes : ℕ
most_passes = 1024
