-- Copies of the log of a day.
use Rattle.std.specs.Prelude.{◌≡◌, ℕ, ◌+◌, ◌-◌, List, length, drop, Option}
use Rattle.std.specs.Io.KnownBytes.{Appends}
use mathlib.Core.List.{IsPrefix}
use Rattle.hx_fenced_log.specs.Records.{Record}
use Rattle.hx_fenced_log.specs.Copies.{texts_of}

-- the records of a log from the one number up to the other are written: the text of each, in order
pub record AreCopied (log : List Record) (from to : ℕ) (old new : Option (List ℕ)) : Type 0 where
  pub records : List Record
  pub stand : IsPrefix records (drop (from - 1) log)
  pub counted : to ≡ from + length records
  pub wrote : Appends old new (texts_of records)
