-- The records of a log that were reported to a client.
use Rattle.std.specs.Prelude.{ℕ, List}
use Rattle.hx_fenced_log.specs.Records.{Record}

-- the records that stand there, and how many of the last ones the client retains
pub record Telling : Type 0 where
  pub records : List Record
  pub stored : ℕ
