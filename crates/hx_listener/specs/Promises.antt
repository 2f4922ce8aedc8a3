-- Session slots that are promised to connections: no slot to two of them.
use Rattle.std.specs.Prelude.{ℕ, ◌≡◌, ◌+◌, ◌-◌}

-- The number of connections that wait for a session slot, and of session slots that wait for a
-- connection.
pub record Lobbied : Type 0 where
  pub connections : ℕ
  pub slots : ℕ

-- A connection has come: one of the waiting slots is promised to it.
pub record Promises (old new : Lobbied) : Type 0 where
  pub connection : new.connections ≡ old.connections + 1
  pub slots : new.slots ≡ old.slots

-- A slot has got a connection, if there is one, and waits no longer.
pub record Keeps (old new : Lobbied) : Type 0 where
  pub connection : new.connections ≡ old.connections - 1
  pub slots : new.slots ≡ old.slots - 1
