-- A packet that is being filled.
use Rattle.std.specs.Prelude.{ℕ, ◌≡◌, ◌<◌, ◌≤◌, List, length, take}
use Rattle.hx_mold.specs.Packets.{room, blocks}
use Rattle.hx_mold.specs.Fronts.{IsFront}

-- what is written so far is the blocks of the first messages
pub record Holds (count : ℕ) (bytes : List ℕ) (messages : List (List ℕ)) : Type 0 where
  pub bytes_are : bytes ≡ blocks (take count messages)
  pub there : count ≤ length messages
  pub fits : length bytes ≤ room

-- and no more of them fit
pub record Fills (count : ℕ) (bytes : List ℕ) (messages : List (List ℕ)) : Type 0 where
  pub holds : Holds count bytes messages
  pub is_front : IsFront (take count messages) messages
  pub some : 0 < length messages → 0 < count
