-- One byte more, and the bytes of one piece.
use Rattle.std.specs.Prelude.{ℕ, ◌≡◌, ◌<◌, ◌≤◌, List, [], ◌∷◌, ◌++◌, length, take}
use Rattle.hx_units.specs.Fields.{number}
use Rattle.hx_soup.specs.declared.packet.SoupPacket.{SoupPacket}
use Rattle.hx_soup.specs.declared.step.Step.{Step}
use Rattle.hx_soup.specs.declared.step.Step.TheVariants as step
use Rattle.hx_soup.specs.declared.framer.FramerError.{FramerError}
use Rattle.hx_soup.specs.declared.framer.FramerError.TheVariants as fault
use Rattle.hx_soup.specs.Packets.{longest, packet_bytes, IsPacket, IsUnfinished, IsBadLength, HasPacket, HasFault}

-- the bytes are a length that no packet has
pub record IsFault (bytes : List ℕ) (bad : ℕ) : Type 0 where
  pub high : ℕ
  pub low : ℕ
  pub whole : bytes ≡ high ∷ low ∷ []
  pub is : bad ≡ number (high ∷ low ∷ [])
  pub is_bad : IsBadLength bad

-- the packet that bytes are
abbrev pub Reads : (bytes : List ℕ) → SoupPacket → Type 0
Reads bytes packet = (bytes ≡ packet_bytes packet) × IsPacket packet

-- unfinished bytes, and one more
abbrev pub Adds : (old new : List ℕ) → (byte : ℕ) → Step → Type 0
Adds old new byte step.More = (new ≡ old ++ byte ∷ []) × IsUnfinished new
Adds old new byte (step.Whole packet n) =
    (old ++ byte ∷ [] ≡ packet_bytes packet) × IsPacket packet × (n ≡ 1) × (new ≡ [])
Adds old new byte (step.Fault bad) = IsFault (old ++ byte ∷ []) bad

-- Unfinished bytes, and those in front of a piece: with the first of them they are still unfinished, or a length that no
-- packet has; with a number of them they are a packet.
abbrev pub Steps : (old new : List ℕ) → (piece : List ℕ) → Step → Type 0
Steps old new piece step.More = (new ≡ old ++ take 1 piece) × IsUnfinished new
Steps old new piece (step.Whole packet n) =
    (old ++ take n piece ≡ packet_bytes packet) × IsPacket packet × (new ≡ [])
    × (0 < n) × (n ≤ length piece)
Steps old new piece (step.Fault bad) = IsFault (old ++ take 1 piece) bad

-- why a piece ends early: a length that no packet has, or no memory to list a packet that is whole
abbrev pub Ends : List ℕ → FramerError → Type 0
Ends stream (fault.TooLong bad before) = (longest < bad) × HasFault stream before.items bad
Ends stream (fault.Empty before) = HasFault stream before.items 0
Ends stream fault.NoMemory = HasPacket stream
Ends stream fault.Failed = ⊥
