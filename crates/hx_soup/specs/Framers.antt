-- A framer is seen as the bytes that it retains, or as None once it has failed. What it makes of a piece of its stream
-- depends on the bytes retained and the piece after them alone.
use Rattle.std.specs.Prelude.{ℕ, ◌≡◌, ◌⊎◌, ◌<◌, List, [], ◌∷◌, ◌++◌, Option, Some, None}
use Rattle.hx_soup.specs.declared.packet.SoupPacket.{SoupPacket}
use Rattle.hx_soup.specs.declared.framer.FramerError.{FramerError}
use Rattle.hx_soup.specs.declared.framer.FramerError.TheVariants as fault
use Rattle.hx_soup.specs.Packets.{longest, HasPacket, Cuts, HasFault}

-- The bytes retained before and the piece are these packets, then the bytes retained now.
pub record Takes (old new : Option (List ℕ)) (piece : List ℕ) (packets : List SoupPacket)
    : Type 0 where
  pub retained : List ℕ
  pub rest : List ℕ
  pub was : old ≡ Some retained
  pub is : new ≡ Some rest
  pub cuts : Cuts (retained ++ piece) packets rest

-- The bytes retained before and the piece have a fault right after these packets. The framer has failed.
pub record StopsAt (old new : Option (List ℕ)) (piece : List ℕ) (packets : List SoupPacket)
    (bad : ℕ) : Type 0 where
  pub retained : List ℕ
  pub was : old ≡ Some retained
  pub is : new ≡ None
  pub fault : HasFault (retained ++ piece) packets bad

-- A growth was refused: the framer had not failed, and is as it was. The bytes retained and the piece begin with a
-- whole packet: if there is none, no memory is taken.
pub record Stays (old new : Option (List ℕ)) (piece : List ℕ) : Type 0 where
  pub retained : List ℕ
  pub was : old ≡ Some retained
  pub is : new ≡ Some retained
  pub some : HasPacket (retained ++ piece)

-- what each error says, and which framer it leaves
abbrev pub Fails : (old new : Option (List ℕ)) → (piece : List ℕ) → FramerError → Type 0
Fails old new piece (fault.TooLong bad before) =
    (longest < bad) × StopsAt old new piece before.items bad
Fails old new piece (fault.Empty before) = StopsAt old new piece before.items 0
Fails old new piece fault.NoMemory = Stays old new piece
Fails old new piece fault.Failed = (old ≡ None) × (new ≡ None)

-- what a piece gives if memory is ample: packets, those before a fault, or nothing once the framer has failed
abbrev pub Gives : (old new : Option (List ℕ)) → (piece : List ℕ) → List SoupPacket → Type 0
Gives old new piece packets =
    Takes old new piece packets ⊎ ((bad : ℕ) × StopsAt old new piece packets bad)
    ⊎ ((old ≡ None) × (new ≡ None) × (packets ≡ []))

-- the pieces of a stream, one after another, and all the packets that they give
abbrev pub GivesAll : (old new : Option (List ℕ)) → (pieces : List (List ℕ)) → List SoupPacket
    → Type 0
GivesAll old new [] packets = (new ≡ old) × (packets ≡ [])
GivesAll old new (piece ∷ pieces) packets =
    (between : Option (List ℕ)) × (first : List SoupPacket) × (others : List SoupPacket)
    × Gives old between piece first × GivesAll between new pieces others
    × (packets ≡ first ++ others)
