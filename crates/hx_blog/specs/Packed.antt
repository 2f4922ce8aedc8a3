-- A message as six words of the log.
use Rattle.std.specs.Prelude.{◌≡◌, ℕ, ◌-◌, ◌<◌, ◌≤◌, List, [], ◌∷◌, ◌++◌, All, length, take, drop, replicate}
use Rattle.std.specs.Int.{w64, from_be_bytes}

-- one byte
abbrev pub IsByte : ℕ → Type 0
IsByte b = b < 256

-- the bytes of the feed's longest message (ITCH 5.0, Trade Message)
abbrev pub longest : ℕ
longest = 44

-- What the log takes as a message.
abbrev pub IsMessage : List ℕ → Type 0
IsMessage m = (length m ≤ longest) × All IsByte m

-- the 48 bytes that stand for a message: its length, its bytes, and zeros
abbrev pub padded : List ℕ → List ℕ
padded m = length m ∷ (m ++ replicate (47 - length m) 0)

-- the eight bytes from byte k on as a number, the most significant byte first
unfoldable pub word_at : (bytes : List ℕ) → (k : ℕ) → ℕ
word_at bytes k = from_be_bytes w64 (take 8 (drop k bytes))

-- the six words that stand for a message
unfoldable pub packed : List ℕ → List ℕ
packed m =
    word_at (padded m) 0 ∷ word_at (padded m) 8 ∷ word_at (padded m) 16 ∷ word_at (padded m) 24
    ∷ word_at (padded m) 32 ∷ word_at (padded m) 40 ∷ []

-- the words of several messages, in order
abbrev pub words_of : List (List ℕ) → List ℕ
words_of [] = []
words_of (m ∷ ms) = packed m ++ words_of ms

-- The worked example: the feed's Order Delete of reference 1, locate 1 and time 1000, of 19 bytes.
abbrev pub one_delete : List ℕ
one_delete =
    0x44 ∷ 0 ∷ 1 ∷ 0 ∷ 0 ∷ 0 ∷ 0 ∷ 0 ∷ 0 ∷ 0x03 ∷ 0xe8 ∷ 0 ∷ 0 ∷ 0 ∷ 0 ∷ 0 ∷ 0 ∷ 0 ∷ 1 ∷ []

-- its six words
abbrev pub DeleteIsPacked : Type 0
DeleteIsPacked =
    packed one_delete
    ≡ 0x1344000100000000 ∷ 0x000003e800000000 ∷ 0x0000000100000000 ∷ 0 ∷ 0 ∷ 0 ∷ []
