-- Blocks one after another, counted (MoldUDP64 1.00, Message Block).
use Rattle.std.specs.Prelude.{ℕ, zero, suc, ◌+◌, ◌==◌, ◌&&◌, nat_le, Bool, List, [], ◌∷◌, length, drop}
use Rattle.hx_units.specs.Fields.{number_at, text_at}

-- how many bytes the first block takes; more than there are if it is cut
abbrev pub block_len : List ℕ → ℕ
block_len bytes = number_at 0 2 bytes + 2

-- whether the bytes are `count` blocks and nothing else
abbrev pub is_whole : (count : ℕ) → List ℕ → Bool
is_whole zero bytes = length bytes == 0
is_whole (suc k) bytes =
    nat_le (block_len bytes) (length bytes) && is_whole k (drop (block_len bytes) bytes)

-- the messages of `count` blocks
abbrev pub messages_in : (count : ℕ) → List ℕ → List (List ℕ)
messages_in zero bytes = []
messages_in (suc k) bytes =
    text_at 2 (number_at 0 2 bytes) bytes ∷ messages_in k (drop (block_len bytes) bytes)
