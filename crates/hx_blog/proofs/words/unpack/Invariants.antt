use Rattle.std.proofs.Common.{◌≡◌, ℕ, List, take, length}
use Rattle.hx_blog.specs.Packed.{IsMessage, packed}
use Rattle.hx_blog.proofs.words.unpack.Given as goal

abbrev pub invariant-loop-i : goal.invariant-loop-i
invariant-loop-i l = (length l.message.items ≡ l.i) × ((m : List ℕ) → IsMessage m → l.words ≡ packed m → l.message.items ≡ take l.i m)
