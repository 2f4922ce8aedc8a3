-- A reader's or the writer's seat in terms of its own view; and the room of a log.
use Rattle.std.proofs.Common.{◌≡◌, ℕ, ◌+◌, ◌-◌, ◌*◌, ◌/◌, List, [], ap, sym, ◌∙◌, arith}
use Rattle.std.proofs.Math.Nat.{div-add-mod, mod-lt}
use Rattle.hx_blog.specs.Feed.{Entries}
use Rattle.hx_blog.specs.Views.{SeatState, reading, writing, IsReading, IsWriting}

module _ {E : Type 0} where
  pub is_reading : (me : SeatState E) (room : ℕ) (known : Entries E) (read loads : ℕ) → me ≡ (reading room known read loads, []) → IsReading me
  is_reading me room known read loads e = e ∙ sym (ap (λ (m : SeatState E). (reading m.0.room m.0.known m.0.read m.0.loads, [])) e)

  pub is_writing : (me : SeatState E) (room : ℕ) (known : Entries E) (staged : List (List ℕ)) → me ≡ (writing room known staged [], []) → IsWriting me
  is_writing me room known staged e = e ∙ sym (ap (λ (m : SeatState E). (writing m.0.room m.0.known m.0.staged [], [])) e)

-- the room of a log, from the number of its words
pub room_is : (words room : ℕ) → words ≡ 6 * room + 1 → (words - 1) / 6 ≡ room
room_is words room e = let d = div-add-mod (words - 1) 6 in let m = mod-lt (words - 1) {m = 6} (omega arith) in omega (arith, d, m, e)
