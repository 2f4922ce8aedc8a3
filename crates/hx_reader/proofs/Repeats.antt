-- What changes nothing.
use Rattle.std.proofs.Common.{◌≡◌, ℕ, ◌+◌, ◌-◌, ◌≤◌, ◌^◌, ◌||◌, nat_lt, max, List, [], ◌∷◌, Bool, true, false, Option, Some, None, length, slice_get, slice_set, refl, sym, ap, ◌∙◌, inl, inr, arith, cond, if◌then◌else◌, lt-ltb}
use Rattle.std.specs.Prelude.{bytes_eq}
use Rattle.std.proofs.lemmas.Slice.Eq.{bytes_eq-Decides}
use Rattle.hx_mold.specs.declared.packet.MoldPacket.{MoldPacket}
use Rattle.hx_mold.specs.declared.packet.MoldPacket.TheVariants as mold
use Rattle.hx_mold.specs.Reading.{packet_of}
use Rattle.hx_reader.specs.Readings.{Reading, is_vacant, filled, placed, all_placed, delivered_to, comes, session_of, packet_comes, received}
use Rattle.hx_reader.specs.Runs.{IsOld, AreOld, BringsNothing, NothingNew}

same_filled : (k : ℕ) (m : List ℕ) (w : List (Option (List ℕ))) → is_vacant (slice_get w k) ≡ false → filled k m w ≡ w
unfolding filled
same_filled k m w h = ap (λ b. cond b (slice_set w k (Some m)) w) h

same_placed : (n : ℕ) (m : List ℕ) (r : Reading) → IsOld r n → placed n m r ≡ r
unfolding placed
same_placed n m r (inl lt) = ap (λ b. if b || nat_lt 44 (length m) then r else record r { window = filled (n - r.next) m r.window }) (lt-ltb n r.next lt)
same_placed n m r (inr full) = at (nat_lt n r.next || nat_lt 44 (length m))
  where
    at : (b : Bool) → (if b then r else record r { window = filled (n - r.next) m r.window }) ≡ r
    at true = refl
    at false = ap (λ w. record r { window = w }) (same_filled (n - r.next) m r.window full)

same_all : (n : ℕ) (ms : List (List ℕ)) (r : Reading) → AreOld r n ms → all_placed n ms r ≡ r
unfolding all_placed
same_all n [] r h = refl
same_all n (m ∷ ms) r h = ap (λ s. all_placed (n + 1) ms s) (same_placed n m r h.0) ∙ same_all (n + 1) ms r h.1

same_delivered : (n : ℕ) (r : Reading) → n ≤ r.delivered → delivered_to n r ≡ r
same_delivered n r le = ap (λ t. record r { delivered = t }) (let e : max r.delivered n ≡ r.delivered = omega arith in e)

same_comes : (r : Reading) (p : MoldPacket) → BringsNothing r (Some p) → session_of p ≡ r.session → comes r p ≡ r
same_comes r (mold.Blocks s n ms) (inl no_ours) same = absurd (no_ours same)
same_comes r (mold.Blocks s n ms) (inr h) same = at (nat_lt n (2 ^ 64 - 65535))
  where
    at : (b : Bool) → (if b then delivered_to (n + length ms) (all_placed n ms r) else r) ≡ r
    at true = ap (λ s. delivered_to (n + length ms) s) (same_all n ms r h.0) ∙ same_delivered (n + length ms) r h.1
    at false = refl
same_comes r (mold.Heartbeat s n) (inl no_ours) same = absurd (no_ours same)
same_comes r (mold.Heartbeat s n) (inr le) same = same_delivered n r le
same_comes r (mold.EndOfSession s n) (inl no_ours) same = absurd (no_ours same)
same_comes r (mold.EndOfSession s n) (inr h) same = ap (λ t. record r { delivered = t; ended = true }) (let e : max r.delivered n ≡ r.delivered = omega (arith, h.1) in e) ∙ ap (λ b. record r { ended = b }) (sym h.0)

pub nothing_new : NothingNew
unfolding received
nothing_new r bytes h = at (packet_of bytes) h
  where
    at : (o : Option MoldPacket) → BringsNothing r o → packet_comes r o ≡ r
    at None h = refl
    at (Some p) h = by (bytes_eq (session_of p) r.session) refl
      where
        by : (b : Bool) → bytes_eq (session_of p) r.session ≡ b → (if b then comes r p else r) ≡ r
        by true t = same_comes r p h ((bytes_eq-Decides (session_of p) r.session).0 t)
        by false t = refl
