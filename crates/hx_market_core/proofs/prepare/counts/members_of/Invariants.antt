use Rattle.std.proofs.Common.{◌≡◌, ◌+◌, ◌*◌, ◌≤◌, ◌++◌, ◌∷◌, drop, length}
use Rattle.std.specs.Vec.{vec_len, vec_capacity}
use Rattle.hx_market_core.specs.Prepared.{makers_and}
use Rattle.hx_market_core.proofs.prepare.counts.members_of.Given as goal

-- the members so far and those of the rest are those of all fills
abbrev pub invariant-loop-fill : goal.invariant-loop-fill
invariant-loop-fill g l =
    let orders = g.B.Book.orders l.book in
    record {
      items : l.members.items ++ makers_and l.member orders (drop l.fill-index l.fills) ≡ l.member ∷ makers_and l.member orders l.fills;
      len : vec_len l.members ≡ 2 * l.fill-index + 1;
      room : 2 * length l.fills + 2 ≤ vec_capacity l.members;
    }
