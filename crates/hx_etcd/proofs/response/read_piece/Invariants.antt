use Rattle.std.proofs.Common.{◌≡◌, ℕ, ◌-◌, ◌≤◌, List, ◌++◌, length}
use Rattle.hx_etcd.specs.Pieces.{GoesOn}
use Rattle.hx_etcd.proofs.response.read_piece.Given as goal

abbrev pub invariant-parts : goal.invariant-parts
invariant-parts l =
    (l.at ≤ length l.input)
    × ((content : List ℕ) × (l.body.items ≡ l.initial.body.items ++ content)
    × GoesOn l.initial.decoder l.input l.decoder l.at content)

abbrev pub decreases-parts : goal.decreases-parts
decreases-parts l = length l.input - l.at
