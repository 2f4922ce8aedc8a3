use Rattle.std.proofs.Common.{ℕ, List, ap}
use Rattle.hx_refs.specs.Numbers.{Numbers}
use Rattle.hx_refs.proofs.Refs.new.Goals as goal

pub returns : goal.returns
returns c = ap (λ (xs : List ℕ). let n : Numbers = record { public = 0; private = xs; matches = 0 } in n) (c.in_ok-vec.ensures.items_if_clones_equal (λ w h. h))
