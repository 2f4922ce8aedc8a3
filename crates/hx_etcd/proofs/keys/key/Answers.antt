use Rattle.std.proofs.Common.{◌≡◌, ℕ, ◌-◌, ◌≤◌, List, [], ◌∷◌, ◌++◌, length, take, rules, arith, append_assoc}
use Rattle.std.specs.Prelude.{replicate}
use Rattle.std.specs.Fmt.{decimal}
use Rattle.std.proofs.lemmas.List.{take-replicate}
use Rattle.std.proofs.lemmas.Grind.{common_steps}
use Rattle.hx_etcd.specs.Keys.{key_of}
use Rattle.hx_etcd.proofs.keys.key.Goals as goal

pub returns : goal.returns
unfolding key_of
returns c =
    let row : List ℕ = 48 ∷ 48 ∷ 48 ∷ 48 ∷ 48 ∷ 48 ∷ 48 ∷ 48 ∷ 48 ∷ 48 ∷ 48 ∷ 48 ∷ [] in
    let few : 12 - length (decimal c.args.number) ≤ 12 = omega arith in
    let noughts : take (12 - length (decimal c.args.number)) row ≡ replicate (12 - length (decimal c.args.number)) 48
    = take-replicate (12 - length (decimal c.args.number)) 12 48 few in
    first_of (search (rules, append_assoc, noughts), grind (arith, common_steps, noughts))
