-- How names are hashed. No answer depends on it: it decides who can find tokens that collide.
use Rattle.std.specs.Prelude.{ℕ, ◌+◌, ◌*◌, ◌/◌, ◌%◌, ◌^◌, List, length, nat_eq, slice_index, if◌then◌else◌}
use Rattle.std.specs.Hash.FoldHasher as folding
use Rattle.std.specs.Hash.DefaultHasher as sip
use Rattle.std.specs.RandomState.{initial_hasher}
use Rattle.hx_tokens.specs.declared.seed.Seed.{Seed}
use Rattle.hx_tokens.specs.declared.seed.Seed.TheVariants.{Fixed, Drawn}
use Rattle.hx_tokens.specs.declared.seed.NameHasher.{NameHasher}
use Rattle.hx_tokens.specs.declared.seed.NameHasher.TheVariants.{Folding, Keyed}

-- the hasher of a seed, before anything is hashed
abbrev pub hasher_of : Seed → NameHasher
hasher_of Fixed = Folding folding.initial 0
hasher_of (Drawn keys) = Keyed (initial_hasher keys) 0

-- the hasher after these bytes: one byte is the last digits of a name
abbrev pub written : NameHasher → List ℕ → NameHasher
written (Folding hasher last) bytes =
    if nat_eq (length bytes) 1 then Folding hasher (slice_index bytes 0)
    else Folding (folding.write hasher bytes) last
written (Keyed hasher last) bytes =
    if nat_eq (length bytes) 1 then Keyed hasher (slice_index bytes 0)
    else Keyed (sip.write hasher bytes) last

-- the hash of a name by that of all but its last digits
abbrev pub beside : (hash last : ℕ) → ℕ
beside hash last =
    let upper = (hash / 2 ^ 32 + last * 32) % 2 ^ 8 in
    let lower = (hash % 2 ^ 24 + last / 8) % 2 ^ 24 in
    upper * 2 ^ 24 + lower

-- the hash of what was written
abbrev pub finished : NameHasher → ℕ
finished (Folding hasher last) = beside (folding.finish hasher) last
finished (Keyed hasher last) = beside (sip.finish hasher) last
