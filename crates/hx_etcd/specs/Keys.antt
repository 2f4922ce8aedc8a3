-- The keys of records in etcd.
use Rattle.std.specs.Prelude.{ℕ, ◌-◌, List, ◌++◌, length, replicate, codes}
use Rattle.std.specs.Fmt.{decimal}
use Rattle.hx_units.specs.Letters.{letter}

-- the noughts in front of a number of `size` digits
abbrev pub noughts : (size n : ℕ) → List ℕ
noughts size n = replicate (size - length (decimal n)) (letter "0")

-- the key of a record's number: `hx/` and the number by twelve digits
unfoldable pub key_of : ℕ → List ℕ
key_of n = codes "hx/" ++ (noughts 12 n ++ decimal n)

-- the first key after all that begin with `hx/`: "0" is the byte after "/"
abbrev pub keys_end : List ℕ
keys_end = codes "hx0"

-- the key that stands once the log was trimmed
abbrev pub trim_key : List ℕ
trim_key = codes "hz"

-- the key under which a copy of the log shows how much it has: `hc/` and its number
abbrev pub copy_key : (copy : ℕ) → List ℕ
copy_key copy = codes "hc/" ++ decimal copy

-- the key of a writer's heartbeat: `hy/` and the writer's number
abbrev pub heartbeat_key : (writer : ℕ) → List ℕ
heartbeat_key writer = codes "hy/" ++ decimal writer
