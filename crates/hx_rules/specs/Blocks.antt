-- Where the bytes of a message lie.
use Rattle.std.specs.Prelude.{ℕ, List, []}
use Rattle.std.specs.Arc.{arc_value}
use Rattle.hx_rules.specs.declared.bytes.Block.{Block}
use Rattle.hx_rules.specs.declared.bytes.Block.TheVariants.{Empty, Short, Long}

-- the most bytes that lie in one block
abbrev pub most_in_block : ℕ
most_in_block = 52

-- the bytes of a block
abbrev pub bytes_of : Block → List ℕ
bytes_of Empty = []
bytes_of (Short short) = (arc_value short).items
bytes_of (Long long) = (arc_value long).items
