-- What contracts see of ranked blocks.
use Rattle.std.specs.Prelude.{ℕ, ◌≡◌, ◌&&◌, nat_lt, Bool, List, Option, length}
use Rattle.std.specs.Option.{is_some}
use Rattle.std.specs.Global.{Vec}
use Rattle.std.specs.Vec.{vec_len, vec_capacity}
use Rattle.hx_ranked.specs.declared.entry.Entry.{Entry}
use Rattle.hx_ranked.specs.declared.block.Block.{Block}
use Rattle.hx_ranked.specs.Ranked.{flat, AreBlocks, IsDense, IsSpare}

-- the entries in the order of their ranks, and whether there is room for one more
pub record Contents : Type 0 where
  pub entries : List Entry
  pub has_room : Bool

-- there is room if there is a spare list, if the list of blocks has capacity for its block, and if one more can be counted
abbrev pub contents_of : Vec Block → Option (Vec Entry) → (len : ℕ) → Contents
contents_of blocks spare len = record {
  entries = flat blocks.items;
  has_room = is_some spare && (nat_lt (vec_len blocks) (vec_capacity blocks) && nat_lt len 18446744073709551615);
}

-- the blocks hold `len` entries, small neighbours are one block, and a spare list is empty
pub record AreRanked (blocks : Vec Block) (spare : Option (Vec Entry)) (len : ℕ) : Type 0 where
  pub blocks_are : AreBlocks blocks.items
  pub dense : IsDense blocks.items
  pub spare_is : IsSpare spare
  pub len_is : len ≡ length (flat blocks.items)
