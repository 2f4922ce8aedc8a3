use Rattle.std.proofs.Common.{◌≡◌, take}
use Rattle.hx_setup.specs.Setups.{indices_of}
use Rattle.hx_setup.proofs.setup.index_members.Given as goal

abbrev pub invariant-loop-member : goal.invariant-loop-member
invariant-loop-member l = (l.indices.entries ≡ indices_of (take l.member-index l.fn.members)) × (l.index ≡ l.member-index)
