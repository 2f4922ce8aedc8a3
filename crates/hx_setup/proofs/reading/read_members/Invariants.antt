use Rattle.std.proofs.Common.{◌-◌, length}
use Rattle.hx_setup.specs.declared.stock.Member.{Member}
use Rattle.hx_setup.specs.SetupText.{member_line}
use Rattle.hx_setup.specs.Reading.{AreMembers}
use Rattle.hx_setup.proofs.Growing.{Keeps, lower}
use Rattle.hx_setup.proofs.reading.read_members.Given as goal

abbrev pub invariant-loop-users : goal.invariant-loop-users
invariant-loop-users l = Keeps member_line AreMembers (λ (m : Member). lower m.user) l.fn.text l.rest l.members.items l.users.keys

abbrev pub decreases-loop-users : goal.decreases-loop-users
decreases-loop-users l = 4095 - length l.members.items
