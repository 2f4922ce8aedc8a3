use Rattle.std.proofs.Common.{◌≡◌, drop}
use Rattle.std.specs.List.{find}
use Rattle.std.specs.Prelude.{◌&&◌}
use Rattle.hx_setup.specs.Setups.{is_login}
use Rattle.hx_setup.proofs.setup.Setup.login.Given as goal

abbrev pub invariant-loop-member : goal.invariant-loop-member
invariant-loop-member l =
    find (λ m. is_login l.fn.user m.user && is_login l.fn.password m.password) (drop l.member-index l.fn.self.members)
    ≡ find (λ m. is_login l.fn.user m.user && is_login l.fn.password m.password) l.fn.self.members
