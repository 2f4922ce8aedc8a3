use Rattle.std.proofs.Common.{◌≡◌, Some, None}
use Rattle.hx_sessions.proofs.intake.first_action.Goals as goal

pub returns-in-None : goal.returns-in-None
returns-in-None c = λ login kind is. absurd (let none : None ≡ Some login = c.in-None.ensures.only login (rw c.as_slice.ensures.value is) in cc)
