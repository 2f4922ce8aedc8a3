use Rattle.std.proofs.Common.{◌≡◌, drop}
use Rattle.hx_sessions.specs.Copies.{copied_by}
use Rattle.hx_sessions.proofs.copies.copied_by.Given as goal

abbrev pub invariant-loop-copy : goal.invariant-loop-copy
invariant-loop-copy l = copied_by (drop l.copy-index l.copies) l.login ≡ copied_by l.copies l.login
