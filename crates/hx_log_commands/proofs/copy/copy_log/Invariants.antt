use Rattle.std.proofs.Common.{◌<◌}
use Rattle.hx_log_commands.proofs.copy.copy_log.Given as goal

-- records are numbered from 1 on
abbrev pub invariant-loop : goal.invariant-loop
invariant-loop g l = 0 < l.next
