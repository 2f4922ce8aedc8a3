use Rattle.std.proofs.Common.{◌≡◌, take}
use Rattle.hx_fenced_log.proofs.log.memory.copies.Given as goal

-- the first `next-index` records are copied
abbrev pub invariant-loop-next : goal.invariant-loop-next
invariant-loop-next l = l.found.items ≡ take l.next-index l.records
