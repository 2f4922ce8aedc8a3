use Rattle.std.proofs.Common.{◌≡◌, take}
use Rattle.hx_etcd_log.proofs.reported.copies.Given as goal

-- the first `next-index` records are copied
abbrev pub invariant-loop-next : goal.invariant-loop-next
invariant-loop-next l = l.found.items ≡ take l.next-index l.records
