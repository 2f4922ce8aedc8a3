use Rattle.std.proofs.Common.{◌≡◌, ◌+◌, take}
use Rattle.hx_fenced_log.specs.Logs.{AreNumbered}
use Rattle.hx_etcd_log.proofs.copied.check_numbers.Given as goal

-- the first `next-index` records have their numbers
abbrev pub invariant-loop-next : goal.invariant-loop-next
invariant-loop-next l = record {
  count : l.number ≡ l.from + l.next-index;
  numbered : AreNumbered l.from (take l.next-index l.page);
}
