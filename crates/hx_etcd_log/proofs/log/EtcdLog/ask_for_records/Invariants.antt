use Rattle.std.proofs.Common.{◌≡◌}
use Rattle.hx_etcd_log.specs.EtcdLogs.{asks_of}
use Rattle.hx_etcd_log.proofs.Since.{Tried}
use Rattle.hx_etcd_log.proofs.log.EtcdLog.ask_for_records.Given as goal

-- so far no try has reported anything
abbrev pub invariant-loop : goal.invariant-loop
invariant-loop g l = record {
  known : l.self.reported ≡ l.fn.self.reported;
  tried : Tried l.is_lost (asks_of l.fn.self) (asks_of l.self);
}
