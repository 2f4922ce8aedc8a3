use Rattle.std.proofs.Common.{take}
use Rattle.hx_etcd_log.proofs.Trims.{SoFar}
use Rattle.hx_etcd_log.proofs.trimming.least_of.Given as goal

abbrev pub invariant-loop-count : goal.invariant-loop-count
invariant-loop-count l = SoFar (take l.count-index l.counts) l.least
