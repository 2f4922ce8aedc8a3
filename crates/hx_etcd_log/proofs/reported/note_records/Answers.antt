use Rattle.hx_etcd_log.proofs.Known.{noted_more}
use Rattle.hx_etcd_log.proofs.reported.note_records.Goals as goal

pub loop-next-preserved : goal.loop-next-preserved
loop-next-preserved c =
    noted_more _ _ _ c.args.records.now c.loop-next.next-index c.next-item.result c.loop-next-test.true c.next-item.is c.loop-next.invariant c.note_record.ensures
