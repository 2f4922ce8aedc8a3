use Rattle.std.proofs.Common.{[], ◌∷◌, ◌++◌, ap, ◌∙◌}
use Rattle.hx_fenced_log.specs.Records.{Record}
use Rattle.hx_etcd_log.specs.Notes.{records_of}
use Rattle.hx_etcd_log.proofs.Known.{noted_record}
use Rattle.hx_etcd_log.proofs.reported.note_record.Goals as goal

pub returns : goal.returns
returns c =
    ap records_of c.note.ensures
    ∙ ap (λ (r : Record). records_of c.args.noted.now.notes ++ r ∷ [])
    (noted_record c.args.next.now c.head-head.result c.text.result.now [] c.head-head.ensures.head c.text.ensures c.head-head.ensures.of_log)
