use Rattle.std.proofs.Common.{◌≡◌, ◌++◌, take}
use Rattle.hx_etcd_log.specs.Notes.{records_of}
use Rattle.hx_etcd_log.proofs.reported.note_records.Given as goal

-- the first `next-index` records are noted
abbrev pub invariant-loop-next : goal.invariant-loop-next
invariant-loop-next l =
    records_of l.noted.notes ≡ records_of l.fn.noted.notes ++ take l.next-index l.records
