use Rattle.std.proofs.Common.{◌∙◌, sym, ap, subst, ◌++◌, List, ℕ}
use Rattle.hx_journal.specs.Records.{IsRecord}
use Rattle.hx_tape_lines.specs.Text.{record_of}
use Rattle.hx_engine.proofs.Records.{recorded}
use Rattle.hx_day_log.proofs.mirroring.append_records.Goals as goal

pub append-requires : goal.append-requires
append-requires g c = record {
  record_is = subst (λ (bytes : List ℕ). IsRecord bytes) (sym (c.deref.ensures.value ∙ c.in_ok-write_record.ensures.ok ∙ ap (λ (l : List ℕ). l ++ record_of c.event-item.result) c.clear.ensures.items)) (recorded c.event-item.result);
}
