use Rattle.std.proofs.Common.{List, ◌+◌, ◌++◌, length, ap, sym, ◌∙◌, subst, arith}
use Rattle.hx_fenced_log.specs.Records.{Record}
use Rattle.hx_fenced_log.specs.Logs.{AreNumbered}
use Rattle.hx_etcd_log.specs.Notes.{records_of}
use Rattle.hx_etcd_log.specs.Telling.{Telling}
use Rattle.hx_etcd_log.proofs.Known.{page_reported}
use Rattle.hx_etcd_log.proofs.reported.Reported.add_page.Goals as goal

pub invariant_of-self : goal.invariant_of-self
invariant_of-self c =
    page_reported _ _ c.args.page.items _ c.self.inside.count _ c.self.invariant
    (subst (λ (t : Telling). AreNumbered (length t.records + 1) c.args.page.items) (sym c.self.view_is) c.requires)
    (omega (arith, c.last_number-self-inside.ensures.last, ap length c.deref-2.ensures.value)) c.last_number-self-inside.ensures.few
    (c.note_records.ensures ∙ ap (λ (l : List Record). records_of c.self.inside.noted.notes ++ l) c.deref.ensures.value)
