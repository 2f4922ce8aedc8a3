use Rattle.std.proofs.Common.{◌≡◌, rules, ap, sym, ◌∙◌}
use Rattle.std.specs.Bool.{Decides}
use Rattle.std.proofs.lemmas.Bool.Decides.{Decides-eqb}
use Rattle.std.proofs.lemmas.Slice.Eq.{slice_eq-Decides}
use Rattle.hx_journal.specs.Lines.{text_of}
use Rattle.hx_fenced_log.specs.Records.{Record}
use Rattle.hx_etcd_log.proofs.Known.{same_record}
use Rattle.hx_etcd_log.proofs.finding.is_same.Goals as goal

pub returns-then-eq : goal.returns-then-eq
returns-then-eq c =
    let heads : c.head.result ≡ c.head-2.result = search rules in
    let texts : Decides c.eq-then-eq.result (c.text.result.now ≡ c.text-then-eq.result.now) = slice_eq-Decides Decides-eqb _ _ _ c.eq-then-eq.ensures in (
      (λ yes. same_record c.args.one.now c.args.other.now c.head.ensures.of_log c.head-2.ensures.of_log
          (sym c.head.ensures.head ∙ heads ∙ c.head-2.ensures.head)
          (sym c.text.ensures ∙ texts.0 yes ∙ c.text-then-eq.ensures)),
      (λ same. texts.1 (c.text.ensures ∙ ap (λ (r : Record). text_of r.lines) same ∙ sym c.text-then-eq.ensures)),
    )
