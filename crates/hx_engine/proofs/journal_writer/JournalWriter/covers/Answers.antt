use Rattle.std.proofs.Common.{List, ℕ, ◌∙◌, refl, subst}
use mathlib.Core.List.{IsPrefix}
use Rattle.hx_desk.specs.Known.{history_of}
use Rattle.hx_engine.proofs.HeldLaws.{known_lines, longer}
use Rattle.hx_engine.proofs.journal_writer.JournalWriter.covers.Goals as goal
use Rattle.hx_tape_lines.specs.Text.{record_of}

pub returns-clause-covered : goal.returns-clause-covered
returns-clause-covered g c = λ left l.
    let k = c.args.self.now in
    longer _ _ _ (known_lines record_of c.args.receipt.known k.writer.published (history_of k.writer.published) c.confirm.ensures.beginning refl)
    (subst (λ (records : List (List ℕ)). IsPrefix records left) (k.safe ∙ k.recorded) (c.stands.ensures k.opened left l).begins)
