use Rattle.std.proofs.Common.{◌≡◌, List, ℕ, ◌++◌, sym, subst}
use Rattle.std.specs.Prelude.{OnOk, OnErr}
use Rattle.hx_tape_lines.specs.Text.{HasGrown}
use Rattle.hx_tape_lines.proofs.Plain.{record_is_line}
use Rattle.hx_tape_lines.proofs.writing.write_record.Goals as goal

pub returns-clause-ok : goal.returns-clause-ok
returns-clause-ok c = subst (λ (l : List ℕ). OnOk c.spell.result (c.spell.new.text.items ≡ c.args.text.now.items ++ l)) (sym (record_is_line c.args.event.now c.spell.ensures.held)) c.spell.ensures.ok

pub returns-clause-err : goal.returns-clause-err
returns-clause-err c = subst (λ (l : List ℕ). OnErr c.spell.result (HasGrown c.args.text.now.items c.spell.new.text.items l)) (sym (record_is_line c.args.event.now c.spell.ensures.held)) c.spell.ensures.err
