use Rattle.std.proofs.Common.{List, ℕ, ◌++◌, ap, subst}
use Rattle.std.proofs.lemmas.Result.{err_from_is_err_and}
use Rattle.hx_units.specs.Writing.{Writes}
use Rattle.hx_replay.proofs.Spelled.{writes_then, writes_whole}
use Rattle.hx_replay.proofs.write_output.write_outcome.Goals as goal

pub returns-in_err-spell_output-clause-err : goal.returns-in_err-spell_output-clause-err
returns-in_err-spell_output-clause-err g c =
    let p = err_from_is_err_and c.from_residual.result c.from_residual.ensures.1 in
    let some = c.in_err-spell_output.ensures.err in
    rw p.1 (some.0, subst (λ (x : List ℕ). Writes (g.W.Write.contents c.args.writer.now) (g.W.Write.contents c.spell_output.new.writer) x some.0) (ap (λ (x : List ℕ). x ++ c.args.output.now) c.clear.ensures) some.1)

pub returns-in_err-write_whole-clause-err : goal.returns-in_err-write_whole-clause-err
returns-in_err-write_whole-clause-err g c =
    let p = err_from_is_err_and c.from_residual-in_err-write_whole.result c.from_residual-in_err-write_whole.ensures.1 in
    let some = c.in_err-write_whole.ensures.err in
    let spelled = subst (λ (x : List ℕ). Writes (g.W.Write.contents c.args.writer.now) (g.W.Write.contents c.spell_output.new.writer) x c.spell_output.new.lines) (ap (λ (x : List ℕ). x ++ c.args.output.now) c.clear.ensures) c.in_ok-spell_output.ensures.ok in
    rw p.1 (some.0, writes_then _ _ (g.W.Write.contents c.write_whole.new.writer) c.args.output.now c.spell_output.new.lines some.0 spelled (rw (← c.text.ensures) some.1))

pub returns-clause-ok : goal.returns-clause-ok
returns-clause-ok g c =
    let spelled = subst (λ (x : List ℕ). Writes (g.W.Write.contents c.args.writer.now) (g.W.Write.contents c.spell_output.new.writer) x c.spell_output.new.lines) (ap (λ (x : List ℕ). x ++ c.args.output.now) c.clear.ensures) c.in_ok-spell_output.ensures.ok in
    writes_whole _ _ (g.W.Write.contents c.write_whole.new.writer) c.args.output.now c.spell_output.new.lines spelled (rw (← c.text.ensures) c.in_ok-write_whole.ensures.ok)
