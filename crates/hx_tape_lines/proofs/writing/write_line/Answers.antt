use Rattle.std.specs.Fmt.{decimal}
use Rattle.std.proofs.Common.{ℕ, ◌++◌, ap, ◌∙◌}
use Rattle.std.proofs.lemmas.Result.{err_from_is_err_and}
use Rattle.hx_tape_lines.proofs.Growing.{wrote_none, has_grown, wrote_time, wrote_space, wrote_member, wrote_second_space}
use Rattle.hx_tape_lines.proofs.writing.write_line.Goals as goal

pub returns-in_err-write_number-clause-err : goal.returns-in_err-write_number-clause-err
returns-in_err-write_number-clause-err c =
    let p = err_from_is_err_and c.from_residual.result c.from_residual.ensures.1 in
    rw p.1 (has_grown _ _ _ _ _ (wrote_none _ _ _ c.in_err-write_number.ensures.err))

pub returns-in_err-push-clause-err : goal.returns-in_err-push-clause-err
returns-in_err-push-clause-err c =
    let p = err_from_is_err_and c.from_residual-in_err-push.result c.from_residual-in_err-push.ensures.1 in
    rw p.1 (has_grown _ _ _ _ _ (wrote_time _ _ _ _ (c.in_err-push.ensures.items ∙ c.in_ok-write_number.ensures.ok)))

pub returns-in_err-write_number-2-clause-err : goal.returns-in_err-write_number-2-clause-err
returns-in_err-write_number-2-clause-err c =
    let p = err_from_is_err_and c.from_residual-in_err-write_number-2.result c.from_residual-in_err-write_number-2.ensures.1 in
    rw p.1 (has_grown _ _ _ _ _ (wrote_space _ _ _ _ _ c.in_ok-write_number.ensures.ok (c.in_err-write_number-2.ensures.err ∙ c.in_ok-push.ensures.items)))

pub returns-in_err-push-2-clause-err : goal.returns-in_err-push-2-clause-err
returns-in_err-push-2-clause-err c =
    let p = err_from_is_err_and c.from_residual-in_err-push-2.result c.from_residual-in_err-push-2.ensures.1 in
    let second = wrote_space _ _ _ _ _ c.in_ok-write_number.ensures.ok c.in_ok-push.ensures.items in
    let member = c.in_ok-write_number-2.ensures.ok ∙ ap (λ (n : ℕ). c.push.new.self.items ++ decimal n) c.from.ensures in
    rw p.1 (has_grown _ _ _ _ _ (wrote_member _ _ _ _ _ _ _ second (c.in_err-push-2.ensures.items ∙ member)))

pub returns-in_err-write_digits-clause-err : goal.returns-in_err-write_digits-clause-err
returns-in_err-write_digits-clause-err c =
    let p = err_from_is_err_and c.from_residual-in_err-write_digits.result c.from_residual-in_err-write_digits.ensures.1 in
    let second = wrote_space _ _ _ _ _ c.in_ok-write_number.ensures.ok c.in_ok-push.ensures.items in
    let member = c.in_ok-write_number-2.ensures.ok ∙ ap (λ (n : ℕ). c.push.new.self.items ++ decimal n) c.from.ensures in
    let third = wrote_member _ _ _ _ _ _ _ second member in
    rw p.1 (has_grown _ _ _ _ _ (wrote_second_space _ _ _ _ _ _ third (c.in_err-write_digits.ensures.err ∙ c.in_ok-push-2.ensures.items)))
