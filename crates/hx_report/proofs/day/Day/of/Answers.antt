use Rattle.std.proofs.lemmas.Result.{err_from_is_err_and}
use Rattle.hx_report.proofs.Days.{no_day}
use Rattle.hx_report.proofs.day.Day.of.Goals as goal

pub returns-in_err-counts-clause-err : goal.returns-in_err-counts-clause-err
returns-in_err-counts-clause-err c =
    let p = err_from_is_err_and c.from_residual.result c.from_residual.ensures.1 in
    rw (p.1, p.2) (no_day c.args.setup.now c.args.text.items c.as_slice-reader.result.now _ _ _ _ c.as_slice-reader.ensures.value c.in_err-counts.ensures.err)
