use Rattle.std.proofs.Common.{refl}
use Rattle.hx_report.proofs.Days.{is_check}
use Rattle.hx_report.proofs.check.checked.Goals as goal

pub returns : goal.returns
returns c es h =
    is_check c.args.day.now es c.args.whose c.args.look c.in_ok-sieve.sieve c.in_ok-struck.struck c.deref.result.now c.deref-3.result.now c.deref-4.result.now c.in_ok-output.output.items c.deref-5.result.now
    c.deref-2.result.now _ h c.in_ok-sieve.ensures c.deref.ensures.value c.deref-2.ensures.value c.in_ok-struck.ensures c.deref-3.ensures.value c.in_ok-output.ensures c.deref-4.ensures.value
    c.deref-5.ensures.value refl c.compare.ensures
