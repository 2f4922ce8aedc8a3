use Rattle.std.proofs.lemmas.Result.{err_from_is_err_and}
use Rattle.hx_reader.proofs.Applied.{one_more, stops}
use Rattle.hx_reader.proofs.book.FeedBook.apply_all.Goals as goal

pub returns-in_err-apply-clause-err : goal.returns-in_err-apply-clause-err
returns-in_err-apply-clause-err c =
    let p = err_from_is_err_and c.from_residual.result c.from_residual.ensures.1 in
    rw (p.1, p.2)
    (stops c.args.self.now c.loop-message.self c.apply.new.self c.args.messages.now c.loop-message.message-index _ _ c.loop-message-test.true c.loop-message.invariant c.in_err-apply.ensures.err c.in_err-apply.ensures.cause
    c.in_err-apply.ensures.memory)

pub loop-message-preserved : goal.loop-message-preserved
loop-message-preserved c =
    one_more c.args.self.now c.loop-message.self c.apply.new.self c.args.messages.now c.loop-message.message-index _ c.loop-message-test.true c.loop-message.invariant c.in_ok-apply.ensures.ok c.in_ok-apply.ensures.fits
