use Rattle.std.proofs.lemmas.Result.{err_from_is_err_and}
use Rattle.hx_replay.proofs.Spelled.{writes_then, writes_whole}
use Rattle.hx_replay_parallel.proofs.Sending.{sent_few}
use Rattle.hx_replay_parallel.proofs.io_thread.write_coming.Goals as goal

pub send_last-requires : goal.send_last-requires
send_last-requires g c = sent_few c.write_each-wrote.result _ _ _ c.requires.fits c.write_each-wrote.ensures.ahead c.write_each-wrote.ensures.read

pub returns-in_err-wrote-clause-err : goal.returns-in_err-wrote-clause-err
returns-in_err-wrote-clause-err g c =
    let p = err_from_is_err_and c.from_residual.result c.from_residual.ensures.1 in
    let some = rw c.in_err-wrote.was at c.write_each-wrote.ensures.err in
    rw p.1 some

pub returns-in_err-wrote-clause-read : goal.returns-in_err-wrote-clause-read
returns-in_err-wrote-clause-read g c =
    let p = err_from_is_err_and c.from_residual.result c.from_residual.ensures.1 in
    let read = rw c.in_err-wrote.was at c.write_each-wrote.ensures.read in
    rw p.1 (rw c.send_last.ensures.events read)

pub returns-in_err-write_whole-clause-err : goal.returns-in_err-write_whole-clause-err
returns-in_err-write_whole-clause-err g c =
    let p = err_from_is_err_and c.from_residual-in_err-write_whole.result c.from_residual-in_err-write_whole.ensures.1 in
    let wrote = rw c.in_ok-wrote.was at c.write_each-wrote.ensures.wrote in
    let some = c.in_err-write_whole.ensures.err in
    rw p.1 (some.0, writes_then _ _ (g.W.Write.contents c.write_whole.new.writer) _ c.write_each-wrote.new.spelled some.0 wrote (rw (← c.text.ensures) some.1))

pub returns-in_err-write_whole-clause-read : goal.returns-in_err-write_whole-clause-read
returns-in_err-write_whole-clause-read g c =
    let p = err_from_is_err_and c.from_residual-in_err-write_whole.result c.from_residual-in_err-write_whole.ensures.1 in
    let ahead = rw c.in_ok-wrote.was at c.write_each-wrote.ensures.ahead in
    rw p.1 (c.write_each-wrote.new.pending, rw c.send_last.ensures.events ahead)

pub returns-clause-wrote : goal.returns-clause-wrote
returns-clause-wrote g c =
    let wrote = rw c.in_ok-wrote.was at c.write_each-wrote.ensures.wrote in
    writes_whole _ _ (g.W.Write.contents c.write_whole.new.writer) _ c.write_each-wrote.new.spelled wrote (rw (← c.text.ensures) c.in_ok-write_whole.ensures.ok)

pub returns-clause-ahead : goal.returns-clause-ahead
returns-clause-ahead g c =
    let ahead = rw c.in_ok-wrote.was at c.write_each-wrote.ensures.ahead in
    rw c.send_last.ensures.events ahead
