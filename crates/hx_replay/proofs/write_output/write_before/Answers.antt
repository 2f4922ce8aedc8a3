use Rattle.std.proofs.Common.{◌≡◌, ℕ, List, subst}
use Rattle.hx_units.specs.Writing.{Writes}
use Rattle.hx_replay.specs.declared.fault.TapeError.TheVariants as fault
use Rattle.hx_replay.proofs.Gathering.{stops_gathering, stops_after}
use Rattle.hx_replay.proofs.write_output.write_before.Goals as goal

pub returns-in-Ok : goal.returns-in-Ok
returns-in-Ok g c = λ old new text gathered rest l others w h cut lacks fails same.
    stops_after old new text w (g.W.Write.contents c.args.writer.now) (g.W.Write.contents c.write_outcome.new.writer) gathered c.args.output.now rest l others c.args.error h cut lacks fails
    (same (λ (is : c.args.error ≡ fault.NoMemory). c.in_default.not-NoMemory is)) c.in-Ok.ensures.ok

pub returns-in-Err : goal.returns-in-Err
returns-in-Err g c = λ old new text gathered rest l others w h cut lacks fails same.
    let v = g.W.Write.contents c.args.writer.now in
    let u = g.W.Write.contents c.write_outcome.new.writer in
    let output : c.args.output.now ≡ gathered = same (λ (is : c.args.error ≡ fault.NoMemory). c.in_default.not-NoMemory is) in
    let some = c.in-Err.ensures.err in
    stops_gathering old new text w v u gathered rest c.in-Err.unwritten h (some.0, subst (λ (t : List ℕ). Writes v u t some.0) output some.1) c.in-Err.ensures.fault
