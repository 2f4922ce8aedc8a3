use Rattle.std.proofs.Common.{◌≡◌, [], ◌∷◌, sym, ◌∙◌, subst}
use Rattle.std.specs.Io.KnownBytes.{Appends}
use Rattle.hx_units.specs.Fields.{texts}
use Rattle.hx_units.specs.Writing.{Writes}
use Rattle.hx_sessions.proofs.Going.{turn_sends, one_frame}
use Rattle.hx_sessions.proofs.outbound.send.Goals as goal

pub returns-in-Ok-clause-ok : goal.returns-in-Ok-clause-ok
returns-in-Ok-clause-ok g c =
    let frame = c.in-Frame.frame in
    let bytes : c.as_slice-bytes.result.now ≡ frame.items = c.as_slice-bytes.ensures.value in (
      frame.items ∷ [],
      turn_sends c.args.delivery.now c.turn.new.self (texts c.args.rows.now) c.args.ended c.args.now frame c.requires.live c.in-Frame.ensures,
      subst (Appends (g.W.Write.contents c.args.output.now) (g.W.Write.contents c.write_whole.new.writer)) (bytes ∙ sym (one_frame frame.items)) c.in-Ok.ensures.ok,
    )

pub returns-in-Err-clause-err : goal.returns-in-Err-clause-err
returns-in-Err-clause-err g c =
    let frame = c.in-Frame.frame in
    let bytes : c.as_slice-bytes.result.now ≡ frame.items = c.as_slice-bytes.ensures.value in
    let w = c.in-Err.ensures.err in (
      frame.items ∷ [],
      turn_sends c.args.delivery.now c.turn.new.self (texts c.args.rows.now) c.args.ended c.args.now frame c.requires.live c.in-Frame.ensures,
      (w.0, subst (λ l. Writes (g.W.Write.contents c.args.output.now) (g.W.Write.contents c.write_whole.new.writer) l w.0) (bytes ∙ sym (one_frame frame.items)) w.1),
    )
