use Rattle.std.proofs.Common.{◌+◌, ◌<◌, ◌^◌, ◌++◌, [], ◌∷◌, length, drop, ap, ◌∙◌, sym, arith, length-append}
use Rattle.hx_itch.specs.declared.message.Feed.TheVariants.{SystemEvent}
use Rattle.hx_itch.specs.Message.{feed_time}
use Rattle.hx_desk.specs.Entries.{feed_spelled}
use Rattle.hx_desk.proofs.Staging.{on_ok, staged_next, all_next}
use Rattle.hx_desk.proofs.commit.stage_all.Goals as goal

pub loop-message-preserved : goal.loop-message-preserved
loop-message-preserved c =
    let writer = c.loop-message.writer in
    let bytes = c.encode.result.items in
    let i = c.loop-message.message-index in
    let inv = c.loop-message.invariant in
    let new = on_ok c.stage.result _ (sym c.if-is_err.ensures.value) c.stage.ensures.ok in
    record {
      log = ap (λ w. w.log) new ∙ inv.log;
      published = ap (λ w. w.published) new ∙ inv.published;
      staged =
          ap (λ w. w.staged ++ feed_spelled (drop (i + 1) c.args.messages.now)) new
          ∙ staged_next writer.staged c.args.messages.now i (SystemEvent (record { locate = 0; time = 0; event_code = 0 })) bytes (omega arith) c.encode.ensures.bytes ∙ inv.staged;
      count = ap (λ w. length w.staged) new ∙ omega (arith, length-append writer.staged (bytes ∷ []), inv.count);
      times = all_next (λ f. feed_time f < 2 ^ 48) c.args.messages.now i (SystemEvent (record { locate = 0; time = 0; event_code = 0 })) (omega arith) inv.times;
    }
