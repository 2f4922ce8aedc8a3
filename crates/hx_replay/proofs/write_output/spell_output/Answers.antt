use Rattle.std.proofs.Common.{ℕ, ◌+◌, List, ◌∷◌, ◌++◌, drop, subst, sym, ap, ◌∙◌}
use Rattle.std.proofs.lemmas.Result.{err_from_is_err_and}
use Rattle.hx_replay.specs.declared.unwritten.Mark.{Mark}
use Rattle.hx_replay.specs.Marks.{lines_of}
use Rattle.hx_replay.specs.Seen.{texts_of}
use Rattle.hx_replay.proofs.Spelled.{IsSpelled, mark_first, spelled_one, spelled_less, spelled_all}
use Rattle.hx_replay.proofs.write_output.spell_output.Goals as goal

pub loop-mark-preserved : goal.loop-mark-preserved
loop-mark-preserved g c =
    let w = g.W.Write.contents c.args.writer.now in
    let v = g.W.Write.contents c.loop-mark.writer in
    let output : List ℕ = c.args.lines.now ++ c.args.output.now in
    let marks : List Mark = c.parts.result.0.now in
    let i = c.loop-mark.mark-index in
    let first = mark_first marks i c.mark-item.result c.loop-mark-test.true ∙ ap (λ (m : Mark). m ∷ drop (i + 1) marks) (sym c.mark-item.is) in
    let text : List Mark → List ℕ = λ l. texts_of (lines_of l c.loop-mark.feed.now c.loop-mark.replies.now) in
    let one = c.in_ok-left.ensures.ok (drop (i + 1) marks) in
    let left : List ℕ = texts_of (lines_of (drop (i + 1) marks) c.in_ok-left.left.0.now c.in_ok-left.left.1.now) in
    let here : IsSpelled w v output (text (drop i marks)) c.loop-mark.lines = c.loop-mark.invariant.spelled in
    let now : IsSpelled w v output (one.0 ++ left) c.loop-mark.lines = subst (λ (t : List ℕ). IsSpelled w v output t c.loop-mark.lines) (ap text first ∙ one.1) here in
    let more = spelled_one w v output one.0 left c.loop-mark.lines c.spell_next.new.lines now one.2 in
    record {
      spelled = spelled_less w v (g.W.Write.contents c.write_many.new.writer) output left c.spell_next.new.lines c.write_many.new.lines more c.in_ok-write_many.ensures.ok;
      times = c.in_ok-left.ensures.times;
    }

pub returns-in_err-write_many-clause-err : goal.returns-in_err-write_many-clause-err
returns-in_err-write_many-clause-err g c =
    let p = err_from_is_err_and c.from_residual-in_err-write_many.result c.from_residual-in_err-write_many.ensures.1 in
    let w = g.W.Write.contents c.args.writer.now in
    let v = g.W.Write.contents c.loop-mark.writer in
    let output : List ℕ = c.args.lines.now ++ c.args.output.now in
    let marks : List Mark = c.parts.result.0.now in
    let i = c.loop-mark.mark-index in
    let first = mark_first marks i c.mark-item.result c.loop-mark-test.true ∙ ap (λ (m : Mark). m ∷ drop (i + 1) marks) (sym c.mark-item.is) in
    let text : List Mark → List ℕ = λ l. texts_of (lines_of l c.loop-mark.feed.now c.loop-mark.replies.now) in
    let one = c.in_ok-left.ensures.ok (drop (i + 1) marks) in
    let left : List ℕ = texts_of (lines_of (drop (i + 1) marks) c.in_ok-left.left.0.now c.in_ok-left.left.1.now) in
    let here : IsSpelled w v output (text (drop i marks)) c.loop-mark.lines = c.loop-mark.invariant.spelled in
    let now : IsSpelled w v output (one.0 ++ left) c.loop-mark.lines = subst (λ (t : List ℕ). IsSpelled w v output t c.loop-mark.lines) (ap text first ∙ one.1) here in
    let more = spelled_one w v output one.0 left c.loop-mark.lines c.spell_next.new.lines now one.2 in
    let some = c.in_err-write_many.ensures.err in
    let less = spelled_less w v (g.W.Write.contents c.write_many.new.writer) output left c.spell_next.new.lines some.0 more some.1 in
    rw p.1 (some.0 ++ left, less.wrote)

pub returns-clause-ok : goal.returns-clause-ok
returns-clause-ok g c =
    let w = g.W.Write.contents c.args.writer.now in
    let v = g.W.Write.contents c.loop-mark.writer in
    spelled_all w v (c.args.lines.now ++ c.args.output.now) c.parts.result.0.now c.loop-mark.mark-index c.loop-mark.feed.now c.loop-mark.replies.now c.loop-mark.lines c.loop-mark-test.false c.loop-mark.invariant.spelled
