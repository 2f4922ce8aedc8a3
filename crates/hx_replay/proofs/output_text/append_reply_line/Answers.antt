use Rattle.std.proofs.Common.{List, ℕ, ◌++◌, length, take, drop, ◌+◌, ◌-◌, ◌*◌, ap, ◌∙◌, arith}
use Rattle.std.proofs.lemmas.List.{length-take, length-drop}
use Rattle.hx_replay.proofs.After.{line_after}
use Rattle.hx_replay.proofs.output_text.append_reply_line.Goals as goal

pub returns-clause-ok : goal.returns-clause-ok
returns-clause-ok c =
    let line = c.fill_reply_line.new.line in
    let start = c.args.start in
    let end = c.args.start + c.digit_count.result + c.digit_count-2.result + 2 * length c.args.reply.now + 5 in
    let from = drop start c.deref_mut.result.now in
    let after = drop (end - start) from in
    let long = ap length c.deref_mut.ensures.value in
    let retained = ap (λ (l : List ℕ). take start l) c.deref_mut.ensures.value ∙ c.reach.ensures.retained start c.requires.within in
    line_after end c.reach.new.bytes.len start c.deref_mut.result.now c.reach.new.bytes.items line after (omega (arith, long, c.requires.within, c.reach.ensures.longer)) (omega (arith, long, c.in_ok-reach.ensures.room, length-take (end - start) from, length-drop start c.deref_mut.result.now)) (omega (arith, long, c.in_ok-reach.ensures.room, c.deref_mut.ensures.len))
    ∙ ap (λ (l : List ℕ). l ++ line) retained ∙ ap (λ (l : List ℕ). take start c.args.bytes.now.items ++ l) c.fill_reply_line.ensures
