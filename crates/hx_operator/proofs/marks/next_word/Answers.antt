use Rattle.std.proofs.Common.{sym, ap, ◌∙◌}
use Rattle.hx_operator.specs.Marks.{words_of}
use Rattle.hx_operator.proofs.Cuts.{first_word, last_word, some_text}
use Rattle.hx_operator.proofs.marks.next_word.Goals as goal

pub returns-then-not-is_empty-clause-some : goal.returns-then-not-is_empty-clause-some
returns-then-not-is_empty-clause-some c =
    let word = c.in-Some.word.now in
    let cut = c.in-Some.ensures.some in
    sym c.loop-word.invariant ∙ ap words_of cut.0 ∙ first_word word c.in-Some.others.now cut.1 (some_text word c.if-not-is_empty.ensures)

pub returns-clause-some : goal.returns-clause-some
returns-clause-some c =
    let rest = c.loop-word.rest.now in
    sym c.loop-word.invariant ∙ last_word rest c.in_default.ensures.none (some_text rest c.if-is_empty.ensures)
