use Rattle.std.proofs.Common.{◌≡◌, ◌∷◌, [], length, ◌∙◌, sym, ap, subst, rules}
use mathlib.Core.List.{IsPrefix}
use Rattle.hx_journal.specs.Lines.{lines_of, text_of}
use Rattle.hx_journal.specs.Records.{sealed, records_of}
use Rattle.hx_journal.proofs.Recovery.{lines_of_front, front_text, first_is, refusal_cause}
use Rattle.hx_journal.proofs.opening.examine.Goals as goal

pub returns-then-not-is_head-clause-cause : goal.returns-then-not-is_head-clause-cause
returns-then-not-is_head-clause-cause c = λ before now. refusal_cause before now c.of_head.result c.of_head.ensures

pub tape_of-requires : goal.tape_of-requires
tape_of-requires c = front_text c.args.text.now c.args.end c.requires.front

pub returns-clause-head : goal.returns-clause-head
returns-clause-head c =
    let cut = c.in-Some.ensures.some in
    let first = first_is c.args.text.now c.args.end c.in-Some.first.now c.in-Some.rest.now c.requires.front cut.1 cut.0 in
    let same : c.in-Some.first.now ≡ c.args.head.now = search rules in
    subst (λ l. IsPrefix (l ∷ []) (sealed (lines_of c.args.text.now))) same first

pub returns-clause-tape : goal.returns-clause-tape
returns-clause-tape c = c.in_ok-tape.ensures.tape ∙ ap (λ l. text_of (records_of l)) (lines_of_front c.args.text.now c.args.end c.requires.front)

pub returns-clause-count : goal.returns-clause-count
returns-clause-count c = c.in_ok-tape.ensures.count ∙ ap (λ l. length (records_of l)) (lines_of_front c.args.text.now c.args.end c.requires.front)

pub returns-then-not-is_head-clause-other : goal.returns-then-not-is_head-clause-other
returns-then-not-is_head-clause-other c = λ named begins.
    let cut = c.in-Some.ensures.some in
    let first = first_is c.args.text.now c.args.end c.in-Some.first.now c.in-Some.rest.now c.requires.front cut.1 cut.0 in
    let same : c.in-Some.first.now ≡ c.args.head.now = cc (first.1 ∙ sym begins.1) in
    cc (c.is_head.ensures.1 same, c.if-not-is_head.true)
