use Rattle.std.proofs.Common.{◌∷◌, [], length, ap, subst, ◌∙◌, arith}
use Rattle.std.specs.Prelude.{IfSome, IfNone}
use mathlib.Core.List.{IsPrefix}
use Rattle.hx_journal.specs.Heads.{head_of, HasNoHead}
use Rattle.hx_journal.specs.Lines.{lines_of, text_of}
use Rattle.hx_journal.specs.Records.{sealed, records_of}
use Rattle.hx_journal.specs.Surveys.{before_damage}
use Rattle.hx_journal.proofs.Copying.{few_of}
use Rattle.hx_journal.proofs.Fronts.{blocks_are, whole_text, marks_and_records, after_text}
use Rattle.hx_journal.proofs.surveying.survey_of.Goals as goal

pub tape_of-requires : goal.tape_of-requires
tape_of-requires c =
    let file = before_damage c.args.text.now c.extent-end.result.2 in
    whole_text _ file c.extent-end.ensures.front

pub overflow_sub-lines : goal.overflow_sub-lines
overflow_sub-lines c =
    let file = before_damage c.args.text.now c.extent-end.result.2 in
    let lines = blocks_are _ file c.extent-end.ensures.front in
    omega (arith, c.in_ok-tape.ensures.count, ap (λ l. length (records_of l)) lines, few_of (sealed (lines_of file)), c.extent-end.ensures.count)

pub returns-clause-tape : goal.returns-clause-tape
returns-clause-tape c =
    let file = before_damage c.args.text.now c.extent-end.result.2 in
    c.in_ok-tape.ensures.tape ∙ ap (λ l. text_of (records_of l)) (blocks_are _ file c.extent-end.ensures.front)

pub returns-clause-records : goal.returns-clause-records
returns-clause-records c =
    let file = before_damage c.args.text.now c.extent-end.result.2 in
    c.in_ok-tape.ensures.count ∙ ap (λ l. length (records_of l)) (blocks_are _ file c.extent-end.ensures.front)

pub returns-clause-blocks : goal.returns-clause-blocks
returns-clause-blocks c =
    let file = before_damage c.args.text.now c.extent-end.result.2 in
    let lines = blocks_are _ file c.extent-end.ensures.front in
    omega (arith, c.saturating_sub.ensures, c.in_ok-tape.ensures.count, ap (λ l. length (records_of l)) lines, marks_and_records (sealed (lines_of file)), c.extent-end.ensures.count)

pub returns-clause-after : goal.returns-clause-after
returns-clause-after c = after_text c.args.text.now c.extent-end.result.0 c.torn_bytes-torn.result c.extent-end.ensures.inside c.torn_bytes-torn.ensures.inside c.torn_bytes-torn.ensures.last c.torn_bytes-torn.ensures.rest

pub returns-clause-head : goal.returns-clause-head
returns-clause-head c =
    let file = before_damage c.args.text.now c.extent-end.result.2 in
    subst (λ ls. IfSome c.first_head.result (λ h. IsPrefix (head_of h.session.now h.day.now h.setup.now ∷ []) ls)) (blocks_are _ file c.extent-end.ensures.front) c.first_head.ensures.some

pub first_head-requires : goal.first_head-requires
first_head-requires c =
    let file = before_damage c.args.text.now c.extent-end.result.2 in
    whole_text _ file c.extent-end.ensures.front

pub returns-clause-no_head : goal.returns-clause-no_head
returns-clause-no_head c =
    let file = before_damage c.args.text.now c.extent-end.result.2 in
    subst (λ ls. IfNone c.first_head.result (HasNoHead ls)) (blocks_are _ file c.extent-end.ensures.front) c.first_head.ensures.none
