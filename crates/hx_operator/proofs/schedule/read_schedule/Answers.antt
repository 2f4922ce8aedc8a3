use Rattle.std.proofs.Common.{◌≡◌, ◌++◌, [], sym, ap, ◌∙◌}
use Rattle.hx_operator.specs.Marks.{lines_of}
use Rattle.hx_operator.specs.Schedules.{entry_of, said}
use Rattle.hx_operator.proofs.Reading.{line_cut, line_last, goes_on, ends, fails, where_none}
use Rattle.hx_operator.proofs.schedule.read_schedule.Goals as goal

pub returns-in-Some-2-clause-err : goal.returns-in-Some-2-clause-err
returns-in-Some-2-clause-err c =
    let line = c.in-Some.line.now in
    let others = c.in-Some.others.now in
    let cut = c.in-Some.ensures.some in
    fails c.args.text.now c.loop-line.rest.now line (lines_of others) c.loop-line.number
    c.loop-line.entries.items c.in-Some-2.wrong c.loop-line.invariant
    (ap lines_of cut.0 ∙ line_cut line others cut.1)
    (sym c.in_ok-wrong.ensures.fault ∙ c.in-Some-2.is)

pub loop-line-preserved : goal.loop-line-preserved
loop-line-preserved c =
    let line = c.in-Some.line.now in
    let others = c.in-Some.others.now in
    let cut = c.in-Some.ensures.some in
    let old = c.loop-line.entries.items in
    let taken : c.take_line.new.entries.items ≡ old ++ said (entry_of line) =
    where_none c.in_ok-wrong.field-0 (c.take_line.new.entries.items ≡ old ++ said (entry_of line)) c.in_default-2.is c.in_ok-wrong.ensures.taken in
    rw taken (goes_on c.args.text.now c.loop-line.rest.now line others c.loop-line.number old
    c.loop-line.invariant cut.0 cut.1 (sym c.in_ok-wrong.ensures.fault ∙ c.in_default-2.is))

pub returns-in-Some-3-clause-err : goal.returns-in-Some-3-clause-err
returns-in-Some-3-clause-err c =
    let rest = c.loop-line.rest.now in
    fails c.args.text.now rest rest [] c.loop-line.number c.loop-line.entries.items c.in-Some-3.wrong
    c.loop-line.invariant (line_last rest c.in_default.ensures.none)
    (sym c.in_ok-wrong-2.ensures.fault ∙ c.in-Some-3.is)

pub returns-clause-ok : goal.returns-clause-ok
returns-clause-ok c =
    let rest = c.loop-line.rest.now in
    let old = c.loop-line.entries.items in
    let taken : c.take_line-2.new.entries.items ≡ old ++ said (entry_of rest) =
    where_none c.in_ok-wrong-2.field-0 (c.take_line-2.new.entries.items ≡ old ++ said (entry_of rest)) c.in_default-3.is c.in_ok-wrong-2.ensures.taken in
    rw taken (ends c.args.text.now rest c.loop-line.number old c.loop-line.invariant
    c.in_default.ensures.none (sym c.in_ok-wrong-2.ensures.fault ∙ c.in_default-3.is))
