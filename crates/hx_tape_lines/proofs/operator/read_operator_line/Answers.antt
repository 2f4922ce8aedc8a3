use Rattle.std.proofs.Common.{◌≡◌, arith}
use Rattle.hx_tape_lines.specs.Text.{entry_of, IsEntry, line}
use Rattle.hx_tape_lines.specs.declared.line.Fields.{Fields}
use Rattle.hx_tape_lines.proofs.Lines.{some_of}
use Rattle.hx_tape_lines.proofs.Operators.{other_member, says_nothing}
use Rattle.hx_tape_lines.proofs.operator.read_operator_line.Goals as goal

pub returns-then-fields-ne0-clause-none : goal.returns-then-fields-ne0-clause-none
returns-then-fields-ne0-clause-none c =
    let found = some_of (λ (e : Fields). (c.args.text.now ≡ line (entry_of e)) × IsEntry (entry_of e)) c.in_ok-fields.field-0 c.in-Some.fields c.in-Some.is c.in_ok-fields.ensures.found in
    other_member c.args.text.now (entry_of c.in-Some.fields) found (λ e. omega (arith, e, c.if-fields-ne0.true))

pub returns-clause-none : goal.returns-clause-none
returns-clause-none c =
    let found = some_of (λ (e : Fields). (c.args.text.now ≡ line (entry_of e)) × IsEntry (entry_of e)) c.in_ok-fields.field-0 c.in-Some.fields c.in-Some.is c.in_ok-fields.ensures.found in
    says_nothing c.args.text.now (entry_of c.in-Some.fields) c.decode_operator.result found
    c.decode_operator.ensures
