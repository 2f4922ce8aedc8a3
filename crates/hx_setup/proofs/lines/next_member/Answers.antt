use Rattle.hx_setup.specs.SetupText.{member_line, HasMemberLine}
use Rattle.hx_setup.proofs.Spelling.{member_feed, next_feed, next_line}
use Rattle.hx_setup.proofs.lines.next_member.Goals as goal

pub returns-in_err-line-clause-none : goal.returns-in_err-line-clause-none
returns-in_err-line-clause-none c = rw c.from_residual.ensures (next_feed member_line HasMemberLine member_feed c.args.text.now c.in_err-line.ensures.none)

pub returns-in_err-read_member-clause-none : goal.returns-in_err-read_member-clause-none
returns-in_err-read_member-clause-none c = rw c.from_residual-in_err-read_member.ensures (next_line member_line HasMemberLine member_feed c.args.text.now c.in_ok-line.line.now c.in_ok-line.rest.now c.in_ok-line.ensures.some c.in_err-read_member.ensures.none)
