use Rattle.std.proofs.Common.{rules, append_assoc}
use Rattle.hx_web.specs.Answers.{sheet_tokens}
use Rattle.hx_web.proofs.answering.write_sheet.Goals as goal

pub returns : goal.returns
unfolding sheet_tokens
returns c = search (rules, append_assoc)
