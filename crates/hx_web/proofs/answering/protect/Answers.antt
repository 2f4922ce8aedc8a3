use Rattle.std.proofs.Common.{rules, append_assoc}
use Rattle.hx_web.proofs.answering.protect.Goals as goal

pub returns : goal.returns
returns c = search (rules, append_assoc)
