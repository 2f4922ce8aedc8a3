use Rattle.std.proofs.Common.{sym, ◌∙◌, rules}
use Rattle.hx_fenced_log.proofs.Fronts.{cut_is_none}
use Rattle.hx_fenced_log.proofs.terms.lines.is_line.Goals as goal
use Rattle.hx_journal.proofs.Spelling.{line_of_lacks}

pub returns-in-Some : goal.returns-in-Some
returns-in-Some c = (
  λ never. absurd (cc (never)),
  λ good. absurd (cut_is_none c.args.line.now c.in-Some.field-0.0.now c.in-Some.field-0.1.now c.in-Some.ensures.some.0 good.0),
)

pub returns-in-None : goal.returns-in-None
returns-in-None c = (
  λ _. (line_of_lacks c.args.line.now c.in-None.ensures.none c.requires, sym c.is_mark.ensures ∙ c.if-is_mark.false),
  λ _. search rules,
)
