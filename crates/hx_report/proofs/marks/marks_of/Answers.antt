use Rattle.hx_report.proofs.Marking.{marks_ok}
use Rattle.hx_report.proofs.marks.marks_of.Goals as goal

pub returns : goal.returns
returns c =
    marks_ok c.mark_lines.result c.args.setup.now c.in_ok-taken.taken c.deref.result.now c.args.text.now c.in_ok-taken.ensures.setup c.in_ok-taken.ensures.whose c.in_ok-taken.ensures.taken
    c.deref.ensures.value c.mark_lines.ensures
