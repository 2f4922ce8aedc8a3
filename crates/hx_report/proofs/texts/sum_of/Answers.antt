use Rattle.hx_report.proofs.Sums.{sum_of_more}
use Rattle.hx_report.proofs.texts.sum_of.Goals as goal

pub loop-line-preserved : goal.loop-line-preserved
loop-line-preserved c =
    let l = c.loop-line in
    sum_of_more c.args.sieve.now c.args.text.now l.rest.now c.in-Some.line.now c.in-Some.others.now l.lines c.saturating_add-lines.result l.hasher c.update.new.self l.invariant c.in-Some.ensures.some
    c.update.ensures c.saturating_add-lines.ensures
