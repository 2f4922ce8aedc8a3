use Rattle.std.proofs.Common.{ℕ, List, ap, ◌∙◌, eqb, ◌&&◌, sum_by, count_by}
use Rattle.hx_report.specs.declared.census.ChainMark.{ChainMark}
use Rattle.hx_report.specs.declared.marks.Mark.{Mark}
use Rattle.hx_report.specs.declared.rest.Rested.{Rested}
use Rattle.hx_report.specs.Sums.{counted}
use Rattle.hx_report.proofs.Counting.{tally_is, shares_of}
use Rattle.hx_report.proofs.rows.Tally.of.Goals as goal

pub returns : goal.returns
returns c es h =
    let m = c.args.member in
    tally_is c.args.day.now es m _ h
    (c.messages_of.ensures ∙ ap (λ (l : List Mark). counted (count_by (λ (k : Mark). eqb k.sender m) l)) c.deref.ensures.value)
    (c.chains_of.ensures ∙ ap (λ (l : List ChainMark). counted (count_by (λ (k : ChainMark). eqb k.member m) l)) c.deref-2.ensures.value)
    (c.quiet_of.ensures ∙ ap (λ (l : List ChainMark). counted (count_by (λ (k : ChainMark). eqb k.member m && k.quiet) l)) c.deref-3.ensures.value)
    (c.rested_of.ensures ∙ ap (λ (l : List Rested). counted (sum_by (shares_of m) l)) c.deref-4.ensures.value)
    (c.trades_of.ensures ∙ ap (λ (l : List ℕ). counted (count_by (λ (k : ℕ). eqb k m) l)) c.deref-5.ensures.value)
