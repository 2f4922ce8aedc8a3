use Rattle.std.proofs.Common.{◌≡◌, true, false, ap}
use Rattle.std.specs.List.{concat}
use Rattle.hx_report.proofs.Sums.{sum_of_same}
use Rattle.hx_report.proofs.texts.compare.Goals as goal

pub returns-then-are_same : goal.returns-then-are_same
returns-then-are_same c =
    let same = c.are_same.ensures.same c.if-are_same.true in
    record {
      same = λ _. ap concat same;
      differs = λ e. absurd (let z : true ≡ false = e in cc);
      day = sum_of_same c.args.sieve.now c.args.day.now c.args.struck.now c.sum_of-sum.result same c.sum_of-sum.ensures;
      struck = c.sum_of-sum.ensures;
    }
