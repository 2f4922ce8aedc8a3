use Rattle.std.proofs.Common.{◌≡◌, List, length}
use Rattle.std.specs.List.{AllByRecursion}
use Rattle.hx_market.specs.Markets.{Market}
use Rattle.hx_tape_lines.specs.Text.{Entry, tape}
use Rattle.hx_tape_lines.specs.Events.{IsKnown}
use Rattle.hx_report.proofs.Tapes.{GoesOn}
use Rattle.hx_report.proofs.Struck.{seen_so, StruckSoFar}
use Rattle.hx_report.proofs.striking.strike.Given as goal

abbrev pub invariant-loop-line : goal.invariant-loop-line
invariant-loop-line l =
    (market : Market) (es : List Entry) → AllByRecursion IsKnown es → l.fn.text ≡ tape es → l.fn.marks ≡ seen_so market es
    → GoesOn es l.rest (StruckSoFar market l.whose l.struck l.after es)

abbrev pub decreases-loop-line : goal.decreases-loop-line
decreases-loop-line l = length l.rest
