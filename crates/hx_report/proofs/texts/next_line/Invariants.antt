use Rattle.std.proofs.Common.{◌≡◌, ◌≤◌, length}
use Rattle.hx_report.specs.Looks.{seen_lines}
use Rattle.hx_report.proofs.texts.next_line.Given as goal

abbrev pub invariant-loop-line : goal.invariant-loop-line
invariant-loop-line l =
    record {
      same : seen_lines l.sieve l.rest ≡ seen_lines l.sieve l.fn.text;
      shorter : length l.rest ≤ length l.fn.text;
    }

abbrev pub decreases-loop-line : goal.decreases-loop-line
decreases-loop-line l = length l.rest
