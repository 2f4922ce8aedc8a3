use Rattle.std.proofs.Common.{◌≡◌, ℕ, List, length}
use Rattle.hx_strike.specs.Taking.{Takes}
use Rattle.hx_strike.proofs.reading.take_lines.Given as goal

abbrev pub invariant-loop-line : goal.invariant-loop-line
invariant-loop-line l =
    record {
      setup : l.auditor.setup ≡ l.fn.auditor.setup;
      whose : l.auditor.whose ≡ l.fn.auditor.whose;
      taken : (all : List ℕ) → Takes l.fn.auditor l.fn.bearings.items all l.fn.text → Takes l.auditor l.bearings.items all l.rest;
    }

abbrev pub decreases-loop-line : goal.decreases-loop-line
decreases-loop-line l = length l.rest
