use Rattle.std.proofs.Common.{◌≡◌, take}
use Rattle.hx_audit.specs.Auditing.{HasTaken}
use Rattle.hx_audit.proofs.auditor.Auditor.of.Given as goal

abbrev pub invariant-loop-index : goal.invariant-loop-index
invariant-loop-index l =
    record {
      setup : l.auditor.setup ≡ l.fn.setup;
      whose : l.auditor.whose ≡ l.fn.whose;
      taken : HasTaken l.auditor (take l.index l.events);
    }
