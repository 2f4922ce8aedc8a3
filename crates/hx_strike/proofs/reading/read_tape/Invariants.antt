use Rattle.std.proofs.Common.{◌≡◌, ◌≤◌, length, drop}
use Rattle.std.specs.Io.KnownBytes.{Consumes}
use Rattle.hx_units.specs.Cuts.{Lacks}
use Rattle.hx_strike.specs.Taking.{Takes}
use Rattle.hx_strike.proofs.reading.read_tape.Given as goal

abbrev pub invariant-loop : goal.invariant-loop
invariant-loop g l =
    record {
      setup : l.tape.auditor.setup ≡ l.fn.setup;
      whose : l.tape.auditor.whose ≡ l.fn.whose;
      read : Consumes (g.R.Read.remaining l.fn.reader) (g.R.Read.remaining l.reader) l.tape.text.items;
      taken : Takes l.tape.auditor l.tape.bearings.items l.tape.text.items (drop l.tape.taken l.tape.text.items);
      lacks : Lacks 10 (drop l.tape.taken l.tape.text.items);
      within : l.tape.taken ≤ length l.tape.text.items;
    }
