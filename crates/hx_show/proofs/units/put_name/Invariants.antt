use Rattle.std.proofs.Common.{◌≡◌, ◌++◌, drop}
use Rattle.std.specs.Prelude.{map}
use Rattle.hx_show.specs.Units.{printable}
use Rattle.hx_show.proofs.units.put_name.Given as goal

abbrev pub invariant-loop-byte : goal.invariant-loop-byte
invariant-loop-byte l = l.out.items ++ map printable (drop l.byte-index l.name) ≡ l.fn.out.items ++ map printable l.name
