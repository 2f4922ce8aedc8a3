use Rattle.std.proofs.Common.{◌≡◌, ◌≤◌, drop, min}
use Rattle.hx_ranked.specs.Ranked.{smallest_least}
use Rattle.hx_ranked.proofs.entries.smallest_from.Given as goal

-- the smallest so far and that of the rest are that of all
abbrev pub invariant-loop-entry : goal.invariant-loop-entry
invariant-loop-entry l = record {
  fits : l.least ≤ 4294967295;
  least : min l.least (smallest_least (drop l.entry-index l.entries)) ≡ smallest_least l.entries;
}
