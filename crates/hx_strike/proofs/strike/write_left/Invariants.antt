use Rattle.std.proofs.Common.{◌≡◌, ℕ, List, ◌++◌, ◌+◌, length, take, drop}
use Rattle.std.specs.Io.KnownBytes.{Appends}
use Rattle.hx_audit.specs.Auditing.{choice_of, IsStranger}
use Rattle.hx_tape_lines.specs.Text.{tape}
use Rattle.hx_replay.specs.Struck.{without_chosen}
use Rattle.hx_strike.specs.Taking.{IsTape}
use Rattle.hx_strike.proofs.strike.write_left.Given as goal

-- the later lines, how many of those before stay with them, and what of them was written
abbrev pub invariant-loop-bearing : goal.invariant-loop-bearing
invariant-loop-bearing g l =
    let choice = choice_of l.auditor.whose l.auditor.market in
    record {
      rest : (t : IsTape l.text l.bearings) → l.rest ≡ tape (drop l.bearing-index t.entries);
      count : (t : IsTape l.text l.bearings) → l.count + l.bearing-index ≡ length (without_chosen choice (take l.bearing-index t.entries)) + length l.bearings;
      wrote : (t : IsTape l.text l.bearings) → Appends (g.W.Write.contents l.fn.writer) (g.W.Write.contents l.writer) (tape (without_chosen choice (take l.bearing-index t.entries)));
      stranger : IsStranger l.auditor.setup l.auditor.whose
          → (front : List ℕ) × (front ++ l.rest ≡ l.text) × Appends (g.W.Write.contents l.fn.writer) (g.W.Write.contents l.writer) front;
    }
