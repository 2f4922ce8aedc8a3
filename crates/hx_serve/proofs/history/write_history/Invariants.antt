use Rattle.std.proofs.Common.{◌≡◌, ◌++◌, ℕ, List, drop}
use Rattle.std.specs.Io.KnownBytes.{Appends}
use Rattle.hx_serve.specs.LastLine.{tape_of}
use Rattle.hx_serve.proofs.history.write_history.Given as goal

-- the lines written so far, and those of the rest, are all
abbrev pub invariant-loop-entry : goal.invariant-loop-entry
invariant-loop-entry g l =
    (front : List ℕ) × Appends (g.W.Write.contents l.fn.writer) (g.W.Write.contents l.writer) front
    × (front ++ tape_of (drop l.entry-index l.history) ≡ tape_of l.history)
