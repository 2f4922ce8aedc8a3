use Rattle.std.proofs.Common.{◌≡◌, drop}
use Rattle.hx_web.specs.Answers.{charted}
use Rattle.hx_web.proofs.answering.charted.Given as goal

-- none of those before is the one
abbrev pub invariant-loop-sheet : goal.invariant-loop-sheet
invariant-loop-sheet l =
    charted l.path (drop l.sheet-index l.sheets) ≡ charted l.path l.sheets
