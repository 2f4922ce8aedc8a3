use Rattle.std.proofs.Common.{◌≡◌, ◌++◌, take}
use Rattle.std.specs.List.{flat_map}
use Rattle.hx_web.specs.Answers.{sheet_tokens}
use Rattle.hx_web.proofs.answering.write_sheets.Given as goal

abbrev pub invariant-loop-sheet : goal.invariant-loop-sheet
invariant-loop-sheet l =
    (l.writer.before ≡ l.initial.writer.before)
    × (l.writer.tokens
    ≡ l.initial.writer.tokens ++ flat_map sheet_tokens (take l.sheet-index l.sheets))
