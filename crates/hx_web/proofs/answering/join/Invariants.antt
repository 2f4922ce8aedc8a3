use Rattle.std.proofs.Common.{◌≡◌, ◌++◌, take}
use Rattle.std.specs.List.{flat_map}
use Rattle.hx_web.specs.Answers.{after_comma}
use Rattle.hx_web.proofs.answering.join.Given as goal

abbrev pub invariant-loop-sheet : goal.invariant-loop-sheet
invariant-loop-sheet l =
    l.text.items
    ≡ l.initial.text.items ++ flat_map after_comma (take l.sheet-index l.others)
