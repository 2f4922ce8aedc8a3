use Rattle.std.proofs.Common.{◌≡◌, ◌++◌, take}
use Rattle.std.specs.List.{flat_map}
use Rattle.hx_market_view.specs.Texts.{level_tokens}
use Rattle.hx_market_view.proofs.text.write_side.Given as goal

abbrev pub invariant-loop-level : goal.invariant-loop-level
invariant-loop-level l =
    (l.writer.before ≡ l.initial.writer.before)
    × (l.writer.tokens
    ≡ l.initial.writer.tokens ++ flat_map level_tokens (take l.level-index l.levels))
