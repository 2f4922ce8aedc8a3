use Rattle.std.proofs.Common.{◌≡◌, ◌≤◌, take, length}
use Rattle.hx_market_view.specs.Names.{shown_name}
use Rattle.hx_market_view.proofs.name.shown_name.Given as goal

abbrev pub invariant-loop-byte : goal.invariant-loop-byte
invariant-loop-byte l =
    (l.shown.bytes ≡ shown_name (take l.byte-index l.name))
    × (length l.shown.bytes ≤ l.byte-index)
