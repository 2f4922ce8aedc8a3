use Rattle.std.proofs.Common.{◌≡◌, true, take}
use Rattle.std.specs.List.{AllByRecursion}
use Rattle.hx_market.specs.QuietChains.{is_quiet}
use Rattle.hx_audit.specs.Finding.{AreChosen}
use Rattle.hx_audit.proofs.chosen.choose.Given as goal

-- the tokens so far are quiet, and their chains are chosen
abbrev pub invariant-loop-token : goal.invariant-loop-token
invariant-loop-token l =
    record {
      quiet : AllByRecursion (λ t. is_quiet l.market.market l.member t ≡ true) (take l.token-index l.tokens);
      chosen : AreChosen l.listing.uses.entries l.chosen.entries (take l.token-index l.tokens);
    }
