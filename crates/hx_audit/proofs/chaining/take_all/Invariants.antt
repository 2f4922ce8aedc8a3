use Rattle.std.proofs.Common.{◌≡◌}
use Rattle.hx_audit.specs.Listing.{uses_of, grouped}
use Rattle.hx_audit.proofs.Recorded.{Took}
use Rattle.hx_audit.proofs.chaining.take_all.Given as goal

abbrev pub invariant-loop-index : goal.invariant-loop-index
invariant-loop-index l =
    record {
      setup : l.market.setup ≡ l.fn.market.setup;
      took : Took l.fn.market.setup l.events l.index l.market.market;
      listed : l.listing.uses.entries ≡ uses_of l.market.market.tokens l.member;
      grouped : l.listing.chains.entries ≡ grouped l.listing.uses.entries;
    }
