use Rattle.std.proofs.Common.{◌≡◌, ◌++◌, map}
use Rattle.hx_audit.specs.Listing.{output_chain}
use Rattle.hx_audit.specs.Finding.{AreOutput}
use Rattle.hx_audit.proofs.chaining.tell.Given as goal

-- the facts of the chains so far, and of the rest
abbrev pub invariant-loop-entered : goal.invariant-loop-entered
invariant-loop-entered l =
    record {
      next : (goal.iterator-loop-entered).can_next l.entered-iterator;
      finite : (goal.iterator-loop-entered).is_finite l.entered-iterator;
      output : AreOutput l.market.market l.member l.entered-iterator;
      so_far : l.chains.items ++ map (output_chain l.market.market.chains l.member) l.entered-iterator ≡ map (output_chain l.market.market.chains l.member) l.fn.groups.entries;
    }
