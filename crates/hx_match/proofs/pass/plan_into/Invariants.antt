use Rattle.std.proofs.Common.{◌≡◌, ◌+◌, ◌++◌, length}
use Rattle.hx_book.specs.Book.{ranked, rest_after, IsWalk}
use Rattle.hx_match.specs.Matching.{terms}
use Rattle.hx_match.proofs.Steps.{shares_of}
use Rattle.hx_match.proofs.OnePass.{pass}
use Rattle.hx_match.proofs.pass.plan_into.Given as goal

-- the fills so far and those of what is left of the pass are those of the pass
abbrev pub invariant-walk : goal.invariant-walk
invariant-walk g l =
    let orders = g.B.Book.orders l.book in
    let line = ranked (terms l.incoming) orders in
    record {
      output : l.fills.items ++ pass l.incoming.minimum l.left (rest_after l.walk.after line) ≡ pass l.incoming.minimum l.incoming.shares line;
      total : l.left + shares_of l.fills.items ≡ l.incoming.shares;
      walk : IsWalk (terms l.incoming) l.incoming.minimum orders l.walk;
    }

abbrev pub decreases-walk : goal.decreases-walk
decreases-walk g l = length (rest_after l.walk.after (ranked (terms l.incoming) (g.B.Book.orders l.book)))
