use Rattle.std.specs.Option.{IfSome}
use Rattle.hx_book.specs.declared.order.Terms.{Terms}
use Rattle.hx_book.specs.Book.{IsRanked}
use Rattle.hx_market_tests.proofs.tests.books.agree_by_rank.Given as goal

abbrev pub invariant-loop : goal.invariant-loop
invariant-loop g l =
    let terms : Terms = record { locate = l.locate; side = l.side; price = l.price } in
    record {
      first : IfSome l.a (λ key. IsRanked terms key.0 (g.A.Book.orders l.one));
      second : IfSome l.b (λ key. IsRanked terms key.0 (g.B.Book.orders l.two));
    }
