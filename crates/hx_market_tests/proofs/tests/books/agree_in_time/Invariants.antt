use Rattle.std.proofs.Common.{◌≡◌, true}
use Rattle.std.specs.Option.{IfSome}
use Rattle.hx_book.specs.Book.{has_key}
use Rattle.hx_market_tests.proofs.tests.books.agree_in_time.Given as goal

abbrev pub invariant-loop : goal.invariant-loop
invariant-loop g l = record {
  a : IfSome l.a (λ key. has_key key.0 (g.A.Book.orders l.one) ≡ true);
  b : IfSome l.b (λ key. has_key key.0 (g.B.Book.orders l.two) ≡ true);
}
