use Rattle.hx_book.specs.Book.{IsWalk}
use Rattle.hx_market_tests.proofs.tests.books.agree_by_minimum.Given as goal

abbrev pub invariant-loop-i : goal.invariant-loop-i
invariant-loop-i g l = record {
  a : IsWalk l.terms l.minimum (g.A.Book.orders l.one) l.walk_a;
  b : IsWalk l.terms l.minimum (g.B.Book.orders l.two) l.walk_b;
}
