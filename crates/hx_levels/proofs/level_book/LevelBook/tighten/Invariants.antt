use Rattle.std.proofs.Common.{◌≡◌}
use Rattle.hx_levels.proofs.level_book.LevelBook.tighten.Given as goal

abbrev pub invariant-levels : goal.invariant-levels
invariant-levels l = record {
  orders : l.self.orders ≡ l.fn.self.orders;
  reserved : l.self.reserved ≡ l.fn.self.reserved;
}
