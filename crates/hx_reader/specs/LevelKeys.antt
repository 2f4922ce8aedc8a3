-- The position of the orders of a book.
use Rattle.hx_itch.specs.declared.shown_order.ShownOrder.{ShownOrder}
use Rattle.hx_reader.specs.declared.levels.LevelKey.{LevelKey}

-- the level key of an order
abbrev pub level_key_of : ShownOrder → LevelKey
level_key_of x = record { locate = x.locate; side = x.side; price = x.price }
