use Rattle.hx_reader.specs.Tables.{book_in}
use Rattle.hx_reader.proofs.PriceLaws.{highest_found, highest_none, levels_of, delivered_level, bids_forward}
use Rattle.hx_reader.proofs.depth.highest_below.Goals as goal

pub last_between-requires : goal.last_between-requires
last_between-requires c = rw (c.bids_begin-from.ensures, c.bids_end-to.ensures) (bids_forward c.args.locate 66 c.args.under)

pub returns-in-Some-clause-price : goal.returns-in-Some-clause-price
returns-in-Some-clause-price c =
    let i = rw (c.bids_begin-from.ensures, c.bids_end-to.ensures) at c.in-Some.ensures.found in
    let m = rw (c.bids_begin-from.ensures, c.bids_end-to.ensures) at c.in-Some.ensures.greatest in
    rw c.delivered.ensures (highest_found c.args.locate 66 c.args.under c.in-Some.level_key c.in-Some.level c.args.table.now.levels (book_in c.args.table.now) c.requires.levels i.0 i.1 m)

pub returns-in-Some-clause-level : goal.returns-in-Some-clause-level
returns-in-Some-clause-level c =
    let i = rw (c.bids_begin-from.ensures, c.bids_end-to.ensures) at c.in-Some.ensures.found in
    delivered_level c.args.locate 66 c.in-Some.level_key.price c.delivered.result c.in-Some.level (book_in c.args.table.now) c.delivered.ensures
    (levels_of c.args.locate 66 c.args.under c.in-Some.level_key c.in-Some.level c.args.table.now.levels (book_in c.args.table.now) c.requires.levels i.0 i.1)

pub returns-in-None-clause-price : goal.returns-in-None-clause-price
returns-in-None-clause-price c =
    let n = rw (c.bids_begin-from.ensures, c.bids_end-to.ensures) at c.in-None.ensures.none in
    highest_none c.args.locate 66 c.args.under c.args.table.now.levels (book_in c.args.table.now) c.requires.levels n
