use Rattle.hx_reader.specs.Tables.{book_in}
use Rattle.hx_reader.proofs.PriceLaws.{lowest_found, lowest_none, levels_of_offers, delivered_level, offers_forward}
use Rattle.hx_reader.proofs.depth.lowest_above.Goals as goal

pub first_between-requires : goal.first_between-requires
first_between-requires c = rw (c.offers_begin-from.ensures, c.offers_end-to.ensures) (offers_forward c.args.locate 83 c.args.over)

pub returns-in-Some-clause-price : goal.returns-in-Some-clause-price
returns-in-Some-clause-price c =
    let i = rw (c.offers_begin-from.ensures, c.offers_end-to.ensures) at c.in-Some.ensures.found in
    let m = rw (c.offers_begin-from.ensures, c.offers_end-to.ensures) at c.in-Some.ensures.least in
    rw c.delivered.ensures (lowest_found c.args.locate 83 c.args.over c.in-Some.level_key c.in-Some.level c.args.table.now.levels (book_in c.args.table.now) c.requires.levels i.0 i.1 m)

pub returns-in-Some-clause-level : goal.returns-in-Some-clause-level
returns-in-Some-clause-level c =
    let i = rw (c.offers_begin-from.ensures, c.offers_end-to.ensures) at c.in-Some.ensures.found in
    delivered_level c.args.locate 83 c.in-Some.level_key.price c.delivered.result c.in-Some.level (book_in c.args.table.now) c.delivered.ensures
    (levels_of_offers c.args.locate 83 c.args.over c.in-Some.level_key c.in-Some.level c.args.table.now.levels (book_in c.args.table.now) c.requires.levels i.0 i.1)

pub returns-in-None-clause-price : goal.returns-in-None-clause-price
returns-in-None-clause-price c =
    let n = rw (c.offers_begin-from.ensures, c.offers_end-to.ensures) at c.in-None.ensures.none in
    lowest_none c.args.locate 83 c.args.over c.args.table.now.levels (book_in c.args.table.now) c.requires.levels n
