use Rattle.std.proofs.Common.{◌≡◌, true, subst, arith, rules}
use Rattle.hx_book.specs.declared.order.Live.{Live}
use Rattle.hx_book.specs.Book.{is_under}
use Rattle.hx_book.proofs.Indices.{stands, none_stands}
use Rattle.hx_book.proofs.list_book.index_of.Goals as goal

pub returns-then-live-key : goal.returns-then-live-key
returns-then-live-key c =
    stands c.args.key.0 c.index-entries-i.result c.args.entries.now c.loop-i.i c.loop-i-test.true
    (let P : Live → Type 0 = λ x. is_under c.args.key.0 x ≡ true in subst P c.index-entries-i.is (search rules))
    (λ k l. c.loop-i.invariant k c.index-entries-i.result l)

pub returns : goal.returns
returns c = none_stands c.args.key.0 c.args.entries.now (λ k d l. c.loop-i.invariant k d (omega arith))
