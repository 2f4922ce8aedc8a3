use Rattle.std.proofs.Common.{List, ap, ◌∙◌, subst, sym}
use Rattle.hx_book.specs.declared.order.Live.{Live}
use Rattle.hx_book.specs.Book.{lives}
use Rattle.hx_market_core.specs.OrderKeys.{AreKeyed}
use Rattle.hx_market_core.proofs.OrderKeys.{keyed_reduced, keyed_without}
use Rattle.hx_market_core.proofs.OrdersByToken.{has_found, lessened_reduced, lessened_without}
use Rattle.hx_market_core.proofs.commit.cancel.take_off.Goals as goal

pub reduce-requires-clause-live : goal.reduce-requires-clause-live
reduce-requires-clause-live g c = has_found c.args.effect.now.old.key.0 c.args.effect.now.old.order (g.B.Book.orders c.args.book.now) c.requires.only.found

pub remove-requires : goal.remove-requires
remove-requires g c = has_found c.args.effect.now.old.key.0 c.args.effect.now.old.order (g.B.Book.orders c.args.book.now) c.requires.only.found

pub returns-then-effect-clause-live : goal.returns-then-effect-clause-live
returns-then-effect-clause-live g c =
    let a = c.args.effect.now in
    ap lives c.reduce.ensures.orders ∙ lessened_reduced a.member a.token a.old.key.0 a.by a.old.order (g.B.Book.orders c.args.book.now) c.requires.only.only c.requires.only.found c.if-effect.true

pub returns-then-effect-clause-keyed : goal.returns-then-effect-clause-keyed
returns-then-effect-clause-keyed g c = λ t h.
    let a = c.args.effect.now in
    subst (λ (xs : List Live). AreKeyed t.tokens t.keys xs) (sym c.reduce.ensures.orders) (keyed_reduced t.tokens t.keys a.old.key.0 a.by (g.B.Book.orders c.args.book.now) h)

pub returns-else-effect-clause-live : goal.returns-else-effect-clause-live
returns-else-effect-clause-live g c =
    let a = c.args.effect.now in
    ap lives c.remove.ensures.orders ∙ lessened_without a.member a.token a.old.key.0 a.by a.old.order (g.B.Book.orders c.args.book.now) c.requires.only.only c.requires.only.found c.if-effect.false

pub returns-else-effect-clause-keyed : goal.returns-else-effect-clause-keyed
returns-else-effect-clause-keyed g c = λ t h.
    let a = c.args.effect.now in
    subst (λ (xs : List Live). AreKeyed t.tokens t.keys xs) (sym c.remove.ensures.orders) (keyed_without t.tokens t.keys a.old.key.0 (g.B.Book.orders c.args.book.now) h)
