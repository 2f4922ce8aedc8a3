use Rattle.std.proofs.Common.{◌≡◌, true, sym, ap, ◌∙◌, subst}
use Rattle.std.specs.Option.{IfSome}
use Rattle.hx_book.specs.Book.{has_key}
use Rattle.hx_levels.specs.LevelBook.{number_in}
use Rattle.hx_levels.specs.Walks.{rank_until}
use Rattle.hx_levels.proofs.Walks.{here_found}
use Rattle.hx_levels.proofs.level_book.LevelBook.rank_until.Goals as goal

pub returns-in-Some-clause-rank : goal.returns-in-Some-clause-rank
returns-in-Some-clause-rank c =
    here_found (number_in c.args.self.now.linked_orders) c.in-Some.key.0 c.rank.result c.args.self.now.orders (subst (λ o. IfSome o (λ key. has_key key.0 c.args.self.now.orders ≡ true)) c.in-Some.is c.requires) c.rank.ensures.exact
    ∙ ap (λ o. rank_until (number_in c.args.self.now.linked_orders) c.args.terms.now o c.args.self.now.orders) (sym c.in-Some.is)
