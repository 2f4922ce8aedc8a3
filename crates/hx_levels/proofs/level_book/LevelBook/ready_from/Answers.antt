use Rattle.std.proofs.Common.{◌≡◌, ℕ, not, Option, Some, List, sym, ap, ◌∙◌, subst}
use Rattle.std.specs.List.{find}
use Rattle.std.specs.Option.{IfSome, option_map}
use Rattle.hx_book.specs.declared.order.Key.{Key}
use Rattle.hx_book.specs.declared.order.Live.{Live}
use Rattle.hx_book.specs.declared.order.Terms.{Terms}
use Rattle.hx_book.specs.Book.{is_under, is_conditional, KeysDiffer, ranked, rest_after}
use Rattle.hx_levels.specs.LevelBook.{number_in, unconditional}
use Rattle.hx_levels.specs.Walks.{is_from, IsNextLarge}
use Rattle.hx_book.proofs.Lists.{find-filter}
use Rattle.hx_book.proofs.Orders.{once_under}
use Rattle.hx_levels.proofs.Parts.{differ-filtered}
use Rattle.hx_book.proofs.Qualifying.{Met, met, walk-shorter, has_found}
use Rattle.hx_levels.proofs.LargeNext.{small_fails, large_here, large_later, large_never}
use Rattle.hx_levels.proofs.level_book.LevelBook.ready_from.Goals as goal

-- the order that the walk has come to
here : (terms : Terms) (last : Option Key) (key : Key) (least : ℕ) (orders : List Live) (result : Option Key) → KeysDiffer orders → result ≡ Some key
    → (next : IsNextLarge last least (ranked terms (unconditional orders)) result) → Met terms last next.test key (unconditional orders)
here terms last key least orders result d is next =
    met terms last next.test key (unconditional orders) (differ-filtered (λ y. not (is_conditional y.order)) orders d) (sym is ∙ next.next)

-- it stands in the book
in_book : (key : Key) (orders : List Live) (live : Live) → KeysDiffer orders → find (is_under key.0) (unconditional orders) ≡ Some live → find (is_under key.0) orders ≡ Some live
in_book key orders live d f = find-filter (λ y. not (is_conditional y.order)) (is_under key.0) orders live (once_under key.0 orders d) f

pub is_from-requires : goal.is_from-requires
is_from-requires c =
    let orders = c.args.self.now.orders in
    let d = c.next_large.ensures.keys in
    let m = here c.args.terms.now c.walk.last c.in-Some.key c.args.least orders c.next_large.result d c.in-Some.is c.next_large.ensures.next in
    has_found c.in-Some.key.0 m.live orders (in_book c.in-Some.key orders m.live d m.found)

pub returns-then-is_from : goal.returns-then-is_from
returns-then-is_from c =
    let orders = c.args.self.now.orders in
    let d = c.next_large.ensures.keys in
    let test = is_from (number_in c.args.self.now.linked_orders) c.args.from c.args.least in
    let n = c.next_large.ensures.next in
    let m = here c.args.terms.now c.walk.last c.in-Some.key c.args.least orders c.next_large.result d c.in-Some.is n in
    let fails = small_fails (number_in c.args.self.now.linked_orders) c.args.from c.args.least n.test (rest_after c.walk.last (ranked c.args.terms.now (unconditional orders))) n.small in
    let e : c.is_from.result ≡ test m.live = subst (λ o. IfSome o (λ live. c.is_from.result ≡ test live)) (in_book c.in-Some.key orders m.live d m.found) c.is_from.ensures in
    ap (λ (k : Key). Some k) (sym m.has)
    ∙ ap (option_map (λ (live : Live). live.key)) (sym (large_here c.args.terms.now c.walk.last c.in-Some.key (unconditional orders) n.test test m fails (sym e ∙ c.if-is_from.true)) ∙ c.walk.invariant.ahead)

pub walk-smaller : goal.walk-smaller
walk-smaller c =
    walk-shorter c.args.terms.now c.walk.last c.next_large.ensures.next.test c.in-Some.key (unconditional c.args.self.now.orders)
    (here c.args.terms.now c.walk.last c.in-Some.key c.args.least c.args.self.now.orders c.next_large.result c.next_large.ensures.keys c.in-Some.is c.next_large.ensures.next)

pub walk-preserved : goal.walk-preserved
walk-preserved c =
    let orders = c.args.self.now.orders in
    let d = c.next_large.ensures.keys in
    let test = is_from (number_in c.args.self.now.linked_orders) c.args.from c.args.least in
    let n = c.next_large.ensures.next in
    let m = here c.args.terms.now c.walk.last c.in-Some.key c.args.least orders c.next_large.result d c.in-Some.is n in
    let fails = small_fails (number_in c.args.self.now.linked_orders) c.args.from c.args.least n.test (rest_after c.walk.last (ranked c.args.terms.now (unconditional orders))) n.small in
    let e : c.is_from.result ≡ test m.live = subst (λ o. IfSome o (λ live. c.is_from.result ≡ test live)) (in_book c.in-Some.key orders m.live d m.found) c.is_from.ensures in
    record {
      ahead = large_later c.args.terms.now c.walk.last c.in-Some.key (unconditional orders) n.test test m fails (sym e ∙ c.if-is_from.false) ∙ c.walk.invariant.ahead;
      live = m.is_ranked;
    }

pub returns : goal.returns
returns c =
    let test = is_from (number_in c.args.self.now.linked_orders) c.args.from c.args.least in
    let n = c.next_large.ensures.next in
    let rest = rest_after c.walk.last (ranked c.args.terms.now (unconditional c.args.self.now.orders)) in
    ap (option_map (λ (live : Live). live.key))
    (sym (large_never n.test test rest (sym c.in_default.is ∙ n.next) (small_fails (number_in c.args.self.now.linked_orders) c.args.from c.args.least n.test rest n.small)) ∙ c.walk.invariant.ahead)
