use Rattle.std.proofs.Common.{◌≡◌, ◌+◌, ◌≤◌, List, drop, length, not, [], sym, ap, ◌∙◌, subst, arith}
use Rattle.std.proofs.lemmas.List.{drop_all}
use Rattle.std.specs.List.{filter}
use Rattle.hx_book.specs.declared.order.Live.{Live}
use Rattle.hx_book.specs.Book.{lives, KeysDiffer}
use Rattle.hx_book.proofs.Keys.{differ-dropped}
use Rattle.hx_market_core.specs.Effects.{is_due}
use Rattle.hx_market_core.specs.OrderKeys.{AreKeyed}
use Rattle.hx_market_core.proofs.OrderKeys.{keyed_without}
use Rattle.hx_market_core.proofs.RemovedOrders.{next_out, all_others, lives-filter}
use Rattle.hx_market_core.proofs.commit.expire.remove_ended.Goals as goal

pub remove-requires : goal.remove-requires
remove-requires g c =
    let a = c.args.effect.now in
    let items = c.deref-live-items.result.now in
    let rest : drop c.loop-live.live-index items ≡ filter (λ x. is_due a.due a.time x.order) (g.B.Book.orders c.loop-live.book) = ap (λ (l : List Live). drop c.loop-live.live-index l) c.deref-live-items.ensures.value ∙ c.loop-live.invariant.rest in
    (next_out (λ x. is_due a.due a.time x.order) items c.loop-live.live-index c.live-item.result (g.B.Book.orders c.loop-live.book) c.loop-live-test.true c.live-item.is c.loop-live.invariant.differ rest).has

pub loop-live-preserved : goal.loop-live-preserved
loop-live-preserved g c =
    let a = c.args.effect.now in
    let orders = g.B.Book.orders c.loop-live.book in
    let k = c.live-item.result.key.0 in
    let items = c.deref-live-items.result.now in
    let rest : drop c.loop-live.live-index items ≡ filter (λ x. is_due a.due a.time x.order) orders = ap (λ (l : List Live). drop c.loop-live.live-index l) c.deref-live-items.ensures.value ∙ c.loop-live.invariant.rest in
    let t = next_out (λ x. is_due a.due a.time x.order) items c.loop-live.live-index c.live-item.result orders c.loop-live-test.true c.live-item.is c.loop-live.invariant.differ rest in
    record {
      rest = ap (λ (l : List Live). drop (c.loop-live.live-index + 1) l) (sym c.deref-live-items.ensures.value) ∙ t.left ∙ ap (λ (l : List Live). filter (λ x. is_due a.due a.time x.order) l) (sym c.remove.ensures.orders);
      differ = subst KeysDiffer (sym c.remove.ensures.orders) (differ-dropped k orders c.loop-live.invariant.differ);
      others = ap (λ (l : List Live). filter (λ x. not (is_due a.due a.time x.order)) l) c.remove.ensures.orders ∙ t.others ∙ c.loop-live.invariant.others;
      keyed = λ s h. subst (λ (l : List Live). AreKeyed s.tokens s.keys l) (sym c.remove.ensures.orders) (keyed_without s.tokens s.keys k orders (c.loop-live.invariant.keyed s h));
    }

pub returns-clause-live : goal.returns-clause-live
returns-clause-live g c =
    let a = c.args.effect.now in
    let orders = g.B.Book.orders c.loop-live.book in
    let items = c.deref-live-items.result.now in
    let past : length items ≤ c.loop-live.live-index = let t = c.loop-live-test.false in omega arith in
    let none : [] ≡ filter (λ x. is_due a.due a.time x.order) orders = sym (drop_all c.loop-live.live-index items past) ∙ ap (λ (l : List Live). drop c.loop-live.live-index l) c.deref-live-items.ensures.value ∙ c.loop-live.invariant.rest in
    ap lives (sym (all_others (λ x. is_due a.due a.time x.order) orders none) ∙ c.loop-live.invariant.others)
    ∙ lives-filter (λ x. not (is_due a.due a.time x)) (g.B.Book.orders c.args.book.now)
