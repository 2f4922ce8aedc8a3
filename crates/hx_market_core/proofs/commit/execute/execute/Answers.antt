use Rattle.std.proofs.Common.{◌≡◌, ℕ, ◌<◌, List, ◌∷◌, drop, length, get_or, Some, Option, sym, ap, ◌∙◌, subst, suc, false, drop-cons, rules}
use Rattle.hx_book.specs.declared.order.Order.{Order}
use Rattle.hx_book.specs.declared.order.Live.{Live}
use Rattle.hx_book.specs.Book.{order_of}
use Rattle.hx_match.specs.declared.fills.Fill.{Fill}
use Rattle.hx_match.specs.Executing.{done_by, done_with, AreGood}
use Rattle.hx_members.specs.Chains.{Used, Chain, IsChainAt, noted_at}
use Rattle.hx_day.specs.Bounds.{CanNote, CanNoteAll}
use Rattle.hx_market_core.specs.MarketModel.{MarketState}
use Rattle.hx_market_core.proofs.OrderKeys.{keyed_left}
use Rattle.hx_market_core.proofs.commit.execute.execute.Goals as goal

-- both chains of the next execution can count it
next_notes : (ts : List Used) (chain : ℕ) (fills : List Fill) (i : ℕ) (f : Fill) (orders : List Live) (cs : List Chain) (x : Order) → i < length fills → f ≡ get_or fills i f → order_of f.key.0 orders ≡ Some x
    → CanNoteAll ts chain (done_by (drop i fills) orders) cs → CanNote ts x.chain f.shares cs × CanNote ts chain f.shares (noted_at ts x.chain f.shares false cs)
next_notes ts chain fills i f orders cs x l e was h =
    let d : drop i fills ≡ f ∷ drop (suc i) fills = drop-cons fills i f l ∙ ap (λ (z : Fill). z ∷ drop (suc i) fills) (sym e) in
    let k : CanNoteAll ts chain (done_by (f ∷ drop (suc i) fills) orders) cs = subst (λ (fs : List Fill). CanNoteAll ts chain (done_by fs orders) cs) d h in
    let n = subst (λ (o : Option Order). CanNoteAll ts chain (done_with (done_by (drop (suc i) fills)) f orders o) cs) was k in (n.0, n.1)

pub loop-fill-init : goal.loop-fill-init
loop-fill-init g c =
    let s = c.state.inside in
    let fills = c.args.fills.now in
    let chain = c.args.arriving.now.order.chain in
    let xs = g.B.Book.orders s.book in
    let good : AreGood fills xs = subst (λ (v : MarketState). AreGood fills v.orders) (sym c.state.view_is) c.requires.good in
    let notes : CanNoteAll s.tokens.tokens chain (done_by fills xs) s.tokens.chains = subst (λ (v : MarketState). CanNoteAll v.market.tokens chain (done_by fills v.orders) v.market.chains) (sym c.state.view_is) c.requires.notes in
    let keyed = keyed_left s.tokens.tokens s.tokens.keys fills xs c.state.invariant in
    rw (← c.state.view_is) (search (rules, good, notes, keyed))

pub note-requires-clause-there : goal.note-requires-clause-there
note-requires-clause-there g c =
    let i = c.loop-fill.invariant in
    let s = c.loop-fill.state-inside in
    let n = next_notes c.args.state.now.market.tokens c.args.arriving.now.order.chain c.args.fills.now c.loop-fill.fill-index c.fill-item.result (g.B.Book.orders s.book) s.tokens.chains c.take-order.result c.loop-fill-test.true c.fill-item.is c.take-order.ensures.was i.notes in
    subst (λ (ts : List Used). IsChainAt ts c.take-order.result.chain) (sym i.tokens) n.0.there

pub note-requires-in-loop-fill-clause-there : goal.note-requires-in-loop-fill-clause-there
note-requires-in-loop-fill-clause-there g c =
    let i = c.loop-fill.invariant in
    let s = c.loop-fill.state-inside in
    let n = next_notes c.args.state.now.market.tokens c.args.arriving.now.order.chain c.args.fills.now c.loop-fill.fill-index c.fill-item.result (g.B.Book.orders s.book) s.tokens.chains c.take-order.result c.loop-fill-test.true c.fill-item.is c.take-order.ensures.was i.notes in
    subst (λ (ts : List Used). IsChainAt ts c.args.arriving.now.order.chain) (sym (c.note.ensures.tokens ∙ i.tokens)) n.1.there
