use Rattle.std.proofs.Common.{◌≡◌, ◌++◌, ◌∷◌, [], List, Bool, true, ◌&&◌, nat_lt, if◌then◌else◌, length, map, refl, sym, ap, ◌∙◌, subst}
use Rattle.hx_book.specs.declared.order.Order.{Order}
use Rattle.std.specs.Global.{Vec}
use Rattle.std.proofs.lemmas.List.{append_assoc}
use Rattle.hx_book.specs.Book.{lives, without}
use Rattle.hx_members.specs.Chains.{is_used, index_of}
use Rattle.hx_refs.specs.Numbers.{Numbers}
use Rattle.hx_itch.specs.declared.message.Feed.{Feed}
use Rattle.hx_match.specs.Matching.{Execution, matched}
use Rattle.hx_rules.specs.Markets.{Market}
use Rattle.hx_rules.specs.Orders.{is_immediate, is_shown}
use Rattle.hx_rules.specs.Outputs.{Reply, EventOutput}
use Rattle.hx_rules.specs.Executions.{Arrival, feed_of_executions, published, shown_of}
use Rattle.hx_rules.specs.Enter.{next_reference, after_draw, drawn}
use Rattle.hx_rules.specs.Removal.{deleted}
use Rattle.hx_rules.specs.Replace.{handed_over, replaced_of, is_one_display}
use Rattle.hx_market_core.specs.declared.commit.execute.Arriving.{Arriving}
use Rattle.hx_market_core.specs.Arrivals.{CanArrive, arrive_in, output_of_arrival, replacing}
use Rattle.hx_market_core.specs.Effects.{replacement_order, output_in_one, incoming_of_replacement, open_shares}
use Rattle.hx_market_core.specs.MarketModel.{MarketState, listed, market_of}
use Rattle.hx_market_core.specs.OrderKeys.{AreBefore}
use Rattle.hx_market_core.proofs.Arrivals.{can_come}
use Rattle.hx_day.proofs.AfterEnter.{draws}
use Rattle.hx_market_core.proofs.Plans.{length-done}
use Rattle.hx_market_core.proofs.Replacements.{output_after, none_done}
use Rattle.hx_market_core.proofs.commit.replace.replace.Goals as goal

pub arrive-resting-requires-clause-ready : goal.arrive-resting-requires-clause-ready
arrive-resting-requires-clause-ready g c =
    let a = c.args.effect.now in
    let s : MarketState = c.args.state.now in
    let h : MarketState = c.hand_over.new.state in
    let e = c.hand_over.ensures in
    let fills = c.args.fills.now in
    let token = a.replace.replacement_token in
    let imm : Bool = is_immediate a.replace.time_in_force in
    let k : Numbers = c.draw-reference.new.refs in
    let m : Market = handed_over s.market a.member a.replace.existing_token token in
    let Y : Order = replacement_order c.draw-reference.result a in
    let now : MarketState → MarketState = λ v. record v { market = record v.market { numbers = k } } in
    let live : h.market.live ≡ lives h.orders = subst (λ (v : MarketState). v.market.live ≡ lives v.orders) c.state.view_is refl in
    let come = can_come s a fills c.args.left c.draw-reference.result k h.orders h.reserved_token c.requires.ready e.orders
    (sym live ∙ ap (λ (z : Market). z.live) e.market)
    (subst (λ (z : Market). is_used z.tokens a.member token ≡ true) e.market e.used)
    (subst (λ (z : Market). AreBefore z.tokens (index_of z.tokens a.member token) h.orders) e.market e.before)
    (ap (λ (n : Numbers). n.matches) c.draw-reference.ensures.drawn ∙ (draws c.state.inside.refs a.member c.is_shown-shown.result).1
    ∙ ap (λ (v : MarketState). v.market.numbers.matches) c.state.view_is ∙ ap (λ (z : Market). z.numbers.matches) e.market) in
    subst (λ (v : MarketState). CanArrive (now v) c.arriving_of-arriving.result.order c.arriving_of-arriving.result.immediate fills c.args.left) (sym c.state.view_is)
    (subst (λ (y : Arriving). CanArrive (now h) y.order y.immediate fills c.args.left) (sym c.arriving_of-arriving.ensures)
    (subst (λ (z : Market). CanArrive (record h { market = record z { numbers = k } }) Y imm fills c.args.left) (sym e.market)
    (subst (λ p. CanArrive (record h { market = record m { numbers = k }; reserved = p }) Y imm fills c.args.left) (sym e.reserved)
    (subst (λ n. CanArrive (record h { market = record m { numbers = k }; reserved = s.reserved; room = n }) Y imm fills c.args.left) (sym e.room) come))))

pub returns-clause-output : goal.returns-clause-output
returns-clause-output g c =
    let a = c.args.effect.now in
    let s : MarketState = c.args.state.now in
    let h : MarketState = c.hand_over.new.state in
    let v = c.state.inside in
    let fills = c.args.fills.now in
    let token = a.replace.replacement_token in
    let shown : Bool = is_shown a.replace.display a.replace.time_in_force in
    let D : Market = drawn (handed_over s.market a.member a.replace.existing_token token) a.member shown in
    let Y : Arriving = replacing (next_reference s.market.numbers a.member shown) a in
    let A : Arrival = arrive_in D Y in
    let M : Market = market_of (g.B.Book.orders v.book) v.tokens c.draw-reference.new.refs v.phase v.recorded v.trading in
    let y : Arriving = c.arriving_of-arriving.result in
    let is_m : M ≡ D =
    ap (λ (n : Numbers). market_of (g.B.Book.orders v.book) v.tokens n v.phase v.recorded v.trading) (c.draw-reference.ensures.drawn ∙ ap (after_draw v.refs a.member) c.is_shown-shown.ensures)
    ∙ ap (λ (w : MarketState). drawn w.market a.member shown) c.state.view_is
    ∙ ap (λ (m : Market). drawn m a.member shown) c.hand_over.ensures.market in
    let is_y : y ≡ Y =
    c.arriving_of-arriving.ensures
    ∙ ap (λ r. replacing r a)
    (c.draw-reference.ensures.value ∙ ap (next_reference v.refs a.member) c.is_shown-shown.ensures
    ∙ ap (λ (w : MarketState). next_reference w.market.numbers a.member shown) c.state.view_is
    ∙ ap (λ (m : Market). next_reference m.numbers a.member shown) c.hand_over.ensures.market) in
    let output : output_of_arrival M y ≡ output_of_arrival D Y = ap (λ (m : Market). output_of_arrival m y) is_m ∙ ap (output_of_arrival D) is_y in
    let rests : listed c.arrive-resting.result ≡ A.resting = c.arrive-resting.ensures.rests ∙ ap (λ (m : Market). (arrive_in m y).resting) is_m ∙ ap (λ (z : Arriving). (arrive_in D z).resting) is_y in
    let live : lives (without a.old.key.0 s.orders) ≡ D.live =
    ap lives (sym c.hand_over.ensures.orders) ∙ sym (subst (λ (w : MarketState). w.market.live ≡ lives w.orders) c.state.view_is refl) ∙ ap (λ (m : Market). m.live) c.hand_over.ensures.market in
    let p = c.requires.ready.indices.2 in
    let len : length fills ≡ length A.executions =
    sym (length-done fills (without a.old.key.0 s.orders) p.good)
    ∙ ap (λ (es : List Execution). length es) (p.done ∙ ap (λ (xs : List Order). (matched (incoming_of_replacement a) (open_shares a) xs).fills) live) in
    let in_one : Bool = is_one_display a.old.order Y.order && nat_lt (length A.executions) 1 in
    let one : c.tells_in_one-in_one.result ≡ in_one = c.tells_in_one-in_one.ensures ∙ ap (λ n. is_one_display a.old.order Y.order && nat_lt n 1) len in
    let U : Order → List Feed = λ (o : Order). output_in_one a.time a.old.order o ∷ [] in
    let gone : Bool → List Feed = λ b. if b then [] else deleted a.time a.old.order in
    let new : List Order → List Feed = λ xs. map (published a.time a.stock) (shown_of xs) in
    let E : List Feed = feed_of_executions a.time a.stock s.market.numbers.matches A.executions in
    let feed : List Feed = c.args.out.now.feed.items in
    let replies : List Reply = c.args.out.now.replies.items in
    let done : c.arrive-resting.new.out.feed.items ≡ (feed ++ gone in_one) ++ E =
    c.arrive-resting.ensures.output.feed
    ∙ ap (λ (l : List Feed). l ++ (output_of_arrival M y).feed) (c.tell_old.ensures.feed ∙ ap (λ b. feed ++ gone b) one)
    ∙ ap (λ (t : EventOutput). (feed ++ gone in_one) ++ t.feed) output
    ∙ ap (λ n. (feed ++ gone in_one) ++ feed_of_executions a.time a.stock n A.executions) (draws s.market.numbers a.member shown).1 in
    let first : c.tell_old.new.out.replies.items ≡ replies ++ replaced_of a.member a.time a.stock a.replace Y.order ∷ [] =
    ap (λ (z : Vec Reply). z.items) c.tell_old.ensures.replies ∙ c.push_reserved.ensures.items
    ∙ ap (λ (r : Reply). replies ++ r ∷ []) (c.replaced.ensures ∙ ap (λ (z : Arriving). replaced_of a.member a.time a.stock a.replace z.order) is_y) in
    record {
      feed = c.tell_new.ensures.feed
          ∙ ap (λ (l : List Feed). l ++ (if c.tells_in_one-in_one.result then U y.order else new (listed c.arrive-resting.result))) done
          ∙ ap (λ b. ((feed ++ gone in_one) ++ E) ++ (if b then U y.order else new (listed c.arrive-resting.result))) one
          ∙ ap (λ (z : Arriving). ((feed ++ gone in_one) ++ E) ++ (if in_one then U z.order else new (listed c.arrive-resting.result))) is_y
          ∙ ap (λ (xs : List Order). ((feed ++ gone in_one) ++ E) ++ (if in_one then U Y.order else new xs)) rests
          ∙ output_after feed in_one (U Y.order) (deleted a.time a.old.order) E (new A.resting) (none_done a.time a.stock s.market.numbers.matches A.executions (is_one_display a.old.order Y.order));
      replies = c.tell_new.ensures.replies ∙ c.arrive-resting.ensures.output.replies
          ∙ ap (λ (l : List Reply). l ++ (output_of_arrival M y).replies) first
          ∙ ap (λ (t : EventOutput). (replies ++ replaced_of a.member a.time a.stock a.replace Y.order ∷ []) ++ t.replies) output
          ∙ append_assoc replies (replaced_of a.member a.time a.stock a.replace Y.order ∷ []) A.replies;
    }
