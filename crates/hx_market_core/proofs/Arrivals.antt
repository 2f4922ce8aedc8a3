-- An order that arrives: it can, and what its fills do is what the definition says.
use Rattle.std.proofs.Common.{◌≡◌, ℕ, ◌+◌, ◌++◌, ◌∷◌, [], List, Option, Bool, true, false, if◌then◌else◌, length, refl, sym, ap, ◌∙◌, subst, arith, append-nil}
use Rattle.hx_units.specs.declared.names.Token.{Token}
use Rattle.hx_book.specs.declared.order.Order.{Order}
use Rattle.hx_book.specs.declared.order.Live.{Live}
use Rattle.hx_book.specs.declared.order.Terms.{Terms}
use Rattle.hx_book.specs.Book.{lives, without}
use Rattle.hx_match.specs.declared.fills.Fill.{Fill}
use Rattle.hx_match.specs.Matching.{Execution, Matched, matched}
use Rattle.hx_match.specs.Executing.{done_by, left_by}
use Rattle.hx_match.specs.Rules.{AreFills}
use Rattle.hx_members.specs.Chains.{Used, Chain, is_used, index_of, entered_of, entered_used, entered_chain, note, IsEnteredAt}
use Rattle.hx_members.specs.Tokens.{TokenList}
use Rattle.hx_members.specs.Name.{Name}
use Rattle.hx_refs.specs.Numbers.{Numbers}
use Rattle.hx_day.specs.Day.{TradingState}
use Rattle.hx_rules.specs.declared.matches.Match.{Match}
use Rattle.hx_rules.specs.Markets.{Market}
use Rattle.hx_rules.specs.Orders.{is_immediate}
use Rattle.hx_rules.specs.Executions.{incoming_of, resting_of, displays, chains_after, matches_of}
use Rattle.hx_rules.specs.Replace.{handed_over}
use Rattle.hx_market_core.specs.declared.effect.AcceptedEnter.{AcceptedEnter}
use Rattle.hx_market_core.specs.declared.effect.Replacement.{Replacement}
use Rattle.hx_market_core.specs.declared.effect.Effect.TheVariants.{Accept, Replace}
use Rattle.hx_market_core.specs.declared.commit.execute.Arriving.{Arriving}
use Rattle.hx_market_core.specs.Arrivals.{CanArrive, CanRest, arrive_in, filled}
use Rattle.hx_day.specs.Bounds.{CanNote, CanNoteAll, chains_by, noted_if}
use Rattle.hx_market_core.specs.Effects.{order_of_enter, replacement_order, incoming_of_enter, incoming_of_replacement, open_shares}
use Rattle.hx_market_core.specs.MarketModel.{MarketState, market_state_of}
use Rattle.hx_market_core.specs.OrderKeys.{AreKeyed, AreBefore}
use Rattle.hx_market_core.specs.Prepared.{CanCommit}
use Rattle.hx_day.proofs.ChainShares.{noted-index}
use Rattle.hx_day.proofs.UsedTokens.{used-last, same-name}
use Rattle.hx_market_core.proofs.OrderKeys.{before_left, before_new}
use Rattle.hx_market_core.proofs.Plans.{length-done}

-- the market by its parts
pub whole : (xs ys : List Order) (ts us : List Used) (cs ds : List Chain) (n k : Numbers) (phase : ℕ) (hs is : List Bool) (es fs : List Match) (rs : List ℕ) → xs ≡ ys → ts ≡ us → cs ≡ ds → n ≡ k → hs ≡ is → es ≡ fs
    → (let m : Market = record { live = xs; tokens = ts; chains = cs; numbers = n; phase = phase; halted = hs; executions = es; recorded = rs } in m) ≡ (let m : Market = record { live = ys; tokens = us; chains = ds; numbers = k; phase = phase; halted = is; executions = fs; recorded = rs } in m)
whole xs ys ts us cs ds n k phase hs is es fs rs l t c e h x = cc

-- the market in which that much rests: one order of this chain or none
abbrev pub resting_in : Market → ℕ → List Order → Market
resting_in m chain xs = record m { live = m.live ++ xs; chains = noted_if (displays xs) m.tokens chain m.chains }

pub none_rests : (m : Market) (chain : ℕ) → resting_in m chain [] ≡ m
none_rests m chain = ap (λ (xs : List Order). record m { live = xs }) (append-nil m.live)

module _ (s : MarketState) (a : Arriving) (fills : List Fill) (left : ℕ) (h : CanArrive s a.order a.immediate fills left) where
  -- the fills are what is matched of the market's orders
  pub matched_by : done_by fills s.orders ≡ (arrive_in s.market a).executions
  matched_by = h.planned.done ∙ ap (λ (xs : List Order). (matched (incoming_of a.order) a.order.shares xs).fills) (sym h.live)

  pub left_is : left ≡ (matched (incoming_of a.order) a.order.shares s.market.live).left
  left_is = h.planned.remains ∙ ap (λ (xs : List Order). (matched (incoming_of a.order) a.order.shares xs).left) (sym h.live)

  -- what the fills do, and what then rests, is what the order's arrival does
  pub landed : resting_in (filled s a fills) a.order.chain (resting_of a.order a.immediate left) ≡ (arrive_in s.market a).market
  landed =
      let x : Order = a.order in
      let ts : List Used = s.market.tokens in
      let m : Matched = matched (incoming_of x) x.shares s.market.live in
      let en : Token = entered_of ts x.member x.token in
      let after : List Chain = chains_after ts x.member en m.fills s.market.chains in
      let done : List Execution = done_by fills s.orders in
      let rest : lives (left_by fills s.orders) ≡ m.rest = h.planned.rest ∙ ap (λ (xs : List Order). (matched (incoming_of x) x.shares xs).rest) (sym h.live) in
      let len : length fills ≡ length m.fills = sym (length-done fills s.orders h.planned.good) ∙ ap (λ (es : List Execution). length es) matched_by in
      whole (lives (left_by fills s.orders) ++ resting_of x a.immediate left) (m.rest ++ resting_of x a.immediate m.left) ts ts
      (noted_if (displays (resting_of x a.immediate left)) ts x.chain (chains_by ts x.chain done s.market.chains)) (if displays (resting_of x a.immediate m.left) then note x.member en 0 true after else after)
      (record s.market.numbers { matches = s.market.numbers.matches + length fills }) (record s.market.numbers { matches = s.market.numbers.matches + length m.fills }) s.market.phase s.market.halted s.market.halted
      (s.market.executions ++ matches_of x.member x.token done) (s.market.executions ++ matches_of x.member x.token m.fills) s.market.recorded
      (ap (λ (z : List Order). z ++ resting_of x a.immediate left) rest ∙ ap (λ z. m.rest ++ resting_of x a.immediate z) left_is)
      refl
      (ap (λ (z : List Chain). noted_if (displays (resting_of x a.immediate left)) ts x.chain z) (h.same ∙ ap (λ (z : List Execution). chains_after ts x.member en z s.market.chains) matched_by)
      ∙ ap (λ z. noted_if (displays (resting_of x a.immediate z)) ts x.chain after) left_is
      ∙ ap (λ (z : List Chain). if displays (resting_of x a.immediate m.left) then z else after) (noted-index ts x.member en x.chain 0 true after h.at))
      (ap (λ z. record s.market.numbers { matches = s.market.numbers.matches + z }) len)
      refl
      (ap (λ (z : List Execution). s.market.executions ++ matches_of x.member x.token z) matched_by)

  -- what is left of the order can rest, once the fills are carried out
  pub can_rest : a.immediate ≡ false → (v : MarketState) → v.market ≡ filled s a fills → v.orders ≡ left_by fills s.orders → v.reserved ≡ s.reserved → CanRest v a.order
  can_rest later v m o p =
      let x : Order = a.order in
      record {
        reserved = p ∙ h.reserved later;
        used = subst (λ (z : Market). is_used z.tokens x.member x.token ≡ true) (sym m) h.used;
        before = subst (λ (z : Market). AreBefore z.tokens (index_of z.tokens x.member x.token) v.orders) (sym m)
            (subst (λ (xs : List Live). AreBefore s.market.tokens (index_of s.market.tokens x.member x.token) xs) (sym o) (before_left s.market.tokens (index_of s.market.tokens x.member x.token) fills s.orders h.before));
        own = subst (λ (z : Market). CanNote z.tokens x.chain 0 z.chains) (sym m) h.own;
      }

-- an order that is entered can arrive
pub can_enter : (orders : List Live) (reserved : Option Terms) (t : TokenList) (n : Numbers) (phase : ℕ) (rs : List ℕ) (r : TradingState) (a : AcceptedEnter) (fills : List Fill) (left reference : ℕ)
    → AreKeyed t.tokens t.keys orders → CanCommit (market_state_of orders reserved t n phase rs r) fills left (Accept a)
    → (u : TokenList) (k : Numbers) → u.tokens ≡ t.tokens ++ entered_used a.member a.enter.token ∷ [] → u.chains ≡ t.chains ++ entered_chain a.member a.enter.token ∷ [] → k.matches ≡ n.matches
    → CanArrive (market_state_of orders reserved u k phase rs r) (order_of_enter (length t.tokens) reference a) (is_immediate a.enter.time_in_force) fills left
can_enter orders reserved t n phase rs r a fills left reference keyed h u k ut uc km =
    let v : Used = entered_used a.member a.enter.token in
    let ts : List Used = t.tokens ++ v ∷ [] in
    let cs : List Chain = t.chains ++ entered_chain a.member a.enter.token ∷ [] in
    let en : Token = entered_of ts a.member a.enter.token in
    let i : ℕ = length t.tokens in
    let p = h.indices.2 in
    let f = h.fits in
    let len : length fills ≡ length (matched (incoming_of_enter a) a.enter.shares (lives orders)).fills = sym (length-done fills orders p.good) ∙ ap (λ (z : List Execution). length z) p.done in
    subst (λ (us : List Used). CanArrive (market_state_of orders reserved (record u { tokens = us }) k phase rs r) (order_of_enter i reference a) (is_immediate a.enter.time_in_force) fills left) (sym ut)
    (subst (λ (ds : List Chain). CanArrive (market_state_of orders reserved (record u { tokens = ts; chains = ds }) k phase rs r) (order_of_enter i reference a) (is_immediate a.enter.time_in_force) fills left) (sym uc)
    (record {
      live = refl;
      planned = p;
      reserved = h.indices.1;
      used = used-last t.tokens a.member a.enter.token a.enter.token;
      before = before_new t.tokens t.keys v orders keyed h.suits;
      room = h.room;
      matches = (let b = f.matches in omega arith);
      notes = subst (λ (es : List Execution). CanNoteAll ts i es cs) (sym p.done) f.notes;
      own = subst (λ (es : List Execution). CanNote ts i 0 (chains_by ts i es cs)) (sym p.done) f.own;
      at = f.at;
      same = subst (λ (es : List Execution). chains_by ts i es cs ≡ chains_after ts a.member en es cs) (sym p.done) f.same;
    }))

-- an order that replaces another can arrive, once the old one is gone
pub can_come : (s : MarketState) (a : Replacement) (fills : List Fill) (left reference : ℕ) (k : Numbers) (os : List Live) (name : Option Name) → CanCommit s fills left (Replace a)
    → (let m : Market = handed_over s.market a.member a.replace.existing_token a.replace.replacement_token in
    os ≡ without a.old.key.0 s.orders → lives os ≡ m.live → is_used m.tokens a.member a.replace.replacement_token ≡ true → AreBefore m.tokens (index_of m.tokens a.member a.replace.replacement_token) os → k.matches ≡ s.market.numbers.matches
    → CanArrive (record { market = record m { numbers = k }; orders = os; reserved = s.reserved; reserved_token = name; room = s.room }) (replacement_order reference a) (is_immediate a.replace.time_in_force) fills left)
can_come s a fills left reference k os name h is live used before km =
    let m : Market = handed_over s.market a.member a.replace.existing_token a.replace.replacement_token in
    let token : Token = a.replace.replacement_token in
    let index : ℕ = a.old.order.chain in
    let p : AreFills (incoming_of_replacement a) os fills left = subst (λ (xs : List Live). AreFills (incoming_of_replacement a) xs fills left) (sym is) h.indices.2 in
    let f = h.fits.0 in
    let who : a.member ≡ a.old.order.member = sym (same-name a.old.order.member a.member a.old.order.token a.replace.existing_token h.about.called).0 in
    let done : done_by fills os ≡ (matched (incoming_of_replacement a) (open_shares a) m.live).fills = p.done ∙ ap (λ (xs : List Order). (matched (incoming_of_replacement a) (open_shares a) xs).fills) live in
    let len : length fills ≡ length (matched (incoming_of_replacement a) (open_shares a) m.live).fills = sym (length-done fills os p.good) ∙ ap (λ (z : List Execution). length z) done in
    record {
      live = sym live;
      planned = p;
      reserved = h.indices.1;
      used = subst (λ i. is_used m.tokens i token ≡ true) who used;
      before = subst (λ i. AreBefore m.tokens (index_of m.tokens i token) os) who before;
      room = h.room;
      matches = (let b = f.matches in omega arith);
      notes = subst (λ (es : List Execution). CanNoteAll m.tokens index es m.chains) (sym done) f.notes;
      own = subst (λ (es : List Execution). CanNote m.tokens index 0 (chains_by m.tokens index es m.chains)) (sym done) f.own;
      at = subst (λ i. IsEnteredAt m.tokens i (entered_of m.tokens i token) index) who f.at;
      same = subst (λ (es : List Execution). chains_by m.tokens index es m.chains ≡ chains_after m.tokens a.old.order.member (entered_of m.tokens a.old.order.member token) es m.chains) (sym done)
          (subst (λ i. chains_by m.tokens index (matched (incoming_of_replacement a) (open_shares a) m.live).fills m.chains ≡ chains_after m.tokens i (entered_of m.tokens i token) (matched (incoming_of_replacement a) (open_shares a) m.live).fills m.chains) who f.same);
    }
