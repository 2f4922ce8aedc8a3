-- What the fills of a plan stand for, and the size of their output.
use Rattle.std.proofs.Common.{◌≡◌, ℕ, suc, ◌+◌, Bool, true, false, cond, ltb, ◌&&◌, not, if◌then◌else◌, nat_lt, List, [], ◌∷◌, ◌++◌, map, length, Option, Some, None, refl, sym, ap, ◌∙◌, arith, eq-eqb, eqb-true}
use Rattle.std.specs.Option.{option_map, option_map_or}
use Rattle.std.specs.List.{AllByRecursion, find}
use Rattle.std.proofs.lemmas.Bool.{cond_both, or_parts}
use Rattle.hx_units.specs.declared.names.Token.{Token}
use Rattle.hx_units.specs.declared.names.Symbol.{Symbol}
use Rattle.hx_book.specs.declared.order.Order.{Order}
use Rattle.hx_book.specs.declared.order.Live.{Live}
use Rattle.hx_book.specs.Book.{order_of, is_under, has_key, KeysDiffer, reduced, without, with_less, lives}
use Rattle.hx_match.specs.declared.fills.Fill.{Fill}
use Rattle.hx_match.specs.Matching.{Execution, Matched, matched}
use Rattle.hx_match.specs.Executing.{done_by, done_with, AreGood, IsGoodWith, taken}
use Rattle.hx_market_core.specs.declared.effect.AcceptedEnter.{AcceptedEnter}
use Rattle.hx_rules.specs.Markets.{Market}
use Rattle.hx_rules.specs.Orders.{is_immediate, is_shown, is_visible}
use Rattle.hx_itch.specs.declared.message.Feed.{Feed}
use Rattle.hx_ouch.specs.declared.outbound.Outbound.TheVariants.{Canceled}
use Rattle.hx_rules.specs.Outputs.{Reply}
use Rattle.hx_rules.specs.Enter.{after_draw, next_reference, accepted_of}
use Rattle.hx_rules.specs.Executions.{feed_of_executions, replies_of_executions, resting_of, shown_of, published, canceled_of, arrival_feed}
use Rattle.hx_match.specs.Rules.{AreFills}
use Rattle.hx_market_core.specs.declared.effect.Replacement.{Replacement}
use Rattle.hx_rules.specs.Removal.{others, deleted, taken_off}
use Rattle.hx_rules.specs.Replace.{replaced_of, is_one_display}
use Rattle.hx_rules.proofs.Feeds.{length-feed_of_executions}
use Rattle.hx_market_core.specs.Effects.{incoming_of_enter, order_of_enter, accepted_by, IsOnly, open_shares, incoming_of_replacement, replacement_order, replaced_by_effect}
use Rattle.hx_market_core.proofs.OrdersByToken.{others_lives}
use Rattle.hx_day.proofs.UsedTokens.{same-name}
use Rattle.hx_itch.specs.declared.message.Feed.TheVariants.{OrderReplace, OrderCancel, OrderDelete}
use Rattle.hx_market_core.specs.Prepared.{maker_of, makers_and, arrival_members, arrival_count, one_if, replaced_count}

-- each fill is one execution
pub length-done : (fills : List Fill) (orders : List Live) → AreGood fills orders → length (done_by fills orders) ≡ length fills
length-done [] orders h = refl
length-done (f ∷ fills) orders h = at (order_of f.key.0 orders) h (λ ys. length-done fills ys)
  where
    at : (o : Option Order) → IsGoodWith (AreGood fills) f orders o → ((ys : List Live) → AreGood fills ys → length (done_by fills ys) ≡ length fills) → length (done_with (done_by fills) f orders o) ≡ suc (length fills)
    at None h ih = absurd h
    at (Some x) h ih = ap (λ n. suc n) (ih (taken f.key.0 f.shares x orders) h.3)

-- The members of resting orders, by the keys of the list before anything is executed.

-- the member of the order under the key
abbrev member_at : ℕ → List Live → Option ℕ
member_at key orders = option_map (λ x. x.member) (order_of key orders)

-- each order of the list stands among these orders with its member
pub AreOf : List Live → List Live → Type 0
AreOf orders xs = AllByRecursion (λ live. member_at live.key.0 orders ≡ Some live.order.member) xs

of_more : (live : Live) (orders xs : List Live) → has_key live.key.0 xs ≡ false → AreOf orders xs → AreOf (live ∷ orders) xs
unfolding AreOf
of_more live orders [] h k = tt
of_more live orders (x ∷ xs) h k =
    let parts = or_parts (is_under live.key.0 x) (has_key live.key.0 xs) h in
    (cond_key (is_under x.key.0 live) refl parts.0 ∙ k.0, of_more live orders xs parts.1 k.1)
  where
    cond_key : (b : Bool) → is_under x.key.0 live ≡ b → is_under live.key.0 x ≡ false → option_map (λ z. z.member) (option_map (λ l. l.order) (cond b (Some live) (find (is_under x.key.0) orders))) ≡ member_at x.key.0 orders
    cond_key true e n =
        let same : live.key.0 ≡ x.key.0 = eqb-true live.key.0 x.key.0 e in
        absurd (let z : true ≡ false = sym (eq-eqb x.key.0 live.key.0 (sym same)) ∙ n in cc)
    cond_key false e n = refl

of_itself : (orders : List Live) → KeysDiffer orders → AreOf orders orders
unfolding AreOf
of_itself [] h = tt
of_itself (live ∷ orders) h =
    (ap (λ b. option_map (λ z. z.member) (option_map (λ l. l.order) (cond b (Some live) (find (is_under live.key.0) orders)))) (eq-eqb live.key.0 live.key.0 refl), of_more live orders orders h.0 (of_itself orders h.1))

of_reduced : (orders : List Live) (key by : ℕ) (xs : List Live) → AreOf orders xs → AreOf orders (reduced key by xs)
unfolding AreOf
of_reduced orders key by [] h = tt
of_reduced orders key by (x ∷ xs) h =
    cond_both (is_under key x) (record x { order = with_less by x.order } ∷ xs) (x ∷ reduced key by xs) (AreOf orders) (λ _. (h.0, h.1)) (λ _. (h.0, of_reduced orders key by xs h.1))

of_without : (orders : List Live) (key : ℕ) (xs : List Live) → AreOf orders xs → AreOf orders (without key xs)
unfolding AreOf
of_without orders key [] h = tt
of_without orders key (x ∷ xs) h = cond_both (is_under key x) xs (x ∷ without key xs) (AreOf orders) (λ _. h.1) (λ _. (h.0, of_without orders key xs h.1))

of_taken : (orders : List Live) (key n : ℕ) (x : Order) (xs : List Live) → AreOf orders xs → AreOf orders (taken key n x xs)
of_taken orders key n x xs h =
    cond_both (ltb n x.shares) (reduced key n xs) (without key xs) (AreOf orders) (λ _. of_reduced orders key n xs h) (λ _. of_without orders key xs h)

of_found : (orders : List Live) (key : ℕ) (xs : List Live) (x : Order) → AreOf orders xs → order_of key xs ≡ Some x → member_at key orders ≡ Some x.member
unfolding AreOf
of_found orders key [] x h e = absurd (let z : None ≡ Some x = e in cc)
of_found orders key (y ∷ ys) x h e = at (is_under key y) refl e (of_found orders key ys x h.1)
  where
    at : (b : Bool) → is_under key y ≡ b → option_map (λ l. l.order) (cond b (Some y) (find (is_under key) ys)) ≡ Some x → (order_of key ys ≡ Some x → member_at key orders ≡ Some x.member) → member_at key orders ≡ Some x.member
    at true k e ih =
        let same : y.key.0 ≡ key = eqb-true y.key.0 key k in
        let order : y.order ≡ x = let z : Some y.order ≡ Some x = e in cc in
        ap (λ n. member_at n orders) (sym same) ∙ h.0 ∙ ap (λ (z : Order). Some z.member) order
    at false k e ih = ih e

maker_is : (m : ℕ) (orders : List Live) (f : Fill) (n : ℕ) → member_at f.key.0 orders ≡ Some n → maker_of m orders f ≡ n
maker_is m orders f n h = at (order_of f.key.0 orders) h
  where
    at : (o : Option Order) → option_map (λ x. x.member) o ≡ Some n → option_map_or (λ x. x.member) o m ≡ n
    at None e = absurd (let z : None ≡ Some n = e in cc)
    at (Some x) e = let z : Some x.member ≡ Some n = e in cc

abbrev who : Reply → ℕ
who r = r.0

makers_done : (time number m : ℕ) (token : Token) (fills : List Fill) (orders xs : List Live) → AreOf orders xs → AreGood fills xs
    → makers_and m orders fills ≡ map who (replies_of_executions time m token number (done_by fills xs))
makers_done time number m token [] orders xs h k = refl
makers_done time number m token (f ∷ fills) orders xs h k =
    at (order_of f.key.0 xs) refl k (λ ys j g. makers_done time (number + 1) m token fills orders ys j g)
  where
    at : (o : Option Order) → order_of f.key.0 xs ≡ o → IsGoodWith (AreGood fills) f xs o
        → ((ys : List Live) → AreOf orders ys → AreGood fills ys → makers_and m orders fills ≡ map who (replies_of_executions time m token (number + 1) (done_by fills ys)))
        → maker_of m orders f ∷ m ∷ makers_and m orders fills ≡ map who (replies_of_executions time m token number (done_with (done_by fills) f xs o))
    at None e g ih = absurd g
    at (Some x) e g ih =
        let first : maker_of m orders f ≡ x.member = maker_is m orders f x.member (of_found orders f.key.0 xs x h e) in
        ap (λ n. n ∷ m ∷ makers_and m orders fills) first ∙ ap (λ (l : List ℕ). x.member ∷ m ∷ l) (ih (taken f.key.0 f.shares x xs) (of_taken orders f.key.0 f.shares x xs h) g.3)

map-join : (xs ys : List Reply) → map who (xs ++ ys) ≡ map who xs ++ map who ys
map-join [] ys = refl
map-join (x ∷ xs) ys = ap (λ l. who x ∷ l) (map-join xs ys)

who_if : (b : Bool) (r : Reply) → (if b then who r ∷ [] else []) ≡ map who (if b then r ∷ [] else [])
who_if true r = refl
who_if false r = refl

-- the members of the replies of an order that arrives, with the reply that comes first
pub members_arrived : (time number m : ℕ) (token : Token) (imm : Bool) (r : Reply) (orders xs : List Live) (fills : List Fill) (left : ℕ) (k : Matched) → who r ≡ m → AreOf orders xs → AreGood fills xs
    → done_by fills xs ≡ k.fills → left ≡ k.left
    → arrival_members m imm orders fills left ≡ map who (r ∷ (replies_of_executions time m token number k.fills ++ canceled_of time m token imm k.left))
members_arrived time number m token imm r orders xs fills left k first of good done remains =
    let replies : List Execution → List Reply = λ es. replies_of_executions time m token number es in
    let tail : ℕ → List Reply = λ n. canceled_of time m token imm n in
    let makers : makers_and m orders fills ≡ map who (replies k.fills) = makers_done time number m token fills orders xs of good ∙ ap (λ (es : List Execution). map who (replies es)) done in
    let last : (if ltb 0 left && imm then m ∷ [] else []) ≡ map who (tail k.left) =
    who_if (ltb 0 left && imm) (m, Canceled (record { time = time; token = token; shares = left; reason = 73 })) ∙ ap (λ n. map who (tail n)) remains in
    ap (λ l. m ∷ (l ++ (if ltb 0 left && imm then m ∷ [] else []))) makers
    ∙ ap (λ (l : List ℕ). m ∷ (map who (replies k.fills) ++ l)) last
    ∙ ap (λ (l : List ℕ). m ∷ l) (sym (map-join (replies k.fills) (tail k.left)))
    ∙ ap (λ n. n ∷ map who (replies k.fills ++ tail k.left)) (sym first)

-- the members of an accepted order's replies
pub members_accepted : (m : Market) (a : AcceptedEnter) (orders : List Live) (fills : List Fill) (left : ℕ) → m.live ≡ lives orders → KeysDiffer orders → AreFills (incoming_of_enter a) orders fills left
    → arrival_members a.member (is_immediate a.enter.time_in_force) orders fills left ≡ map who (accepted_by m a).output.replies
members_accepted m a orders fills left live differ h =
    let shown : Bool = is_shown a.enter.display a.enter.time_in_force in
    let of : List Order → Matched = λ xs. matched (incoming_of_enter a) a.enter.shares xs in
    let x : Order = order_of_enter (length m.tokens) (next_reference m.numbers a.member shown) a in
    members_arrived a.time (after_draw m.numbers a.member shown).matches a.member a.enter.token (is_immediate a.enter.time_in_force) (accepted_of x a.time a.enter) orders orders fills left (of m.live) refl
    (of_itself orders differ) h.good (h.done ∙ ap (λ (xs : List Order). (of xs).fills) (sym live)) (h.remains ∙ ap (λ (xs : List Order). (of xs).left) (sym live))

length-join : (xs ys : List Feed) → length (xs ++ ys) ≡ length xs + length ys
length-join [] ys = omega arith
length-join (x ∷ xs) ys = let h : length (xs ++ ys) ≡ length xs + length ys = length-join xs ys in omega arith

-- what rests shown: one order or none
length-rests : (time : ℕ) (stock : Symbol) (x : Order) (some visible imm : Bool) (left : ℕ) → x.shown ≡ (visible && not imm)
    → length (map (published time stock) (shown_of (if some && not imm then record x { shares = left } ∷ [] else []))) ≡ (if some && (visible && not imm) then 1 else 0)
length-rests time stock x true true true left h = refl
length-rests time stock x true true false left h = rest x.shown h
  where
    rest : (b : Bool) → b ≡ true → length (map (published time stock) (if b then record x { shares = left } ∷ [] else [])) ≡ 1
    rest true h = refl
    rest false h = cc
length-rests time stock x true false true left h = refl
length-rests time stock x true false false left h = none x.shown h
  where
    none : (b : Bool) → b ≡ false → length (map (published time stock) (if b then record x { shares = left } ∷ [] else [])) ≡ 0
    none true h = cc
    none false h = refl
length-rests time stock x false visible imm left h = refl

-- how many messages of the feed an order gives that arrives
pub feed_arrived : (time : ℕ) (stock : Symbol) (number : ℕ) (x : Order) (visible imm : Bool) (orders : List Live) (fills : List Fill) (left : ℕ) (k : Matched) → x.shown ≡ (visible && not imm) → AreGood fills orders
    → done_by fills orders ≡ k.fills → left ≡ k.left
    → arrival_count (visible && not imm) fills left ≡ length (arrival_feed time stock number k.fills (resting_of x imm k.left))
feed_arrived time stock number x visible imm orders fills left k shown good done remains =
    let rests : ℕ → ℕ = λ n. length (map (published time stock) (shown_of (resting_of x imm n))) in
    let fills_is : length fills ≡ length k.fills = sym (length-done fills orders good) ∙ ap (λ (es : List Execution). length es) done in
    let rest_is : (if ltb 0 left && (visible && not imm) then 1 else 0) ≡ rests k.left = sym (length-rests time stock x (ltb 0 left) visible imm left shown) ∙ ap rests remains in
    let output_is : length (feed_of_executions time stock number k.fills) ≡ length k.fills = length-feed_of_executions time stock number k.fills in
    ap (λ n. n + (if ltb 0 left && (visible && not imm) then 1 else 0)) (fills_is ∙ sym output_is)
    ∙ ap (λ n. length (feed_of_executions time stock number k.fills) + n) rest_is
    ∙ sym (length-join (feed_of_executions time stock number k.fills) (map (published time stock) (shown_of (resting_of x imm k.left))))

-- how many messages of the feed an accepted order gives
pub feed_accepted : (m : Market) (a : AcceptedEnter) (orders : List Live) (fills : List Fill) (left : ℕ) → m.live ≡ lives orders → AreFills (incoming_of_enter a) orders fills left
    → arrival_count (is_shown a.enter.display a.enter.time_in_force) fills left ≡ length (accepted_by m a).output.feed
feed_accepted m a orders fills left live h =
    let shown : Bool = is_shown a.enter.display a.enter.time_in_force in
    let of : List Order → Matched = λ xs. matched (incoming_of_enter a) a.enter.shares xs in
    feed_arrived a.time a.enter.stock m.numbers.matches (order_of_enter (length m.tokens) (next_reference m.numbers a.member shown) a) (is_visible a.enter.display) (is_immediate a.enter.time_in_force) orders fills left
    (of m.live) refl h.good (h.done ∙ ap (λ (xs : List Order). (of xs).fills) (sym live)) (h.remains ∙ ap (λ (xs : List Order). (of xs).left) (sym live))

-- The same of an order that replaces another.

-- the executions against the others, as the market has them
others_matched : (m : Market) (a : Replacement) (orders : List Live) (fills : List Fill) (left : ℕ) → m.live ≡ lives orders → IsOnly orders a.member a.replace.existing_token a.old → AreFills (incoming_of_replacement a) (without a.old.key.0 orders) fills left
    → let k : Matched = matched (incoming_of_replacement a) (open_shares a) (others a.member a.replace.existing_token m.live) in (done_by fills (without a.old.key.0 orders) ≡ k.fills) × (left ≡ k.left)
others_matched m a orders fills left live only h =
    let of : List Order → Matched = λ xs. matched (incoming_of_replacement a) (open_shares a) xs in
    let e : lives (without a.old.key.0 orders) ≡ others a.member a.replace.existing_token m.live =
    others_lives a.member a.replace.existing_token a.old.key.0 orders only.only only.differ ∙ ap (λ (xs : List Order). others a.member a.replace.existing_token xs) (sym live) in
    (h.done ∙ ap (λ (xs : List Order). (of xs).fills) e, h.remains ∙ ap (λ (xs : List Order). (of xs).left) e)

pub members_replaced : (m : Market) (a : Replacement) (orders : List Live) (fills : List Fill) (left : ℕ) → m.live ≡ lives orders → IsOnly orders a.member a.replace.existing_token a.old → AreFills (incoming_of_replacement a) (without a.old.key.0 orders) fills left
    → arrival_members a.member (is_immediate a.replace.time_in_force) orders fills left ≡ map who (replaced_by_effect m a).output.replies
members_replaced m a orders fills left live only h =
    let shown : Bool = is_shown a.replace.display a.replace.time_in_force in
    let k : Matched = matched (incoming_of_replacement a) (open_shares a) (others a.member a.replace.existing_token m.live) in
    let x : Order = replacement_order (next_reference m.numbers a.member shown) a in
    let e = others_matched m a orders fills left live only h in
    let own : a.old.order.member ≡ a.member = (same-name a.old.order.member a.member a.old.order.token a.replace.existing_token only.called).0 in
    let output : ℕ → List Reply = λ n. replies_of_executions a.time n a.replace.replacement_token (after_draw m.numbers a.member shown).matches k.fills ++ canceled_of a.time n a.replace.replacement_token (is_immediate a.replace.time_in_force) k.left in
    members_arrived a.time (after_draw m.numbers a.member shown).matches a.member a.replace.replacement_token (is_immediate a.replace.time_in_force) (replaced_of a.member a.time a.stock a.replace x)
    orders (without a.old.key.0 orders) fills left k refl (of_without orders a.old.key.0 orders (of_itself orders only.differ)) h.good e.0 e.1
    ∙ ap (λ n. map who (replaced_of a.member a.time a.stock a.replace x ∷ output n)) (sym own)

pub length-deleted : (time : ℕ) (x : Order) → one_if x.shown ≡ length (deleted time x)
length-deleted time x = at x.shown
  where
    at : (b : Bool) → one_if b ≡ length (if b then OrderDelete (record { locate = x.locate; time = time; reference = x.reference }) ∷ [] else [])
    at true = refl
    at false = refl

pub feed_replaced : (m : Market) (a : Replacement) (orders : List Live) (fills : List Fill) (left : ℕ) → m.live ≡ lives orders → IsOnly orders a.member a.replace.existing_token a.old → AreFills (incoming_of_replacement a) (without a.old.key.0 orders) fills left
    → replaced_count a fills left ≡ length (replaced_by_effect m a).output.feed
feed_replaced m a orders fills left live only h =
    let shown : Bool = is_shown a.replace.display a.replace.time_in_force in
    let imm : Bool = is_immediate a.replace.time_in_force in
    let k : Matched = matched (incoming_of_replacement a) (open_shares a) (others a.member a.replace.existing_token m.live) in
    let x : Order = replacement_order (next_reference m.numbers a.member shown) a in
    let e = others_matched m a orders fills left live only h in
    let len : length fills ≡ length k.fills = sym (length-done fills (without a.old.key.0 orders) h.good) ∙ ap (λ (es : List Execution). length es) e.0 in
    let feed : List Feed = arrival_feed a.time a.stock m.numbers.matches k.fills (resting_of x imm k.left) in
    let count : arrival_count shown fills left ≡ length feed =
    feed_arrived a.time a.stock m.numbers.matches x (is_visible a.replace.display) imm (without a.old.key.0 orders) fills left k refl h.good e.0 e.1 in
    let one : List Feed = OrderReplace (record { locate = x.locate; time = a.time; original_reference = a.old.order.reference; reference = x.reference; shares = x.shares; price = x.price }) ∷ [] in
    ap (λ n. if is_one_display a.old.order x && nat_lt n 1 then 1 else one_if a.old.order.shown + arrival_count shown fills left) len
    ∙ ap (λ n. if is_one_display a.old.order x && nat_lt (length k.fills) 1 then 1 else one_if a.old.order.shown + n) count
    ∙ either (is_one_display a.old.order x && nat_lt (length k.fills) 1) one (deleted a.time a.old.order) feed refl (length-deleted a.time a.old.order)
  where
    either : (b : Bool) (one gone feed : List Feed) → length one ≡ 1 → one_if a.old.order.shown ≡ length gone → (if b then 1 else one_if a.old.order.shown + length feed) ≡ length (if b then one else gone ++ feed)
    either true one gone feed h k = sym h
    either false one gone feed h k = ap (λ n. n + length feed) k ∙ sym (length-join gone feed)

pub length-off : (time by : ℕ) (x : Order) → one_if x.shown ≡ length (taken_off time by x)
length-off time by x = at (nat_lt by x.shares) x.shown
  where
    at : (a b : Bool) → one_if b ≡ length (if a then (if b then OrderCancel (record { locate = x.locate; time = time; reference = x.reference; shares = by }) ∷ [] else []) else (if b then OrderDelete (record { locate = x.locate; time = time; reference = x.reference }) ∷ [] else []))
    at true true = refl
    at true false = refl
    at false true = refl
    at false false = refl
