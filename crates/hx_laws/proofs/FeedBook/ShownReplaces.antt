-- An order that replaces another leaves the book of the feed equal to the shown live orders.
use Rattle.std.proofs.Common.{◌≡◌, ℕ, Bool, true, false, cond, ltb, eqb-true, refl, ap, sym, ◌∙◌, ◌&&◌, not, List, [], ◌∷◌, ◌++◌, length, Some, None}
use Rattle.std.specs.Prelude.{if◌then◌else◌, ◌==◌}
use Rattle.std.specs.List.{find}
use Rattle.std.proofs.lemmas.Bool.{and_parts}
use Rattle.hx_units.specs.declared.names.Symbol.{Symbol}
use Rattle.hx_book.proofs.Lists.{all_filtered}
use Rattle.hx_match.specs.Matching.{matched}
use Rattle.hx_members.specs.Setups.{Setup, symbol_of}
use Rattle.hx_members.specs.Chains.{is_used}
use Rattle.hx_itch.specs.declared.message.Feed.TheVariants.{OrderReplace}
use Rattle.hx_ouch.specs.declared.inbound.Replace.{Replace as Change}
use Rattle.hx_rules.specs.Orders.{Order, Token, is_called, is_immediate}
use Rattle.hx_rules.specs.Markets.{Market}
use Rattle.hx_rules.specs.Executions.{Arrival, incoming_of, resting_of, arrive, arrival_feed}
use Rattle.hx_rules.specs.Enter.{drawn}
use Rattle.hx_rules.specs.Removal.{others, deleted}
use Rattle.hx_rules.specs.Replace.{handed_over, executed_of, replace_fails, replace_feed, is_one_display, succeed}
use Rattle.hx_laws.specs.FeedBook.{ShownOrder, book_from, shown_as}
use Rattle.hx_laws.proofs.History.CoherentSteps.{used_last, joining}
use Rattle.hx_laws.proofs.History.EventMoves.{replacement_of}
use Rattle.hx_laws.proofs.History.NoExecutions.{nothing_matched, no_executions}
use Rattle.hx_laws.proofs.History.Rejections.{shown_not_immediate, replaced_shares, replaced_minimum}
use Rattle.hx_laws.proofs.FeedBook.ShownExecutions.{shows, book_from-append, shows-append, AreApart}
use Rattle.hx_laws.proofs.FeedBook.ShownLeaving.{shows-cons, deleted_found, replaced_found}
use Rattle.hx_laws.proofs.FeedBook.ShownArrivals.{IsBooked, KeepsBook, IsNew, apart_filter, used_more, arrived_good, drawn_public, drawn_reference, drawn_below, arrive_book}

-- an order that executes nothing and may rest is added
rests_whole : (time : ℕ) (immediate : Bool) (x : Order) (a : Market) → (arrive time immediate x a).executions ≡ [] → ltb 0 x.shares ≡ true → immediate ≡ false
    → (arrive time immediate x a).market.live ≡ a.live ++ (x ∷ [])
rests_whole time immediate x a e some late =
    let n = nothing_matched (incoming_of x) x.shares a.live e in
    ap (λ z. z ++ resting_of x immediate (matched (incoming_of x) x.shares a.live).left) n.rest
    ∙ ap (λ z. a.live ++ z) (ap (λ (k : ℕ). resting_of x immediate k) n.left ∙ ap (λ (b : Bool). cond b (x ∷ []) []) (ap (λ (b : Bool). b && not immediate) some ∙ ap not late))

-- x stands in the book for the order that it replaces, if one message says so
abbrev IsReplacement : Setup → Order → Order → Type 0
IsReplacement setup old x = (old.display == x.display) ≡ true → record (shown_as setup old) { reference = x.reference; shares = x.shares; price = x.price } ≡ shown_as setup x

-- the book after x replaces old in the list xs
replace_book : (setup : Setup) (time : ℕ) (stock : Symbol) (k : ℕ) (immediate : Bool) (old x : Order) (b : Market) (m : ℕ) (t : Token) (xs : List Order) → b.live ≡ others m t xs → AreApart xs
    → find (is_called m t) xs ≡ Some old → ltb 0 x.shares ≡ true → (x.shown ≡ true → immediate ≡ false) → symbol_of setup x.locate ≡ stock → IsReplacement setup old x
    → let a = arrive time immediate x b in book_from (shows setup xs) (replace_feed time stock k old x a.executions a.resting) ≡ shows setup a.market.live
replace_book setup time stock k immediate old x b m t xs e apart found some late named same = choose (is_one_display old x && ltb (length a.executions) 1) refl
  where
    a : Arrival
    a = arrive time immediate x b

    choose : (c : Bool) → (is_one_display old x && ltb (length a.executions) 1) ≡ c
        → book_from (shows setup xs)
        (cond c (OrderReplace (record { locate = x.locate; time = time; original_reference = old.reference; reference = x.reference; shares = x.shares; price = x.price }) ∷ [])
        (deleted time old ++ arrival_feed time stock k a.executions a.resting))
        ≡ shows setup a.market.live
    choose true h =
        let p = and_parts (is_one_display old x) (ltb (length a.executions) 1) h in
        let q = and_parts old.shown (x.shown && (old.display == x.display)) p.0 in
        let w = and_parts x.shown (old.display == x.display) q.1 in
        let live : a.market.live ≡ others m t xs ++ (x ∷ []) = rests_whole time immediate x b (no_executions a.executions p.1) some (late w.0) ∙ ap (λ z. z ++ (x ∷ [])) e in
        replaced_found setup m t x.locate time x.reference x.shares x.price old q.0 xs apart found
        ∙ ap (λ (z : ShownOrder). shows setup (others m t xs) ++ (z ∷ [])) (same w.1)
        ∙ ap (λ z. shows setup (others m t xs) ++ z) (sym (shows-cons setup x [] true w.0))
        ∙ sym (shows-append setup (others m t xs) (x ∷ [])) ∙ ap (shows setup) (sym live)
    choose false h =
        book_from-append (shows setup xs) (deleted time old) _
        ∙ ap (λ z. book_from z (arrival_feed time stock k a.executions a.resting)) (deleted_found setup time m t old xs apart found ∙ ap (shows setup) (sym e))
        ∙ arrive_book setup time stock k immediate x b named (rw e (apart_filter _ xs apart))

pub succeed_keeps : (setup : Setup) (a : Market) (m time : ℕ) (r : Change) (old : Order) → IsBooked a → find (is_called m r.existing_token) a.live ≡ Some old → old.member ≡ m
    → is_used a.tokens m r.replacement_token ≡ false → replace_fails a.phase (executed_of a m r.existing_token) r ≡ false → KeepsBook setup a (succeed setup a m time r old)
succeed_keeps setup a m time r old g found own unused fits =
    record {
      book = replace_book setup time (symbol_of setup old.locate) a.numbers.matches immediate old x b m r.existing_token a.live refl g.apart found
          (replaced_shares a.phase n r fits) (shown_not_immediate r.display r.time_in_force) refl same;
      good = arrived_good setup a.numbers.public a.tokens time immediate x b new;
    }
  where
    n : ℕ
    n = executed_of a m r.existing_token

    immediate : Bool
    immediate = is_immediate r.time_in_force

    x : Order
    x = replacement_of a m time r old

    b : Market
    b = drawn (handed_over a m r.existing_token r.replacement_token) m x.shown

    same : IsReplacement setup old x
    same h =
        ap (λ (z : ℕ). record (shown_as setup old) { reference = x.reference; shares = x.shares; price = x.price; attribution = if z == 65 then Some old.firm else None }) (eqb-true old.display r.display h)

    new : IsNew a.numbers.public a.tokens b x
    new =
        record {
          apart = apart_filter _ a.live g.apart;
          old = all_filtered _ _ a.live g.old;
          some = all_filtered _ _ a.live g.some;
          unused = rw own unused;
          reference = λ h. drawn_reference a.numbers m x.shown h;
          below = λ h. drawn_below a.numbers m x.shown h;
          minimum = λ h. replaced_minimum a.phase n r fits h;
          drawn = drawn_public a.numbers m x.shown;
          stay = used_more a.tokens (joining a m r.existing_token r.replacement_token);
          used = rw own (used_last a.tokens (joining a m r.existing_token r.replacement_token));
        }
