-- An order that is not chosen is accepted, or replaces another, just so in two markets that are alike.
use Rattle.std.proofs.Common.{◌≡◌, ℕ, ◌+◌, Bool, true, false, cond, refl, ap, ◌∙◌, ◌&&◌, not, length}
use Rattle.hx_units.specs.declared.names.Symbol.{Symbol}
use Rattle.hx_members.specs.Setups.{Setup, symbol_of}
use Rattle.hx_members.specs.Chains.{is_used}
use Rattle.hx_refs.specs.Numbers.{private_reference}
use Rattle.hx_ouch.specs.declared.inbound.Enter.{Enter as NewOrder}
use Rattle.hx_ouch.specs.declared.inbound.Replace.{Replace as Change}
use Rattle.hx_ouch.specs.declared.outbound.Outbound.{Outbound}
use Rattle.hx_rules.specs.Orders.{Order, is_shown, is_immediate}
use Rattle.hx_rules.specs.Markets.{Market}
use Rattle.hx_rules.specs.Outputs.{EventOutput, Outcome}
use Rattle.hx_rules.specs.Executions.{Arrival, arrive, arrival_feed}
use Rattle.hx_rules.specs.Enter.{consumed, next_reference, drawn, entered_order, accepted_of, accept}
use Rattle.hx_rules.specs.Replace.{handed_over, executed_of, replacing_order, replaced_of, replace_feed, succeed}
use Rattle.hx_laws.specs.QuietChains.{Choice, reply_lines, lines_of}
use Rattle.hx_laws.specs.Laws.{AreQuietChains, IsUnknownTo}
use Rattle.hx_laws.proofs.History.CoherentSteps.{Coherent, Moves, Moves_trans, consumed_moves, handed_over_moves, drawn_moves}
use Rattle.hx_laws.proofs.History.EventMoves.{replacement_of}
use Rattle.hx_laws.proofs.Quiet.RetainedViews.{blank, Spares}
use Rattle.hx_laws.proofs.Quiet.Alike.{IsAlike, alike_public, alike_matches, alike_consumed, alike_handed_over, alike_drawn}
use Rattle.hx_laws.proofs.Quiet.AlikeArrivals.{ArriveAlike, arrive_alike}
use Rattle.hx_laws.proofs.Quiet.QuietArrivals.{arrive_spared}
use Rattle.hx_laws.proofs.Quiet.SeenLines.{same_first, arrival_feed_same, replace_feed_same}

-- outcomes that leave markets alike, and look the same
pub record IsSame (s : Choice) (see : ℕ → Bool) (a b : Outcome) : Type 0 where
  pub market : IsAlike s a.market b.market
  pub seen : lines_of see a.output ≡ lines_of see b.output

pub same_output : (see : ℕ → Bool) (o p : EventOutput) → o.feed ≡ p.feed → reply_lines see o.replies ≡ reply_lines see p.replies → lines_of see o ≡ lines_of see p
same_output see o p e h = rw (e, h) refl

-- Numbers drawn.

shown_reference : (a b : Market) → a.numbers.public ≡ b.numbers.public → (m : ℕ) (d : Bool) → d ≡ true → next_reference a.numbers m d ≡ next_reference b.numbers m d
shown_reference a b h m true e = ap (λ n. n + 1) h
shown_reference a b h m false e = absurd (let z : false ≡ true = e in cc)

own_reference : (s : Choice) (a b : Market) → IsAlike s a b → (m : ℕ) (d : Bool) → Spares s m → next_reference a.numbers m d ≡ next_reference b.numbers m d
own_reference s a b r m true h = ap (λ n. n + 1) (alike_public s a b r)
own_reference s a b r m false h = ap (λ n. private_reference m (n + 1)) (r.private m h)

blank_reference : (b : Bool) (r k : ℕ) → (b ≡ true → r ≡ k) → cond (not b && true) 0 r ≡ cond (not b && true) 0 k
blank_reference true r k h = h refl
blank_reference false r k h = refl

blank_numbers : (x : Order) (p q r k : ℕ) → (x.shown ≡ true → r ≡ k) → blank true (record x { chain = p; reference = r }) ≡ blank true (record x { chain = q; reference = k })
blank_numbers x p q r k h = ap (λ (z : ℕ). record x { chain = 0; reference = z }) (blank_reference x.shown r k h)

-- An accepted order.

pub same_accept : (s : Choice) (see : ℕ → Bool) → IsUnknownTo see s → (setup : Setup) (a b : Market) → Coherent a → IsAlike s a b → (m time : ℕ) (e : NewOrder)
    → is_used a.tokens m e.token ≡ false → s m e.token ≡ false → AreQuietChains s (accept setup a m time e).market → IsSame s see (accept setup a m time e) (accept setup b m time e)
same_accept s see blind setup a b coherent r m time e unused keep q =
    record {
      market = k.market;
      seen = same_output see (accept setup a m time e).output (accept setup b m time e).output feeds (same_first see m _ _ _ _ terms (ap (reply_lines see) k.replies));
    }
  where
    d : Bool
    d = is_shown e.display e.time_in_force

    x : Order
    x = entered_order setup (length a.tokens) (next_reference a.numbers m d) m time e

    y : Order
    y = entered_order setup (length b.tokens) (next_reference b.numbers m d) m time e

    a_drawn : Market
    a_drawn = drawn (consumed a m e.token) m d

    b_drawn : Market
    b_drawn = drawn (consumed b m e.token) m d

    moves : Moves a a_drawn
    moves = Moves_trans _ _ _ (consumed_moves a m e.token unused) (drawn_moves (consumed a m e.token) m d)

    into : Arrival
    into = arrive time (is_immediate e.time_in_force) x a_drawn

    same : blank true x ≡ blank true y
    same =
        blank_numbers (entered_order setup 0 0 m time e) (length a.tokens) (length b.tokens) (next_reference a.numbers m d) (next_reference b.numbers m d)
        (shown_reference a b (alike_public s a b r) m d)

    k : ArriveAlike s into (arrive time (is_immediate e.time_in_force) y b_drawn)
    k = arrive_alike s a_drawn b_drawn (alike_drawn s _ _ (alike_consumed s a b r m e.token keep) m d) time (is_immediate e.time_in_force) x y same keep
        (arrive_spared s time (is_immediate e.time_in_force) x a_drawn (moves.coherent coherent) q)

    feeds : arrival_feed time e.stock a.numbers.matches into.executions into.resting
        ≡ arrival_feed time e.stock b.numbers.matches (arrive time (is_immediate e.time_in_force) y b_drawn).executions (arrive time (is_immediate e.time_in_force) y b_drawn).resting
    feeds = arrival_feed_same time e.stock a.numbers.matches b.numbers.matches _ _ _ _ (alike_matches s a b r) k.executions k.resting

    terms : see m ≡ true → (accepted_of x time e).1 ≡ (accepted_of y time e).1
    terms h = ap (λ n. (accepted_of (entered_order setup 0 n m time e) time e).1) (own_reference s a b r m d (blind m h))

-- An order that replaces another.

replacing_numbers : (n r k time : ℕ) (q : Change) (old : Order) → (is_shown q.display q.time_in_force ≡ true → r ≡ k) → blank true (replacing_order n r time q old) ≡ blank true (replacing_order n k time q old)
replacing_numbers n r k time q old h = blank_numbers (replacing_order n 0 time q old) old.chain old.chain r k h

replacing_same : (n r k time : ℕ) (q : Change) (old past : Order) → blank true old ≡ blank true past → (is_shown q.display q.time_in_force ≡ true → r ≡ k)
    → blank true (replacing_order n r time q old) ≡ blank true (replacing_order n k time q past)
replacing_same n r k time q old past p h = ap (λ (z : Order). blank true (replacing_order n r time q z)) p ∙ replacing_numbers n r k time q past h

-- the reply to the order's member, with this reference
abbrev replaced_with : ℕ → Change → Symbol → Order → ℕ → Outbound
replaced_with time q stock x reference = (replaced_of 0 time stock q (record x { reference = reference })).1

terms_same : (time : ℕ) (q : Change) (stock stand : Symbol) (x y : Order) → stock ≡ stand → blank true x ≡ blank true y → x.reference ≡ y.reference
    → replaced_with time q stock x x.reference ≡ replaced_with time q stand y y.reference
terms_same time q stock stand x y f p e =
    ap (λ (z : Order). replaced_with time q stock z x.reference) p ∙ ap (λ (n : ℕ). replaced_with time q stock y n) e ∙ ap (λ (z : Symbol). replaced_with time q z y y.reference) f

pub same_succeed : (s : Choice) (see : ℕ → Bool) → IsUnknownTo see s → (setup : Setup) (a b : Market) → Coherent a → IsAlike s a b → (m time : ℕ) (q : Change)
    → s m q.existing_token ≡ false → s m q.replacement_token ≡ false → (old past : Order) → blank true old ≡ blank true past → old.member ≡ m
    → is_used a.tokens m q.existing_token ≡ true → executed_of a m q.existing_token ≡ executed_of b m q.existing_token
    → AreQuietChains s (succeed setup a m time q old).market → IsSame s see (succeed setup a m time q old) (succeed setup b m time q past)
same_succeed s see blind setup a b coherent r m time q g h old past p own used done quiet =
    record {
      market = k.market;
      seen = same_output see (succeed setup a m time q old).output (succeed setup b m time q past).output feeds (same_first see m _ _ _ _ terms (ap (reply_lines see) k.replies));
    }
  where
    d : Bool
    d = is_shown q.display q.time_in_force

    now : Bool
    now = is_immediate q.time_in_force

    x : Order
    x = replacement_of a m time q old

    y : Order
    y = replacement_of b m time q past

    a_drawn : Market
    a_drawn = drawn (handed_over a m q.existing_token q.replacement_token) m d

    b_drawn : Market
    b_drawn = drawn (handed_over b m q.existing_token q.replacement_token) m d

    moves : Moves a a_drawn
    moves = Moves_trans _ _ _ (handed_over_moves a m q.existing_token q.replacement_token used) (drawn_moves (handed_over a m q.existing_token q.replacement_token) m d)

    same : blank true x ≡ blank true y
    same = replacing_same (executed_of a m q.existing_token) (next_reference a.numbers m d) (next_reference b.numbers m d) time q old past p (shown_reference a b (alike_public s a b r) m d)
        ∙ ap (λ (n : ℕ). blank true (replacing_order n (next_reference b.numbers m d) time q past)) done

    k : ArriveAlike s (arrive time now x a_drawn) (arrive time now y b_drawn)
    k = arrive_alike s a_drawn b_drawn (alike_drawn s _ _ (alike_handed_over s a b r m q.existing_token q.replacement_token g h) m d) time now x y same (rw own h)
        (arrive_spared s time now x a_drawn (moves.coherent coherent) quiet)

    named : symbol_of setup old.locate ≡ symbol_of setup past.locate
    named = ap (λ (z : Order). symbol_of setup z.locate) p

    into : Arrival
    into = arrive time now y b_drawn

    feeds : replace_feed time (symbol_of setup old.locate) a.numbers.matches old x (arrive time now x a_drawn).executions (arrive time now x a_drawn).resting
        ≡ replace_feed time (symbol_of setup past.locate) b.numbers.matches past y into.executions into.resting
    feeds =
        replace_feed_same time (symbol_of setup old.locate) a.numbers.matches b.numbers.matches old past x y _ _ _ _ (alike_matches s a b r) p same k.executions k.resting
        ∙ ap (λ (z : Symbol). replace_feed time z b.numbers.matches past y into.executions into.resting) named

    terms : see m ≡ true → replaced_with time q (symbol_of setup old.locate) x x.reference ≡ replaced_with time q (symbol_of setup past.locate) y y.reference
    terms h = terms_same time q (symbol_of setup old.locate) (symbol_of setup past.locate) x y named same (own_reference s a b r m d (blind m h))
