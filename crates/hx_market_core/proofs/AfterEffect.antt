-- What an effect leaves: a sound market again.
use Rattle.std.proofs.Common.{◌≡◌, ℕ, Bool, true, List, length, not, refl, sym, ap, ◌∙◌, subst, arith}
use Rattle.std.specs.Prelude.{◌==◌, slice_set}
use Rattle.hx_book.specs.declared.order.Order.{Order}
use Rattle.hx_rules.specs.declared.matches.Match.{Match}
use Rattle.hx_rules.specs.Breaks.{with_execution}
use Rattle.hx_members.specs.Setups.{Setup}
use Rattle.hx_market_core.specs.declared.effect.Effect.{Effect}
use Rattle.hx_market_core.specs.declared.effect.Effect.TheVariants.{Nothing, Reject, Accept, Fail, Replace, Cancel, End, Halt, Break}
use Rattle.hx_market_core.specs.declared.effect.AcceptedEnter.{AcceptedEnter}
use Rattle.hx_rules.specs.Markets.{Market}
use Rattle.hx_rules.specs.Orders.{is_shown, is_called}
use Rattle.std.specs.List.{find}
use Rattle.hx_book.specs.declared.order.Live.{Live}
use Rattle.hx_book.specs.Book.{lives}
use Rattle.hx_market_core.proofs.OrdersByToken.{only_found}
use Rattle.hx_day.specs.BoundChanges.{Replaces}
use Rattle.hx_day.proofs.AfterReplace.{chain_old, can_replace, sound_handed, sound_replaced, sound_lessened, sound_filtered}
use Rattle.hx_rules.specs.Enter.{next_reference}
use Rattle.hx_day.specs.Bounds.{IsSound}
use Rattle.hx_market_core.specs.Effects.{IsEffect, SuitsTokens, IsAbout, IsOnly, SuitsReplacement, IsReplacement, IsOf, IsInRange, is_due, order_of_enter, replacement_order, outcome_of}
use Rattle.hx_market_core.specs.declared.effect.Replacement.{Replacement}
use Rattle.hx_day.specs.Day.{MayRecord}
use Rattle.hx_market_core.specs.Prepared.{FitsEffect}
use Rattle.hx_day.specs.BoundChanges.{recording}
use Rattle.hx_day.proofs.AfterEnter.{can_accept, sound_recorded, sound_rejected, sound_accepted}

-- neither halts nor executions are counted
sound_traded : (m : Market) (halted : List Bool) (executions : List Match) → IsSound m → IsSound (record m { halted = halted; executions = executions })
sound_traded m halted executions h = record {
  public = h.public;
  private = h.private;
  matches = h.matches;
  within = h.within;
  placed = h.placed;
  lone = h.lone;
  chained = h.chained;
  numbered = h.numbered;
  limited = h.limited;
}

abbrev order_by : Market → AcceptedEnter → Order
order_by m a = order_of_enter (length m.tokens) (next_reference m.numbers a.member (is_shown a.enter.display a.enter.time_in_force)) a

abbrev replacing_order : Market → Replacement → Order
replacing_order m a = replacement_order (next_reference m.numbers a.member (is_shown a.replace.display a.replace.time_in_force)) a

pub in_range : (setup : Setup) (effect : Effect) → IsEffect setup effect → IsInRange effect
in_range setup Nothing h = tt
in_range setup (Reject r) h = tt
in_range setup (Accept a) h = h.time
in_range setup (Fail a) h = h
in_range setup (Replace a) h = h
in_range setup (Cancel a) h = h
in_range setup (End e) h = h
in_range setup (Halt e) h = h
in_range setup (Break e) h = h

-- what an order that replaces has to be
replaces : (m : Market) (a : Replacement) (orders : List Live) (reference : ℕ) → m.live ≡ lives orders → IsReplacement a → SuitsReplacement m.tokens m.chains a → IsOnly orders a.member a.replace.existing_token a.old
    → Replaces m a.member a.replace.existing_token a.old.order (replacement_order reference a)
replaces m a orders reference live is suits only = record {
  names = record { found = ap (λ (xs : List Order). find (is_called a.member a.replace.existing_token) xs) live ∙ only_found a.member a.replace.existing_token a.old.key.0 a.old.order orders only.only only.found; called = only.called };
  unused = suits.unused;
  member = refl;
  chain = refl;
  shares = (let e = suits.executed in let k = is.more in let s = is.shares in omega arith);
}

pub fits_effect : (setup : Setup) (m : Market) (i : ℕ) (effect : Effect) (orders : List Live) (counts : List ℕ) → m.live ≡ lives orders → IsSound m → MayRecord m.recorded i → IsEffect setup effect → SuitsTokens m.tokens m.chains effect → IsAbout orders effect → IsOf i effect → FitsEffect (record m { recorded = counts }) effect
fits_effect setup m i Nothing orders counts live h l k u b e = tt
fits_effect setup m i (Reject r) orders counts live h l k u b e = tt
fits_effect setup m i (Accept a) orders counts live h l k u b e =
    can_accept m (order_by m a) h (subst (MayRecord m.recorded) (sym e) l) (record { unused = u; chain = refl; shares = k.shares })
fits_effect setup m i (Fail a) orders counts live h l k u b e =
    chain_old m a.member a.existing a.old.order h (record { found = ap (λ (xs : List Order). find (is_called a.member a.existing) xs) live ∙ only_found a.member a.existing a.old.key.0 a.old.order orders b.only b.found; called = b.called })
fits_effect setup m i (Replace a) orders counts live h l k u b e =
    let r = replaces m a orders 0 live k u b in (
      can_replace m a.member a.replace.existing_token a.old.order (replacement_order 0 a) h (subst (MayRecord m.recorded) (sym e) l) r,
      chain_old m a.member a.replace.existing_token a.old.order h r.names,
    )
fits_effect setup m i (Cancel a) orders counts live h l k u b e = tt
fits_effect setup m i (End x) orders counts live h l k u b e = tt
fits_effect setup m i (Halt x) orders counts live h l k u b e = tt
fits_effect setup m i (Break x) orders counts live h l k u b e = tt

pub sound_outcome : (setup : Setup) (m : Market) (i : ℕ) (effect : Effect) (orders : List Live) → m.live ≡ lives orders → IsSound m → MayRecord m.recorded i → IsEffect setup effect → SuitsTokens m.tokens m.chains effect → IsAbout orders effect → IsOf i effect
    → IsSound (outcome_of (recording m i) effect).market
sound_outcome setup m i Nothing orders live h l k u b e = sound_recorded m i h l
sound_outcome setup m i (Reject r) orders live h l k u b e =
    subst (λ j. IsSound (outcome_of (recording m j) (Reject r)).market) e (sound_rejected m r.member r.time r.token r.letter h (subst (MayRecord m.recorded) (sym e) l))
sound_outcome setup m i (Accept a) orders live h l k u b e =
    subst (λ j. IsSound (outcome_of (recording m j) (Accept a)).market) e
    (sound_accepted m (order_by m a) a.time a.enter h (subst (MayRecord m.recorded) (sym e) l) (record { unused = u; chain = refl; shares = k.shares }))
sound_outcome setup m i (Fail a) orders live h l k u b e = sound_handed (recording m i) a.member a.existing a.replacement (sound_recorded m i h l)
sound_outcome setup m i (Replace a) orders live h l k u b e =
    subst (λ j. IsSound (outcome_of (recording m j) (Replace a)).market) e
    (sound_replaced m a.member a.time a.stock a.replace a.old.order (replacing_order m a) h (subst (MayRecord m.recorded) (sym e) l)
    (replaces m a orders (next_reference m.numbers a.member (is_shown a.replace.display a.replace.time_in_force)) live k u b) refl)
sound_outcome setup m i (Cancel a) orders live h l k u b e = sound_lessened (recording m i) a.member a.token a.by (sound_recorded m i h l)
sound_outcome setup m i (End x) orders live h l k u b e = sound_filtered (recording m i) (λ y. not (is_due x.due x.time y)) x.phase (sound_recorded m i h l)
sound_outcome setup m i (Halt x) orders live h l k u b e = sound_traded (recording m i) (slice_set m.halted x.locate (x.state == 72)) m.executions (sound_recorded m i h l)
sound_outcome setup m i (Break x) orders live h l k u b e = sound_traded (recording m i) m.halted (with_execution m.executions x.number (record x.execution { broken = true })) (sound_recorded m i h l)
