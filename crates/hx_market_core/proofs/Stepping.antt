-- What is ready can be committed, and what it does is one step.
use Rattle.std.proofs.Common.{◌≡◌, ℕ, List, refl, ap, ◌∙◌}
use Rattle.hx_book.specs.Book.{lives}
use Rattle.hx_members.specs.Setups.{Setup}
use Rattle.hx_day.specs.declared.expiries.entry.Entry.{Entry}
use Rattle.hx_day.specs.Ends.{StaysAfter}
use Rattle.hx_rules.specs.declared.event.Event.{Event}
use Rattle.hx_rules.specs.Markets.{Market}
use Rattle.hx_rules.specs.Steps.{step, with_record}
use Rattle.hx_market_core.specs.declared.next_step.NextStep.{NextStep}
use Rattle.hx_day.specs.Bounds.{IsSound}
use Rattle.hx_market_core.specs.Effects.{outcome_of}
use Rattle.hx_market_core.specs.Expiries.{AreEntered, over_until}
use Rattle.hx_market_core.specs.MarketModel.{MarketState}
use Rattle.hx_market_core.specs.Prepared.{CanCommit, IsReady}
use Rattle.hx_market_core.proofs.Entered.{entered_outcome}
use Rattle.hx_market_core.proofs.PreparedCounts.{step_is}
use Rattle.hx_day.specs.BoundChanges.{recording}
use Rattle.hx_market_core.proofs.AfterEffect.{in_range, fits_effect, sound_outcome}

-- the same state, except for the counts
abbrev pub counted : List ℕ → MarketState → MarketState
counted counts s = record s { market = record s.market { recorded = counts } }

module _ (setup : Setup) (s : MarketState) (entries : List Entry) (e : Event) (next : NextStep) (i : IsReady setup s entries e next) where
  pub can_commit : (counts : List ℕ) → s.market.live ≡ lives s.orders → IsSound s.market → CanCommit (counted counts s) next.fills.items next.left next.effect
  can_commit counts live sound = record {
    range = in_range setup next.effect i.fit.is_effect;
    suits = i.fit.suits;
    about = i.fit.about;
    indices = i.indices;
    fits = fits_effect setup s.market next.number next.effect s.orders counts live sound i.may_record i.fit.is_effect i.fit.suits i.fit.about i.fit.sender;
    room = i.has_room;
  }

  -- once the event is recorded, its effect is the step
  pub stepped : (m : Market) → m ≡ recording s.market next.number → outcome_of m next.effect ≡ step setup s.market e
  stepped m is =
      ap (λ (k : Market). outcome_of k next.effect) is
      ∙ ap (λ n. outcome_of (recording s.market n) next.effect) i.number
      ∙ step_is setup setup s.market s.market e e (outcome_of (with_record e s.market) next.effect) i.does refl refl refl

  pub sound_after : s.market.live ≡ lives s.orders → IsSound s.market → IsSound (outcome_of (recording s.market next.number) next.effect).market
  sound_after live sound = sound_outcome setup s.market next.number next.effect s.orders live sound i.may_record i.fit.is_effect i.fit.suits i.fit.about i.fit.sender

  pub entered_after : (new : List Entry) → IsSound s.market → StaysAfter (over_until next.effect) entries new → AreEntered entries s.market.tokens s.market.live
      → let k : Market = (outcome_of (recording s.market next.number) next.effect).market in AreEntered new k.tokens k.live
  entered_after new sound stays was = entered_outcome (recording s.market next.number) next.effect s.orders entries new i.fit.about sound.placed i.fit.suits i.end_entered stays was
