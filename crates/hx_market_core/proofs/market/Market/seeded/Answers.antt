use Rattle.std.proofs.Common.{List, sym, subst}
use Rattle.hx_members.specs.Setups.{Setup}
use Rattle.hx_day.specs.declared.expiries.entry.Entry.{Entry}
use Rattle.hx_rules.specs.Markets.{Market, opening}
use Rattle.hx_day.specs.Bounds.{IsSound}
use Rattle.hx_market_core.specs.Expiries.{AreEntered}
use Rattle.hx_day.proofs.AfterEnter.{sound_opening}
use Rattle.hx_market_core.proofs.market.Market.seeded.Goals as goal

-- as the day begins there is no order
none_entered : (setup : Setup) (entries : List Entry) → AreEntered entries (opening setup).tokens (opening setup).live
unfolding opening
none_entered setup entries = record { each = tt; in_order = tt }

pub invariant_of-result : goal.invariant_of-result
invariant_of-result g c = (
  subst IsSound (sym c.in_ok-state.ensures) (sound_opening c.args.setup),
  subst (λ (m : Market). AreEntered c.new.result m.tokens m.live) (sym c.in_ok-state.ensures) (none_entered c.args.setup c.new.result),
  λ p h. cc,
)
