-- What holds of a market stays if the market does.
use Rattle.std.proofs.Common.{◌≡◌, ℕ, List, length, sym, subst}
use Rattle.hx_rules.specs.Markets.{Market}
use Rattle.hx_day.specs.Ends.{StaysElsewhere}
use Rattle.hx_day.specs.declared.expiries.entry.Entry.{Entry}
use Rattle.hx_day.specs.Expiries.{Holds}
use Rattle.hx_day.specs.Bounds.{IsSound}
use Rattle.hx_market_core.specs.Expiries.{AreEntered}
use Rattle.hx_market_core.proofs.Entered.{entered_retained, entered_elsewhere}

-- a market that runs, and when its orders end
pub record Held (entries : List Entry) (m : Market) : Type 0 where
  pub sound : IsSound m
  pub entered : AreEntered entries m.tokens m.live

-- the order that never came is forgotten
pub forgotten : (old new : List Entry) (m : Market) (n : ℕ) → n ≡ length m.tokens → StaysElsewhere n old new → IsSound m → AreEntered old m.tokens m.live → Held new m
forgotten old new m n is stays sound was = record {
  sound = sound;
  entered = entered_elsewhere old new m.tokens m.live sound.placed (subst (λ n. StaysElsewhere n old new) is stays) was;
}

pub held : (old new : List Entry) (m k : Market) → k ≡ m → ((e p : ℕ) → Holds old e p → Holds new e p) → Held old m → Held new k
held old new m k is keep was = subst (Held new) (sym is) (record { sound = was.sound; entered = entered_retained old new m.tokens m.live keep was.entered })
