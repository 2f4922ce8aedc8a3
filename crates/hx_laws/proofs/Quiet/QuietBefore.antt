-- What is quiet in the end was quiet before.
use Rattle.std.proofs.Common.{◌≡◌, ℕ, Bool, true, false, refl, ap, sym, ◌∙◌, not, List, [], ◌∷◌, ◌++◌}
use Rattle.std.proofs.lemmas.Bool.{and_parts, not-true}
use Rattle.hx_members.specs.Setups.{Setup}
use Rattle.hx_members.specs.Chains.{is_used, entered_of, is_loud}
use Rattle.hx_rules.specs.declared.event.Event.{Event}
use Rattle.hx_rules.specs.Orders.{Token}
use Rattle.hx_rules.specs.Markets.{Market, opening}
use Rattle.hx_rules.specs.Steps.{step, market_after, run}
use Rattle.hx_laws.specs.QuietChains.{is_quiet}
use Rattle.hx_laws.specs.Laws.{QuietBefore}
use Rattle.hx_laws.proofs.History.CoherentSteps.{Moves}
use Rattle.hx_laws.proofs.History.EventMoves.{run_moves, coherent_run}

pub not_both : {X : Type 0} (b : Bool) → b ≡ true → b ≡ false → X
not_both true h e = absurd (let z : true ≡ false = e in cc)
not_both false h e = absurd (let z : false ≡ true = h in cc)

market_append : (setup : Setup) (xs ys : List Event) (a : Market) → market_after setup a (xs ++ ys) ≡ market_after setup (market_after setup a xs) ys
unfolding market_after
market_append setup [] ys a = refl
market_append setup (x ∷ xs) ys a = market_append setup xs ys (step setup a x).market

pub quiet_loud : (a : Market) (m : ℕ) (t : Token) → is_quiet a m t ≡ true → is_loud a.chains m (entered_of a.tokens m t) ≡ false
unfolding is_quiet
quiet_loud a m t h = not-true _ (and_parts (is_used a.tokens m t) _ h).1

still_quiet : (a b : Market) → Moves a b → (m : ℕ) (t : Token) → is_used a.tokens m t ≡ true → is_quiet b m t ≡ true → is_quiet a m t ≡ true
unfolding is_quiet
still_quiet a b moves m t u q = rw u (choose (is_loud a.chains m (entered_of a.tokens m t)) refl)
  where
    quiet : is_loud b.chains m (entered_of a.tokens m t) ≡ false
    quiet = ap (is_loud b.chains m) (sym (moves.grows.entered m t u)) ∙ quiet_loud b m t q

    choose : (c : Bool) → is_loud a.chains m (entered_of a.tokens m t) ≡ c → not c ≡ true
    choose true e = not_both _ (moves.grows.loud m _ e) quiet
    choose false e = refl

pub quiet_before : QuietBefore
unfolding run
quiet_before setup xs ys m t u q =
    still_quiet (run setup xs) _ (run_moves setup (run setup xs) ys (coherent_run setup xs)) m t u (ap (λ (a : Market). is_quiet a m t) (sym (market_append setup xs ys (opening setup))) ∙ q)
