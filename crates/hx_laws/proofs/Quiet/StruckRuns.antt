-- Striking whole chains that are quiet in the end changes nothing that others see.
use Rattle.std.proofs.Common.{◌≡◌, ℕ, Bool, true, false, refl, List, [], ◌∷◌}
use Rattle.hx_members.specs.Setups.{Setup}
use Rattle.hx_rules.specs.declared.event.Event.{Event}
use Rattle.hx_rules.specs.Markets.{Market, opening}
use Rattle.hx_rules.specs.Steps.{happens, with_record, step, market_after, outputs_from, run, output}
use Rattle.hx_laws.specs.QuietChains.{Choice, bears, strike, lines_of_all}
use Rattle.hx_laws.specs.Laws.{AreQuietChains, IsUnknownTo, QuietChains}
use Rattle.hx_laws.proofs.History.CoherentSteps.{Coherent, Moves, record_moves}
use Rattle.hx_laws.proofs.History.EventMoves.{happens_moves, step_moves, run_moves, coherent_opening}
use Rattle.hx_laws.proofs.Quiet.Alike.{IsAlike}
use Rattle.hx_laws.proofs.Quiet.QuietArrivals.{quiet_earlier}
use Rattle.hx_laws.proofs.Quiet.SameArrivals.{IsSame}
use Rattle.hx_laws.proofs.Quiet.SameEvents.{same_happens}
use Rattle.hx_laws.proofs.Quiet.UnseenEvents.{IsUnseen, unseen_happens}

alike_opening : (s : Choice) (setup : Setup) → IsAlike s (opening setup) (opening setup)
unfolding opening
alike_opening s setup = record { live = refl; tokens = refl; chains = refl; counts = refl; private = λ p h. refl; rest = refl }

-- counting a recorded event leaves markets alike
record_both : (s : Choice) (a b : Market) (e : Event) → IsAlike s a b → IsAlike s (with_record e a) (with_record e b)
record_both s a b e r = record { live = r.live; tokens = r.tokens; chains = r.chains; counts = r.counts; private = r.private; rest = r.rest }

record_one : (s : Choice) (a b : Market) (e : Event) → IsAlike s a b → IsAlike s (with_record e a) b
record_one s a b e r = record { live = r.live; tokens = r.tokens; chains = r.chains; counts = r.counts; private = r.private; rest = r.rest }

-- a run, and the run of the struck events beside it
record RunTogether (s : Choice) (see : ℕ → Bool) (setup : Setup) (a b : Market) (events : List Event) : Type 0 where
  pub market : IsAlike s (market_after setup a events) (market_after setup b (strike s events))
  pub seen : lines_of_all see (outputs_from setup a events) ≡ lines_of_all see (outputs_from setup b (strike s events))

runs_together : (s : Choice) (see : ℕ → Bool) → IsUnknownTo see s → (setup : Setup) (events : List Event) (a b : Market) → Coherent a → IsAlike s a b → AreQuietChains s (market_after setup a events)
    → RunTogether s see setup a b events
unfolding market_after outputs_from strike step
runs_together s see blind setup [] a b coherent r q = record { market = r; seen = refl }
runs_together s see blind setup (event ∷ events) a b coherent r q = choose (bears s event) refl (λ c d. runs_together s see blind setup events c d)
  where
    a_recorded : Market
    a_recorded = with_record event a

    coherent_recorded : Coherent a_recorded
    coherent_recorded = (record_moves a event).coherent coherent

    moves : Moves a (happens setup a_recorded event).market
    moves = step_moves setup a event coherent

    after : AreQuietChains s (happens setup a_recorded event).market
    after = quiet_earlier s (happens setup a_recorded event).market _ (run_moves setup (happens setup a_recorded event).market events (moves.coherent coherent)).grows q

    at : AreQuietChains s a_recorded
    at = quiet_earlier s a_recorded (happens setup a_recorded event).market (happens_moves setup a_recorded event coherent_recorded).grows after

    choose : (k : Bool) → bears s event ≡ k
        → ((c d : Market) → Coherent c → IsAlike s c d → AreQuietChains s (market_after setup c events) → RunTogether s see setup c d events) → RunTogether s see setup a b (event ∷ events)
    choose true e ih =
        let u : IsUnseen s see (happens setup a_recorded event) b = unseen_happens s see blind setup a_recorded b coherent_recorded (record_one s a b event r) event e after in
        let n = ih (happens setup a_recorded event).market b (moves.coherent coherent) u.market q in
        record { market = rw e n.market; seen = rw (e, u.seen) n.seen }
    choose false e ih =
        let b_recorded : Market = with_record event b in
        let u : IsSame s see (happens setup a_recorded event) (happens setup b_recorded event) = same_happens s see blind setup a_recorded b_recorded coherent_recorded (record_both s a b event r) at event e after in
        let n = ih (happens setup a_recorded event).market (happens setup b_recorded event).market (moves.coherent coherent) u.market q in
        record { market = rw e n.market; seen = rw (e, u.seen, n.seen) refl }

pub quiet_chains : QuietChains
unfolding run output
quiet_chains setup events s see q blind = (runs_together s see blind setup events (opening setup) (opening setup) (coherent_opening setup) (alike_opening s setup) q).seen
