-- One more event of a history.
use Rattle.std.proofs.Common.{◌≡◌, ℕ, ◌+◌, ◌<◌, ◌≤◌, suc, length, take, drop, get_or, refl, sym, ap, ◌∙◌, subst, List, [], ◌∷◌, ◌++◌, Some, None, Option, inl, inr, arith, add-one}
use Rattle.std.proofs.Math.Seq.{take-suc, split_at}
use Rattle.std.proofs.lemmas.List.{length-take, take_all}
use Rattle.hx_members.specs.Setups.{Setup}
use Rattle.hx_rules.specs.declared.event.Event.{Event}
use Rattle.hx_rules.specs.declared.fault.PrepareError.{PrepareError}
use Rattle.hx_rules.specs.declared.fault.PrepareError.TheVariants as reason
use Rattle.hx_market.specs.Markets.{Market, opening}
use Rattle.hx_market.specs.Refusals.{refusal, or_no_memory}
use Rattle.hx_market.specs.Steps.{step, market_after, run}
use Rattle.hx_audit.specs.Recording.{AreRecorded, IsRefusedAt, Explains, IsErrorAt, error_at}
use Rattle.hx_audit.specs.declared.fault.StrikeError.{StrikeError}
use Rattle.hx_laws.proofs.Accepted.{accepted_push, market_after_push}

-- what is known before the event of an index: the market is that after the events before it, all of which are recorded
pub record Took (setup : Setup) (events : List Event) (index : ℕ) (m : Market) : Type 0 where
  pub market : m ≡ run setup (take index events)
  pub recorded : AreRecorded setup (take index events)

taken : (xs : List Event) (i : ℕ) (x : Event) → i < length xs → x ≡ get_or xs i x → take (i + 1) xs ≡ take i xs ++ x ∷ []
taken xs i x h e = rw (add-one, take-suc xs i x) (ap (λ (y : Event). take i xs ++ y ∷ []) (sym e))

pub took_more : (setup : Setup) (events : List Event) (i : ℕ) (a b : Market) (x : Event) → i < length events → x ≡ get_or events i x → Took setup events i a
    → refusal setup a.recorded x ≡ None → b ≡ (step setup a x).market → Took setup events (i + 1) b
unfolding run
took_more setup events i a b x h e t r s =
    let more = taken events i x h e in
    record {
      market = s ∙ ap (λ (m : Market). (step setup m x).market) t.market ∙ sym (market_after_push setup (opening setup) (take i events) x) ∙ ap (run setup) (sym more);
      recorded =
          subst (AreRecorded setup) (sym more)
          (accepted_push setup (opening setup) (take i events) x t.recorded (ap (λ (m : Market). refusal setup m.recorded x) (sym t.market) ∙ r));
    }

-- the first event that is refused
refused_at : (setup : Setup) (events : List Event) (i : ℕ) (a : Market) (x : Event) → i < length events → x ≡ get_or events i x → Took setup events i a
    → (error : PrepareError) → refusal setup a.recorded x ≡ Some error → IsRefusedAt setup events i error
refused_at setup events i a x h e t error r =
    record {
      before = take i events;
      event = x;
      after = drop (suc i) events;
      split = split_at events i x h ∙ ap (λ (y : Event). take i events ++ y ∷ drop (suc i) events) (sym e);
      at_position = simp length-take (omega arith);
      recorded = t.recorded;
      refused = ap (λ (m : Market). refusal setup m.recorded x) (sym t.market) ∙ r;
    }

pub explained : (setup : Setup) (events : List Event) (i : ℕ) (a : Market) (x : Event) → i < length events → x ≡ get_or events i x → Took setup events i a
    → Explains setup events (error_at i (or_no_memory (refusal setup a.recorded x)))
explained setup events i a x h e t = choose (refusal setup a.recorded x) (refused_at setup events i a x h e t)
  where
    choose : (o : Option PrepareError) → ((error : PrepareError) → o ≡ Some error → IsRefusedAt setup events i error) → Explains setup events (error_at i (or_no_memory o))
    choose None f = tt
    choose (Some reason.NoMemory) f = tt
    choose (Some (reason.Limit n)) f = f (reason.Limit n) refl
    choose (Some reason.NoMember) f = f reason.NoMember refl
    choose (Some reason.BadTime) f = f reason.BadTime refl

pub took_none : (setup : Setup) (events : List Event) (a : Market) → a ≡ opening setup → Took setup events 0 a
unfolding run market_after
took_none setup [] a h = record { market = h; recorded = tt }
took_none setup (x ∷ events) a h = record { market = h; recorded = tt }

-- the same of an error that may be want of memory
pub explained_or : (setup : Setup) (events : List Event) (i : ℕ) (a : Market) (x : Event) (error : StrikeError) → i < length events → x ≡ get_or events i x → Took setup events i a
    → IsErrorAt i (refusal setup a.recorded x) error → Explains setup events error
explained_or setup events i a x error h e t (inl p) = subst (Explains setup events) (sym p) tt
explained_or setup events i a x error h e t (inr p) = subst (Explains setup events) (sym p) (explained setup events i a x h e t)

-- a history and one event more

pub one_more : (setup : Setup) (events : List Event) (a b : Market) (x : Event) → AreRecorded setup events → a ≡ run setup events
    → refusal setup a.recorded x ≡ None → b ≡ (step setup a x).market → AreRecorded setup (events ++ x ∷ []) × (b ≡ run setup (events ++ x ∷ []))
unfolding run
one_more setup events a b x r m p s = (
  accepted_push setup (opening setup) events x r (ap (λ (k : Market). refusal setup k.recorded x) (sym m) ∙ p),
  s ∙ ap (λ (k : Market). (step setup k x).market) m ∙ sym (market_after_push setup (opening setup) events x),
)
