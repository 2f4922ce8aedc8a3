-- What an audit has taken.
use Rattle.std.proofs.Common.{◌≡◌, ℕ, ◌<◌, List, [], ◌∷◌, ◌++◌, take, length, get_or, Some, None, Option, sym, ap, ◌∙◌, subst}
use Rattle.std.specs.Prelude.{Result, Ok, Err, OnOk, OnErr}
use Rattle.hx_members.specs.Setups.{Setup}
use Rattle.hx_rules.specs.declared.event.Event.{Event}
use Rattle.hx_rules.specs.declared.fault.PrepareError.{PrepareError}
use Rattle.hx_market.specs.Markets.{Market, opening}
use Rattle.hx_market.specs.Refusals.{refusal, or_no_memory}
use Rattle.hx_market.specs.Steps.{step, market_after, run}
use Rattle.hx_audit.specs.Recording.{AreRecorded, Explains, error_at}
use Rattle.hx_audit.specs.Auditing.{Audit, HasTaken}
use Rattle.hx_audit.proofs.Recorded.{one_more, explained}

-- nothing yet
pub opens : (a : Audit) → a.market ≡ opening a.setup → HasTaken a []
unfolding run market_after
opens a h = record { recorded = tt; market_is = h }

-- an event more
pub has_more : (a b : Audit) (x : Event) → b.setup ≡ a.setup → refusal a.setup a.market.recorded x ≡ None → b.market ≡ (step a.setup a.market x).market
    → (events : List Event) → HasTaken a events → HasTaken b (events ++ x ∷ [])
has_more a b x same passes next events h =
    let more = one_more a.setup events a.market b.market x h.recorded h.market_is passes next in
    record {
      recorded = subst (λ (s : Setup). AreRecorded s (events ++ x ∷ [])) (sym same) more.0;
      market_is = more.1 ∙ ap (λ (s : Setup). run s (events ++ x ∷ [])) (sym same);
    }

pub takes_ok : (result : Result Unit PrepareError) (a b : Audit) (x : Event) → b.setup ≡ a.setup → OnOk result (refusal a.setup a.market.recorded x ≡ None) → OnOk result (b.market ≡ (step a.setup a.market x).market)
    → OnOk result ((events : List Event) → HasTaken a events → HasTaken b (events ++ x ∷ []))
takes_ok (Ok u) a b x same passes next = has_more a b x same passes next
takes_ok (Err e) a b x same passes next = tt

-- there is a history that it has taken
pub has_some : (result : Result Unit PrepareError) (a b : Audit) (x : Event) → b.setup ≡ a.setup → OnOk result (refusal a.setup a.market.recorded x ≡ None) → OnOk result (b.market ≡ (step a.setup a.market x).market) → OnErr result (b.market ≡ a.market)
    → ((events : List Event) × HasTaken a events) → (events : List Event) × HasTaken b events
has_some (Ok u) a b x same passes next retained h = (h.0 ++ x ∷ [], has_more a b x same passes next h.0 h.1)
has_some (Err e) a b x same passes next retained h = (
  h.0,
  record {
    recorded = subst (λ (s : Setup). AreRecorded s h.0) (sym same) h.1.recorded;
    market_is = retained ∙ h.1.market_is ∙ ap (λ (s : Setup). run s h.0) (sym same);
  },
)

-- why the next event is refused
pub explained_next : (a : Audit) (setup : Setup) (events : List Event) (i : ℕ) (x : Event) → a.setup ≡ setup → HasTaken a (take i events) → i < length events → x ≡ get_or events i x
    → Explains setup events (error_at i (or_no_memory (refusal a.setup a.market.recorded x)))
explained_next a setup events i x same h below is =
    subst (λ (s : Setup). Explains s events (error_at i (or_no_memory (refusal a.setup a.market.recorded x)))) same
    (explained a.setup events i a.market x below is (record { market = h.market_is; recorded = h.recorded }))
