-- Events that are applied one after another.
use Rattle.std.proofs.Common.{◌≡◌, List, [], ◌∷◌, length, refl, ap, sym, ◌∙◌}
use Rattle.hx_blog.specs.Ends.{LogId}
use Rattle.hx_members.specs.Setups.{Setup}
use Rattle.hx_rules.specs.declared.event.Event.{Event}
use Rattle.hx_desk.specs.Entries.{restored, events_of}
use Rattle.hx_desk.specs.Desks.{DeskState, IsResumed, IsStanding, start_of}

pub events_restored : (events : List Event) → events_of (restored events) ≡ events
events_restored [] = refl
events_restored (e ∷ events) = ap (λ (l : List Event). e ∷ l) (events_restored events)

-- a desk that was resumed from events was resumed from those that it has recorded
pub resumed_from_its_own : (log : LogId) (setup : Setup) (events : List Event) (d : DeskState) → IsResumed log setup events d → IsResumed log d.setup (events_of d.history) d
resumed_from_its_own log setup events d resumed = record {
  log = resumed.log;
  setup = refl;
  history = resumed.history ∙ ap restored (sym (events_restored events) ∙ ap events_of (sym resumed.history));
  published_end = resumed.published_end;
  reserved = resumed.reserved;
  standing = resumed.standing;
}

-- a desk at its start was resumed from none
pub resumed_from_none : (log : LogId) (setup : Setup) (d : DeskState) → d ≡ start_of log setup → IsStanding d → IsResumed log d.setup (events_of d.history) d
resumed_from_none log setup d is stands = record {
  log = ap (λ (x : DeskState). x.log) is;
  setup = refl;
  history = ap (λ (x : DeskState). x.history) is ∙ ap (λ (x : DeskState). restored (events_of x.history)) (sym is);
  published_end = ap (λ (x : DeskState). x.published_end) is ∙ ap (λ (x : DeskState). length x.history) (sym is);
  reserved = ap (λ (x : DeskState). x.reserved) is;
  standing = stands;
}
