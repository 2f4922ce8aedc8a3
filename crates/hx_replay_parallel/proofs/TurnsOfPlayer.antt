-- Turns that come to the thread that applies them.
use Rattle.std.proofs.Common.{◌≡◌, ℕ, ◌+◌, ◌^◌, ◌≤◌, List, [], ◌∷◌, ◌++◌, length, sym, ap, ◌∙◌, subst, arith}
use Rattle.std.proofs.lemmas.List.{append-nil, length-append, length-map, nil_from_length}
use Rattle.hx_rules.specs.declared.event.Event.{Event}
use Rattle.hx_replay_parallel.specs.declared.batch.Batch.{Batch}
use Rattle.hx_tape_lines.specs.Text.{Entry}
use Rattle.hx_tape_lines.specs.Events.{event_of}
use Rattle.hx_replay.specs.Run.{Progress, after_all, output_all, AreEvents, IsFew}
use Rattle.hx_replay_parallel.specs.Ahead.{AreOf, AppliesAll}
use Rattle.hx_replay_parallel.specs.Turns.{events_of, output_of, MayFollow, AppliesTurns}
use Rattle.hx_replay_parallel.proofs.TurnLists.{events_with, output_with, are_joined, in_parts}
use Rattle.hx_replay.proofs.Runs.{after-append, output-append, events-append, events_counted}
use Rattle.hx_replay_parallel.proofs.Turning.{applies_none, applies_few}

-- the events that are applied

-- events that are applied, and then others
applies_on : (c d e : Progress) (es fs : List Entry) (output more : List ℕ) → AppliesAll c d es output → AppliesAll d e fs more → AppliesAll c e (es ++ fs) (output ++ more)
applies_on c d e es fs output more h k = record {
  are_events = events-append c es fs h.are_events (subst (λ (q : Progress). AreEvents q fs) h.after_is k.are_events);
  after_is = k.after_is ∙ ap (λ (q : Progress). after_all q fs) h.after_is ∙ sym (after-append c es fs);
  output_is = ap (λ (x : List ℕ). x ++ more) h.output_is ∙ ap (λ (x : List ℕ). output_all c es ++ x) (k.output_is ∙ ap (λ (q : Progress). output_all q fs) h.after_is) ∙ sym (output-append c es fs);
}

-- ---- turns

-- these turns came and were applied, and few events came in them
pub record CameAndApplied (old new : Progress) (came sent : List Batch) : Type 0 where
  pub entries : List Entry
  pub are : AreOf entries (events_of came)
  pub applies : AppliesTurns old new came sent
  pub few : length (events_of came) ≤ 2 ^ 45

-- none came yet
pub came_none : (c : Progress) (came sent : List Batch) → came ≡ [] → output_of sent ≡ [] → CameAndApplied c c came sent
came_none c came sent none untold =
    let no_events : events_of came ≡ [] = ap events_of none in
    record {
      entries = [];
      are = record { are_known = tt; events_are = no_events };
      applies = λ es are.
          let size : length es ≡ 0 = sym (length-map es event_of) ∙ sym (ap length are.events_are) ∙ ap length no_events in
          subst (λ (l : List Entry). AppliesAll c c l (output_of sent)) (sym (nil_from_length es size)) (applies_none c (output_of sent) untold);
      few = let size : length (events_of came) ≡ 0 = ap length no_events in omega arith;
    }

-- the number of events applied
pub came_counts : (c d : Progress) (came sent : List Batch) → CameAndApplied c d came sent → IsFew c → (d.events ≤ c.events + 2 ^ 45) × IsFew d
came_counts c d came sent h few =
    let p : AppliesAll c d h.entries (output_of sent) = h.applies h.entries h.are in
    let count : d.events ≡ c.events + length h.entries = ap (λ (x : Progress). x.events) p.after_is ∙ events_counted c h.entries in
    let size : length (events_of came) ≡ length h.entries = ap length h.are.events_are ∙ length-map h.entries event_of in
    (omega (arith, h.few), applies_few c d h.entries (output_of sent) p few)

-- one more came, was applied and is sent on with its output
pub came_next : (c d e : Progress) (came sent came' still sent' : List Batch) (turn last : Batch) (output : List ℕ) → CameAndApplied c d came sent → MayFollow came turn → came' ≡ came ++ turn ∷ []
    → ((es : List Entry) → AreOf es turn.ahead → AppliesAll d e es output) → still ≡ sent → sent' ≡ still ++ last ∷ [] → last.outputs ≡ output → CameAndApplied c e came' sent'
came_next c d e came sent came' still sent' turn last output h may comes applied same sends tells =
    let events : events_of came' ≡ events_of came ++ turn.ahead = ap events_of comes ∙ events_with came turn in
    let outputs : output_of sent' ≡ output_of sent ++ output = ap output_of sends ∙ ap (λ (l : List Batch). output_of (l ++ last ∷ [])) same ∙ output_with sent last ∙ ap (λ (x : List ℕ). output_of sent ++ x) tells in
    record {
      entries = h.entries ++ may.entries;
      are = subst (λ (l : List Event). AreOf (h.entries ++ may.entries) l) (sym events) (are_joined h.entries may.entries (events_of came) turn.ahead h.are may.are);
      applies = λ es are.
          let r = in_parts es (events_of came) turn.ahead are.are_known (sym events ∙ are.events_are) in
          let p : AppliesAll c e (r.front ++ r.back) (output_of sent ++ output) = applies_on c d e r.front r.back (output_of sent) output (h.applies r.front r.front_are) (applied r.back r.back_are) in
          subst (λ (x : List ℕ). AppliesAll c e es x) (sym outputs) (subst (λ (l : List Entry). AppliesAll c e l (output_of sent ++ output)) (sym r.joined) p);
      few = let size : length (events_of came') ≡ length (events_of came) + length turn.ahead = ap length events ∙ length-append (events_of came) turn.ahead in omega (arith, may.few);
    }

-- one without lines came
pub came_last : (c d : Progress) (came sent came' sent' : List Batch) (turn : Batch) → CameAndApplied c d came sent → came' ≡ came ++ turn ∷ [] → length turn.ahead ≡ 0 → sent' ≡ sent → AppliesTurns c d came' sent'
came_last c d came sent came' sent' turn h comes empty sends es are =
    let events : events_of came' ≡ events_of came = ap events_of comes ∙ events_with came turn ∙ ap (λ (x : List Event). events_of came ++ x) (nil_from_length turn.ahead empty) ∙ append-nil (events_of came) in
    subst (λ (l : List Batch). AppliesAll c d es (output_of l)) (sym sends) (h.applies es (subst (λ (l : List Event). AreOf es l) events are))
