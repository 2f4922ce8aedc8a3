-- Lines one after the other.
use Rattle.std.proofs.Common.{◌⊎◌, ◌≡◌, ℕ, ◌+◌, ◌≤◌, ◌<◌, List, [], ◌∷◌, ◌++◌, length, Option, refl, sym, ap, ◌∙◌, subst, append_assoc, inl, inr, arith}
use Rattle.std.proofs.KnownBytes.{Appends-nil}
use Rattle.std.proofs.lemmas.List.{append-nil, length-append}
use Rattle.std.proofs.lemmas.List.Concat.{flat_map-cons, flat_map-append}
use Rattle.hx_replay.specs.declared.fault.TapeError.{TapeError}
use Rattle.hx_replay.specs.declared.fault.TapeError.TheVariants as fault
use Rattle.hx_tape_lines.specs.declared.fault.Kind.TheVariants as kinds
use Rattle.hx_units.specs.Cuts.{Lacks}
use Rattle.hx_tape_lines.specs.Text.{Entry, line, tape}
use Rattle.hx_replay.specs.Run.{Progress, output_of, after, IsEvent, AreEvents, after_all, output_all, Applies, Replays, Stops, EndsBy, Faults, FailsAs, IsFew}
use Rattle.hx_replay.proofs.Few.{few-after}

-- ---- one list of events after another

pub tape-append : (es fs : List Entry) → tape (es ++ fs) ≡ tape es ++ tape fs
tape-append es fs = flat_map-append (λ e. line e ++ 10 ∷ []) es fs

pub after-append : (c : Progress) (es fs : List Entry) → after_all c (es ++ fs) ≡ after_all (after_all c es) fs
after-append c [] fs = refl
after-append c (e ∷ es) fs = after-append (after c e) es fs

pub output-append : (c : Progress) (es fs : List Entry) → output_all c (es ++ fs) ≡ output_all c es ++ output_all (after_all c es) fs
output-append c [] fs = refl
output-append c (e ∷ es) fs = ap (λ (x : List ℕ). output_of c e ++ x) (output-append (after c e) es fs) ∙ sym (append_assoc (output_of c e) (output_all (after c e) es) _)

pub events-append : (c : Progress) (es fs : List Entry) → AreEvents c es → AreEvents (after_all c es) fs → AreEvents c (es ++ fs)
events-append c [] fs p q = q
events-append c (e ∷ es) fs p q = (p.0, events-append (after c e) es fs p.1 q)

-- ---- counts

pub events_counted : (c : Progress) (es : List Entry) → (after_all c es).events ≡ c.events + length es
unfolding after
events_counted c [] = omega arith
events_counted c (e ∷ es) = let more = events_counted (after c e) es in omega arith

pub few_all : (c : Progress) (es : List Entry) → IsFew c → IsFew (after_all c es)
few_all c [] h = h
few_all c (e ∷ es) h = few_all (after c e) es (few-after c e h)

pub length-tape : (es : List Entry) → length es ≤ length (tape es)
length-tape [] = omega arith
length-tape (e ∷ es) = let more = length-tape es in rw (flat_map-cons (λ x. line x ++ 10 ∷ []) e es) (omega (arith, more, length-append (line e ++ 10 ∷ []) (tape es), length-append (line e) (10 ∷ [])))

-- what is known of the counts
pub replays_counts : (c d : Progress) (text : List ℕ) (w v : Option (List ℕ)) (rest : List ℕ) → Replays c d text w v rest → IsFew c → (d.events + length rest ≤ c.events + length text) × IsFew d
replays_counts c d text w v rest h few =
    let events : d.events ≡ c.events + length h.events = ap (λ (x : Progress). x.events) h.after_is ∙ events_counted c h.events in
    let size : length text ≡ length (tape h.events) + length rest = ap length h.text_is ∙ length-append (tape h.events) rest in
    (omega (arith, length-tape h.events), subst IsFew (sym h.after_is) (few_all c h.events few))

-- ---- one line more

-- the events and one more
pub record Grown (c d' : Progress) (text : List ℕ) (es : List Entry) (e : Entry) (output others : List ℕ) : Type 0 where
  pub are_events : AreEvents c (es ++ e ∷ [])
  pub text_is : text ≡ tape (es ++ e ∷ []) ++ others
  pub after_is : d' ≡ after_all c (es ++ e ∷ [])
  pub output_is : output_all c (es ++ e ∷ []) ≡ output_all c es ++ output

pub grows : (c d d' : Progress) (text : List ℕ) (es : List Entry) (rest l output others : List ℕ) → AreEvents c es → text ≡ tape es ++ rest → d ≡ after_all c es → rest ≡ l ++ 10 ∷ others
    → (p : Applies d d' l output) → Grown c d' text es p.entry output others
grows c d d' text es rest l output others are text_is after_is cut p =
    let e = p.entry in
    let last : tape (e ∷ []) ≡ l ++ 10 ∷ [] = flat_map-cons (λ x. line x ++ 10 ∷ []) e [] ∙ append-nil (line e ++ 10 ∷ []) ∙ ap (λ (x : List ℕ). x ++ 10 ∷ []) (sym p.is_line) in
    let tail : tape (e ∷ []) ++ others ≡ rest = ap (λ (x : List ℕ). x ++ others) last ∙ append_assoc l (10 ∷ []) others ∙ sym cut in
    record {
      are_events = events-append c es (e ∷ []) are (subst (λ (q : Progress). IsEvent q e) after_is p.is_event, tt);
      text_is = text_is ∙ ap (λ (x : List ℕ). tape es ++ x) (sym tail) ∙ sym (append_assoc (tape es) (tape (e ∷ [])) others) ∙ ap (λ (x : List ℕ). x ++ others) (sym (tape-append es (e ∷ [])));
      after_is = p.after_is ∙ ap (λ (x : Progress). after x e) after_is ∙ sym (after-append c es (e ∷ []));
      output_is = output-append c es (e ∷ []) ∙ ap (λ (x : List ℕ). output_all c es ++ x) (append-nil (output_of (after_all c es) e) ∙ ap (λ (x : Progress). output_of x e) (sym after_is) ∙ sym p.output_is);
    }

pub replays_none : (c : Progress) (text : List ℕ) (w : Option (List ℕ)) → Replays c c text w w text
replays_none c text w = record { events = []; are_events = tt; text_is = refl; after_is = refl; wrote = Appends-nil w }

pub stops_at_line : (c d : Progress) (text : List ℕ) (w v : Option (List ℕ)) (rest l others : List ℕ) (e : TapeError) → Replays c d text w v rest → rest ≡ l ++ 10 ∷ others → Lacks 10 l → Faults d l e
    → Stops ⊥ c text w v e
stops_at_line c d text w v rest l others e h cut none fails =
    let stop : (x : TapeError) → EndsBy ⊥ c h.events rest (output_all c h.events) x → Stops ⊥ c text w v x = λ x why.
    record { events = h.events; are_events = h.are_events; rest = rest; text_is = h.text_is; written = output_all c h.events; wrote = h.wrote; why = why } in
    let lines : d.events ≡ c.events + length h.events = ap (λ (x : Progress). x.events) h.after_is ∙ events_counted c h.events in
    elim e as (λ x. Faults d l x → Stops ⊥ c text w v x) [
      | fault.Line n k ↦ λ f. stop (fault.Line n k) (refl, omega (arith, f.0), inl (l, others, cut, none, subst (λ (q : Progress). FailsAs q k l) h.after_is f.1))
      | fault.NoMemory ↦ λ f. stop fault.NoMemory ([], sym (append-nil (output_all c h.events)))
      | fault.Read ↦ λ f. absurd f
      | fault.Write ↦ λ f. absurd f
      | fault.Turns ↦ λ f. absurd f
    ] fails

pub stops_without_memory : (c d : Progress) (text : List ℕ) (w v : Option (List ℕ)) (rest : List ℕ) → Replays c d text w v rest → Stops ⊥ c text w v fault.NoMemory
stops_without_memory c d text w v rest h = record {
  events = h.events;
  are_events = h.are_events;
  rest = rest;
  text_is = h.text_is;
  written = output_all c h.events;
  wrote = h.wrote;
  why = ([], sym (append-nil (output_all c h.events)));
}

pub stops_at_rest : (End : Type 0) (c d : Progress) (text : List ℕ) (w v : Option (List ℕ)) (rest : List ℕ) → Replays c d text w v rest → Lacks 10 rest → (2066 < length rest) ⊎ ((0 < length rest) × End)
    → Stops End c text w v (fault.Line (d.events + 1) kinds.Bad)
stops_at_rest End c d text w v rest h none why =
    let lines : d.events ≡ c.events + length h.events = ap (λ (x : Progress). x.events) h.after_is ∙ events_counted c h.events in
    record {
      events = h.events;
      are_events = h.are_events;
      rest = rest;
      text_is = h.text_is;
      written = output_all c h.events;
      wrote = h.wrote;
      why = (refl, omega arith, inr (refl, none, why));
    }
