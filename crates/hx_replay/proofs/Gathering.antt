-- Output lines that wait to be written together.
use Rattle.std.proofs.Common.{◌≡◌, ℕ, ◌+◌, ◌≤◌, arith, List, [], ◌++◌, ◌∷◌, length, take, Option, refl, sym, ap, ◌∙◌, subst, append_assoc, inl, inr}
use Rattle.std.specs.Io.KnownBytes.{Appends, Keeps}
use Rattle.std.proofs.KnownBytes.{Appends-nil, Appends-trans, Appends-kept}
use Rattle.std.proofs.lemmas.List.{append-nil, length-append}
use Rattle.std.proofs.Math.Seq.{take-append_seam}
use Rattle.hx_units.specs.Cuts.{Lacks}
use Rattle.hx_replay.specs.declared.fault.TapeError.{TapeError}
use Rattle.hx_replay.specs.declared.fault.TapeError.TheVariants as fault
use Rattle.hx_units.specs.Writing.{Writes}
use Rattle.hx_replay.specs.Run.{Progress, output_all, Applies, Replays, Stops, EndsBy, Faults, IsFront, IsFew}
use Rattle.hx_tape_lines.specs.Text.{tape}
use Rattle.hx_replay.specs.Gathering.{Gathers, IsUnwritten}
use Rattle.hx_replay.proofs.Runs.{grows, stops_at_line, events_counted, few_all, length-tape}

-- ---- fronts

pub front_itself : (xs : List ℕ) → IsFront xs xs
front_itself xs = ([], sym (append-nil xs))

-- ---- lines that are gathered

-- nothing is applied yet
pub gathers_none : (c : Progress) (text gathered : List ℕ) (w : Option (List ℕ)) → gathered ≡ [] → Gathers c c text w w gathered text
gathers_none c text gathered w none = record { events = []; are_events = tt; text_is = refl; after_is = refl; written = []; wrote = Appends-nil w; output_is = sym none }

-- one line more
pub gathers_more : (c d d' : Progress) (text : List ℕ) (w v : Option (List ℕ)) (gathered rest l others more : List ℕ) → Gathers c d text w v gathered rest → rest ≡ l ++ 10 ∷ others
    → ((written : List ℕ) × Applies d d' l written × (more ≡ gathered ++ written)) → Gathers c d' text w v more others
gathers_more c d d' text w v gathered rest l others more h cut p =
    let g = grows c d d' text h.events rest l p.0 others h.are_events h.text_is h.after_is cut p.1 in
    record {
      events = h.events ++ p.1.entry ∷ [];
      are_events = g.are_events;
      text_is = g.text_is;
      after_is = g.after_is;
      written = h.written;
      wrote = h.wrote;
      output_is = g.output_is ∙ ap (λ (x : List ℕ). x ++ p.0) h.output_is ∙ append_assoc h.written gathered p.0 ∙ ap (λ (x : List ℕ). h.written ++ x) (sym p.2);
    }

-- what is known of the counts
pub gathers_counts : (c d : Progress) (text : List ℕ) (w v : Option (List ℕ)) (gathered rest : List ℕ) → Gathers c d text w v gathered rest → IsFew c → (d.events + length rest ≤ c.events + length text) × IsFew d
gathers_counts c d text w v gathered rest h few =
    let events : d.events ≡ c.events + length h.events = ap (λ (x : Progress). x.events) h.after_is ∙ events_counted c h.events in
    let size : length text ≡ length (tape h.events) + length rest = ap length h.text_is ∙ length-append (tape h.events) rest in
    (omega (arith, length-tape h.events), subst IsFew (sym h.after_is) (few_all c h.events few))

-- some of them are written
pub gathers_less : (c d : Progress) (text : List ℕ) (w v u : Option (List ℕ)) (gathered rest left : List ℕ) → Gathers c d text w v gathered rest → Writes v u gathered left → Gathers c d text w u left rest
gathers_less c d text w v u gathered rest left h some = record {
  events = h.events;
  are_events = h.are_events;
  text_is = h.text_is;
  after_is = h.after_is;
  written = h.written ++ some.front;
  wrote = Appends-trans w v u h.written some.front h.wrote some.wrote;
  output_is = h.output_is ∙ ap (λ (x : List ℕ). h.written ++ x) some.bytes_are ∙ sym (append_assoc h.written some.front left);
}

-- all of them are written
pub all_written : (c d : Progress) (text : List ℕ) (w v u : Option (List ℕ)) (gathered rest : List ℕ) → Gathers c d text w v gathered rest → Appends v u gathered → Replays c d text w u rest
all_written c d text w v u gathered rest h wrote = record {
  events = h.events;
  are_events = h.are_events;
  text_is = h.text_is;
  after_is = h.after_is;
  wrote = subst (Appends w u) (sym h.output_is) (Appends-trans w v u h.written gathered h.wrote wrote);
}

-- not all of them are written, when out of memory or since the writer fails to take them
pub stops_gathering : (c d : Progress) (text : List ℕ) (w v u : Option (List ℕ)) (gathered rest : List ℕ) (e : TapeError) → Gathers c d text w v gathered rest → ((left : List ℕ) × Writes v u gathered left) → IsUnwritten e
    → Stops ⊥ c text w u e
stops_gathering c d text w v u gathered rest e h some is =
    let g = gathers_less c d text w v u gathered rest some.0 h some.1 in
    let stops : (x : TapeError) → EndsBy ⊥ c g.events rest g.written x → Stops ⊥ c text w u x = λ x why.
    record { events = g.events; are_events = g.are_events; rest = rest; text_is = g.text_is; written = g.written; wrote = g.wrote; why = why } in
    elim is [
      | inl write ↦ subst (Stops ⊥ c text w u) (sym write) (stops fault.Write (some.0, g.output_is))
      | inr memory ↦ subst (Stops ⊥ c text w u) (sym memory) (stops fault.NoMemory (some.0, g.output_is))
    ]

-- the same at a line that fails: the output before it is written, or not
pub stops_after : (c d : Progress) (text : List ℕ) (w v u : Option (List ℕ)) (gathered output rest l others : List ℕ) (e : TapeError) → Gathers c d text w v gathered rest → rest ≡ l ++ 10 ∷ others → Lacks 10 l → Faults d l e → output ≡ gathered → Appends v u output
    → Stops ⊥ c text w u e
stops_after c d text w v u gathered output rest l others e h cut lacks fails same wrote =
    stops_at_line c d text w u rest l others e (all_written c d text w v u gathered rest h (subst (Appends v u) same wrote)) cut lacks fails

-- the writer has all, and fails to send it out
pub stops_sending : (c d : Progress) (text : List ℕ) (w v u : Option (List ℕ)) (rest : List ℕ) → Replays c d text w v rest → Keeps v u → Stops ⊥ c text w u fault.Write
stops_sending c d text w v u rest h retained = record {
  events = h.events;
  are_events = h.are_events;
  rest = rest;
  text_is = h.text_is;
  written = output_all c h.events;
  wrote = Appends-kept w v u (output_all c h.events) h.wrote retained;
  why = front_itself (output_all c h.events);
}
