-- Lines that are read before they are applied.
use Rattle.std.proofs.Common.{◌≡◌, ℕ, List, [], ◌∷◌, ◌++◌, map, refl, sym, ap, ◌∙◌, append_assoc}
use Rattle.std.proofs.lemmas.List.{append-nil, map-append}
use Rattle.hx_rules.specs.declared.event.Event.{Event}
use Rattle.hx_match.proofs.First.{all_append}
use Rattle.hx_tape_lines.specs.Text.{tape}
use Rattle.hx_tape_lines.specs.Events.{event_of, IsKnown, IsLineOf}
use Rattle.hx_replay_parallel.specs.Ahead.{IsAhead, TakesLines}
use Rattle.hx_replay.proofs.OneReading.{tape-cons}
use Rattle.hx_replay.proofs.Runs.{tape-append}

-- nothing is read
pub ahead_none : (text : List ℕ) → IsAhead text [] text
ahead_none text = record { entries = []; are = record { are_known = tt; events_are = refl }; text_is = refl }

-- one line more
pub ahead_more : (text : List ℕ) (events : List Event) (rest l others : List ℕ) (event : Event) → IsAhead text events rest → rest ≡ l ++ 10 ∷ others → IsLineOf l event
    → IsAhead text (events ++ event ∷ []) others
ahead_more text events rest l others event h cut one =
    let e = one.entry in
    let last : tape (e ∷ []) ≡ l ++ 10 ∷ [] = tape-cons e [] ∙ ap (λ (x : List ℕ). x ++ 10 ∷ []) (sym one.is_line) in
    let tail : tape (e ∷ []) ++ others ≡ rest = ap (λ (x : List ℕ). x ++ others) last ∙ append_assoc l (10 ∷ []) others ∙ sym cut in
    record {
      entries = h.entries ++ e ∷ [];
      are = record {
        are_known = all_append IsKnown h.entries (e ∷ []) h.are.are_known (one.is_known, tt);
        events_are = ap (λ (es : List Event). es ++ event ∷ []) h.are.events_are ∙ ap (λ (x : Event). map event_of h.entries ++ x ∷ []) one.event_is ∙ sym (map-append event_of h.entries (e ∷ []));
      };
      text_is = h.text_is ∙ ap (λ (x : List ℕ). tape h.entries ++ x) (sym tail) ∙ sym (append_assoc (tape h.entries) (tape (e ∷ [])) others) ∙ ap (λ (x : List ℕ). x ++ others) (sym (tape-append h.entries (e ∷ [])));
    }

-- lines after those that were read before

pub takes_none : (text : List ℕ) (old : List Event) → TakesLines text old old text
takes_none text old = record { events = []; new_is = sym (append-nil old); ahead = ahead_none text }

-- one line more
pub takes_more : (text : List ℕ) (old new new' : List Event) (rest l others : List ℕ) (event : Event) → TakesLines text old new rest → new' ≡ new ++ event ∷ [] → rest ≡ l ++ 10 ∷ others → IsLineOf l event
    → TakesLines text old new' others
takes_more text old new new' rest l others event h grown cut one = record {
  events = h.events ++ event ∷ [];
  new_is = grown ∙ ap (λ (es : List Event). es ++ event ∷ []) h.new_is ∙ append_assoc old h.events (event ∷ []);
  ahead = ahead_more text h.events rest l others event h.ahead cut one;
}

-- none were read before
pub ahead_first : (text : List ℕ) (old new : List Event) (rest : List ℕ) → old ≡ [] → TakesLines text old new rest → IsAhead text new rest
ahead_first text old new rest none h = record {
  entries = h.ahead.entries;
  are = record { are_known = h.ahead.are.are_known; events_are = h.new_is ∙ ap (λ (es : List Event). es ++ h.events) none ∙ h.ahead.are.events_are };
  text_is = h.ahead.text_is;
}

-- those that were read before, and these after them
pub ahead_then : (whole text : List ℕ) (old new : List Event) (rest : List ℕ) → IsAhead whole old text → TakesLines text old new rest → IsAhead whole new rest
ahead_then whole text old new rest h t =
    let es = h.entries in
    let fs = t.ahead.entries in
    record {
      entries = es ++ fs;
      are = record {
        are_known = all_append IsKnown es fs h.are.are_known t.ahead.are.are_known;
        events_are = t.new_is ∙ ap (λ (l : List Event). l ++ t.events) h.are.events_are ∙ ap (λ (l : List Event). map event_of es ++ l) t.ahead.are.events_are ∙ sym (map-append event_of es fs);
      };
      text_is = h.text_is ∙ ap (λ (x : List ℕ). tape es ++ x) t.ahead.text_is ∙ sym (append_assoc (tape es) (tape fs) rest) ∙ ap (λ (x : List ℕ). x ++ rest) (sym (tape-append es fs));
    }
