-- A line that is written part by part.
use Rattle.std.proofs.Common.{◌≡◌, ℕ, List, [], ◌∷◌, ◌++◌, refl, sym, ap, ◌∙◌, append_assoc}
use Rattle.std.proofs.lemmas.List.{append-nil}
use Rattle.hx_rules.specs.declared.event.Event.{Event}
use Rattle.hx_tape_lines.specs.Text.{entry_of_event, HasGrown, line}

-- a front of the bytes comes after the text that was there before, and the rest is left
pub record Wrote (old new front rest bytes : List ℕ) : Type 0 where
  pub new_is : new ≡ old ++ front
  pub bytes_are : bytes ≡ front ++ rest

pub wrote_none : (old new bytes : List ℕ) → new ≡ old → Wrote old new [] bytes bytes
wrote_none old new bytes same = record { new_is = same ∙ sym (append-nil old); bytes_are = refl }

-- one part more
pub wrote_part : (old mid new front part rest bytes : List ℕ) → Wrote old mid front (part ++ rest) bytes → new ≡ mid ++ part → Wrote old new (front ++ part) rest bytes
wrote_part old mid new front part rest bytes h more = record {
  new_is = more ∙ ap (λ (l : List ℕ). l ++ part) h.new_is ∙ append_assoc old front part;
  bytes_are = h.bytes_are ∙ sym (append_assoc front part rest);
}

pub has_grown : (old new front rest bytes : List ℕ) → Wrote old new front rest bytes → HasGrown old new bytes
has_grown old new front rest bytes h = record { front = front; rest = rest; new_is = h.new_is; bytes_are = h.bytes_are }

-- ---- the parts of a line: a number, a space, a number, a space, and digits

pub wrote_time : (old one a x : List ℕ) → one ≡ old ++ a → Wrote old one a (32 ∷ x) (a ++ 32 ∷ x)
wrote_time old one a x is = record { new_is = is; bytes_are = refl }

pub wrote_space : (old one two a x : List ℕ) → one ≡ old ++ a → two ≡ one ++ 32 ∷ [] → Wrote old two (a ++ 32 ∷ []) x (a ++ 32 ∷ x)
wrote_space old one two a x is next = wrote_part old one two a (32 ∷ []) x (a ++ 32 ∷ x) (wrote_time old one a x is) next

pub wrote_member : (old two three front b y bytes : List ℕ) → Wrote old two front (b ++ 32 ∷ y) bytes → three ≡ two ++ b → Wrote old three (front ++ b) (32 ∷ y) bytes
wrote_member old two three front b y bytes h next = wrote_part old two three front b (32 ∷ y) bytes h next

pub wrote_second_space : (old three four front y bytes : List ℕ) → Wrote old three front (32 ∷ y) bytes → four ≡ three ++ 32 ∷ [] → Wrote old four (front ++ 32 ∷ []) y bytes
wrote_second_space old three four front y bytes h next = wrote_part old three four front (32 ∷ []) y bytes h next

-- the line of an event, and the line feed after it

-- a beginning of the line is one of the line with its line feed
pub begins_line : (old new : List ℕ) (event : Event) → HasGrown old new (line (entry_of_event event)) → HasGrown old new (line (entry_of_event event) ++ 10 ∷ [])
begins_line old new event h = record {
  front = h.front;
  rest = h.rest ++ 10 ∷ [];
  new_is = h.new_is;
  bytes_are = ap (λ (l : List ℕ). l ++ 10 ∷ []) h.bytes_are ∙ append_assoc h.front h.rest (10 ∷ []);
}

-- the line without its line feed
pub lacks_feed : (old new : List ℕ) (event : Event) → new ≡ old ++ line (entry_of_event event) → HasGrown old new (line (entry_of_event event) ++ 10 ∷ [])
lacks_feed old new event is = record { front = line (entry_of_event event); rest = 10 ∷ []; new_is = is; bytes_are = refl }

-- the line with it
pub whole_line : (old mid new : List ℕ) (event : Event) → mid ≡ old ++ line (entry_of_event event) → new ≡ mid ++ 10 ∷ [] → new ≡ old ++ (line (entry_of_event event) ++ 10 ∷ [])
whole_line old mid new event is next = next ∙ ap (λ (l : List ℕ). l ++ 10 ∷ []) is ∙ append_assoc old (line (entry_of_event event)) (10 ∷ [])
