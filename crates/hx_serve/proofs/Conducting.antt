-- The operator's lines, one after the other and piece by piece.
use Rattle.std.proofs.Common.{◌≡◌, ℕ, ◌<◌, subst, Option, Bool, true, List, [], ◌∷◌, ◌++◌, map, refl, sym, ap, ◌∙◌, append_assoc}
use Rattle.std.specs.Io.KnownBytes.{Consumes, Keeps}
use Rattle.std.proofs.KnownBytes.{Consumes-nil, Consumes-trans, Consumes-kept}
use Rattle.std.proofs.lemmas.List.{append-nil, map-append}
use Rattle.std.proofs.lemmas.List.Concat.{flat_map-append}
use Rattle.hx_rules.specs.declared.event.Event.{Event}
use Rattle.hx_tape_lines.specs.Operators.{IsOperatorLine}
use Rattle.hx_serve.specs.Operator.{AreOperatorLines, text_of, SendsAll, Conducts, ConductsOn}

pub are_more : (ls ms : List (List ℕ)) (es fs : List Event) → AreOperatorLines ls es → AreOperatorLines ms fs → AreOperatorLines (ls ++ ms) (es ++ fs)
are_more [] ms [] fs h k = k
are_more [] ms (e ∷ es) fs h k = absurd h
are_more (l ∷ ls) ms [] fs h k = absurd h
are_more (l ∷ ls) ms (e ∷ es) fs h k = (h.0, are_more ls ms es fs h.1 k)

pub sends_more : (a b c : List (ℕ × Event)) (es fs : List Event) → SendsAll a b es → SendsAll b c fs → SendsAll a c (es ++ fs)
sends_more a b c es fs h k = (
  h.0 ++ k.0,
  k.1 ∙ ap (λ (x : List (ℕ × Event)). x ++ k.0) h.1 ∙ append_assoc a h.0 k.0,
  map-append (λ (x : ℕ × Event). x.1) h.0 k.0 ∙ ap (λ (x : List Event). x ++ map (λ (y : ℕ × Event). y.1) k.0) h.2 ∙ ap (λ (x : List Event). es ++ x) k.2,
)

pub conducts_none : (text : List ℕ) (a : List (ℕ × Event)) → Conducts text a a text
conducts_none text a = record { lines = []; events = []; are_lines = tt; text_is = refl; sends = ([], sym (append-nil a), refl) }

-- after some lines, the lines of the rest with what comes after it
pub conducts_more : (text rest piece left : List ℕ) (a b c : List (ℕ × Event)) → Conducts text a b rest → Conducts (rest ++ piece) b c left → Conducts (text ++ piece) a c left
conducts_more text rest piece left a b c h k = record {
  lines = h.lines ++ k.lines;
  events = h.events ++ k.events;
  are_lines = are_more h.lines k.lines h.events k.events h.are_lines k.are_lines;
  text_is =
      ap (λ (t : List ℕ). t ++ piece) h.text_is ∙ append_assoc (text_of h.lines) rest piece
      ∙ ap (λ (t : List ℕ). text_of h.lines ++ t) k.text_is ∙ sym (append_assoc (text_of h.lines) (text_of k.lines) left)
      ∙ ap (λ (t : List ℕ). t ++ left) (sym (flat_map-append (λ (l : List ℕ). l ++ 10 ∷ []) h.lines k.lines));
  sends = sends_more a b c h.events k.events h.sends k.sends;
}

-- one more line of the rest
pub conducts_line : (text rest line others : List ℕ) (a b c : List (ℕ × Event)) (event : Event) → Conducts text a b rest → rest ≡ line ++ 10 ∷ others → IsOperatorLine line event → SendsAll b c (event ∷ []) → Conducts text a c others
conducts_line text rest line others a b c event h cut is sends = record {
  lines = h.lines ++ line ∷ [];
  events = h.events ++ event ∷ [];
  are_lines = are_more h.lines (line ∷ []) h.events (event ∷ []) h.are_lines (is, tt);
  text_is =
      h.text_is ∙ ap (λ (t : List ℕ). text_of h.lines ++ t) (cut ∙ one_line)
      ∙ sym (append_assoc (text_of h.lines) (text_of (line ∷ [])) others)
      ∙ ap (λ (t : List ℕ). t ++ others) (sym (flat_map-append (λ (l : List ℕ). l ++ 10 ∷ []) h.lines (line ∷ [])));
  sends = sends_more a b c h.events (event ∷ []) h.sends sends;
}
  where
    one_line : line ++ 10 ∷ others ≡ text_of (line ∷ []) ++ others
    one_line = sym (ap (λ (t : List ℕ). t ++ others) (append-nil (line ++ 10 ∷ [])) ∙ append_assoc line (10 ∷ []) others)

-- ---- reads

pub some_more : (r s s' : Option (List ℕ)) (before left : List ℕ) (a b c : List (ℕ × Event)) → ((text : List ℕ) × Consumes r s text × Conducts text a b before) → ((piece : List ℕ) × Consumes s s' piece × Conducts (before ++ piece) b c left) → (text : List ℕ) × Consumes r s' text × Conducts text a c left
some_more r s s' before left a b c h k = (h.0 ++ k.0, Consumes-trans r s s' h.0 k.0 h.1 k.1, conducts_more h.0 before k.0 left a b c h.2 k.2)

-- a read that gave nothing
pub conducts_still : (pending : List ℕ) (a : List (ℕ × Event)) → Conducts (pending ++ []) a a pending
conducts_still pending a = subst (λ (t : List ℕ). Conducts t a a pending) (sym (append-nil pending)) (conducts_none pending a)

pub durable_none : (r s : Option (List ℕ)) → Keeps r s → Consumes r s []
durable_none r s k = Consumes-kept r r s [] (Consumes-nil r) k

pub goes_on : (r s : Option (List ℕ)) (x y : List ℕ) (a b : List (ℕ × Event)) (more : Bool) → more ≡ true → ConductsOn r s x y a b more → (piece : List ℕ) × Consumes r s piece × Conducts (x ++ piece) a b y
goes_on r s x y a b more e h = subst (λ (v : Bool). ConductsOn r s x y a b v) e h
