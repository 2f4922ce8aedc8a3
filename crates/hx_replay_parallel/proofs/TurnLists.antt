-- Lists of turns, and of the entries of their events.
use Rattle.std.proofs.Common.{◌≡◌, ℕ, List, [], ◌∷◌, ◌++◌, map, length, get_or, refl, sym, ap, ◌∙◌, arith}
use Rattle.std.specs.List.{AllByRecursion}
use Rattle.std.proofs.lemmas.List.{append-nil, map-append}
use Rattle.std.proofs.lemmas.List.Concat.{flat_map-append}
use Rattle.rtrb.specs.Ring.{SameConsumer, SameProducer}
use Rattle.rtrb.specs.declared.consumer.Consumer.{Consumer}
use Rattle.rtrb.specs.declared.producer.Producer.{Producer}
use Rattle.hx_rules.specs.declared.event.Event.{Event}
use Rattle.hx_replay_parallel.specs.declared.batch.Batch.{Batch}
use Rattle.hx_tape_lines.specs.Text.{Entry}
use Rattle.hx_tape_lines.specs.Events.{IsKnown, event_of}
use Rattle.hx_replay_parallel.specs.Ahead.{AreOf}
use Rattle.hx_replay_parallel.specs.Turns.{events_of, output_of}

-- ---- the ends of a ring

module _ {T A P : Type 0} where
  pub same_consumer_on : (a b c : Consumer T A P) → SameConsumer a b → SameConsumer b c → SameConsumer a c
  same_consumer_on a b c p q = ((q.0.0 ∙ p.0.0, q.0.1 ∙ p.0.1, q.0.2 ∙ p.0.2, q.0.3 ∙ p.0.3), q.1 ∙ p.1)

  pub same_producer_on : (a b c : Producer T A P) → SameProducer a b → SameProducer b c → SameProducer a c
  same_producer_on a b c p q = ((q.0.0 ∙ p.0.0, q.0.1 ∙ p.0.1, q.0.2 ∙ p.0.2, q.0.3 ∙ p.0.3), q.1 ∙ p.1)

-- events, one turn's after another's

pub events_append : (xs ys : List Batch) → events_of (xs ++ ys) ≡ events_of xs ++ events_of ys
events_append xs ys = flat_map-append (λ (t : Batch). t.ahead) xs ys

pub output_append : (xs ys : List Batch) → output_of (xs ++ ys) ≡ output_of xs ++ output_of ys
output_append xs ys = flat_map-append (λ (t : Batch). t.outputs) xs ys

-- one turn more
pub events_with : (before : List Batch) (turn : Batch) → events_of (before ++ turn ∷ []) ≡ events_of before ++ turn.ahead
events_with before turn = flat_map-append (λ (t : Batch). t.ahead) before (turn ∷ []) ∙ ap (λ (x : List Event). events_of before ++ x) (append-nil turn.ahead)

pub output_with : (before : List Batch) (turn : Batch) → output_of (before ++ turn ∷ []) ≡ output_of before ++ turn.outputs
output_with before turn = flat_map-append (λ (t : Batch). t.outputs) before (turn ∷ []) ∙ ap (λ (x : List ℕ). output_of before ++ x) (append-nil turn.outputs)

-- entries, some after others

known_joined : (es fs : List Entry) → AllByRecursion IsKnown es → AllByRecursion IsKnown fs → AllByRecursion IsKnown (es ++ fs)
known_joined [] fs p q = q
known_joined (e ∷ es) fs p q = (p.0, known_joined es fs p.1 q)

pub are_joined : (es fs : List Entry) (xs ys : List Event) → AreOf es xs → AreOf fs ys → AreOf (es ++ fs) (xs ++ ys)
are_joined es fs xs ys p q = record {
  are_known = known_joined es fs p.are_known q.are_known;
  events_are = ap (λ (l : List Event). l ++ ys) p.events_are ∙ ap (λ (l : List Event). map event_of es ++ l) q.events_are ∙ sym (map-append event_of es fs);
}

-- the entries of events in two parts
pub record InParts (es : List Entry) (xs ys : List Event) : Type 0 where
  pub front : List Entry
  pub back : List Entry
  pub joined : es ≡ front ++ back
  pub front_are : AreOf front xs
  pub back_are : AreOf back ys

after_first : List Event → List Event
after_first [] = []
after_first (x ∷ xs) = xs

pub in_parts : (es : List Entry) (xs ys : List Event) → AllByRecursion IsKnown es → xs ++ ys ≡ map event_of es → InParts es xs ys
unfolding after_first
in_parts es [] ys known is = record { front = []; back = es; joined = refl; front_are = record { are_known = tt; events_are = refl }; back_are = record { are_known = known; events_are = is } }
in_parts [] (x ∷ xs) ys known is = absurd (let none : length (x ∷ (xs ++ ys)) ≡ 0 = ap length is in omega arith)
in_parts (e ∷ es) (x ∷ xs) ys known is =
    let r = in_parts es xs ys known.1 (ap after_first is) in
    let first : x ≡ event_of e = ap (λ (l : List Event). get_or l 0 x) is in
    record {
      front = e ∷ r.front;
      back = r.back;
      joined = ap (λ (l : List Entry). e ∷ l) r.joined;
      front_are = record {
        are_known = (known.0, r.front_are.are_known);
        events_are = ap (λ (y : Event). y ∷ xs) first ∙ ap (λ (l : List Event). event_of e ∷ l) r.front_are.events_are;
      };
      back_are = r.back_are;
    }
