-- What a venue sends of its feed says what is so of it.
use Rattle.std.proofs.Common.{◌≡◌, ℕ, ◌+◌, ◌-◌, ◌<◌, ◌≤◌, List, ◌++◌, length, take, drop, Option, Some, None, sym, ap, subst, ◌∙◌, arith, append_assoc, inl, inr, length-append, length-drop}
use Rattle.std.proofs.lemmas.List.{length-take-le, take-append-drop}
use Rattle.std.proofs.lemmas.Option.{same_Some}
use Rattle.hx_mold.specs.declared.packet.MoldPacket.{MoldPacket}
use Rattle.hx_mold.specs.declared.packet.MoldPacket.TheVariants as mold
use Rattle.hx_mold.specs.Packets.{SpellsPacket}
use Rattle.hx_mold.specs.Reading.{packet_of}
use Rattle.hx_mold.specs.Fronts.{Grows, Gathers}
use Rattle.hx_mold.proofs.Codecs.{packet_again}
use Rattle.hx_retransmit.specs.declared.publisher.Publisher.{Publisher}
use Rattle.hx_retransmit.specs.Turns.{SendsMessages, SendsHeartbeat}
use Rattle.hx_reader.specs.Runs.{Comes, StandsAt, IsSo, TellsOf}
use Rattle.hx_reader_laws.specs.Venues.{Publishes, IsTurn, StaysPublisher, IsVenues, PacketsCarry}

-- bytes that spell a packet say what the packet says
tells : (feed : List (List ℕ)) (session bytes : List ℕ) (p : MoldPacket) → SpellsPacket bytes p → IsSo feed p → TellsOf feed session (Comes bytes)
tells feed session bytes p spelled so q is of_session =
    subst (IsSo feed) (same_Some p q (sym (packet_again p spelled.0) ∙ ap packet_of (sym spelled.1) ∙ is)) so

grown : (messages feed : List (List ℕ)) → Grows messages feed → length messages ≤ length feed
grown messages feed g = omega (arith, ap length g.1, length-append messages g.0)

-- messages at an index of the known ones are at that index in the feed
stands : (messages feed front rest : List (List ℕ)) (k : ℕ) → Grows messages feed → drop k messages ≡ front ++ rest → 0 < length front → StandsAt feed (k + 1) front × (k + length front ≤ length messages)
stands messages feed front rest k g e some =
    let long : length messages - k ≡ length front + length rest = sym (length-drop k messages) ∙ ap length e ∙ length-append front rest in
    let size : length (take k messages) ≡ k = length-take-le k messages (omega arith) in
    let is : feed ≡ (take k messages ++ front) ++ (rest ++ g.0) = g.1
    ∙ ap (λ l. l ++ g.0) (sym (take-append-drop k messages) ∙ ap (λ l. take k messages ++ l) e ∙ sym (append_assoc (take k messages) front rest))
    ∙ append_assoc (take k messages ++ front) rest g.0 in (
      (take k messages, rest ++ g.0, is, omega arith),
      omega arith,
    )

module _ (M : Type 0) (messages_of : M → List (List ℕ)) (feed : List (List ℕ)) (session : List ℕ) where
  abbrev Known : Publisher M → Type 0
  Known p = Publishes M messages_of feed session p

  sends_messages : (old new : Publisher M) (now : ℕ) (bytes : List ℕ) → Known old → Grows (messages_of new.messages) feed → new.session ≡ old.session → SendsMessages M (messages_of new.messages) old new now bytes
      → Known new × TellsOf feed session (Comes bytes)
  sends_messages old new now bytes p g s h =
      let index = stands (messages_of new.messages) feed h.front h.is_front.rest old.sent g h.is_front.splits h.some in
      let most = index.1 in
      let sent = h.sent in (
        record { of_session = s ∙ p.of_session; known = g; sent = omega arith },
        tells feed session bytes (mold.Blocks old.session (old.sent + 1) h.front) h.bytes_are index.0,
      )

  sends_heartbeat : (old new : Publisher M) (now : ℕ) (bytes : List ℕ) → Known old → Grows (messages_of old.messages) (messages_of new.messages) → Grows (messages_of new.messages) feed → new.session ≡ old.session
      → SendsHeartbeat M (messages_of new.messages) old new now bytes → Known new × TellsOf feed session (Comes bytes)
  sends_heartbeat old new now bytes p more g s h =
      let least = p.sent in
      let first = grown (messages_of old.messages) (messages_of new.messages) more in
      let second = grown (messages_of new.messages) feed g in
      let same = h.sent in (
        record { of_session = s ∙ p.of_session; known = g; sent = omega arith },
        tells feed session bytes (mold.Heartbeat old.session (old.sent + 1)) h.bytes_are (omega arith),
      )

  abbrev Tells : Option (List ℕ) → Type 0
  Tells None = Unit {0}
  Tells (Some bytes) = TellsOf feed session (Comes bytes)

  turns : (old new : Publisher M) (packet : Option (List ℕ)) → Known old → IsTurn M messages_of feed old new packet → Known new × Tells packet
  turns old new None p t =
      let least = p.sent in
      let first = grown (messages_of old.messages) (messages_of new.messages) t.grows in
      let same = t.gives.sent in
      (record { of_session = t.session ∙ p.of_session; known = t.known; sent = omega arith }, tt)
  turns old new (Some bytes) p t =
      elim t.gives [
        | inl h ↦ sends_messages old new t.now bytes p t.known t.session h
        | inr h ↦ sends_heartbeat old new t.now bytes p t.grows t.known t.session h
      ]

  learns : (old new : Publisher M) → Known old → new.sent ≡ old.sent → new.session ≡ old.session → Grows (messages_of old.messages) (messages_of new.messages) → Grows (messages_of new.messages) feed → Known new
  learns old new p same s more g =
      let least = p.sent in
      let first = grown (messages_of old.messages) (messages_of new.messages) more in
      record { of_session = s ∙ p.of_session; known = g; sent = omega arith }

  gathers : (n most count : ℕ) (messages : List (List ℕ)) (bytes : List ℕ) → Grows messages feed → 0 < n → Gathers session n most messages bytes count → TellsOf feed session (Comes bytes)
  gathers n most count messages bytes g some h =
      let after = drop (n - 1) messages in
      let splits : drop (n - 1) messages ≡ h.front ++ (h.is_front.rest ++ drop most after) = sym (take-append-drop most after) ∙ ap (λ l. l ++ drop most after) h.is_front.splits ∙ append_assoc h.front h.is_front.rest (drop most after) in
      let index = stands messages feed h.front (h.is_front.rest ++ drop most after) (n - 1) g splits h.some in
      let same : n - 1 + 1 ≡ n = omega arith in
      tells feed session bytes (mold.Blocks session n h.front) h.bytes_are (subst (λ (k : ℕ). StandsAt feed k h.front) same index.0)

  venues : (bytes : List ℕ) → IsVenues M messages_of feed session bytes → TellsOf feed session (Comes bytes)
  venues bytes (inl h) = (turns h.old h.new (Some bytes) h.publishes h.turn).1
  venues bytes (inr (inl h)) = (let s = h.gives in gathers s.0.sequence s.0.count s.2.2 h.messages bytes h.known s.2.1 s.2.3)
  venues bytes (inr (inr h)) = (let all = h.all in tells feed session bytes (mold.EndOfSession h.publisher.session (h.publisher.sent + 1)) h.gives (omega arith))

pub stays_publisher : (M : Type 0) → StaysPublisher M
stays_publisher M = record {
  opened = λ messages_of feed session p none s g. record { of_session = s; known = g; sent = omega arith };
  learned = λ messages_of feed session old new p same s more g. learns M messages_of feed session old new p same s more g;
  turned = λ messages_of feed session old new packet p t. (turns M messages_of feed session old new packet p t).0;
}

pub packets_carry : (M : Type 0) → PacketsCarry M
packets_carry M messages_of feed session datagram h = venues M messages_of feed session datagram h
