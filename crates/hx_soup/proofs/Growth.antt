-- A stream that grows by a byte.
use Rattle.std.proofs.Common.{◌≡◌, ◌≢◌, ℕ, ◌+◌, ◌<◌, ◌≤◌, List, [], ◌∷◌, ◌++◌, length, take, drop, get_or, refl, sym, ap, ◌∙◌, append_assoc, subst, arith}
use Rattle.std.specs.List.{All, AllByRecursion}
use Rattle.std.proofs.lemmas.List.{length-append, append-nil, take_more, take-append-drop, length-drop}
use Rattle.std.proofs.Math.Seq.{take-add}
use Rattle.std.proofs.lemmas.Grind.{flat_map-append, common_steps}
use Rattle.std.proofs.lemmas.List.Elements.{All-append, recursion_from_All}
use Rattle.hx_units.specs.Fields.{number, number_at, byte_at, spelled, AreBytes}
use Rattle.hx_units.proofs.FieldLaws.{spelled_at_2}
use Rattle.hx_soup.specs.declared.packet.SoupPacket.{SoupPacket}
use Rattle.hx_soup.specs.Packets.{framed, packet_bytes, stream_of, IsPacket, IsUnfinished, HasPacket, Cuts, HasFault}
use Rattle.hx_soup.specs.declared.step.Step.{Step}
use Rattle.hx_soup.specs.declared.step.Step.TheVariants as step
use Rattle.hx_soup.specs.Steps.{IsFault, Reads, Adds, Steps}

-- bytes of the number that their length field says are a packet
pub exact : (bytes : List ℕ) → AreBytes bytes → length bytes ≡ number_at 0 2 bytes + 2 → 0 < number_at 0 2 bytes → bytes ≡ framed (byte_at 2 bytes) (drop 3 bytes)
exact [] fits len some = absurd (omega arith)
exact (a ∷ []) fits len some = absurd (omega arith)
exact (a ∷ b ∷ []) fits len some = absurd (omega arith)
exact (a ∷ b ∷ kind ∷ payload) fits len some =
    let n : length payload + 1 ≡ number_at 0 2 (a ∷ b ∷ kind ∷ payload) = omega arith in
    let head : spelled 2 (length payload + 1) ≡ a ∷ b ∷ [] = ap (spelled 2) n ∙ spelled_at_2 0 (a ∷ b ∷ kind ∷ payload) (omega arith) fits in
    sym (ap (λ (h : List ℕ). h ++ kind ∷ payload) head)

-- bytes of the number that their length field says are their packet
pub reads_whole : (bytes payload : List ℕ) → AreBytes bytes → length bytes ≡ number_at 0 2 bytes + 2 → 3 ≤ length bytes → length bytes ≤ 1026 → payload ≡ drop 3 bytes
    → Reads bytes (record { kind = byte_at 2 bytes; payload = record { items = payload } })
reads_whole bytes payload fits len some most is =
    rw is (exact bytes fits len (omega (arith, len, some)), (omega arith, omega (arith, most, length-drop 3 bytes)))

-- unfinished bytes and one more that are read
pub adds_read : (bytes old new : List ℕ) (byte : ℕ) (p : SoupPacket) → bytes ≡ old ++ byte ∷ [] → new ≡ [] → Reads bytes p → Adds old new byte (step.Whole p 1)
adds_read bytes old new byte p is none reads = (sym is ∙ reads.0, reads.1, refl, none)

pub none_retained : (retained : List ℕ) → length retained ≡ 0 → retained ≡ []
none_retained [] is = refl
none_retained (b ∷ retained) is = absurd (omega (arith, is))

-- bytes in front of a piece that are read, if nothing was retained
pub steps_read : (old piece : List ℕ) (n : ℕ) (p : SoupPacket) → old ≡ [] → 0 < n → n ≤ length piece → Reads (take n piece) p → Steps old old piece (step.Whole p n)
steps_read old piece n p none some room reads = rw none (reads.0, reads.1, refl, some, room)

-- the first byte of a piece after unfinished bytes
pub steps_added : (old new piece : List ℕ) (byte : ℕ) (s : Step) → 0 < length piece → byte ≡ get_or piece 0 0 → Adds old new byte s → Steps old new piece s
steps_added old new [] byte s some is adds = absurd (omega (arith, some))
steps_added old new (b ∷ piece) byte (step.Whole packet n) some is adds =
    (ap (λ (m : ℕ). old ++ take m (b ∷ piece)) adds.2 ∙ ap (λ (a : ℕ). old ++ a ∷ []) (sym is) ∙ adds.0, adds.1, adds.3, omega (arith, adds.2), omega (arith, adds.2))
steps_added old new (b ∷ piece) byte step.More some is adds = (adds.0 ∙ ap (λ (a : ℕ). old ++ a ∷ []) is, adds.1)
steps_added old new (b ∷ piece) byte (step.Fault bad) some is adds = subst (λ (a : ℕ). IsFault (old ++ a ∷ []) bad) is adds

-- an unfinished packet that is whole with one byte more has exactly the number of bytes that its length field says
pub whole_len : (old bytes : List ℕ) (byte n : ℕ) → IsUnfinished old → bytes ≡ old ++ byte ∷ [] → 2 ≤ length bytes → n ≡ number_at 0 2 bytes → n ≢ 0 → n ≤ 1024 → n + 2 ≤ length bytes
    → (length bytes ≡ number_at 0 2 bytes + 2) × (3 ≤ length bytes) × (length bytes ≤ 1026)
whole_len [] bytes byte n unfinished is two n_is some most room = absurd (omega (arith, ap length is))
whole_len (a ∷ []) bytes byte n unfinished is two n_is some most room = absurd (omega (arith, ap length is))
whole_len (a ∷ b ∷ rest) bytes byte n unfinished is two n_is some most room =
    let first : number_at 0 2 bytes ≡ number (a ∷ b ∷ []) = ap (number_at 0 2) is in
    let len : length bytes ≡ length rest + 3 = ap length is ∙ omega (arith, length-append rest (byte ∷ [])) in
    (omega (arith, unfinished.1), omega arith, omega (arith, unfinished.1))

All-one : (p : SoupPacket) → IsPacket p → All IsPacket (p ∷ [])
All-one p fits = search (arith, common_steps)

pub cuts_none : (retained : List ℕ) → IsUnfinished retained → Cuts retained [] retained
cuts_none retained unfinished = record { whole = refl; each = search arith; unfinished = unfinished }

-- the bytes leave the packet unfinished
pub cuts_more : (stream retained new x : List ℕ) (packets others : List SoupPacket) → Cuts stream packets retained → (new ≡ retained ++ x) × IsUnfinished new → others ≡ packets → Cuts (stream ++ x) others new
cuts_more stream retained new x packets others c adds same = rw same (record {
  whole = ap (λ (s : List ℕ). s ++ x) c.whole ∙ append_assoc (stream_of packets) retained x ∙ ap (λ (s : List ℕ). stream_of packets ++ s) (sym adds.0);
  each = c.each;
  unfinished = adds.1;
})

-- the bytes make the packet whole
pub cuts_whole : (stream retained new x : List ℕ) (packets others : List SoupPacket) (p : SoupPacket) → Cuts stream packets retained → retained ++ x ≡ packet_bytes p → IsPacket p → new ≡ [] → others ≡ packets ++ p ∷ [] → Cuts (stream ++ x) others new
cuts_whole stream retained new x packets others p c is fits none same = rw (same, none) (record {
  whole = ap (λ (s : List ℕ). s ++ x) c.whole ∙ append_assoc (stream_of packets) retained x
      ∙ ap (λ (s : List ℕ). stream_of packets ++ s) (is ∙ sym (append-nil (packet_bytes p)))
      ∙ sym (flat_map-append packet_bytes packets (p ∷ [])) ∙ sym (append-nil (stream_of (packets ++ p ∷ [])));
  each = All-append IsPacket packets (p ∷ []) c.each (All-one p fits);
  unfinished = tt;
})

-- the bytes make a length that no packet has
pub has_fault : (stream retained x more : List ℕ) (bad : ℕ) (packets : List SoupPacket) → Cuts stream packets retained → IsFault (retained ++ x) bad → HasFault (stream ++ (x ++ more)) packets bad
has_fault stream retained x more bad packets c f = record {
  high = f.high;
  low = f.low;
  more = more;
  whole = ap (λ (s : List ℕ). s ++ (x ++ more)) c.whole ∙ append_assoc (stream_of packets) retained (x ++ more)
      ∙ ap (λ (s : List ℕ). stream_of packets ++ s) (sym (append_assoc retained x more) ∙ ap (λ (s : List ℕ). s ++ more) f.whole);
  each = c.each;
  is = f.is;
  is_bad = f.is_bad;
}

-- a piece, and a part of what is left of it
pub stream_more : (k piece left : List ℕ) (i n : ℕ) → left ≡ drop i piece → k ++ take (i + n) piece ≡ (k ++ take i piece) ++ take n left
stream_more k piece left i n is = rw is (ap (λ (x : List ℕ). k ++ x) (take-add i n piece) ∙ sym (append_assoc k (take i piece) (take n (drop i piece))))

pub stream_split : (k piece left : List ℕ) (i n : ℕ) → left ≡ drop i piece → k ++ piece ≡ (k ++ take i piece) ++ (take n left ++ drop n left)
stream_split k piece left i n is = rw is (ap (λ (x : List ℕ). k ++ x) (sym (take-append-drop i piece) ∙ ap (λ (x : List ℕ). take i piece ++ x) (sym (take-append-drop n (drop i piece))))
    ∙ sym (append_assoc k (take i piece) (take n (drop i piece) ++ drop n (drop i piece))))

-- packets, and bytes after them that begin with one more: the first of them begins the stream
pub has_packet : (stream retained rest : List ℕ) (packets : List SoupPacket) → Cuts stream packets retained → HasPacket (retained ++ rest) → HasPacket (stream ++ rest)
has_packet stream retained rest packets c h =
    first packets (recursion_from_All IsPacket packets c.each)
    (ap (λ (x : List ℕ). x ++ rest) c.whole ∙ append_assoc (stream_of packets) retained rest ∙ ap (λ (x : List ℕ). stream_of packets ++ x) h.whole)
  where
    first : (ps : List SoupPacket) → AllByRecursion IsPacket ps → stream ++ rest ≡ stream_of ps ++ (packet_bytes h.packet ++ h.more) → HasPacket (stream ++ rest)
    first [] each e = record { packet = h.packet; more = h.more; whole = e; fits = h.fits }
    first (q ∷ ps) each e = record {
      packet = q;
      more = stream_of ps ++ (packet_bytes h.packet ++ h.more);
      whole = e ∙ append_assoc (packet_bytes q) (stream_of ps) (packet_bytes h.packet ++ h.more);
      fits = each.0;
    }

-- a part of what is left that makes a packet whole
pub part_has_packet : (retained rest : List ℕ) (n : ℕ) (p : SoupPacket) → retained ++ take n rest ≡ packet_bytes p → IsPacket p → HasPacket (retained ++ rest)
part_has_packet retained rest n p is fits = record {
  packet = p;
  more = drop n rest;
  whole = ap (λ (x : List ℕ). retained ++ x) (sym (take-append-drop n rest)) ∙ sym (append_assoc retained (take n rest) (drop n rest)) ∙ ap (λ (x : List ℕ). x ++ drop n rest) is;
  fits = fits;
}
