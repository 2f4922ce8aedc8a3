-- What is read is spelled so, and what is spelled so is read.
use Rattle.std.proofs.Common.{◌≡◌, ℕ, ◌+◌, ◌^◌, ◌<◌, ◌≤◌, List, [], ◌++◌, length, drop, Bool, true, false, cond, eqb, leb, Option, Some, None, refl, sym, ap, ◌∙◌, arith, nat_le, eq-eqb}
use Rattle.std.specs.Prelude.{IfSome}
use Rattle.std.proofs.lemmas.Bool.{leb-true, le-leb, eqb-true, ne_eqb}
use Rattle.std.proofs.lemmas.List.{length-append, length-drop, append-nil, nil_from_length}
use Rattle.hx_units.specs.Fields.{number_at, text_at, AreBytes}
use Rattle.hx_mold.specs.declared.packet.MoldPacket.{MoldPacket}
use Rattle.hx_mold.specs.declared.packet.MoldPacket.TheVariants as mold
use Rattle.hx_mold.specs.declared.request.Request.{Request}
use Rattle.hx_mold.specs.Packets.{blocks, header, packet_bytes, IsPacket, IsHeader, AreMessages, SpellsPacket, request_bytes, IsRequest, SpellsRequest}
use Rattle.hx_mold.specs.Reading.{packet_of, packet_from, request_of}
use Rattle.hx_mold.specs.Counting.{is_whole, messages_in}
use Rattle.hx_mold.proofs.Laws.{header_is, header_spelled, header_again, header_len, blocks_again, blocks_spelled, length-messages_in, messages_in-short, number_at_2-less, AreBytes-drop}

eq_no : (a b : ℕ) → eqb a b ≡ false → a ≡ b → ⊥
eq_no a b unequal e = let same : eqb a b ≡ true = eq-eqb a b e in cc

-- what holds if a test says yes and if it says no
by_test : {A : Type 0} (P : A → Type 0) (b : Bool) (x y : A) → (b ≡ true → P x) → (b ≡ false → P y) → P (cond b x y)
by_test P true x y f g = f refl
by_test P false x y f g = g refl

-- the messages of a packet that is read
read_messages : (count : ℕ) (rest : List ℕ) → AreBytes rest → count < 2 ^ 16 → eqb count 0 ≡ false → eqb count 65535 ≡ false → is_whole count rest ≡ true → AreMessages (messages_in count rest)
read_messages count rest fits small some few whole = record {
  some = omega (arith, length-messages_in count rest, eq_no count 0 some);
  few = omega (arith, length-messages_in count rest, eq_no count 65535 few);
  short = messages_in-short count rest fits whole;
}

pub packet_spelled : (bytes : List ℕ) → AreBytes bytes → IfSome (packet_of bytes) (λ p. SpellsPacket bytes p)
packet_spelled bytes fits =
    let P : Option MoldPacket → Type 0 = λ o. IfSome o (λ p. SpellsPacket bytes p) in
    let session = text_at 0 10 bytes in
    let sequence = number_at 10 8 bytes in
    let count = number_at 18 2 bytes in
    let rest = drop 20 bytes in
    by_test P (nat_le 20 (length bytes)) _ None
    (λ room.
    let long : 20 ≤ length bytes = leb-true 20 (length bytes) room in
    let head = header_spelled bytes fits long in
    let is : IsHeader session sequence = header_is bytes fits long in
    let small : count < 2 ^ 16 = number_at_2-less 18 bytes long fits in
    let bare : (n : ℕ) → eqb count n ≡ true → eqb (length rest) 0 ≡ true → bytes ≡ header session sequence n =
    λ n same empty. head ∙ ap (λ (x : List ℕ). header session sequence count ++ x) (nil_from_length rest (eqb-true (length rest) 0 empty)) ∙ append-nil (header session sequence count) ∙ ap (header session sequence) (eqb-true count n same) in
    by_test P (eqb count 0) _ _ (λ zero. by_test P (eqb (length rest) 0) _ None (λ empty. (is, bare 0 zero empty)) (λ e. tt))
    (λ some. by_test P (eqb count 65535) _ _ (λ end. by_test P (eqb (length rest) 0) _ None (λ empty. (is, bare 65535 end empty)) (λ e. tt))
    (λ few. by_test P (is_whole count rest) _ None
    (λ whole. (
      (is, read_messages count rest (AreBytes-drop 20 bytes fits) small some few whole),
      head ∙ ap (λ (x : List ℕ). header session sequence count ++ x) (blocks_spelled count rest (AreBytes-drop 20 bytes fits) whole)
          ∙ ap (λ (n : ℕ). header session sequence n ++ blocks (messages_in count rest)) (sym (length-messages_in count rest)),
    ))
    (λ e. tt))))
    (λ e. tt)

-- the packet that a header and what follows it make
from_parts : (session rest : List ℕ) (sequence count : ℕ) → length session ≡ 10 → sequence < 2 ^ 64 → count < 2 ^ 16
    → packet_of (header session sequence count ++ rest) ≡ packet_from (20 + length rest) session sequence count rest
from_parts session rest sequence count len fits few =
    let again = header_again session rest sequence count len fits few in
    let bytes = header session sequence count ++ rest in
    let total : length bytes ≡ 20 + length rest = omega (arith, length-append (header session sequence count) rest, header_len session sequence count len) in
    ap (λ (n : ℕ). packet_from n (text_at 0 10 bytes) (number_at 10 8 bytes) (number_at 18 2 bytes) (drop 20 bytes)) total
    ∙ ap (λ (s : List ℕ). packet_from (20 + length rest) s (number_at 10 8 bytes) (number_at 18 2 bytes) (drop 20 bytes)) again.0
    ∙ ap (λ (n : ℕ). packet_from (20 + length rest) session n (number_at 18 2 bytes) (drop 20 bytes)) again.1
    ∙ ap (λ (n : ℕ). packet_from (20 + length rest) session sequence n (drop 20 bytes)) again.2
    ∙ ap (packet_from (20 + length rest) session sequence count) again.3

pub if_true : {A : Type 0} (b : Bool) (x y : A) → b ≡ true → cond b x y ≡ x
if_true true x y e = refl
if_true false x y e = absurd cc

if_false : {A : Type 0} (b : Bool) (x y : A) → b ≡ false → cond b x y ≡ y
if_false false x y e = refl
if_false true x y e = absurd cc

pub packet_again : (p : MoldPacket) → IsPacket p → packet_of (packet_bytes p) ≡ Some p
packet_again (mold.Heartbeat session next) fits = ap packet_of (sym (append-nil (header session next 0))) ∙ from_parts session [] next 0 fits.ten fits.fits (omega arith)
packet_again (mold.EndOfSession session next) fits = ap packet_of (sym (append-nil (header session next 65535))) ∙ from_parts session [] next 65535 fits.ten fits.fits (omega arith)
packet_again (mold.Blocks session sequence messages) fits =
    let k = length messages in
    let rest = blocks messages in
    let again = blocks_again messages fits.1.short in
    from_parts session rest sequence k fits.0.ten fits.0.fits (omega (arith, fits.1.few))
    ∙ if_true (leb 20 (20 + length rest)) _ None (le-leb 20 (20 + length rest) (omega arith))
    ∙ if_false (eqb k 0) _ _ (ne_eqb k 0 (λ e. omega (arith, fits.1.some, e)))
    ∙ if_false (eqb k 65535) _ _ (ne_eqb k 65535 (λ e. omega (arith, fits.1.few, e)))
    ∙ if_true (is_whole k rest) _ None again.0
    ∙ ap (λ (ms : List (List ℕ)). Some (mold.Blocks session sequence ms)) again.1

pub request_spelled : (bytes : List ℕ) → AreBytes bytes → IfSome (request_of bytes) (λ r. SpellsRequest bytes r)
request_spelled bytes fits = by_test (λ o. IfSome o (λ r. SpellsRequest bytes r)) (eqb (length bytes) 20) _ None
    (λ e. let len : length bytes ≡ 20 = eqb-true (length bytes) 20 e in
    let is : IsHeader (text_at 0 10 bytes) (number_at 10 8 bytes) = header_is bytes fits (omega arith) in (
      record { session = is.ten; sequence = is.fits; count = number_at_2-less 18 bytes (omega arith) fits },
      header_spelled bytes fits (omega arith) ∙ ap (λ (x : List ℕ). header (text_at 0 10 bytes) (number_at 10 8 bytes) (number_at 18 2 bytes) ++ x) (nil_from_length (drop 20 bytes) (omega (arith, length-drop 20 bytes)))
          ∙ append-nil (header (text_at 0 10 bytes) (number_at 10 8 bytes) (number_at 18 2 bytes)),
    ))
    (λ e. tt)

pub request_again : (r : Request) → IsRequest r → request_of (request_bytes r) ≡ Some r
request_again r fits =
    let bytes = request_bytes r in
    let again = header_again r.session [] r.sequence r.count fits.session fits.sequence fits.count in
    let same : bytes ++ [] ≡ bytes = append-nil bytes in
    let len : length bytes ≡ 20 = header_len r.session r.sequence r.count fits.session in
    let made : List ℕ → ℕ → ℕ → Option Request = λ s q n. Some (record { session = s; sequence = q; count = n }) in
    ap (λ (n : ℕ). cond (eqb n 20) (made (text_at 0 10 bytes) (number_at 10 8 bytes) (number_at 18 2 bytes)) None) len
    ∙ ap (λ (s : List ℕ). made s (number_at 10 8 bytes) (number_at 18 2 bytes)) (ap (text_at 0 10) (sym same) ∙ again.0)
    ∙ ap (λ (q : ℕ). made r.session q (number_at 18 2 bytes)) (ap (number_at 10 8) (sym same) ∙ again.1)
    ∙ ap (λ (n : ℕ). made r.session r.sequence n) (ap (number_at 18 2) (sym same) ∙ again.2)
