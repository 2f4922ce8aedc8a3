-- A stream has one reading.
use Rattle.std.proofs.Common.{◌≡◌, ℕ, ◌+◌, ◌<◌, ◌≤◌, List, [], ◌∷◌, ◌++◌, length, take, drop, refl, sym, ap, ◌∙◌, append_assoc, subst, inl, inr, arith}
use Rattle.std.specs.List.{AllByRecursion}
use Rattle.std.proofs.lemmas.List.{length-append}
use Rattle.std.proofs.lemmas.List.Elements.{recursion_from_All}
use Rattle.std.proofs.Math.Seq.{drop-append_seam, take-append_seam}
use Rattle.hx_units.specs.Fields.{number, number_at, byte_at, spelled}
use Rattle.hx_units.proofs.FieldLaws.{number_2}
use Rattle.hx_soup.specs.declared.packet.SoupPacket.{SoupPacket}
use Rattle.hx_soup.specs.Packets.{packet_bytes, stream_of, IsPacket, IsUnfinished, IsBadLength, Cuts, HasFault}

-- ---- the first packet of a stream

front_number : (p : SoupPacket) (x : List ℕ) → IsPacket p → number_at 0 2 (packet_bytes p ++ x) ≡ length p.payload.items + 1
unfolding spelled
front_number p x fits = number_2 (length p.payload.items + 1) (omega arith)

front_kind : (p : SoupPacket) (x : List ℕ) → byte_at 2 (packet_bytes p ++ x) ≡ p.kind
unfolding spelled
front_kind p x = refl

front_rest : (p : SoupPacket) (x : List ℕ) → drop 3 (packet_bytes p ++ x) ≡ p.payload.items ++ x
unfolding spelled
front_rest p x = refl

front_len : (p : SoupPacket) (x : List ℕ) → length (packet_bytes p ++ x) ≡ length p.payload.items + 3 + length x
unfolding spelled
front_len p x = omega (arith, length-append p.payload.items x)

same_packet : (p q : SoupPacket) → p.kind ≡ q.kind → p.payload.items ≡ q.payload.items → p ≡ q
same_packet p q k e = ap (λ (kind : ℕ). record { kind = kind; payload = p.payload }) k ∙ ap (λ (items : List ℕ). record { kind = q.kind; payload = record { items = items } }) e

same_front : (a b x y : List ℕ) → length a ≡ length b → a ++ x ≡ b ++ y → (a ≡ b) × (x ≡ y)
same_front a b x y len e = (
  sym (take-append_seam a x) ∙ ap (take (length a)) e ∙ ap (λ (n : ℕ). take n (b ++ y)) len ∙ take-append_seam b y,
  sym (drop-append_seam a x) ∙ ap (drop (length a)) e ∙ ap (λ (n : ℕ). drop n (b ++ y)) len ∙ drop-append_seam b y,
)

same_first : (p q : SoupPacket) (x y : List ℕ) → IsPacket p → IsPacket q → packet_bytes p ++ x ≡ packet_bytes q ++ y → (p ≡ q) × (x ≡ y)
same_first p q x y fits others e =
    let numbers : length p.payload.items + 1 ≡ length q.payload.items + 1 = sym (front_number p x fits) ∙ ap (number_at 0 2) e ∙ front_number q y others in
    let rest = same_front p.payload.items q.payload.items x y (omega arith) (sym (front_rest p x) ∙ ap (drop 3) e ∙ front_rest q y) in
    (same_packet p q (sym (front_kind p x) ∙ ap (byte_at 2) e ∙ front_kind q y) rest.0, rest.1)

next : (p : SoupPacket) (ps : List SoupPacket) (x : List ℕ) → stream_of (p ∷ ps) ++ x ≡ packet_bytes p ++ (stream_of ps ++ x)
next p ps x = append_assoc (packet_bytes p) (stream_of ps) x

-- ---- what ends a list of packets: bytes that do not begin with one

abbrev IsEnd : List ℕ → Type 0
IsEnd x = (p : SoupPacket) (y : List ℕ) → IsPacket p → x ≡ packet_bytes p ++ y → ⊥

room : (bytes : List ℕ) → IsUnfinished bytes → 2 ≤ length bytes → length bytes < number_at 0 2 bytes + 2
room [] h two = absurd (omega arith)
room (a ∷ []) h two = absurd (omega arith)
room (a ∷ b ∷ bytes) h two = omega (arith, h.1)

unfinished_is_end : (x : List ℕ) → IsUnfinished x → IsEnd x
unfinished_is_end x h p y fits e =
    let len : length x ≡ length p.payload.items + 3 + length y = ap length e ∙ front_len p y in
    let first : number_at 0 2 x ≡ length p.payload.items + 1 = ap (number_at 0 2) e ∙ front_number p y fits in
    omega (arith, room x h (omega (arith, len)), first, len)

bad_is_end : (a b : ℕ) (more : List ℕ) → IsBadLength (number (a ∷ b ∷ [])) → IsEnd (a ∷ b ∷ more)
bad_is_end a b more bad p y fits e =
    let first : number (a ∷ b ∷ []) ≡ length p.payload.items + 1 = ap (number_at 0 2) e ∙ front_number p y fits in
    elim bad [ inl zero ↦ omega (arith, first, zero) | inr big ↦ omega (arith, first, big, fits.1) ]

one_end : (ps qs : List SoupPacket) (x y : List ℕ) → AllByRecursion IsPacket ps → AllByRecursion IsPacket qs → IsEnd x → IsEnd y → stream_of ps ++ x ≡ stream_of qs ++ y → (ps ≡ qs) × (x ≡ y)
one_end [] [] x y fits others h k e = (refl, e)
one_end [] (q ∷ qs) x y fits others h k e = absurd (h q (stream_of qs ++ y) others.0 (e ∙ next q qs y))
one_end (p ∷ ps) [] x y fits others h k e = absurd (k p (stream_of ps ++ x) fits.0 (sym e ∙ next p ps x))
one_end (p ∷ ps) (q ∷ qs) x y fits others h k e =
    let head = same_first p q (stream_of ps ++ x) (stream_of qs ++ y) fits.0 others.0 (sym (next p ps x) ∙ e ∙ next q qs y) in
    let tail = one_end ps qs x y fits.1 others.1 h k head.1 in
    (ap (λ (z : SoupPacket). z ∷ ps) head.0 ∙ ap (λ (zs : List SoupPacket). q ∷ zs) tail.0, tail.1)

-- ---- the laws

pub one_cut : (stream : List ℕ) (ps qs : List SoupPacket) (x y : List ℕ) → Cuts stream ps x → Cuts stream qs y → (ps ≡ qs) × (x ≡ y)
one_cut stream ps qs x y a b =
    one_end ps qs x y (recursion_from_All IsPacket ps a.each) (recursion_from_All IsPacket qs b.each) (unfinished_is_end x a.unfinished) (unfinished_is_end y b.unfinished) (sym a.whole ∙ b.whole)

fault_is_end : (stream : List ℕ) (ps : List SoupPacket) (bad : ℕ) (f : HasFault stream ps bad) → IsEnd (f.high ∷ f.low ∷ f.more)
fault_is_end stream ps bad f = bad_is_end f.high f.low f.more (subst IsBadLength f.is f.is_bad)

pub one_fault : (stream : List ℕ) (ps qs : List SoupPacket) (m n : ℕ) → HasFault stream ps m → HasFault stream qs n → (ps ≡ qs) × (m ≡ n)
one_fault stream ps qs m n f g =
    let same = one_end ps qs (f.high ∷ f.low ∷ f.more) (g.high ∷ g.low ∷ g.more) (recursion_from_All IsPacket ps f.each) (recursion_from_All IsPacket qs g.each) (fault_is_end stream ps m f) (fault_is_end stream qs n g) (sym f.whole ∙ g.whole) in
    (same.0, f.is ∙ ap (number_at 0 2) same.1 ∙ sym g.is)

pub cut_or_fault : (stream : List ℕ) (ps qs : List SoupPacket) (x : List ℕ) (bad : ℕ) → Cuts stream ps x → HasFault stream qs bad → ⊥
cut_or_fault stream ps qs x bad c f =
    let same = one_end ps qs x (f.high ∷ f.low ∷ f.more) (recursion_from_All IsPacket ps c.each) (recursion_from_All IsPacket qs f.each) (unfinished_is_end x c.unfinished) (fault_is_end stream qs bad f) (sym c.whole ∙ f.whole) in
    let u : IsUnfinished (f.high ∷ f.low ∷ f.more) = subst IsUnfinished same.1 c.unfinished in
    elim f.is_bad [ inl zero ↦ omega (arith, f.is, zero, u.0.0) | inr big ↦ omega (arith, f.is, big, u.0.1) ]
