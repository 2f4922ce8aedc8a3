-- The longest front of messages that fits.
use Rattle.std.proofs.Common.{◌≡◌, ℕ, zero, suc, ◌+◌, ◌-◌, ◌*◌, ◌<◌, ◌≤◌, List, [], ◌∷◌, ◌++◌, length, take, drop, get_or, Bool, true, false, Some, None, sym, ap, ◌∙◌, subst, arith, leb, inl, inr, min, append_assoc}
use Rattle.std.proofs.Math.ListN.{get_or-append}
use Rattle.std.proofs.Math.Seq.{take-append-add}
use Rattle.arrayvec.specs.ArrayVec.{ArrayVec}
use Rattle.std.proofs.lemmas.Bool.{le-leb, cases_lt}
use Rattle.std.proofs.lemmas.List.{length-append, length-drop, length-take, append-nil, take_more, take-append-drop, take-append-le, get_or-drop, get_or-take}
use Rattle.std.proofs.lemmas.List.Folds.{length-flat_map-take}
use Rattle.std.proofs.lemmas.Grind.{flat_map-append}
use Rattle.std.specs.List.{AllByRecursion}
use Rattle.std.proofs.lemmas.Option.{same_Some}
use Rattle.hx_mold.specs.declared.packet.MoldPacket.TheVariants as mold
use Rattle.hx_mold.specs.Packets.{block, blocks, header, IsShort, IsHeader, SpellsPacket}
use Rattle.hx_units.specs.Fields.{texts}
use Rattle.hx_mold.specs.Fronts.{wanted, IsFront, message_at, CutsInto, Gathers}
use Rattle.hx_mold.specs.Filling.{Holds, Fills}
use Rattle.hx_mold.proofs.Laws.{length-block, less_one}
use Rattle.hx_mold.proofs.Codecs.{if_true}

blocks_one : (ms : List (List ℕ)) (k : ℕ) → k < length ms → blocks (take (k + 1) ms) ≡ blocks (take k ms) ++ block (get_or ms k [])
blocks_one ms k h = ap blocks (take_more ms k [] h) ∙ flat_map-append block (take k ms) (get_or ms k [] ∷ []) ∙ ap (λ (x : List ℕ). blocks (take k ms) ++ x) (append-nil (block (get_or ms k [])))

pub blocks_most : (ms : List (List ℕ)) → 2 * length ms ≤ length (blocks ms)
blocks_most [] = omega arith
blocks_most (m ∷ ms) = omega (arith, length-append (block m) (blocks ms), length-block m, blocks_most ms)

pub holds_more : (k : ℕ) (bytes new m : List ℕ) (ms : List (List ℕ)) → Holds k bytes ms → k < length ms → m ≡ get_or ms k [] → (new ≡ bytes ++ block m) × (length new ≤ 1380) → Holds (k + 1) new ms
holds_more k bytes new m ms h some is adds = record {
  bytes_are = adds.0 ∙ ap (λ (x : List ℕ). x ++ block m) h.bytes_are ∙ ap (λ (x : List ℕ). blocks (take k ms) ++ block x) is ∙ sym (blocks_one ms k some);
  there = omega arith;
  fits = adds.1;
}

pub holds_few : (k : ℕ) (bytes : List ℕ) (ms : List (List ℕ)) → Holds k bytes ms → k ≤ 690
holds_few k bytes ms h = omega (arith, h.there, h.fits, blocks_most (take k ms), ap (λ (x : List ℕ). length x) h.bytes_are, length-take k ms)

-- a longer front does not fit
front_full : (k : ℕ) (bytes : List ℕ) (ms : List (List ℕ)) → Holds k bytes ms → k < length ms → 1380 < length (bytes ++ block (get_or ms k [])) → IsFront (take k ms) ms
front_full k bytes ms h some full = record {
  rest = drop k ms;
  splits = sym (take-append-drop k ms);
  fits = rw (← h.bytes_are) h.fits;
  longest = λ others more is fits. elim (cases_lt k (length others)) [
    | inl long ↦
        let same : take k ms ≡ take k others = ap (take k) is ∙ take-append-le k others more (omega arith) in
        let next : get_or ms k [] ≡ get_or others k [] = ap (λ (x : List (List ℕ)). get_or x k []) is ∙ get_or-append others more [] k long in
        let most : length (blocks (take k others)) + length (block (get_or others k [])) ≤ length (blocks others) = length-flat_map-take block others k [] long in
        let len : length (bytes ++ block (get_or ms k [])) ≡ length (blocks (take k others)) + length (block (get_or others k [])) =
        length-append bytes (block (get_or ms k [])) ∙ ap (λ (x : List ℕ). length x + length (block (get_or ms k []))) (h.bytes_are ∙ ap blocks same) ∙ ap (λ (x : List ℕ). length (blocks (take k others)) + length (block x)) next in
        absurd (omega arith)
    | inr short ↦ omega (arith, length-take k ms)
  ];
}

above : (k : ℕ) (bytes : List ℕ) (ms : List (List ℕ)) → bytes ≡ blocks (take k ms) → (bytes ≡ [] → ⊥) → 0 < k
above zero bytes ms is some = absurd (some is)
above (suc k) bytes ms is some = omega arith

pub fills_full : (k : ℕ) (bytes m : List ℕ) (ms : List (List ℕ)) → Holds k bytes ms → k < length ms → m ≡ get_or ms k [] → 1380 < length (bytes ++ block m) → (bytes ≡ [] → ⊥) → Fills k bytes ms
fills_full k bytes m ms h some is full first = record {
  holds = h;
  is_front = front_full k bytes ms h some (subst (λ (x : List ℕ). 1380 < length (bytes ++ block x)) is full);
  some = λ _. above k bytes ms h.bytes_are first;
}

-- ---- what is asked for

pub message_is : (n : ℕ) (ms : List (List ℕ)) → 0 < n → n ≤ length ms → message_at n ms ≡ Some (get_or ms (n - 1) [])
message_is zero ms some there = absurd (omega arith)
message_is (suc k) ms some there =
    if_true (leb (suc k) (length ms)) (Some (get_or ms k [])) None (le-leb (suc k) (length ms) there) ∙ ap (λ (i : ℕ). Some (get_or ms i [])) (less_one k)

pub length-wanted : (n most : ℕ) (ms : List (List ℕ)) → length (wanted n most ms) ≡ min most (length ms - (n - 1))
length-wanted n most ms = length-take most (drop (n - 1) ms) ∙ ap (λ (i : ℕ). min most i) (length-drop (n - 1) ms)

pub wanted_one : (n most k : ℕ) (ms : List (List ℕ)) → 0 < n → k < most → get_or (wanted n most ms) k [] ≡ get_or ms (n + k - 1) []
wanted_one n most k ms some few = get_or-take most (drop (n - 1) ms) k [] few ∙ get_or-drop (n - 1) ms k [] ∙ ap (λ (i : ℕ). get_or ms i []) (omega arith)

-- the message that was got is the next one that is wanted
pub got : (n most k next : ℕ) (m : List ℕ) (ms : List (List ℕ)) → 0 < n → k < most → next ≡ n + k → next ≤ length ms → Some m ≡ message_at next ms → m ≡ get_or (wanted n most ms) k []
got n most k next m ms some few is there found =
    same_Some m (get_or ms (next - 1) []) (found ∙ message_is next ms (omega arith) there) ∙ ap (λ (i : ℕ). get_or ms (i - 1) []) is ∙ sym (wanted_one n most k ms some few)

-- ---- one packet more

blocks-short : (ms : List (List ℕ)) → length (blocks ms) ≤ 1380 → AllByRecursion IsShort ms
blocks-short [] fits = tt
blocks-short (m ∷ ms) fits =
    let len : length (blocks (m ∷ ms)) ≡ length m + 2 + length (blocks ms) = omega (arith, length-append (block m) (blocks ms), length-block m) in
    (omega arith, blocks-short ms (omega arith))

-- the packet of a front that fits
pub front_spells : (session : List ℕ) (n : ℕ) (front ms : List (List ℕ)) (bytes : List ℕ) → IsHeader session n → IsFront front ms → 0 < length front
    → bytes ≡ header session n (length front) ++ blocks front → SpellsPacket bytes (mold.Blocks session n front)
front_spells session n front ms bytes head is some same =
    ((head, record { some = some; few = omega (arith, is.fits, blocks_most front); short = blocks-short front is.fits }), same)

-- the packet of the messages that were filled in
pub fills_spell : (session : List ℕ) (n count : ℕ) (ms : List (List ℕ)) (body bytes : List ℕ) → IsHeader session n → Fills count body ms → 0 < count → bytes ≡ header session n count ++ body
    → SpellsPacket bytes (mold.Blocks session n (take count ms))
fills_spell session n count ms body bytes head fills some same =
    let len : length (take count ms) ≡ count = omega (arith, length-take count ms, fills.holds.there) in
    front_spells session n (take count ms) ms bytes head fills.is_front (omega arith)
    (same ∙ ap (λ (x : List ℕ). header session n count ++ x) fills.holds.bytes_are ∙ ap (λ (c : ℕ). header session n c ++ blocks (take count ms)) (sym len))

pub cuts_one : (session : List ℕ) (n count : ℕ) (ms : List (List ℕ)) (body bytes : List ℕ) (ps : List (List ℕ)) → IsHeader session n → Fills count body ms → 0 < length ms → bytes ≡ header session n count ++ body
    → CutsInto session (n + count) (drop count ms) ps → CutsInto session n ms (bytes ∷ ps)
cuts_one session n count ms body bytes ps head fills some same others =
    let len : length (take count ms) ≡ count = omega (arith, length-take count ms, fills.holds.there) in (
      take count ms,
      drop count ms,
      sym (take-append-drop count ms),
      omega (arith, fills.some some),
      fills.is_front,
      fills_spell session n count ms body bytes head fills (fills.some some) same,
      subst (λ (c : ℕ). CutsInto session (n + c) (drop count ms) ps) (sym len) others,
    )

pub text_is : (xs : List (ArrayVec ℕ)) (i : ℕ) (x : ArrayVec ℕ) → i < length xs → x ≡ get_or xs i x → x.items ≡ get_or (texts xs) i []
text_is [] i x some is = absurd (omega arith)
text_is (y ∷ ys) zero x some is = ap (λ (v : ArrayVec ℕ). v.items) is
text_is (y ∷ ys) (suc i) x some is = text_is ys i x (omega arith) is

pub not_first : (bytes : List ℕ) (added : Bool) → added ≡ false → (bytes ≡ [] → added ≡ true) → bytes ≡ [] → ⊥
not_first bytes added refused first none = absurd (let t : added ≡ true = first none in cc)

-- what was filled in is the packet that is asked for
pub gathers : (session : List ℕ) (n most count : ℕ) (ms : List (List ℕ)) (body bytes : List ℕ) → IsHeader session n → 0 < count → Fills count body (wanted n most ms) → bytes ≡ header session n count ++ body
    → Gathers session n most ms bytes count
gathers session n most count ms body bytes head some fills same =
    let len : length (take count (wanted n most ms)) ≡ count = omega (arith, length-take count (wanted n most ms), fills.holds.there) in
    record {
      front = take count (wanted n most ms);
      is_front = fills.is_front;
      some = omega arith;
      bytes_are = fills_spell session n count (wanted n most ms) body bytes head fills some same;
      count_is = sym len;
    }

-- ---- the messages from a number on, all of them

-- what fits is few
fits_few : (front : List (List ℕ)) → length (blocks front) ≤ 1380 → length front ≤ 690
fits_few front fits = omega (arith, blocks_most front)

take_front : (n : ℕ) (ms others more : List (List ℕ)) → length others ≤ n → ms ≡ others ++ more → take n ms ≡ others ++ take (n - length others) more
take_front n ms others more few is =
    ap (λ (k : ℕ). take k ms) (omega arith) ∙ ap (take (length others + (n - length others))) is ∙ take-append-add others more (n - length others)

-- a front that fits is one of all the messages
IsFront-take : (n : ℕ) (front ms : List (List ℕ)) → 690 ≤ n → IsFront front (take n ms) → IsFront front ms
IsFront-take n front ms large h = record {
  rest = h.rest ++ drop n ms;
  splits = sym (take-append-drop n ms) ∙ ap (λ (x : List (List ℕ)). x ++ drop n ms) h.splits ∙ append_assoc front h.rest (drop n ms);
  fits = h.fits;
  longest = λ others more is fits. h.longest others (take (n - length others) more) (take_front n ms others more (omega (arith, fits_few others fits)) is) fits;
}

-- if the largest number is asked for, the front is one of all the messages from the number on
pub next_front : (sent : ℕ) (front ms : List (List ℕ)) → IsFront front (wanted (sent + 1) 65535 ms) → IsFront front (drop sent ms)
next_front sent front ms h =
    let at : sent + 1 - 1 ≡ sent = omega arith in
    IsFront-take 65535 front (drop sent ms) (omega arith) (subst (λ (k : ℕ). IsFront front (take 65535 (drop k ms))) at h)
