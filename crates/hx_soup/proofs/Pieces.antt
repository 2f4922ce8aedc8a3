-- What a framer gives depends on the stream alone, and not on its pieces.
use Rattle.std.proofs.Common.{◌≡◌, ℕ, List, [], ◌∷◌, ◌++◌, Option, Some, None, refl, sym, ap, ◌∙◌, append_assoc, subst, inl, inr}
use Rattle.std.specs.List.{concat}
use Rattle.std.proofs.lemmas.List.{append-nil}
use Rattle.std.proofs.lemmas.Grind.{flat_map-append}
use Rattle.std.proofs.lemmas.List.Elements.{All-append}
use Rattle.std.proofs.lemmas.Option.{same_Some}
use Rattle.hx_soup.specs.declared.packet.SoupPacket.{SoupPacket}
use Rattle.hx_soup.specs.Packets.{packet_bytes, stream_of, IsPacket, IsUnfinished, Cuts, HasFault}
use Rattle.hx_soup.specs.Framers.{GivesAll}
use Rattle.hx_soup.proofs.Growth.{cuts_none}
use Rattle.hx_soup.proofs.Readings as readings

-- the reading of a stream: cut into packets, or with a fault
abbrev Reads : List ℕ → List SoupPacket → Option (List ℕ) → Type 0
Reads stream packets (Some rest) = Cuts stream packets rest
Reads stream packets None = (bad : ℕ) × HasFault stream packets bad

-- ---- two parts of a stream

pub whole_join : (stream x rest tail : List ℕ) (ps qs : List SoupPacket) → stream ≡ stream_of ps ++ rest → rest ++ x ≡ stream_of qs ++ tail → stream ++ x ≡ stream_of (ps ++ qs) ++ tail
whole_join stream x rest tail ps qs first next =
    ap (λ (s : List ℕ). s ++ x) first ∙ append_assoc (stream_of ps) rest x ∙ ap (λ (s : List ℕ). stream_of ps ++ s) next
    ∙ sym (append_assoc (stream_of ps) (stream_of qs) tail) ∙ ap (λ (s : List ℕ). s ++ tail) (sym (flat_map-append packet_bytes ps qs))

reads_join : (stream x rest : List ℕ) (ps qs : List SoupPacket) (new : Option (List ℕ)) → Cuts stream ps rest → Reads (rest ++ x) qs new → Reads (stream ++ x) (ps ++ qs) new
reads_join stream x rest ps qs (Some retained) c r = record {
  whole = whole_join stream x rest retained ps qs c.whole r.whole;
  each = All-append IsPacket ps qs c.each r.each;
  unfinished = r.unfinished;
}
reads_join stream x rest ps qs None c (bad, f) = (
  bad,
  record {
    high = f.high;
    low = f.low;
    more = f.more;
    whole = whole_join stream x rest (f.high ∷ f.low ∷ f.more) ps qs c.whole f.whole;
    each = All-append IsPacket ps qs c.each f.each;
    is = f.is;
    is_bad = f.is_bad;
  },
)

fault_join : (stream x : List ℕ) (ps : List SoupPacket) (bad : ℕ) → HasFault stream ps bad → HasFault (stream ++ x) ps bad
fault_join stream x ps bad f = record {
  high = f.high;
  low = f.low;
  more = f.more ++ x;
  whole = ap (λ (s : List ℕ). s ++ x) f.whole ∙ append_assoc (stream_of ps) (f.high ∷ f.low ∷ f.more) x;
  each = f.each;
  is = f.is;
  is_bad = f.is_bad;
}

-- ---- the pieces

not_failed : (a : List ℕ) → Some a ≡ None → ⊥
not_failed a e = cc

none_after : (pieces : List (List ℕ)) (packets : List SoupPacket) (new : Option (List ℕ)) → GivesAll None new pieces packets → (packets ≡ []) × (new ≡ None)
none_after [] packets new g = (g.1, g.0)
none_after (piece ∷ pieces) packets new (between, first, others, g, rest, is) =
    elim g [
      | inl t ↦ absurd (not_failed t.retained (sym t.was))
      | inr i ↦ elim i [
        | inl s ↦ absurd (not_failed s.1.retained (sym s.1.was))
        | inr failed ↦
            let r = none_after pieces others new (subst (λ (o : Option (List ℕ)). GivesAll o new pieces others) failed.1 rest) in
            (is ∙ ap (λ (ps : List SoupPacket). ps ++ others) failed.2 ∙ r.0, r.1)
      ]
    ]

-- the first piece after the bytes retained, and the pieces after it
first_piece : (retained piece tail : List ℕ) (packets : List SoupPacket) (new : Option (List ℕ)) → Reads ((retained ++ piece) ++ tail) packets new → Reads (retained ++ (piece ++ tail)) packets new
first_piece retained piece tail packets new r = subst (λ (s : List ℕ). Reads s packets new) (append_assoc retained piece tail) r

reads_all : (retained : List ℕ) (pieces : List (List ℕ)) (packets : List SoupPacket) (new : Option (List ℕ)) → IsUnfinished retained → GivesAll (Some retained) new pieces packets → Reads (retained ++ concat pieces) packets new
reads_all retained [] packets new u (is, none) =
    let P : List SoupPacket → Option (List ℕ) → Type 0 = λ ps o. Reads (retained ++ []) ps o in
    let c : Reads (retained ++ []) [] (Some retained) = subst (λ (s : List ℕ). Cuts s [] retained) (sym (append-nil retained)) (cuts_none retained u) in
    subst (λ (o : Option (List ℕ)). P packets o) (sym is) (subst (λ (ps : List SoupPacket). P ps (Some retained)) (sym none) c)
reads_all retained (piece ∷ pieces) packets new u (between, first, others, g, rest, is) =
    subst (λ (ps : List SoupPacket). Reads (retained ++ (piece ++ concat pieces)) ps new) (sym is) (first_piece retained piece (concat pieces) (first ++ others) new (elim g [
      | inl t ↦
          let cut : Cuts (retained ++ piece) first t.rest = subst (λ (k : List ℕ). Cuts (k ++ piece) first t.rest) (same_Some t.retained retained (sym t.was)) t.cuts in
          reads_join (retained ++ piece) (concat pieces) t.rest first others new cut
          (reads_all t.rest pieces others new cut.unfinished (subst (λ (o : Option (List ℕ)). GivesAll o new pieces others) t.is rest))
      | inr i ↦ elim i [
        | inl s ↦
            let none = none_after pieces others new (subst (λ (o : Option (List ℕ)). GivesAll o new pieces others) s.1.is rest) in
            let f : HasFault (retained ++ piece) first s.0 = subst (λ (k : List ℕ). HasFault (k ++ piece) first s.0) (same_Some s.1.retained retained (sym s.1.was)) s.1.fault in
            let r : Reads ((retained ++ piece) ++ concat pieces) first None = (s.0, fault_join (retained ++ piece) (concat pieces) first s.0 f) in
            subst (λ (o : Option (List ℕ)). Reads ((retained ++ piece) ++ concat pieces) (first ++ others) o) (sym none.1)
            (subst (λ (ps : List SoupPacket). Reads ((retained ++ piece) ++ concat pieces) ps None) (sym (ap (λ (ps : List SoupPacket). first ++ ps) none.0 ∙ append-nil first)) r)
        | inr failed ↦ absurd (not_failed retained failed.0)
      ]
    ]))

-- ---- the law

same_reading : (stream : List ℕ) (ps qs : List SoupPacket) (new other : Option (List ℕ)) → Reads stream ps new → Reads stream qs other → (ps ≡ qs) × (new ≡ other)
same_reading stream ps qs (Some x) (Some y) a b = let e = readings.one_cut stream ps qs x y a b in (e.0, ap Some e.1)
same_reading stream ps qs (Some x) None a b = absurd (readings.cut_or_fault stream ps qs x b.0 a b.1)
same_reading stream ps qs None (Some y) a b = absurd (readings.cut_or_fault stream qs ps y a.0 b a.1)
same_reading stream ps qs None None a b = ((readings.one_fault stream ps qs a.0 b.0 a.1 b.1).0, refl)

pub any_pieces : (pieces others : List (List ℕ)) (packets more : List SoupPacket) (new other : Option (List ℕ)) → concat pieces ≡ concat others → GivesAll (Some []) new pieces packets → GivesAll (Some []) other others more
    → (packets ≡ more) × (new ≡ other)
any_pieces pieces others packets more new other same g h =
    let a : Reads (concat pieces) packets new = reads_all [] pieces packets new tt g in
    let b : Reads (concat others) more other = reads_all [] others more other tt h in
    same_reading (concat others) packets more new other (subst (λ (s : List ℕ). Reads s packets new) same a) b
