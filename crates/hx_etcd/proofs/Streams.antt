-- What comes over a connection, read by read.
use Rattle.std.specs.Prelude.{Option, Some, None, Result, Ok, Err}
use Rattle.std.specs.Io.KnownBytes.{Consumes, IsAtEnd}
use Rattle.std.proofs.Common.{◌≡◌, ◌≢◌, Bool, true, false, ℕ, ◌+◌, ◌<◌, ◌≤◌, List, [], ◌∷◌, ◌++◌, length, drop, refl, sym, ap, ◌∙◌, subst, arith, append_assoc, length-append}
use Rattle.std.proofs.lemmas.List.{append-nil}
use Rattle.http1.specs.declared.decode.Decoder.{Decoder}
use Rattle.http1.specs.declared.decode.Decoder.TheVariants as decoder
use Rattle.http1.specs.declared.framing.Framing.{Framing}
use Rattle.http1.specs.declared.framing.Framing.TheVariants.{NoBody, Length, Chunked, UntilClose}
use Rattle.http1.specs.Body.{Body, body_of}
use Rattle.http1.specs.Decoder.{Completes, with_front, decoder_for, HasNoBody}
use Rattle.http1.proofs.OneParse.{completes_from_body, body_from_completes}
use Rattle.hx_etcd.specs.declared.response.CallError.{CallError}
use Rattle.hx_etcd.specs.declared.response.CallError.TheVariants.{Over, Stream, Ended, Http, NoLength, TooLong, NoMemory}
use Rattle.hx_etcd.specs.declared.response.Head.{Head}
use Rattle.hx_etcd.specs.declared.response.Piece.{Piece}
use Rattle.hx_etcd.specs.Pieces.{IsHeadOf, AwaitsHead, HasBadHead, GoesOn, HasNotEnded, ComesToEnd, FindsPiece, IsPieceOf, HasBadPiece}
use Rattle.hx_etcd.specs.Responses.{limits, most_fields, HasBody, LacksBody, NeverHasBody}
use Rattle.hx_etcd.specs.Connections.{most_body, Comes, Fills, HeadComes, BodyComes, OnceCome, IsFillFault, IsHeadFault, IsBodyFault}
use Rattle.hx_etcd.proofs.Pieces.{fronts_join}

-- ---- bytes that come

consumes_more : (a b c : Option (List ℕ)) (xs ys : List ℕ) → Consumes a b xs → Consumes b c ys → Consumes a c (xs ++ ys)
consumes_more None b c xs ys p q = tt
consumes_more (Some u) None c xs ys p q = absurd p
consumes_more (Some u) (Some v) None xs ys p q = absurd q
consumes_more (Some u) (Some v) (Some w) xs ys p q = p ∙ ap (λ (l : List ℕ). xs ++ l) q ∙ sym (append_assoc xs ys w)

pub more_comes : (a b c : Option (List ℕ)) (x y z : List ℕ) → Comes a b x y → Comes b c y z → Comes a c x z
more_comes a b c x y z p q = record {
  came = p.came ++ q.came;
  consumed = consumes_more a b c p.came q.came p.consumed q.consumed;
  added = q.added ∙ ap (λ (l : List ℕ). l ++ q.came) p.added ∙ append_assoc x p.came q.came;
}

no_more_comes : (a b c : Option (List ℕ)) (x y : List ℕ) → Comes a b x y → Consumes b c [] → Comes a c x y
no_more_comes a b c x y p none = more_comes a b c x y y p (record { came = []; consumed = none; added = sym (append-nil y) })

-- ---- a head, over several reads

-- it is bad
pub bad_head : (a b : Option (List ℕ)) (before unread : List ℕ) (e : CallError) → Comes a b before unread → HasBadHead unread e → IsHeadFault a b before e
bad_head a b before unread Over comes bad = absurd bad
bad_head a b before unread (Stream e) comes bad = absurd bad
bad_head a b before unread Ended comes bad = absurd bad
bad_head a b before unread (Http e) comes bad = record { whole = unread; comes = comes; is_so = bad }
bad_head a b before unread NoLength comes bad = record { whole = unread; comes = comes; is_so = bad }
bad_head a b before unread TooLong comes bad = absurd bad
bad_head a b before unread NoMemory comes bad = absurd bad

-- ---- a body, over several reads

-- of all that came of a body, this data was read, and the decoder waits for just what follows
pub record Waits (first : Decoder) (all : List ℕ) (d : Decoder) (unread content : List ℕ) : Type 0 where
  pub back : (more : List ℕ) (body : Body) (rest : List ℕ) → Completes d (unread ++ more) body rest → Completes first (all ++ more) (with_front content body) rest
  pub forth : (more : List ℕ) (whole : Body) (rest : List ℕ) → Completes first (all ++ more) whole rest → (body : Body) × (whole ≡ with_front content body) × Completes d (unread ++ more) body rest
  pub bounded : first ≢ decoder.UntilClose → d ≢ decoder.UntilClose

waits_on : (first d e : Decoder) (all unread content piece : List ℕ) (len : ℕ) → Waits first all d unread content → GoesOn d unread e len piece → Waits first all e (drop len unread) (content ++ piece)
waits_on first d e all unread content piece len before step = record {
  back = λ more body rest h.
      let whole : Completes first (all ++ more) (with_front content (with_front piece body)) rest = before.back more (with_front piece body) rest (step.back more body rest h) in
      subst (λ (l : List ℕ). Completes first (all ++ more) (body_of l body.trailers) rest) (sym (append_assoc content piece body.bytes)) whole;
  forth = λ more whole rest h.
      let one = before.forth more whole rest h in
      let next = step.forth more one.0 rest one.2 in
      (next.0, fronts_join content piece whole one.0 next.0 one.1 next.1, next.2);
  bounded = λ h. step.bounded (before.bounded h);
}

waits_more : (first d : Decoder) (all unread content came : List ℕ) → Waits first all d unread content → Waits first (all ++ came) d (unread ++ came) content
waits_more first d all unread content came before = record {
  back = λ more body rest h.
      let moved : Completes d (unread ++ (came ++ more)) body rest = subst (λ (l : List ℕ). Completes d l body rest) (append_assoc unread came more) h in
      subst (λ (l : List ℕ). Completes first l (with_front content body) rest) (sym (append_assoc all came more)) (before.back (came ++ more) body rest moved);
  forth = λ more whole rest h.
      let moved : Completes first (all ++ (came ++ more)) whole rest = subst (λ (l : List ℕ). Completes first l whole rest) (append_assoc all came more) h in
      let one = before.forth (came ++ more) whole rest moved in
      (one.0, one.1, subst (λ (l : List ℕ). Completes d l one.0 rest) (sym (append_assoc unread came more)) one.2);
  bounded = before.bounded;
}

waits_end : (framing : Framing) (d : Decoder) (all unread content piece : List ℕ) (len : ℕ) → Waits (decoder_for limits framing) all d unread content → ComesToEnd d unread len piece → HasBody all framing (content ++ piece) (drop len unread)
waits_end framing d all unread content piece len before end = record {
  trailers = end.trailers;
  few = end.few;
  reads =
      let first : Decoder = decoder_for limits framing in
      let whole : Completes first (all ++ []) (body_of (content ++ piece) end.trailers) (drop len unread ++ [])
      = before.back [] (body_of piece end.trailers) (drop len unread ++ []) (end.completes []) in
      let front : Completes first all (body_of (content ++ piece) end.trailers) (drop len unread ++ [])
      = subst (λ (l : List ℕ). Completes first l (body_of (content ++ piece) end.trailers) (drop len unread ++ [])) (append-nil all) whole in
      body_from_completes limits framing all (body_of (content ++ piece) end.trailers) (drop len unread)
      (subst (λ (l : List ℕ). Completes first all (body_of (content ++ piece) end.trailers) l) (append-nil (drop len unread)) front);
}

-- the piece that is the last
pub body_ends : (known later : Option (List ℕ)) (framing : Framing) (d e : Decoder) (before all unread rest old new : List ℕ) (piece : Piece) → Comes known later before all → Waits (decoder_for limits framing) all d unread old → IsPieceOf d unread e old new piece → piece.is_last ≡ true → rest ≡ drop piece.len unread → BodyComes known later before framing new rest
body_ends known later framing d e before all unread rest old new piece comes waits is last left =
    let end : ComesToEnd d unread piece.len is.content = subst (λ (b : Bool). FindsPiece b d unread e piece.len is.content) last is.found in
    let has : HasBody all framing (old ++ is.content) (drop piece.len unread) = waits_end framing d all unread old is.content piece.len waits end in
    record {
      whole = all;
      comes = comes;
      has = subst (λ (l : List ℕ). HasBody all framing new l) (sym left) (subst (λ (l : List ℕ). HasBody all framing l (drop piece.len unread)) (sym is.added) has);
    }

-- of all that came: that it came, what was read of it, and how much may still come
pub record Goes (known later : Option (List ℕ)) (first d : Decoder) (before unread content : List ℕ) (left : ℕ) : Type 0 where
  pub all : List ℕ
  pub comes : Comes known later before all
  pub waits : Waits first all d unread content
  pub many : most_body ≤ length all + left

-- another piece, after which more comes
pub body_goes_on : (a b c : Option (List ℕ)) (first d e : Decoder) (before unread middle rest old new : List ℕ) (piece : Piece) (left count now : ℕ) → Goes a b first d before unread old left → IsPieceOf d unread e old new piece → piece.is_last ≡ false → middle ≡ drop piece.len unread → Fills b c middle rest count → left ≤ count + now → Goes a c first e before rest new now
body_goes_on a b c first d e before unread middle rest old new piece left count now goes is last here next bound =
    let came = next.comes.came in
    let found : HasNotEnded d unread × GoesOn d unread e piece.len is.content = subst (λ (t : Bool). FindsPiece t d unread e piece.len is.content) last is.found in
    let on : Waits first (goes.all ++ came) e (drop piece.len unread ++ came) (old ++ is.content) =
    waits_more first e goes.all (drop piece.len unread) (old ++ is.content) came (waits_on first d e goes.all unread old is.content piece.len goes.waits found.1) in
    let there : rest ≡ drop piece.len unread ++ came = next.comes.added ∙ ap (λ (l : List ℕ). l ++ came) here in
    let many : length middle + length came ≡ length middle + count = sym (length-append middle came) ∙ sym (ap length next.comes.added) ∙ next.counted in
    record {
      all = goes.all ++ came;
      comes = more_comes a b c before goes.all (goes.all ++ came) goes.comes (record { came = came; consumed = next.comes.consumed; added = refl });
      waits = subst (λ (l : List ℕ). Waits first (goes.all ++ came) e l new) (sym there) (subst (λ (l : List ℕ). Waits first (goes.all ++ came) e (drop piece.len unread ++ came) l) (sym is.added) on);
      many = omega (arith, goes.many, bound, many, length-append goes.all came);
    }

-- more came than may
pub too_much : (a b c : Option (List ℕ)) (first d : Decoder) (before unread middle rest content : List ℕ) (left count : ℕ) → Goes a b first d before unread content left → Fills b c middle rest count → left < count → OnceCome a c before (λ whole. most_body < length whole)
too_much a b c first d before unread middle rest content left count goes next much =
    let came = next.comes.came in
    let many : length middle + length came ≡ length middle + count = sym (length-append middle came) ∙ sym (ap length next.comes.added) ∙ next.counted in
    record {
      whole = goes.all ++ came;
      comes = more_comes a b c before goes.all (goes.all ++ came) goes.comes (record { came = came; consumed = next.comes.consumed; added = refl });
      is_so = omega (arith, goes.many, many, much, length-append goes.all came);
    }

-- ---- no body

bounded_at_first : (framing : Framing) → framing ≢ UntilClose → decoder_for limits framing ≢ decoder.UntilClose
bounded_at_first NoBody ends = λ e. cc e
bounded_at_first (Length n) ends = λ e. cc e
bounded_at_first Chunked ends = λ e. cc e
bounded_at_first UntilClose ends = absurd (ends refl)

module _ (framing : Framing) (d : Decoder) (all unread content : List ℕ) (waits : Waits (decoder_for limits framing) all d unread content) where
  lacks_body : framing ≢ UntilClose → HasNotEnded d unread → LacksBody framing all
  lacks_body ends goes_on body rest = λ has.
      let first : Decoder = decoder_for limits framing in
      let whole : Completes first all (body_of body has.trailers) rest = completes_from_body limits framing all (body_of body has.trailers) rest has.reads in
      let one = waits.forth [] (body_of body has.trailers) rest (subst (λ (l : List ℕ). Completes first l (body_of body has.trailers) rest) (sym (append-nil all)) whole) in
      goes_on (waits.bounded (bounded_at_first framing ends)) one.0 rest (subst (λ (l : List ℕ). Completes d l one.0 rest) (append-nil unread) one.2)

  never_body : HasNoBody d unread most_fields → NeverHasBody framing all
  never_body bad more body rest = λ has.
      let whole : Completes (decoder_for limits framing) (all ++ more) (body_of body has.trailers) rest = completes_from_body limits framing (all ++ more) (body_of body has.trailers) rest has.reads in
      let one = waits.forth more (body_of body has.trailers) rest whole in
      omega (arith, has.few, bad more one.0 rest one.2, ap (λ (b : Body). length b.trailers) one.1)

-- what came of it is bad
pub bad_body : (a b : Option (List ℕ)) (framing : Framing) (d : Decoder) (before unread content : List ℕ) (left : ℕ) (e : CallError) → Goes a b (decoder_for limits framing) d before unread content left → HasBadPiece d unread e → IsBodyFault a b before framing e
bad_body a b framing d before unread content left Over goes bad = absurd bad
bad_body a b framing d before unread content left (Stream e) goes bad = absurd bad
bad_body a b framing d before unread content left Ended goes bad = absurd bad
bad_body a b framing d before unread content left (Http e) goes bad = record { whole = goes.all; comes = goes.comes; is_so = never_body framing d goes.all unread content goes.waits bad }
bad_body a b framing d before unread content left NoLength goes bad = absurd bad
bad_body a b framing d before unread content left TooLong goes bad = absurd bad
bad_body a b framing d before unread content left NoMemory goes bad = tt

-- nothing more comes of it
pub no_body : (a b c : Option (List ℕ)) (framing : Framing) (d e : Decoder) (before unread old new : List ℕ) (piece : Piece) (left : ℕ) (error : CallError) → Goes a b (decoder_for limits framing) d before unread old left → IsPieceOf d unread e old new piece → piece.is_last ≡ false → IsFillFault b c error → IsBodyFault a c before framing error
no_body a b c framing d e before unread old new piece left Over goes is last fault = absurd fault
no_body a b c framing d e before unread old new piece left (Stream x) goes is last fault = tt
no_body a b c framing d e before unread old new piece left Ended goes is last fault = λ ends.
    let found : HasNotEnded d unread × GoesOn d unread e piece.len is.content = subst (λ (t : Bool). FindsPiece t d unread e piece.len is.content) last is.found in (
      fault.1,
      record {
        whole = goes.all;
        comes = no_more_comes a b c before goes.all goes.comes fault.0;
        is_so = lacks_body framing d goes.all unread old goes.waits ends found.0;
      },
    )
no_body a b c framing d e before unread old new piece left (Http x) goes is last fault = absurd fault
no_body a b c framing d e before unread old new piece left NoLength goes is last fault = absurd fault
no_body a b c framing d e before unread old new piece left TooLong goes is last fault = absurd fault
no_body a b c framing d e before unread old new piece left NoMemory goes is last fault = tt
