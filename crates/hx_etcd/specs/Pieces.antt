-- What the front of the bytes that have come is, of a response.
use Rattle.std.specs.Prelude.{◌≡◌, ◌≢◌, ℕ, ◌<◌, ◌≤◌, Bool, true, false, List, ◌++◌, length, drop, Option, None, Some}
use Rattle.httparse.specs.Grammar.{Field, ResponseHead, HasNoResponse, MayBecomeResponse, status_code}
use Rattle.http1.specs.declared.decode.Decoder.{Decoder}
use Rattle.http1.specs.declared.decode.Decoder.TheVariants.{UntilClose}
use Rattle.http1.specs.Body.{Body, body_of}
use Rattle.http1.specs.Decoder.{Completes, with_front, HasNoBody}
use Rattle.hx_etcd.specs.declared.response.CallError.{CallError}
use Rattle.hx_etcd.specs.declared.response.CallError.TheVariants.{Over, Stream, Ended, Http, NoLength, TooLong, NoMemory}
use Rattle.hx_etcd.specs.declared.response.Head.{Head}
use Rattle.hx_etcd.specs.declared.response.Piece.{Piece}
use Rattle.hx_etcd.specs.Responses.{most_head, most_fields, is_persistent, HasHead, NeverHasHead, RunsToClose}

-- ---- heads

-- the parts of a response's head that are reported
pub record Tells (h : ResponseHead) (head : Head) : Type 0 where
  pub status : head.status ≡ status_code h
  pub persistent : head.is_persistent ≡ is_persistent h

-- the input begins with a head
pub record IsHeadOf (input : List ℕ) (head : Head) : Type 0 where
  pub within : head.len ≤ length input
  pub response : ResponseHead
  pub has : HasHead input response head.framing (drop head.len input)
  pub tells : Tells response head

-- the input has no whole head, and some bytes may complete one
pub record AwaitsHead (input : List ℕ) : Type 0 where
  pub none : HasNoResponse input
  pub may : MayBecomeResponse input
  pub short : length input < most_head

-- what is found at the front of the input
abbrev pub FindsHead : List ℕ → Option Head → Type 0
FindsHead input None = AwaitsHead input
FindsHead input (Some head) = IsHeadOf input head

-- why there is no head
abbrev pub HasBadHead : List ℕ → CallError → Type 0
HasBadHead input Over = ⊥
HasBadHead input (Stream e) = ⊥
HasBadHead input Ended = ⊥
HasBadHead input (Http e) = NeverHasHead input
HasBadHead input NoLength = RunsToClose input
HasBadHead input TooLong = ⊥
HasBadHead input NoMemory = ⊥

-- ---- bodies

-- after `len` bytes of the input, which had this data, the new decoder waits for exactly the rest
-- of the body
pub record GoesOn (old : Decoder) (input : List ℕ) (new : Decoder) (len : ℕ) (content : List ℕ)
    : Type 0 where
  pub back :
      (more : List ℕ) (body : Body) (rest : List ℕ)
      → Completes new (drop len input ++ more) body rest
      → Completes old (input ++ more) (with_front content body) rest
  pub forth :
      (more : List ℕ) (whole : Body) (rest : List ℕ)
      → Completes old (input ++ more) whole rest
      → (body : Body) × (whole ≡ with_front content body)
      × Completes new (drop len input ++ more) body rest
  pub bounded : old ≢ UntilClose → new ≢ UntilClose

-- the body has not ended in the input
abbrev pub HasNotEnded : Decoder → List ℕ → Type 0
HasNotEnded old input =
    old ≢ UntilClose → (body : Body) (rest : List ℕ) → ¬ (Completes old input body rest)

-- the body ends after `len` bytes of the input, which had this data
pub record ComesToEnd (old : Decoder) (input : List ℕ) (len : ℕ) (content : List ℕ) : Type 0 where
  pub trailers : List Field
  pub few : length trailers ≤ most_fields
  pub completes :
      (more : List ℕ)
      → Completes old (input ++ more) (body_of content trailers) (drop len input ++ more)

-- what a read of a body found
abbrev pub FindsPiece : (is_last : Bool) → Decoder → List ℕ → Decoder → ℕ → List ℕ → Type 0
FindsPiece false old input new len content =
    HasNotEnded old input × GoesOn old input new len content
FindsPiece true old input new len content = ComesToEnd old input len content

-- the data is added to what there was
pub record IsPieceOf (old : Decoder) (input : List ℕ) (new : Decoder) (before after : List ℕ)
    (piece : Piece) : Type 0 where
  pub within : piece.len ≤ length input
  pub content : List ℕ
  pub added : after ≡ before ++ content
  pub found : FindsPiece piece.is_last old input new piece.len content

-- why there is none: whatever follows, there is no body, or it has too many fields after it
abbrev pub HasBadPiece : Decoder → List ℕ → CallError → Type 0
HasBadPiece old input Over = ⊥
HasBadPiece old input (Stream e) = ⊥
HasBadPiece old input Ended = ⊥
HasBadPiece old input (Http e) = HasNoBody old input most_fields
HasBadPiece old input NoLength = ⊥
HasBadPiece old input TooLong = ⊥
HasBadPiece old input NoMemory = Unit {0}
