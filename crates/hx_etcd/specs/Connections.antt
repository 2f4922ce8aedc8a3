-- Answers over a connection.
use Rattle.std.specs.Prelude.{◌≡◌, ◌≢◌, ◌==◌, ◌&&◌, not, ℕ, ◌+◌, ◌<◌, Bool, List, [], ◌++◌, length, Option}
use Rattle.std.specs.Io.KnownBytes.{Consumes, IsAtEnd}
use Rattle.httparse.specs.Grammar.{ResponseHead, status_code}
use Rattle.http1.specs.declared.framing.Framing.{Framing}
use Rattle.http1.specs.declared.framing.Framing.TheVariants.{UntilClose}
use Rattle.hx_etcd.specs.declared.connection.Connection.{Connection}
use Rattle.hx_etcd.specs.declared.response.CallError.{CallError}
use Rattle.hx_etcd.specs.declared.response.CallError.TheVariants.{Over, Stream, Ended, Http, NoLength, TooLong, NoMemory}
use Rattle.hx_etcd.specs.declared.response.Head.{Head}
use Rattle.hx_etcd.specs.declared.reported.Answer.{Answer}
use Rattle.hx_etcd.specs.Pieces.{Tells}
use Rattle.hx_etcd.specs.Responses.{is_persistent, HasHead, LacksHead, NeverHasHead, RunsToClose, HasBody, LacksBody, NeverHasBody, IsAnswer, LacksAnswer, NeverHasAnswer}

-- ---- connections

abbrev pub is_over : {R W : Type 0} → Connection R W → Bool
is_over c = c.is_over

abbrev pub reader_of : {R W : Type 0} → Connection R W → R
reader_of c = c.inlet.reader

abbrev pub writer_of : {R W : Type 0} → Connection R W → W
writer_of c = c.writer

-- what was read, and is no part of an answer yet
abbrev pub unread_of : {R W : Type 0} → Connection R W → List ℕ
unread_of c = c.inlet.unread.items

-- the most bytes of a body that may come, with what frames it
abbrev pub most_body : ℕ
most_body = 2147483648

-- ---- what comes

-- bytes came, and stand after those that were there
pub record Comes (known later : Option (List ℕ)) (before after : List ℕ) : Type 0 where
  pub came : List ℕ
  pub consumed : Consumes known later came
  pub added : after ≡ before ++ came

-- `count` bytes came, at least one
pub record Fills (known later : Option (List ℕ)) (before after : List ℕ) (count : ℕ) : Type 0 where
  pub comes : Comes known later before after
  pub counted : length after ≡ length before + count
  pub some : 0 < count

-- with the bytes that came there is a head
pub record HeadComes (known later : Option (List ℕ)) (before : List ℕ) (head : Head)
    (rest : List ℕ) : Type 0 where
  pub whole : List ℕ
  pub comes : Comes known later before whole
  pub response : ResponseHead
  pub has : HasHead whole response head.framing rest
  pub tells : Tells response head

-- with the bytes that came there is a body
pub record BodyComes (known later : Option (List ℕ)) (before : List ℕ) (framing : Framing)
    (body rest : List ℕ) : Type 0 where
  pub whole : List ℕ
  pub comes : Comes known later before whole
  pub has : HasBody whole framing body rest

-- With the bytes that came there is an answer. The connection goes on if the answer says so, and
-- nothing came after it.
pub record AnswerComes (known later : Option (List ℕ)) (before : List ℕ) (answer : Answer)
    (rest : List ℕ) (is_over : Bool) : Type 0 where
  pub whole : List ℕ
  pub comes : Comes known later before whole
  pub head : ResponseHead
  pub is : IsAnswer whole head answer.body.items rest
  pub status : answer.status ≡ status_code head
  pub over : is_over ≡ not (is_persistent head && (length rest == 0))

-- ---- what comes, and is no answer

-- this is so of the bytes that there were with those that came
pub record OnceCome (known later : Option (List ℕ)) (before : List ℕ) (P : List ℕ → Type 0)
    : Type 0 where
  pub whole : List ℕ
  pub comes : Comes known later before whole
  pub is_so : P whole

-- the stream is at its end, and this is so of all bytes
abbrev pub AtTheEnd : (known later : Option (List ℕ)) (before : List ℕ) (P : List ℕ → Type 0)
    → Type 0
AtTheEnd known later before P = IsAtEnd later × OnceCome known later before P

-- why no bytes came
abbrev pub IsFillFault : (known later : Option (List ℕ)) → CallError → Type 0
IsFillFault known later Over = ⊥
IsFillFault known later (Stream e) = Unit {0}
IsFillFault known later Ended = Consumes known later [] × IsAtEnd later
IsFillFault known later (Http e) = ⊥
IsFillFault known later NoLength = ⊥
IsFillFault known later TooLong = ⊥
IsFillFault known later NoMemory = Unit {0}

-- why no head came
abbrev pub IsHeadFault : (known later : Option (List ℕ)) → (before : List ℕ) → CallError → Type 0
IsHeadFault known later before Over = ⊥
IsHeadFault known later before (Stream e) = Unit {0}
IsHeadFault known later before Ended = AtTheEnd known later before LacksHead
IsHeadFault known later before (Http e) = OnceCome known later before NeverHasHead
IsHeadFault known later before NoLength = OnceCome known later before RunsToClose
IsHeadFault known later before TooLong = ⊥
IsHeadFault known later before NoMemory = Unit {0}

-- why no body came
abbrev pub IsBodyFault : (known later : Option (List ℕ)) → (before : List ℕ) → Framing → CallError
    → Type 0
IsBodyFault known later before f Over = ⊥
IsBodyFault known later before f (Stream e) = Unit {0}
IsBodyFault known later before f Ended =
    f ≢ UntilClose → AtTheEnd known later before (LacksBody f)
IsBodyFault known later before f (Http e) = OnceCome known later before (NeverHasBody f)
IsBodyFault known later before f NoLength = ⊥
IsBodyFault known later before f TooLong =
    OnceCome known later before (λ whole. most_body < length whole)
IsBodyFault known later before f NoMemory = Unit {0}

-- why no answer came over a connection that goes on
abbrev pub IsCallFault : (known later : Option (List ℕ)) → (before : List ℕ) → CallError → Type 0
IsCallFault known later before Over = ⊥
IsCallFault known later before (Stream e) = Unit {0}
IsCallFault known later before Ended = AtTheEnd known later before LacksAnswer
IsCallFault known later before (Http e) = OnceCome known later before NeverHasAnswer
IsCallFault known later before NoLength = OnceCome known later before RunsToClose
IsCallFault known later before TooLong =
    OnceCome known later before (λ whole. most_body < length whole)
IsCallFault known later before NoMemory = Unit {0}
