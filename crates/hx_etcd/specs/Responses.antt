-- Responses of HTTP/1.1 (RFC 9112), by the grammar of the libraries `httparse` and `http1`.
use Rattle.std.specs.Prelude.{◌≡◌, ◌≢◌, ℕ, ◌≤◌, Bool, ◌&&◌, not, nat_lt, nat_le, List, ◌++◌, length, Result, Ok}
use Rattle.httparse.specs.Grammar.{Field, ResponseHead, print_response, ReadsResponse, status_code}
use Rattle.http1.specs.declared.conn.Limits.{Limits}
use Rattle.http1.specs.declared.framing.Framing.{Framing}
use Rattle.http1.specs.declared.framing.Framing.TheVariants.{UntilClose}
use Rattle.http1.specs.declared.framing.FramingError.{FramingError}
use Rattle.http1.specs.declared.framing.MethodKind.TheVariants.{Other}
use Rattle.http1.specs.Body.{body_of, ReadsBody}
use Rattle.http1.specs.Framing.{response_framing}
use Rattle.http1.specs.Message.{known_of}

-- ---- limits

-- the most bytes of a head; of the extensions of chunks, and of the fields after them, too
abbrev pub most_head : ℕ
most_head = 16384

-- the most fields of a head; of the fields after chunks, too
abbrev pub most_fields : ℕ
most_fields = 64

abbrev pub limits : Limits
limits = record {
  max_head_len = most_head;
  max_extensions_len = most_head;
  max_trailers_len = most_head;
}

-- ---- heads

-- how the body of a response to a POST ends (section 6.3)
abbrev pub framing_of : ResponseHead → Result Framing FramingError
framing_of h = response_framing Other (status_code h) h.minor (known_of h.fields)

-- the connection goes on after a final response of HTTP/1.1 that does not say `close` (section 9.3)
abbrev pub is_persistent : ResponseHead → Bool
is_persistent h = (nat_lt 0 h.minor && nat_le 200 (status_code h)) && not (known_of h.fields).close

-- these bytes are the head of a response (section 4), whose body ends in this way, and the rest
pub record HasHead (bytes : List ℕ) (h : ResponseHead) (framing : Framing) (rest : List ℕ)
    : Type 0 where
  pub reads : ReadsResponse bytes h rest
  pub short : length (print_response h) ≤ most_head
  pub few : length h.fields ≤ most_fields
  pub framed : framing_of h ≡ Ok framing
  pub ends : framing ≢ UntilClose

-- they have no such head yet
abbrev pub LacksHead : List ℕ → Type 0
LacksHead bytes = (h : ResponseHead) (f : Framing) (rest : List ℕ) → ¬ (HasHead bytes h f rest)

-- whatever follows, they will have none
abbrev pub NeverHasHead : List ℕ → Type 0
NeverHasHead bytes = (more : List ℕ) → LacksHead (bytes ++ more)

-- they have a head whose body goes on to the end of the connection
pub record RunsToClose (bytes : List ℕ) : Type 0 where
  pub head : ResponseHead
  pub rest : List ℕ
  pub reads : ReadsResponse bytes head rest
  pub framed : framing_of head ≡ Ok UntilClose

-- ---- bodies

-- these bytes are a body in this framing (section 6), and the rest
pub record HasBody (bytes : List ℕ) (framing : Framing) (body rest : List ℕ) : Type 0 where
  pub trailers : List Field
  pub few : length trailers ≤ most_fields
  pub reads : ReadsBody limits framing bytes (body_of body trailers) rest

-- they have no such body yet
abbrev pub LacksBody : Framing → List ℕ → Type 0
LacksBody framing bytes = (body rest : List ℕ) → ¬ (HasBody bytes framing body rest)

-- whatever follows, they will have none
abbrev pub NeverHasBody : Framing → List ℕ → Type 0
NeverHasBody framing bytes = (more : List ℕ) → LacksBody framing (bytes ++ more)

-- ---- answers

-- these bytes are a response with this head and this body, and the rest
pub record IsAnswer (bytes : List ℕ) (h : ResponseHead) (body rest : List ℕ) : Type 0 where
  pub framing : Framing
  pub later : List ℕ
  pub head : HasHead bytes h framing later
  pub content : HasBody later framing body rest

-- they are no whole answer yet
abbrev pub LacksAnswer : List ℕ → Type 0
LacksAnswer bytes = (h : ResponseHead) (body rest : List ℕ) → ¬ (IsAnswer bytes h body rest)

-- whatever follows, they will be none
abbrev pub NeverHasAnswer : List ℕ → Type 0
NeverHasAnswer bytes = (more : List ℕ) → LacksAnswer (bytes ++ more)
