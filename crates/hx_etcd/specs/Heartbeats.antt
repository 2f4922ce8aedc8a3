-- What the answer to a question for a heartbeat says (etcd 3.4, `rpc.proto`: RangeResponse; JSON mapping of Protocol
-- Buffers 3: a member that is empty is left out).
use Rattle.std.specs.Prelude.{◌≡◌, ◌≢◌, ◌⊎◌, ℕ, List, Option, Some, None, option_and_then, codes}
use Rattle.std.specs.Global.{Vec}
use Rattle.json.specs.Json.{Json}
use Rattle.json.specs.Find.{get, at}
use Rattle.hx_etcd.specs.Answers.{HasDocument, IsDocumentFault, IsBytesIn, IsBytesFault}
use Rattle.hx_etcd.specs.declared.reported.Answer.{Answer}
use Rattle.hx_etcd.specs.declared.reported.Field.TheVariants.{Header, Value}
use Rattle.hx_etcd.specs.declared.reported.AnswerError.{AnswerError}
use Rattle.hx_etcd.specs.declared.reported.AnswerError.TheVariants.{NoField}

-- the first pair of an answer
abbrev pub first_pair : Json → Option Json
first_pair j = option_and_then (at 0) (get (codes "kvs") j)

-- The value of an answer has this heartbeat: the value of its first pair, and none if it has no pair.
abbrev pub HasHeartbeat : Json → Option (Vec ℕ) → Type 0
HasHeartbeat j None = first_pair j ≡ None
HasHeartbeat j (Some text) = (pair : Json) × (first_pair j ≡ Some pair) × IsBytesIn Value pair text.items

abbrev pub HoldsHeartbeat : Json → Option (Vec ℕ) → Type 0
HoldsHeartbeat j heartbeat = (get (codes "header") j ≢ None) × HasHeartbeat j heartbeat

-- why it has none
abbrev pub IsHoldingFault : Json → AnswerError → Type 0
IsHoldingFault j e =
    ((e ≡ NoField Header) × (get (codes "header") j ≡ None))
    ⊎ ((pair : Json) × (get (codes "header") j ≢ None) × (first_pair j ≡ Some pair)
    × IsBytesFault Value pair e)

-- an answer holds this heartbeat
abbrev pub IsHeartbeat : Answer → Option (Vec ℕ) → Type 0
IsHeartbeat a heartbeat = (j : Json) × HasDocument a j × HoldsHeartbeat j heartbeat

-- why it holds none
abbrev pub IsHeartbeatFault : Answer → AnswerError → Type 0
IsHeartbeatFault a e =
    IsDocumentFault a e ⊎ ((j : Json) × HasDocument a j × IsHoldingFault j e)
