-- What the answers to trims and compactions say (etcd 3.4, `rpc.proto`: TxnResponse,
-- CompactionResponse).
use Rattle.std.specs.Prelude.{◌≡◌, ◌≢◌, ◌⊎◌, ℕ, ◌<◌, ◌^◌, true, false, Some, None, codes}
use Rattle.std.specs.Fmt.{decimal}
use Rattle.json.specs.Json.{Json}
use Rattle.json.specs.Find.{get}
use Rattle.hx_etcd.specs.Answers.{HasDocument, IsDocumentFault, is_reported, text_in, name_of}
use Rattle.hx_etcd.specs.declared.trims.Trimmed.{Trimmed}
use Rattle.hx_etcd.specs.declared.trims.Trimmed.TheVariants.{Done, NotThere}
use Rattle.hx_etcd.specs.declared.reported.Answer.{Answer}
use Rattle.hx_etcd.specs.declared.reported.Field.TheVariants.{Header, Revision}
use Rattle.hx_etcd.specs.declared.reported.AnswerError.{AnswerError}
use Rattle.hx_etcd.specs.declared.reported.AnswerError.TheVariants.{NoField}

-- a header has this revision, of 14 digits at most
abbrev pub HasRevision : (header : Json) → ℕ → Type 0
HasRevision header n = (n < 10 ^ 14) × (text_in (name_of Revision) header ≡ Some (decimal n))

-- it has none
abbrev pub HasNoRevision : (header : Json) → Type 0
HasNoRevision header = (n : ℕ) → HasRevision header n → ⊥

-- an answer has this header
abbrev pub HasHeader : (j header : Json) → Type 0
HasHeader j header = get (codes "header") j ≡ Some header

-- what the value of an answer says of a trim
abbrev pub Says : Json → Trimmed → Type 0
Says j (Done n) =
    (is_reported (codes "succeeded") j ≡ true)
    × ((header : Json) × HasHeader j header × HasRevision header n)
Says j NotThere =
    (is_reported (codes "succeeded") j ≡ false) × (get (codes "header") j ≢ None)

-- it is made, and has no revision
abbrev pub LacksRevision : Json → Type 0
LacksRevision j =
    (is_reported (codes "succeeded") j ≡ true)
    × ((header : Json) × HasHeader j header × HasNoRevision header)

-- why it says nothing
abbrev pub IsSayingFault : Json → AnswerError → Type 0
IsSayingFault j e =
    ((e ≡ NoField Header) × (get (codes "header") j ≡ None))
    ⊎ ((e ≡ NoField Revision) × LacksRevision j)

-- what an answer says of a trim
abbrev pub IsTrimmed : Answer → Trimmed → Type 0
IsTrimmed a said = (j : Json) × HasDocument a j × Says j said

-- why it says nothing
abbrev pub IsTrimFault : Answer → AnswerError → Type 0
IsTrimFault a e = IsDocumentFault a e ⊎ ((j : Json) × HasDocument a j × IsSayingFault j e)

-- an answer says that a compaction is made
abbrev pub IsCompacted : Answer → Type 0
IsCompacted a = (j : Json) × HasDocument a j × (get (codes "header") j ≢ None)

-- why it does not
abbrev pub IsCompactFault : Answer → AnswerError → Type 0
IsCompactFault a e =
    IsDocumentFault a e
    ⊎ ((j : Json) × HasDocument a j × (e ≡ NoField Header) × (get (codes "header") j ≡ None))
