-- What answers say (etcd 3.4, `rpc.proto`: TxnResponse, RangeResponse; JSON mapping of Protocol
-- Buffers 3: a member that is false, 0 or empty is left out).
use Rattle.std.specs.Prelude.{◌≡◌, ◌≢◌, ◌⊎◌, ◌+◌, ℕ, suc, ◌<◌, Bool, true, false, List, [], ◌∷◌, length, take, Option, Some, None, option_and_then, unwrap_or, slice_index_or, codes}
use Rattle.std.specs.Str.{IsUtf8}
use Rattle.base64.specs.Engines.{standard}
use Rattle.base64.specs.GeneralPurpose.{decode_of}
use Rattle.std.specs.Result.{result_ok}
use Rattle.json.specs.Json.{Json, null, Items, no_items, item, document}
use Rattle.json.specs.Find.{get, at, as_str, as_bool, as_array}
use Rattle.hx_fenced_log.specs.Records.{Record}
use Rattle.hx_fenced_log.specs.Lines.{IsOfLog}
use Rattle.hx_fenced_log.specs.Texts.{spelled, IsTextFault}
use Rattle.hx_etcd.specs.Keys.{key_of}
use Rattle.hx_etcd.specs.declared.append.Appended.{Appended}
use Rattle.hx_etcd.specs.declared.append.Appended.TheVariants.{Stands, Taken, NoneBefore}
use Rattle.hx_etcd.specs.declared.reported.Answer.{Answer}
use Rattle.hx_etcd.specs.declared.reported.Field.{Field}
use Rattle.hx_etcd.specs.declared.reported.Field.TheVariants.{Header, Pairs, Key, Value, Revision}
use Rattle.hx_etcd.specs.declared.reported.AnswerError.{AnswerError}
use Rattle.hx_etcd.specs.declared.reported.AnswerError.TheVariants.{Status, NoJson, NoField, NotBase64, NoKey, NoRecord, OtherNumber, NoMemory}

-- ---- the body

-- an answer is good, and its body is the text of this JSON value (RFC 8259)
pub record HasDocument (a : Answer) (j : Json) : Type 0 where
  pub good : a.status ≡ 200
  pub utf8 : IsUtf8 a.body.items
  pub is : document a.body.items ≡ Some j

-- the body is no JSON text in UTF-8
abbrev pub HasNoJson : Answer → Type 0
HasNoJson a = IsUtf8 a.body.items → document a.body.items ≡ None

-- why there is no such value
abbrev pub IsDocumentFault : Answer → AnswerError → Type 0
IsDocumentFault a (Status code) = (code ≡ a.status) × (code ≢ 200)
IsDocumentFault a NoJson = (a.status ≡ 200) × HasNoJson a
IsDocumentFault a (NoField f) = ⊥
IsDocumentFault a (NotBase64 f) = ⊥
IsDocumentFault a (NoKey number) = ⊥
IsDocumentFault a (NoRecord number error) = ⊥
IsDocumentFault a (OtherNumber number) = ⊥
IsDocumentFault a NoMemory = a.status ≡ 200

-- ---- members

abbrev pub name_of : Field → List ℕ
name_of Header = codes "header"
name_of Pairs = codes "kvs"
name_of Key = codes "key"
name_of Value = codes "value"
name_of Revision = codes "revision"

abbrev pub flag_in : (name : List ℕ) → Json → Option Bool
flag_in name j = option_and_then as_bool (get name j)

abbrev pub text_in : (name : List ℕ) → Json → Option (List ℕ)
text_in name j = option_and_then as_str (get name j)

-- a member is there, and true
abbrev pub is_reported : (name : List ℕ) → Json → Bool
is_reported name j = unwrap_or (flag_in name j) false

-- the bytes of a text in base64 with padding (RFC 4648, section 4)
unfoldable pub bytes_of : List ℕ → Option (List ℕ)
bytes_of text = result_ok (decode_of standard text)

-- a member of a pair has these bytes in base64
pub record IsBytesIn (f : Field) (pair : Json) (bytes : List ℕ) : Type 0 where
  pub text : List ℕ
  pub member : text_in (name_of f) pair ≡ Some text
  pub decodes : bytes_of text ≡ Some bytes

-- it is no base64
pub record IsNoBase64 (f : Field) (pair : Json) : Type 0 where
  pub text : List ℕ
  pub member : text_in (name_of f) pair ≡ Some text
  pub none : bytes_of text ≡ None

-- why a member has no bytes
abbrev pub IsBytesFault : Field → Json → AnswerError → Type 0
IsBytesFault f pair (Status code) = ⊥
IsBytesFault f pair NoJson = ⊥
IsBytesFault f pair (NoField g) = (g ≡ f) × (text_in (name_of f) pair ≡ None)
IsBytesFault f pair (NotBase64 g) = (g ≡ f) × IsNoBase64 f pair
IsBytesFault f pair (NoKey number) = ⊥
IsBytesFault f pair (NoRecord number error) = ⊥
IsBytesFault f pair (OtherNumber number) = ⊥
IsBytesFault f pair NoMemory = Unit {0}

-- ---- keys

-- a pair has the key of this number
abbrev pub HasKey : (number : ℕ) → (pair : Json) → Type 0
HasKey number pair = IsBytesIn Key pair (key_of number)

-- it has another key
abbrev pub HasOtherKey : (number : ℕ) → (pair : Json) → Type 0
HasOtherKey number pair = (bytes : List ℕ) × IsBytesIn Key pair bytes × (bytes ≢ key_of number)

-- why a pair has not this key
abbrev pub IsKeyFault : (number : ℕ) → (pair : Json) → AnswerError → Type 0
IsKeyFault number pair (Status code) = ⊥
IsKeyFault number pair NoJson = ⊥
IsKeyFault number pair (NoField f) = IsBytesFault Key pair (NoField f)
IsKeyFault number pair (NotBase64 f) = IsBytesFault Key pair (NotBase64 f)
IsKeyFault number pair (NoKey n) = (n ≡ number) × HasOtherKey number pair
IsKeyFault number pair (NoRecord n error) = ⊥
IsKeyFault number pair (OtherNumber n) = ⊥
IsKeyFault number pair NoMemory = Unit {0}

-- ---- the answer to an append

-- what the first request of a transaction found
abbrev pub first_range : Json → Option Json
first_range j =
    option_and_then (get (codes "response_range")) (option_and_then (at 0)
    (get (codes "responses") j))

-- the first pair of that
abbrev pub first_found : Json → Option Json
first_found j = option_and_then (at 0) (option_and_then (get (codes "kvs")) (first_range j))

-- the transaction's condition did not hold, and this pair was found
pub record Found (j pair : Json) : Type 0 where
  pub not_made : is_reported (codes "succeeded") j ≡ false
  pub first : first_found j ≡ Some pair

-- under the key of this number stands this text
pub record HasText (number : ℕ) (j : Json) (text : List ℕ) : Type 0 where
  pub pair : Json
  pub found : Found j pair
  pub key : HasKey number pair
  pub value : IsBytesIn Value pair text

-- the transaction's condition did not hold, and no pair was found
pub record FoundNone (j : Json) : Type 0 where
  pub not_made : is_reported (codes "succeeded") j ≡ false
  pub range : Json
  pub first : first_range j ≡ Some range
  pub none : get (codes "kvs") range ≡ None

-- What the value of an answer says of the record of this number. If its key has none and it is not
-- made, the one before it is not there.
abbrev pub Says : (number : ℕ) → Json → Appended → Type 0
Says number j Stands = is_reported (codes "succeeded") j ≡ true
Says number j (Taken text) = HasText number j text.items
Says number j NoneBefore = FoundNone j

-- of a pair that was found, the key is wrong, or the value after it
abbrev pub IsFoundFault : (number : ℕ) → (pair : Json) → AnswerError → Type 0
IsFoundFault number pair e =
    IsKeyFault number pair e ⊎ (HasKey number pair × IsBytesFault Value pair e)

-- the record is not made, and it is not said what was found
pub record SaysNothing (j : Json) : Type 0 where
  pub not_made : is_reported (codes "succeeded") j ≡ false
  pub none : first_found j ≡ None
  pub some : ¬ FoundNone j

-- why the value of an answer says nothing of it
abbrev pub IsSayingFault : (number : ℕ) → Json → AnswerError → Type 0
IsSayingFault number j e =
    ((e ≡ NoField Pairs) × SaysNothing j)
    ⊎ ((pair : Json) × Found j pair × IsFoundFault number pair e)

-- what an answer says
abbrev pub IsAppended : (number : ℕ) → Answer → Appended → Type 0
IsAppended number a said = (j : Json) × HasDocument a j × Says number j said

-- why it says nothing
abbrev pub IsAppendFault : (number : ℕ) → Answer → AnswerError → Type 0
IsAppendFault number a e =
    IsDocumentFault a e ⊎ ((j : Json) × HasDocument a j × IsSayingFault number j e)

-- ---- the answer to a question for records

-- a pair has this record, under the key of its number
pub record IsRecordAt (number : ℕ) (pair : Json) (r : Record) : Type 0 where
  pub key : HasKey number pair
  pub value : IsBytesIn Value pair (spelled r)
  pub numbered : r.head.number ≡ number
  pub of_log : IsOfLog r

-- these bytes are the value under the right key
pub record HasValue (number : ℕ) (pair : Json) (bytes : List ℕ) : Type 0 where
  pub key : HasKey number pair
  pub value : IsBytesIn Value pair bytes

-- the value is the text of a record that has another number
pub record IsMisnumbered (number : ℕ) (pair : Json) : Type 0 where
  pub found : Record
  pub value : HasValue number pair (spelled found)
  pub other : found.head.number ≢ number

-- why a pair has no such record
abbrev pub IsPairFault : (number : ℕ) → (pair : Json) → AnswerError → Type 0
IsPairFault number pair (Status code) = ⊥
IsPairFault number pair NoJson = ⊥
IsPairFault number pair (NoField f) = IsFoundFault number pair (NoField f)
IsPairFault number pair (NotBase64 f) = IsFoundFault number pair (NotBase64 f)
IsPairFault number pair (NoKey n) = (n ≡ number) × HasOtherKey number pair
IsPairFault number pair (NoRecord n error) =
    (n ≡ number) × ((bytes : List ℕ) × HasValue number pair bytes × IsTextFault bytes error)
IsPairFault number pair (OtherNumber n) = (n ≡ number) × IsMisnumbered number pair
IsPairFault number pair NoMemory = Unit {0}

-- these pairs have these records, the first of this number, each other of the next
abbrev pub AreRecords : (from : ℕ) → List Json → List Record → Type 0
AreRecords from [] [] = Unit {0}
AreRecords from [] (r ∷ rs) = ⊥
AreRecords from (p ∷ ps) [] = ⊥
AreRecords from (p ∷ ps) (r ∷ rs) = IsRecordAt from p r × AreRecords (suc from) ps rs

-- some pairs have their records, and the next one has not
pub record IsListFault (from : ℕ) (pairs : List Json) (e : AnswerError) : Type 0 where
  pub index : ℕ
  pub within : index < length pairs
  pub before : (rs : List Record) × AreRecords from (take index pairs) rs
  pub fault : IsPairFault (from + index) (slice_index_or pairs index null) e

abbrev pub list_of : Items → List Json
list_of no_items = []
list_of (item j js) = j ∷ list_of js

-- the pairs of an answer: none if there is no such member; nothing if it is no array
abbrev pub pairs_in : Option Json → Option Items
pairs_in None = Some no_items
pairs_in (Some j) = as_array j

abbrev pub pairs_of : Json → Option Items
pairs_of j = pairs_in (get (codes "kvs") j)

-- the value of an answer has these records
pub record HoldsRecords (from : ℕ) (j : Json) (rs : List Record) : Type 0 where
  pub header : get (codes "header") j ≢ None
  pub pairs : Items
  pub are : pairs_of j ≡ Some pairs
  pub records : AreRecords from (list_of pairs) rs

-- among its pairs is one that has no record
pub record HasBadPair (from : ℕ) (j : Json) (e : AnswerError) : Type 0 where
  pub header : get (codes "header") j ≢ None
  pub pairs : Items
  pub are : pairs_of j ≡ Some pairs
  pub fault : IsListFault from (list_of pairs) e

-- why it has none
abbrev pub IsHoldingFault : (from : ℕ) → Json → AnswerError → Type 0
IsHoldingFault from j e =
    ((e ≡ NoField Header) × (get (codes "header") j ≡ None))
    ⊎ ((e ≡ NoField Pairs) × (get (codes "header") j ≢ None) × (pairs_of j ≡ None))
    ⊎ HasBadPair from j e

-- an answer holds these records
abbrev pub IsRange : (from : ℕ) → Answer → List Record → Type 0
IsRange from a rs = (j : Json) × HasDocument a j × HoldsRecords from j rs

-- why it holds none
abbrev pub IsRangeFault : (from : ℕ) → Answer → AnswerError → Type 0
IsRangeFault from a e =
    IsDocumentFault a e ⊎ ((j : Json) × HasDocument a j × IsHoldingFault from j e)
