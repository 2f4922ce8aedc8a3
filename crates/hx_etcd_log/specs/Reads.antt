-- What becomes of a read of a log in an etcd.
use Rattle.std.specs.Prelude.{◌≡◌, ◌≢◌, ◌⊎◌, ℕ, ◌+◌, ◌<◌, ◌≤◌, List, ◌++◌, length, codes}
use Rattle.hx_fenced_log.specs.declared.terms.text.TextError.{TextError}
use Rattle.hx_fenced_log.specs.Records.{Record}
use Rattle.hx_fenced_log.specs.declared.log.error.LogError.{LogError}
use Rattle.hx_fenced_log.specs.declared.log.error.LogError.TheVariants.{Taken, Gap, Unknown, Unreachable, NoRecord, Trimmed, BadCopy, NoMemory}
use Rattle.hx_etcd.specs.declared.reported.Answer.{Answer}
use Rattle.hx_etcd.specs.declared.reported.AnswerError.{AnswerError}
use Rattle.hx_etcd.specs.declared.reported.AnswerError.TheVariants as bad
use Rattle.hx_etcd.specs.Answers.{IsRange, IsRangeFault}
use Rattle.hx_etcd.specs.Documents.{range_text}
use Rattle.hx_etcd.specs.Requests.{request_text}
use Rattle.hx_etcd_log.specs.declared.reading.Found.{Found}
use Rattle.hx_etcd_log.specs.declared.reading.Found.TheVariants.{Page, Gone, Bad}
use Rattle.hx_etcd_log.specs.Telling.{Telling}
use Rattle.hx_etcd_log.specs.Asks.{EachSince, OneSince, IsUnsent, MayBeTaken, Tells}
use Rattle.hx_etcd_log.specs.declared.log.EtcdLog.{EtcdLog}
use Rattle.hx_etcd_log.specs.EtcdLogs.{committed_of, stored_of, asks_of, IsUnasked, IsUntold}

-- the number of records that are asked for at once
abbrev pub most_records : ℕ
most_records = 100

-- the request for the records from a number on
abbrev pub asking_from : (from : ℕ) → List ℕ
asking_from from = request_text (codes "/v3/kv/range") (range_text from most_records)

-- why records are not copied: they stand in front of the retained ones
abbrev pub IsCopyFault : Telling → (from : ℕ) → LogError → Type 0
IsCopyFault t from Taken = ⊥
IsCopyFault t from Gap = ⊥
IsCopyFault t from Unknown = ⊥
IsCopyFault t from Unreachable = from + t.stored ≤ length t.records
IsCopyFault t from (NoRecord number) = ⊥
IsCopyFault t from (Trimmed number) = ⊥
IsCopyFault t from (BadCopy number) = ⊥
IsCopyFault t from NoMemory = Unit {0}

-- an answer says that the record of this number is not there, and later ones are: the log was trimmed
abbrev pub SaysItIsGone : (from : ℕ) → Answer → Type 0
SaysItIsGone from answer = IsRangeFault from answer (bad.NoKey from)

-- a pair of an answer says that what stands at this number is no record of it
abbrev pub IsNoRecordAt : (number : ℕ) → AnswerError → Type 0
IsNoRecordAt number e =
    (e ≡ bad.NoKey number) ⊎ ((e ≡ bad.OtherNumber number)
    ⊎ ((error : TextError) × (e ≡ bad.NoRecord number error)))

-- what is found if an answer has this fault
abbrev pub IsFaultFound : (from : ℕ) → AnswerError → Found → Type 0
IsFaultFound from e (Page page) = ⊥
IsFaultFound from e Gone = e ≡ bad.NoKey from
IsFaultFound from e (Bad number) = IsNoRecordAt number e × (e ≢ bad.NoKey from)

-- an answer contradicts at this number what is known of the log, or what a record is
pub record Contradicts (from number : ℕ) (answer : Answer) : Type 0 where
  pub error : AnswerError
  pub at : IsNoRecordAt number error
  pub there : error ≢ bad.NoKey from
  pub fault : IsRangeFault from answer error

-- what an answer says of the records from a number on
abbrev pub IsFoundIn : (from : ℕ) → Answer → Found → Type 0
IsFoundIn from answer (Page page) = IsRange from answer page.items
IsFoundIn from answer Gone = SaysItIsGone from answer
IsFoundIn from answer (Bad number) = Contradicts from number answer

-- ---- outcomes

-- the next records are known too, and retained, as a node has reported since
pub record IsFetched {N : Type 0} (old new : EtcdLog N) : Type 0 where
  pub page : List Record
  pub committed : committed_of new ≡ committed_of old ++ page
  pub stored : stored_of new ≡ length page
  pub reported :
      let from = length (committed_of old) + 1 in
      OneSince (Tells (asking_from from) (λ answer. IsRange from answer page))
      (asks_of old) (asks_of new)

-- what a read asks: nothing if a record of its number is known, else for the next records
abbrev pub IsReadOn : {N : Type 0} → (old new : EtcdLog N) → (from : ℕ) → Type 0
IsReadOn old new from =
    ((from ≤ length (committed_of old)) × IsUnasked old new)
    ⊎ ((length (committed_of old) < from) × IsFetched old new)

-- Why the next records do not come.
abbrev pub IsFetchFault : {N : Type 0} → (old new : EtcdLog N) → LogError → Type 0
IsFetchFault old new Taken = ⊥
IsFetchFault old new Gap = ⊥
IsFetchFault old new Unknown = IsUntold old new (OneSince MayBeTaken)
IsFetchFault old new Unreachable = IsUntold old new (EachSince IsUnsent)
IsFetchFault old new (NoRecord number) =
    let next = length (committed_of old) + 1 in
    IsUntold old new (OneSince (Tells (asking_from next) (Contradicts next number)))
IsFetchFault old new (Trimmed number) =
    let next = length (committed_of old) + 1 in
    (number ≡ next) × IsUntold old new (OneSince (Tells (asking_from next) (SaysItIsGone next)))
IsFetchFault old new (BadCopy number) = ⊥
IsFetchFault old new NoMemory = IsUnasked old new

-- Why a read gives no records: its number is in front of the retained ones; or the next records do not come. Without
-- memory they may be known all the same, and are retained.
abbrev pub IsReadFault : {N : Type 0} → (old new : EtcdLog N) → (from : ℕ) → LogError → Type 0
IsReadFault old new from e =
    (IsCopyFault new.reported from e × IsReadOn old new from)
    ⊎ ((length (committed_of old) < from) × IsFetchFault old new e)
