-- What becomes of an append to a log in an etcd.
use Rattle.std.specs.Prelude.{◌≡◌, ◌≢◌, ◌⊎◌, ℕ, ◌+◌, ◌<◌, ◌≤◌, List, [], ◌∷◌, ◌++◌, length, codes}
use Rattle.json.specs.Json.{Json}
use Rattle.hx_fenced_log.specs.Lines.{IsOfLog}
use Rattle.hx_fenced_log.specs.Records.{Record}
use Rattle.hx_fenced_log.specs.Texts.{spelled}
use Rattle.hx_fenced_log.specs.declared.log.error.LogError.{LogError}
use Rattle.hx_fenced_log.specs.declared.log.error.LogError.TheVariants.{Taken, Gap, Unknown, Unreachable, NoRecord, Trimmed, BadCopy, NoMemory}
use Rattle.hx_etcd.specs.declared.append.Appended.TheVariants.{Stands, NoneBefore}
use Rattle.hx_etcd.specs.declared.reported.Answer.{Answer}
use Rattle.hx_etcd.specs.Answers.{HasDocument, HasText, IsAppended}
use Rattle.hx_etcd.specs.Documents.{append_text}
use Rattle.hx_etcd.specs.Requests.{request_text}
use Rattle.hx_etcd_log.specs.Telling.{Telling}
use Rattle.hx_etcd_log.specs.Asks.{Ask, EachSince, OneSince, IsUnsent, MayBeTaken, Tells}
use Rattle.hx_etcd_log.specs.declared.log.EtcdLog.{EtcdLog}
use Rattle.hx_etcd_log.specs.EtcdLogs.{committed_of, stored_of, asks_of, IsUnasked, IsUntold}

-- the request that appends a record
abbrev pub appending : Record → List ℕ
appending r = request_text (codes "/v3/kv/txn") (append_text r)

-- an answer says that the record is made
abbrev pub IsMade : Record → Answer → Type 0
IsMade r answer = IsAppended r.head.number answer Stands

-- an answer says that the key of this number has this text
abbrev pub HasKeyText : (number : ℕ) → (text : List ℕ) → Answer → Type 0
HasKeyText number text answer = (j : Json) × HasDocument answer j × HasText number j text

-- an answer says that the record stands: that it is made, or that its key has its text
abbrev pub SaysItStands : Record → Answer → Type 0
SaysItStands r answer = IsMade r answer ⊎ HasKeyText r.head.number (spelled r) answer

-- an answer says that the record is not made, since the one before it is not there
abbrev pub SaysNoneBefore : Record → Answer → Type 0
SaysNoneBefore r answer = IsAppended r.head.number answer NoneBefore

-- a text is none of a record of this number
abbrev pub HasNoRecord : (number : ℕ) → (text : List ℕ) → Type 0
HasNoRecord number text = (r : Record) → IsOfLog r → text ≡ spelled r → r.head.number ≢ number

-- an answer says that the key of this number has such a text
pub record SaysNoRecord (number : ℕ) (answer : Answer) : Type 0 where
  pub text : List ℕ
  pub has : HasKeyText number text answer
  pub none : HasNoRecord number text

-- what is reported of a record whose key has this text, if it is not the record's
abbrev pub IsFindFault : (old new : Telling) → Record → (text : List ℕ) → LogError → Type 0
IsFindFault old new r text Taken =
    (other : Record) × (other ≢ r) × (text ≡ spelled other)
    × (new ≡ record { records = old.records ++ other ∷ []; stored = 1 })
IsFindFault old new r text Gap = ⊥
IsFindFault old new r text Unknown = new ≡ old
IsFindFault old new r text Unreachable = ⊥
IsFindFault old new r text (NoRecord number) =
    (number ≡ r.head.number) × (new ≡ old) × HasNoRecord number text
IsFindFault old new r text (Trimmed number) = ⊥
IsFindFault old new r text (BadCopy number) = ⊥
IsFindFault old new r text NoMemory = ⊥

-- ---- outcomes

-- the record stands after all that was known, as a node has reported since
pub record IsAppendedTo {N : Type 0} (old new : EtcdLog N) (r : Record) : Type 0 where
  pub next : r.head.number ≡ length (committed_of old) + 1
  pub committed : committed_of new ≡ committed_of old ++ r ∷ []
  pub reported : OneSince (Tells (appending r) (SaysItStands r)) (asks_of old) (asks_of new)

-- another record stands there, as a node has reported since; it is retained for a read
pub record IsAnotherThere {N : Type 0} (old new : EtcdLog N) (r : Record) : Type 0 where
  pub other : Record
  pub differs : other ≢ r
  pub next : r.head.number ≡ length (committed_of old) + 1
  pub committed : committed_of new ≡ committed_of old ++ other ∷ []
  pub stored : stored_of new ≡ 1
  pub reported :
      OneSince (Tells (appending r) (HasKeyText r.head.number (spelled other)))
      (asks_of old) (asks_of new)

-- its number is the next one, nodes were asked in vain, and of the asks since then this is so
abbrev pub IsInVain : {N : Type 0} → (old new : EtcdLog N) → Record
    → (P : (before after : List Ask) → Type 0) → Type 0
IsInVain old new r P =
    (r.head.number ≡ length (committed_of old) + 1) × IsUntold old new P

-- Why a record is not appended. Its number is taken: one of those that are known has it, or another record is found
-- there. There is a gap: it is after the next one. Else nodes were asked in vain: the log was trimmed, if one says that
-- the record before it is not there.
abbrev pub IsAppendFault : {N : Type 0} → (old new : EtcdLog N) → Record → LogError → Type 0
IsAppendFault old new r Taken =
    ((r.head.number ≤ length (committed_of old)) × IsUnasked old new) ⊎ IsAnotherThere old new r
IsAppendFault old new r Gap =
    (length (committed_of old) + 1 < r.head.number) × IsUnasked old new
IsAppendFault old new r Unknown = IsInVain old new r (OneSince MayBeTaken)
IsAppendFault old new r Unreachable = IsInVain old new r (EachSince IsUnsent)
IsAppendFault old new r (NoRecord number) =
    (number ≡ r.head.number)
    × IsInVain old new r (OneSince (Tells (appending r) (SaysNoRecord number)))
IsAppendFault old new r (Trimmed number) =
    (number ≡ r.head.number) × IsInVain old new r (OneSince (Tells (appending r) (SaysNoneBefore r)))
IsAppendFault old new r (BadCopy number) = ⊥
IsAppendFault old new r NoMemory = IsUnasked old new
