-- A log that a copy begins.
use Rattle.std.specs.Prelude.{◌≡◌, ◌≢◌, ◌⊎◌, ℕ, ◌+◌, ◌<◌, Bool, true, false, List, [], ◌∷◌, ◌++◌, length}
use Rattle.hx_fenced_log.specs.Records.{Record}
use Rattle.hx_fenced_log.specs.Logs.{AreNumbered}
use Rattle.hx_fenced_log.specs.declared.log.error.LogError.{LogError}
use Rattle.hx_fenced_log.specs.declared.log.error.LogError.TheVariants.{Taken, Gap, Unknown, Unreachable, NoRecord, Trimmed, BadCopy, NoMemory}
use Rattle.hx_etcd_log.specs.declared.copied.CopiedLog.{CopiedLog}
use Rattle.hx_etcd_log.specs.declared.log.EtcdLog.{EtcdLog}
use Rattle.hx_etcd_log.specs.EtcdLogs.{committed_of, stored_of, asks_of}
use Rattle.hx_etcd_log.specs.Reads.{IsReadOn, IsReadFault}

-- the records that are known: those of the copy, as far as it is read, and those that answers have reported
abbrev pub records_of : {P N : Type 0} → CopiedLog P N → List Record
records_of log = committed_of log.log

-- ---- pages

-- exactly these records are known besides, and retained, and no node was asked
pub record IsReportedBy {N : Type 0} (page : List Record) (old new : EtcdLog N) : Type 0 where
  pub committed : committed_of new ≡ committed_of old ++ page
  pub stored : stored_of new ≡ length page
  pub asks : asks_of new ≡ asks_of old

-- this number is due in a page whose first one is that, and another record stands there
pub record IsMisnumbered (from : ℕ) (page : List Record) (number : ℕ) : Type 0 where
  pub before : List Record
  pub found : Record
  pub later : List Record
  pub is : page ≡ before ++ found ∷ later
  pub numbered : AreNumbered from before
  pub due : number ≡ from + length before
  pub other : found.head.number ≢ number

-- why a page is not reported
abbrev pub IsTellFault : (from : ℕ) → (page : List Record) → LogError → Type 0
IsTellFault from page Taken = ⊥
IsTellFault from page Gap = ⊥
IsTellFault from page Unknown = ⊥
IsTellFault from page Unreachable = ⊥
IsTellFault from page (NoRecord number) = ⊥
IsTellFault from page (Trimmed number) = ⊥
IsTellFault from page (BadCopy number) = IsMisnumbered from page number
IsTellFault from page NoMemory = ⊥

-- some page is reported
pub record IsPageReported {N : Type 0} (old new : EtcdLog N) : Type 0 where
  pub page : List Record
  pub some : page ≢ []
  pub reported : IsReportedBy page old new

-- a page is reported, if there is one
abbrev pub IsPageTaken : {N : Type 0} → Bool → (old new : EtcdLog N) → Type 0
IsPageTaken true old new = IsPageReported old new
IsPageTaken false old new = new ≡ old

-- why none is, if the first `known` records are known: from some number on, the copy gives no others
abbrev pub IsBadPage : (known : ℕ) → LogError → Type 0
IsBadPage known Taken = ⊥
IsBadPage known Gap = ⊥
IsBadPage known Unknown = ⊥
IsBadPage known Unreachable = ⊥
IsBadPage known (NoRecord number) = ⊥
IsBadPage known (Trimmed number) = ⊥
IsBadPage known (BadCopy number) = known < number
IsBadPage known NoMemory = Unit {0}

-- ---- reads

-- What a read does: if no record of its number is known, the copy may give a page; else it is a read of the log of the
-- nodes.
abbrev pub IsCopiedOn : {N : Type 0} → (old new : EtcdLog N) → (from : ℕ) → Type 0
IsCopiedOn old new from =
    ((length (committed_of old) < from) × IsPageReported old new) ⊎ IsReadOn old new from

-- the copy gives no page
pub record HasBadPage {N : Type 0} (old new : EtcdLog N) (from : ℕ) (e : LogError) : Type 0 where
  pub due : length (committed_of old) < from
  pub bad : IsBadPage (length (committed_of old)) e
  pub same : new ≡ old

-- Why it gives no records: the copy gives no page; or it does, and there is no memory for the copies of its records,
-- which are retained; or nodes do not answer.
abbrev pub IsCopiedFault : {N : Type 0} → (old new : EtcdLog N) → (from : ℕ) → LogError → Type 0
IsCopiedFault old new from e =
    HasBadPage old new from e
    ⊎ (((length (committed_of old) < from) × IsPageReported old new × (e ≡ NoMemory))
    ⊎ IsReadFault old new from e)
