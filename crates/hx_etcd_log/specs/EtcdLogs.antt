-- A log in an etcd, as its client knows it.
use Rattle.std.specs.Prelude.{◌≡◌, ℕ, List}
use Rattle.hx_fenced_log.specs.Records.{Record}
use Rattle.hx_etcd_log.specs.declared.log.EtcdLog.{EtcdLog}
use Rattle.hx_etcd_log.specs.Asks.{Ask, asks_in}

-- the records that answers have reported to stand, in the order of their numbers
abbrev pub committed_of : {N : Type 0} → EtcdLog N → List Record
committed_of log = log.reported.records

-- how many of the last ones are retained, and can be read without an ask
abbrev pub stored_of : {N : Type 0} → EtcdLog N → ℕ
stored_of log = log.reported.stored

-- what the nodes were asked, the newest first
abbrev pub asks_of : {N : Type 0} → EtcdLog N → List Ask
asks_of log = asks_in log.asks.notes

-- no node was asked, and what is known stays
abbrev pub IsUnasked : {N : Type 0} → (old new : EtcdLog N) → Type 0
IsUnasked old new = (new.reported ≡ old.reported) × (asks_of new ≡ asks_of old)

-- what is known stays, and of the asks since then this is so
pub record IsUntold {N : Type 0} (old new : EtcdLog N) (P : (before after : List Ask) → Type 0)
    : Type 0 where
  pub known : new.reported ≡ old.reported
  pub asks : P (asks_of old) (asks_of new)
