-- How the records reported to a client are stored.
use Rattle.std.specs.Prelude.{◌≡◌, ℕ, ◌-◌, ◌<◌, ◌≤◌, ◌^◌, List, length, drop}
use Rattle.hx_fenced_log.specs.Records.{Record}
use Rattle.hx_fenced_log.specs.Logs.{AreNumbered}
use Rattle.hx_etcd_log.specs.Notes.{records_of}
use Rattle.hx_etcd_log.specs.Telling.{Telling}
use Rattle.hx_etcd_log.specs.declared.reported.Reported.TheInside.{Inside}

abbrev pub telling_of : Inside → Telling
telling_of t = record { records = records_of t.noted.notes; stored = length t.page.items }

-- these records are numbered, there are `count` of them, and the page has the last of them
pub record IsTelling (records : List Record) (count : ℕ) (page : List Record) : Type 0 where
  pub counted : count ≡ length records
  pub few : count < 10 ^ 14
  pub numbered : AreNumbered 1 records
  pub within : length page ≤ count
  pub last : page ≡ drop (count - length page) records

abbrev pub IsTellingInside : Inside → Type 0
IsTellingInside t = IsTelling (records_of t.noted.notes) t.count t.page.items
