-- What a journal reports of a device's error.
use Rattle.std.specs.Prelude.{◌≡◌, ◌<◌, ℕ}
use Rattle.hx_disk.specs.declared.device.DeviceError.{DeviceError}
use Rattle.hx_disk.specs.declared.device.DeviceError.TheVariants as device
use Rattle.hx_journal.specs.declared.error.JournalError.{JournalError}
use Rattle.hx_journal.specs.declared.error.JournalError.TheVariants as reported

-- how a journal names the error of its device
abbrev pub error_of : DeviceError → JournalError
error_of device.Memory = reported.Memory
error_of device.NoRoom = reported.NoRoom
error_of device.Failed = reported.Failed

-- `Failed` and `NoRoom` are reported only if a call of the device has failed since
pub record IsCause (before now : ℕ) (error : JournalError) : Type 0 where
  pub failed : error ≡ reported.Failed → before < now
  pub no_room : error ≡ reported.NoRoom → before < now
