-- What a step leaves if a message is not applied.
use Rattle.std.proofs.Common.{◌≡◌, Some, true, Err, refl}
use Rattle.std.specs.Prelude.{◌≢◌}
use Rattle.hx_itch.specs.declared.message.Feed.{Feed}
use Rattle.hx_reader.specs.declared.fault.ApplyError.{ApplyError}
use Rattle.hx_reader.specs.declared.fault.ApplyError.TheVariants as errors
use Rattle.hx_reader.specs.declared.fault.ScreenError.TheVariants as faults
use Rattle.hx_reader.specs.declared.screen.Screen.{Screen}
use Rattle.hx_reader.specs.Faults.{fault_of, adds, IsCause}
use Rattle.hx_reader.specs.Readings.{ready, handed}
use Rattle.hx_reader.specs.Screens.{readable, StepGives}

-- a screen that was left by an error
pub record Left (old new : Screen) (m : Feed) (error : ApplyError) : Type 0 where
  pub next : readable (ready old.reader) ≡ Some m
  pub cause : IsCause error (fault_of old.book m)
  pub memory : error ≡ errors.NoMemory → adds m ≡ true
  pub retained : error ≡ errors.NoMemory → new.reader ≡ old.reader
  pub gone : error ≢ errors.NoMemory → new.reader ≡ handed old.reader (ready old.reader)
  pub book : new.book ≡ old.book

same : (old new : Screen) → new.reader ≡ old.reader → new.book ≡ old.book → new ≡ old
same old new a b = λ j. record { reader = a j; book = b j }

pub delivered : (old new : Screen) (m : Feed) (error : ApplyError) → Left old new m error → StepGives old new (Err (faults.Apply error))
delivered old new m errors.Unknown h = record { message = m; next = h.next; cause = h.cause; reader = h.gone (λ e. cc); book = h.book }
delivered old new m errors.Known h = record { message = m; next = h.next; cause = h.cause; reader = h.gone (λ e. cc); book = h.book }
delivered old new m errors.TooMany h = record { message = m; next = h.next; cause = h.cause; reader = h.gone (λ e. cc); book = h.book }
delivered old new m errors.NoMemory h = record { message = m; next = h.next; fits = h.cause; brings = h.memory refl; same = same old new (h.retained refl) h.book }
