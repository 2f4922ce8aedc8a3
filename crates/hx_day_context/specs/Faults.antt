-- The numbers by which the faults of sessions are reported.
use Rattle.std.specs.Prelude.{ℕ}
use Rattle.hx_sessions.specs.declared.ending.Fault.{Fault}
use Rattle.hx_sessions.specs.declared.ending.Fault.TheVariants as fault

-- the number by which a session's fault is reported to the operator
abbrev pub fault_number : Fault → ℕ
fault_number fault.Read = 1
fault_number fault.Write = 2
fault_number fault.Framing = 3
fault_number (fault.NotAuthorized reason) = 4
fault_number fault.NoMemory = 5
fault_number fault.Turns = 6
fault_number (fault.Refused error) = 7
fault_number fault.Stopped = 8
