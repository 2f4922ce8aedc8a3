-- The faults of a day: that of an operator's line, and which one is answered in the end.
use Rattle.std.specs.Prelude.{ℕ, Bool, true, false, Option, Some, None}
use Rattle.hx_engine.specs.declared.answers.SubmitError.{SubmitError}
use Rattle.hx_engine.specs.declared.answers.SubmitError.TheVariants.{Refused, Stopped}
use Rattle.hx_desk.specs.declared.fault.DeskError.{DeskError}
use Rattle.hx_desk.specs.declared.fault.DeskError.TheVariants as refused
use Rattle.hx_tape_lines.specs.declared.fault.Kind.TheVariants as kind
use Rattle.hx_serve.specs.declared.fault.ServeError.{ServeError}
use Rattle.hx_serve.specs.declared.fault.ServeError.TheVariants as failure

-- the fault of line n of the operator if the exchange refuses its event, or its journal has failed
abbrev pub line_fault : ℕ → SubmitError → ServeError
line_fault n Stopped = failure.Journal
line_fault n (Refused refused.NoMemory) = failure.NoMemory
line_fault n (Refused (refused.Full free needed)) = failure.Full
line_fault n (Refused (refused.Limit member)) = failure.Line n kind.Limit
line_fault n (Refused refused.NoMember) = failure.Line n kind.Member
line_fault n (Refused refused.BadTime) = failure.Line n kind.Time

-- the fault of a day that refuses a durable event: its setup is not the one that the event was recorded under
abbrev pub resume_fault : DeskError → ServeError
resume_fault refused.NoMemory = failure.NoMemory
resume_fault (refused.Full free needed) = failure.Full
resume_fault (refused.Limit member) = failure.Journal
resume_fault refused.NoMember = failure.Journal
resume_fault refused.BadTime = failure.Journal

-- The fault of a day: that of the network, else want of memory, else that of the operator's input, else that of the
-- output.
abbrev pub fault_of_day :
    (network memory : Bool) → (operated written : Option ServeError) → Option ServeError
fault_of_day true memory operated written = Some failure.Network
fault_of_day false true operated written = Some failure.NoMemory
fault_of_day false false (Some e) written = Some e
fault_of_day false false None written = written
