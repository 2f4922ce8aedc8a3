-- The refusals of a desk.
use Rattle.hx_rules.specs.declared.fault.PrepareError.{PrepareError}
use Rattle.hx_rules.specs.declared.fault.PrepareError.TheVariants as market
use Rattle.hx_desk.specs.declared.fault.DeskError.{DeskError}
use Rattle.hx_desk.specs.declared.fault.DeskError.TheVariants as desk

-- the market's refusal, as the desk's
abbrev pub fault_of : PrepareError → DeskError
fault_of market.NoMemory = desk.NoMemory
fault_of (market.Limit member) = desk.Limit member
fault_of market.NoMember = desk.NoMember
fault_of market.BadTime = desk.BadTime
