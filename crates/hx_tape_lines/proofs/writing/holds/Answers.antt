use Rattle.std.proofs.Common.{arith}
use Rattle.hx_tape_lines.specs.Text.{Entry}
use Rattle.hx_tape_lines.proofs.Pairs.{byte_fits}
use Rattle.hx_tape_lines.proofs.Plain.{held}
use Rattle.hx_tape_lines.proofs.writing.holds.Goals as goal

pub returns : goal.returns
returns c =
    let e : Entry = record { time = c.args._time; member = c.args._member; bytes = c.args._bytes.now } in
    held e (omega (arith, c.well_formed)) (omega (arith, c.well_formed)) (λ i. byte_fits _ (c.type_inv._bytes i))
