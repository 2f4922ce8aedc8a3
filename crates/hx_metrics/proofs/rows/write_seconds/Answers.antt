-- A number has digits.
use Rattle.std.proofs.Common.{◌≡◌, ◌+◌, ◌%◌, ◌<◌, ◌∙◌, length, ap, arith}
use Rattle.std.specs.Fmt.{decimal}
use Rattle.std.proofs.lemmas.Fmt.{decimal_nonempty}
use Rattle.hx_metrics.proofs.rows.write_seconds.Goals as goal

pub after_first-requires : goal.after_first-requires
after_first-requires c =
    let some : 0 < length (decimal (1000000000 + c.args.nanos % 1000000000)) = decimal_nonempty _ (omega arith) in
    let same : length c.as_bytes-fraction.result.now ≡ length (decimal (1000000000 + c.args.nanos % 1000000000)) = ap length (c.as_bytes-fraction.ensures.value ∙ c.format.ensures.text) in
    omega (arith, some, same)
