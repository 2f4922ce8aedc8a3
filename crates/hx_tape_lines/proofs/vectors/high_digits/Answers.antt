use Rattle.std.proofs.Common.{◌/◌, arith}
use Rattle.std.proofs.lemmas.Simd.{zip2_splat}
use Rattle.hx_tape_lines.specs.declared.vectors.TheConstants.{DIGITS}
use Rattle.hx_tape_lines.proofs.Lanes.{down, high_indices, looked_up}
use Rattle.hx_tape_lines.proofs.vectors.high_digits.Goals as goal

pub swizzle : goal.swizzle
swizzle c = high_indices c.args.bytes c.fits-bytes

pub returns : goal.returns
returns c = looked_up DIGITS (λ x. x / 16) c.args.bytes _ c.fits-bytes (zip2_splat down c.args.bytes 16 4 c.fits-bytes.0) (λ x h. omega arith)
