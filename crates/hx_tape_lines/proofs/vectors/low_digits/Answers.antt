use Rattle.std.proofs.Common.{ℕ, get_or, bit_and, ap, ◌∙◌, arith}
use Rattle.std.proofs.lemmas.Nat.{and_le_r, and_mask}
use Rattle.std.proofs.lemmas.Simd.{zip2_splat}
use Rattle.hx_tape_lines.specs.declared.vectors.TheConstants.{DIGITS}
use Rattle.hx_tape_lines.proofs.Lanes.{low_indices, looked_up, map_ext}
use Rattle.hx_tape_lines.proofs.vectors.low_digits.Goals as goal

pub swizzle : goal.swizzle
swizzle c = low_indices c.args.bytes c.fits-bytes

pub returns : goal.returns
returns c = looked_up DIGITS (λ x. bit_and x 15) c.args.bytes _ c.fits-bytes (zip2_splat bit_and c.args.bytes 16 15 c.fits-bytes.0) (λ x h. omega (arith, and_le_r x 15)) ∙ map_ext c.args.bytes (λ x. ap (λ (k : ℕ). get_or DIGITS k 0) (and_mask x 4))
