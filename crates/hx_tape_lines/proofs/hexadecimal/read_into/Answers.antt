use Rattle.std.proofs.Common.{refl, arith, true≢false}
use Rattle.hex.specs.Hex.{encode_with}
use Rattle.hx_tape_lines.proofs.Pairs.{digits_read, digits_unread, set_bytes, byte_fits}
use Rattle.hx_tape_lines.proofs.hexadecimal.read_into.Goals as goal

pub loop-i-init : goal.loop-i-init
unfolding encode_with
loop-i-init c = record { so_far = λ _. refl; none = λ is. absurd (true≢false is); are_bytes = λ k. byte_fits _ (c.type_inv.bytes k) }

pub loop-i-preserved : goal.loop-i-preserved
loop-i-preserved c = record {
  so_far = digits_read c.args.text.now c.loop-i.bytes c.loop-i.i c.value_of-high.result c.value_of-low.result c.loop-i.are_digits (omega arith) (omega arith) c.value_of-high.ensures.digit c.value_of-low.ensures.digit c.loop-i.invariant.so_far;
  none = λ is others fits. digits_unread c.args.text.now others c.loop-i.i c.value_of-high.result c.value_of-low.result c.loop-i.are_digits (omega arith) c.value_of-high.ensures.none c.value_of-low.ensures.none (λ no. c.loop-i.invariant.none no others fits) is fits;
  are_bytes = set_bytes c.loop-i.bytes c.loop-i.i _ c.loop-i.invariant.are_bytes (omega arith);
}
