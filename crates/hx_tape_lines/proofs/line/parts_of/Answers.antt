use Rattle.std.proofs.Common.{◌≡◌, ◌*◌, length, sym, ap, ◌∙◌, arith}
use Rattle.std.proofs.lemmas.Bool.{eqb-true}
use Rattle.std.proofs.lemmas.Fmt.{decimal_injective}
use Rattle.hex.specs.Hex.{encode_lower}
use Rattle.hx_tape_lines.proofs.Lines.{after_time, later_time, numbers_read, hex_length}
use Rattle.hx_tape_lines.proofs.line.parts_of.Goals as goal
use Rattle.hx_tape_lines.proofs.line.parts_of.Goals.{then-member-ge10000-via-then-member-ge10000, then-member-ge10000-via-else-member-ge10000+then-is_empty, then-member-ge10000-via-else-member-ge10000+else-is_empty+then-digits-gt2046}

pub returns-in_err-time-clause-none : goal.returns-in_err-time-clause-none
returns-in_err-time-clause-none c = rw c.from_residual.ensures (λ e fits is. c.in_err-time.ensures.none e.time (after_time e) fits.time is)

pub returns-in_err-member-clause-none : goal.returns-in_err-member-clause-none
returns-in_err-member-clause-none c = rw c.from_residual-in_err-member.ensures (λ e fits is.
    let time = c.in_ok-time.ensures.some in
    c.in_err-member.ensures.none e.member (encode_lower e.bytes) (omega (arith, fits.member)) (later_time e c.args.text.now c.in_ok-time.time c.in_ok-time.others.now fits is time.0 time.1))

pub returns-then-member-ge10000-clause-none : goal.returns-then-member-ge10000-clause-none
returns-then-member-ge10000-clause-none c = λ e fits is.
    let time = c.in_ok-time.ensures.some in
    let member = c.in_ok-member.ensures.some in
    let fields = numbers_read e c.args.text.now c.in_ok-time.others.now c.in_ok-member.digits.now c.in_ok-time.time c.in_ok-member.member fits is time.0 time.1 member.0 member.1 in
    let same = decimal_injective c.in_ok-member.member e.member (omega (arith, member.0)) (omega (arith, fits.member)) fields.member in
    let long : length c.in_ok-member.digits.now ≡ 2 * length e.bytes = ap length fields.hex ∙ hex_length e.bytes in
    elim c.then-member-ge10000.branch [
      | then-member-ge10000-via-then-member-ge10000 w ↦ omega (arith, fits.member, same, w.if-member-ge10000.true)
      | then-member-ge10000-via-else-member-ge10000+then-is_empty w ↦ let empty = eqb-true _ _ (sym w.if-is_empty.ensures) in omega (arith, fits.some, empty)
      | then-member-ge10000-via-else-member-ge10000+else-is_empty+then-digits-gt2046 w ↦ omega (arith, fits.few, w.if-digits-gt2046.true)
    ]
