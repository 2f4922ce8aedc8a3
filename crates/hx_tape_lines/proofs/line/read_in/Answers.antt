use Rattle.std.proofs.Common.{ap, sym, subst, ◌∙◌}
use Rattle.hex.specs.Hex.{encode_lower, IsBytes}
use Rattle.hx_tape_lines.proofs.Lines.{parts_digits, parts_found}
use Rattle.hx_tape_lines.proofs.line.read_in.Goals as goal

pub returns-then-not-branch : goal.returns-then-not-branch
returns-then-not-branch c =
    let parts = c.in-Some.parts in
    record {
      found = tt;
      only = λ e fits is.
          c.in_ok-read_bytes.ensures.no c.if-not-branch.true e.bytes fits.are_bytes
          (parts_digits e c.args.text.now parts.time parts.member parts.digits.now fits c.in-Some.ensures.some is);
    }

pub returns : goal.returns
returns c =
    let parts = c.in-Some.parts in
    let read = c.in_ok-read_bytes.ensures.yes c.if-not-branch.false in
    let same = sym c.as_slice.ensures.value in
    record {
      found =
          parts_found c.args.text.now parts.time parts.member parts.digits.now c.as_slice.result.now c.in-Some.ensures.some
          (read.0 ∙ ap encode_lower same) (subst IsBytes same read.1);
      only = tt;
    }
