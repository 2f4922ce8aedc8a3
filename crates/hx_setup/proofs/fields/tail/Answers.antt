use Rattle.std.proofs.Common.{◌≡◌, sym, ap, ◌∙◌}
use Rattle.std.proofs.lemmas.Result.{IfOk-at_ok}
use Rattle.hex.specs.Hex.{encode_lower}
use Rattle.hx_setup.proofs.Words.{decodes, decoded, ok_was, ok_gone, ok_retained, differ, agree}
use Rattle.hx_setup.proofs.fields.tail.Goals as goal

pub returns-in_err-tail-clause-none : goal.returns-in_err-tail-clause-none
returns-in_err-tail-clause-none c = rw c.from_residual.ensures (λ bytes long are e.
    ok_gone c.from_hex.result bytes c.ok.result (c.from_hex.ensures ∙ decodes c.args.text.now bytes long are e) c.ok.ensures.value c.in_err-tail.was)

pub returns-then-ne-clause-none : goal.returns-then-ne-clause-none
returns-then-ne-clause-none c = λ bytes long are e.
    let same = ok_retained c.from_hex.result bytes c.in_ok-tail.tail c.ok.result (c.from_hex.ensures ∙ decodes c.args.text.now bytes long are e) c.ok.ensures.value c.in_ok-tail.was in
    let written = IfOk-at_ok (λ _. c.encode_to_slice.new.output ≡ encode_lower c.in_ok-tail.tail) c.unwrap.ensures c.encode_to_slice.ensures.written in
    differ c.as_slice.result.now c.args.text.now c.if-ne.ensures (c.as_slice.ensures ∙ written ∙ ap encode_lower (sym same) ∙ sym e)

pub returns-clause-some : goal.returns-clause-some
returns-clause-some c =
    let size = decoded c.args.text.now c.in_ok-tail.tail (sym c.from_hex.ensures ∙ ok_was c.from_hex.result c.in_ok-tail.tail c.in_ok-tail.ensures.value) in
    let written = IfOk-at_ok (λ _. c.encode_to_slice.new.output ≡ encode_lower c.in_ok-tail.tail) c.unwrap.ensures c.encode_to_slice.ensures.written in
    (size.0, size.1, sym (agree c.as_slice.result.now c.args.text.now c.if-ne.ensures) ∙ c.as_slice.ensures ∙ written)
