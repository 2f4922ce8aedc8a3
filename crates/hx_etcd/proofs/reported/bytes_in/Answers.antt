use Rattle.std.proofs.Common.{◌≡◌, ℕ, List, refl, sym, ap, ◌∙◌}
use Rattle.std.specs.Result.{result_ok}
use Rattle.base64.specs.Engines.{standard}
use Rattle.base64.specs.GeneralPurpose.{decode_of}
use Rattle.json.specs.Value.{value_view}
use Rattle.hx_etcd.specs.Answers.{text_in, bytes_of}
use Rattle.hx_etcd.proofs.reported.bytes_in.Goals as goal

pub returns-in-Ok-clause-ok : goal.returns-in-Ok-clause-ok
unfolding bytes_of
returns-in-Ok-clause-ok c = record {
  text = c.in-Some.text.now;
  member = ap (λ (n : List ℕ). text_in n (value_view c.args.pair.now)) (sym c.name.ensures) ∙ sym c.in-Some.ensures;
  decodes = ap (λ (s : List ℕ). result_ok (decode_of standard s)) (sym c.as_bytes.ensures.value) ∙ ap result_ok c.in-Ok.ensures.ok;
}

pub returns-in-Err-DecodeError-clause-err : goal.returns-in-Err-DecodeError-clause-err
unfolding bytes_of
returns-in-Err-DecodeError-clause-err c = (
  refl,
  record {
    text = c.in-Some.text.now;
    member = ap (λ (n : List ℕ). text_in n (value_view c.args.pair.now)) (sym c.name.ensures) ∙ sym c.in-Some.ensures;
    none =
        let failed = rw c.in-Err-DecodeError.field-0-is at c.in-Err-DecodeError.ensures.err in
        ap (λ (s : List ℕ). result_ok (decode_of standard s)) (sym c.as_bytes.ensures.value) ∙ ap result_ok failed;
  },
)
