-- The head of a response: its position, and when there will be none.
use Rattle.std.proofs.Common.{◌≡◌, ◌≢◌, ◌&&◌, not, ℕ, ◌<◌, ◌≤◌, Bool, List, ◌++◌, length, map, take, drop, refl, sym, ap, ◌∙◌, subst, arith}
use Rattle.std.specs.Prelude.{Result, Ok, Err, nat_lt, nat_le}
use Rattle.std.proofs.lemmas.List.{length-map, length-take-le}
use Rattle.httparse.specs.Grammar.{Field, ResponseHead, print_response, ReadsResponse, HasNoResponse, status_code}
use Rattle.httparse.specs.Spans.{header_bytes, name_and_value, AreFieldsAt, IsSectionWithin, IsResponseAt, IsResponseWithin, ResponseOverflows}
use Rattle.httparse.specs.declared.spans.HeaderSpan.{HeaderSpan}
use Rattle.httparse.specs.declared.spans.ResponseSpans.{ResponseSpans}
use Rattle.httparse.proofs.GrammarLemmas.{response_prefix_free}
use Rattle.http1.specs.declared.fields.KnownFields.{KnownFields}
use Rattle.http1.specs.declared.framing.Framing.{Framing}
use Rattle.http1.specs.declared.framing.Framing.TheVariants.{UntilClose}
use Rattle.http1.specs.declared.framing.FramingError.{FramingError}
use Rattle.http1.specs.declared.framing.MethodKind.TheVariants.{Other}
use Rattle.http1.specs.Fields.{known_fields}
use Rattle.http1.specs.Framing.{response_framing}
use Rattle.http1.specs.Message.{known_of}
use Rattle.http1.proofs.TextLemmas.{front_within}
use Rattle.hx_etcd.specs.declared.response.Head.{Head}
use Rattle.hx_etcd.specs.Pieces.{Tells, IsHeadOf}
use Rattle.hx_etcd.specs.Responses.{most_head, most_fields, framing_of, is_persistent, HasHead, NeverHasHead, RunsToClose}

-- ---- there will be no head

-- it would be too long
pub is_too_long : (input : List ℕ) → HasNoResponse input → most_head ≤ length input → NeverHasHead input
is_too_long input none long more h f rest =
    λ has. none h (drop (length (print_response h)) input) (has.reads.0, front_within input more (print_response h) rest has.reads.1 (omega (arith, has.short, long)))

-- the head that is there is the head of all that begins so
pub is_refused : (input : List ℕ) (h : ResponseHead) (rest : List ℕ) → ReadsResponse input h rest → ((f : Framing) → length (print_response h) ≤ most_head → framing_of h ≡ Ok f → f ≢ UntilClose → ⊥) → NeverHasHead input
is_refused input h rest reads bad more k f later = λ has.
    let same : h ≡ k = (response_prefix_free input more h k rest later reads has.reads).0 in
    bad f (subst (λ (x : ResponseHead). length (print_response x) ≤ most_head) (sym same) has.short) (ap framing_of same ∙ has.framed) has.ends

-- the head that is there is too long
pub passes_limit : (input : List ℕ) (spans : List HeaderSpan) (r : ResponseSpans) (h : ResponseHead) → IsResponseAt input spans r h → most_head < r.len → NeverHasHead input
passes_limit input spans r h at long = is_refused input h (drop r.len input) at.reads (λ f short framed ends. omega (arith, long, short, at.len))

-- ---- the spans of a head

pub fields_fit : (input : List ℕ) (spans : List HeaderSpan) (count : ℕ) (fields : List Field) → AreFieldsAt input spans count fields → count ≤ length spans → length fields ≤ length spans
fields_fit input spans count fields are fits =
    omega (arith, fits, ap length are, length-map (take count spans) (header_bytes input), length-map fields name_and_value, length-take-le count spans fits)

module _ (input : List ℕ) (spans : List HeaderSpan) (r : ResponseSpans) (known : KnownFields) (h : ResponseHead) (at : IsResponseAt input spans r h) (known_is : known ≡ known_fields (map (header_bytes input) (take r.headers spans))) where
  fields_known : known ≡ known_of h.fields
  fields_known = known_is ∙ ap known_fields at.fields

  pub framed_so : response_framing Other r.code r.version known ≡ framing_of h
  framed_so =
      ap (λ (c : ℕ). response_framing Other c r.version known) at.code
      ∙ ap (λ (v : ℕ). response_framing Other (status_code h) v known) at.version
      ∙ ap (λ (k : KnownFields). response_framing Other (status_code h) h.minor k) fields_known

  pub has_no_framing : (e : FramingError) → response_framing Other r.code r.version known ≡ Err e → NeverHasHead input
  has_no_framing e failed = is_refused input h (drop r.len input) at.reads (λ f short framed ends. let bad : Err e ≡ Ok f = sym failed ∙ framed_so ∙ framed in cc bad)
