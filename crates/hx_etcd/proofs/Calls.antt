-- An answer is a head and the body after it; what lacks the one or the other is none.
use Rattle.std.specs.Prelude.{Option, Some, None, Result, Ok, ◌==◌}
use Rattle.std.specs.Io.KnownBytes.{Consumes}
use Rattle.std.proofs.Common.{◌≡◌, ◌≢◌, ◌&&◌, not, Bool, ℕ, ◌<◌, List, [], ◌++◌, length, refl, sym, ap, ◌∙◌, subst, arith, append_assoc, length-append}
use Rattle.httparse.specs.Grammar.{ResponseHead, print_response, ReadsResponse}
use Rattle.httparse.proofs.GrammarLemmas.{ReadsResponse-append, response_prefix_free}
use Rattle.http1.specs.declared.framing.Framing.{Framing}
use Rattle.hx_etcd.specs.declared.response.CallError.{CallError}
use Rattle.hx_etcd.specs.declared.response.CallError.TheVariants.{Over, Stream, Ended, Http, NoLength, TooLong, NoMemory}
use Rattle.hx_etcd.specs.declared.response.Head.{Head}
use Rattle.hx_etcd.specs.declared.reported.Answer.{Answer}
use Rattle.hx_etcd.specs.Responses.{framing_of, HasHead, HasBody, LacksBody, NeverHasBody, LacksHead, NeverHasHead, IsAnswer, LacksAnswer, NeverHasAnswer}
use Rattle.hx_etcd.specs.Connections.{most_body, Comes, HeadComes, BodyComes, AnswerComes, OnceCome, IsHeadFault, IsBodyFault, IsCallFault}
use Rattle.hx_etcd.proofs.Streams.{more_comes}

-- ---- no answer

no_answer : (whole middle came : List ℕ) (h : ResponseHead) (framing : Framing) → HasHead whole h framing middle → LacksBody framing (middle ++ came) → LacksAnswer (whole ++ came)
no_answer whole middle came h framing has bad k body rest = λ is.
    let same = response_prefix_free whole came h k middle is.later has.reads is.head.reads in
    let alike : Ok framing ≡ Ok is.framing = sym has.framed ∙ ap framing_of same.0 ∙ is.head.framed in
    let framed : is.framing ≡ framing = cc alike in
    let there : HasBody (middle ++ came) is.framing body rest = subst (λ (l : List ℕ). HasBody l is.framing body rest) (sym same.1) is.content in
    bad body rest (subst (λ (f : Framing). HasBody (middle ++ came) f body rest) framed there)

never_answer : (whole middle came : List ℕ) (h : ResponseHead) (framing : Framing) → HasHead whole h framing middle → NeverHasBody framing (middle ++ came) → NeverHasAnswer (whole ++ came)
never_answer whole middle came h framing has bad more =
    let further : LacksBody framing (middle ++ (came ++ more)) = subst (λ (l : List ℕ). LacksBody framing l) (append_assoc middle came more) (bad more) in
    subst (λ (l : List ℕ). LacksAnswer l) (sym (append_assoc whole came more)) (no_answer whole middle (came ++ more) h framing has further)

-- no head came
pub head_fails : (a b : Option (List ℕ)) (before : List ℕ) (e : CallError) → IsHeadFault a b before e → IsCallFault a b before e
head_fails a b before Over fault = absurd fault
head_fails a b before (Stream e) fault = tt
head_fails a b before Ended fault = (
  fault.0,
  record {
    whole = fault.1.whole;
    comes = fault.1.comes;
    is_so = λ h body rest. λ is. fault.1.is_so h is.framing is.later is.head;
  },
)
head_fails a b before (Http e) fault = record {
  whole = fault.whole;
  comes = fault.comes;
  is_so = λ more h body rest. λ is. fault.is_so more h is.framing is.later is.head;
}
head_fails a b before NoLength fault = fault
head_fails a b before TooLong fault = absurd fault
head_fails a b before NoMemory fault = tt

-- ---- a head, and what comes after it

module _ (a b c : Option (List ℕ)) (before middle : List ℕ) (head : Head) (h : HeadComes a b before head middle) where
  all_comes : (came : List ℕ) → Consumes b c came → Comes a c before (h.whole ++ came)
  all_comes came consumed = more_comes a b c before h.whole (h.whole ++ came) h.comes (record { came = came; consumed = consumed; added = refl })

  -- no body came
  pub body_fails : (e : CallError) → IsBodyFault b c middle head.framing e → IsCallFault a c before e
  body_fails Over fault = absurd fault
  body_fails (Stream e) fault = tt
  body_fails Ended fault =
      let end = fault h.has.ends in
      let came = end.1.comes.came in (
        end.0,
        record {
          whole = h.whole ++ came;
          comes = all_comes came end.1.comes.consumed;
          is_so = no_answer h.whole middle came h.response head.framing h.has (subst (λ (l : List ℕ). LacksBody head.framing l) end.1.comes.added end.1.is_so);
        },
      )
  body_fails (Http e) fault =
      let came = fault.comes.came in
      record {
        whole = h.whole ++ came;
        comes = all_comes came fault.comes.consumed;
        is_so = never_answer h.whole middle came h.response head.framing h.has (subst (λ (l : List ℕ). NeverHasBody head.framing l) fault.comes.added fault.is_so);
      }
  body_fails NoLength fault = absurd fault
  body_fails TooLong fault =
      let came = fault.comes.came in
      record {
        whole = h.whole ++ came;
        comes = all_comes came fault.comes.consumed;
        is_so = omega (arith, fault.is_so, ap length fault.comes.added, length-append middle came, length-append h.whole came, ap length h.has.reads.1, length-append (print_response h.response) middle);
      }
  body_fails NoMemory fault = tt

  -- a body came
  pub answer_comes : (rest : List ℕ) (answer : Answer) (is_over : Bool) → BodyComes b c middle head.framing answer.body.items rest → answer.status ≡ head.status → is_over ≡ not (head.is_persistent && (length rest == 0)) → AnswerComes a c before answer rest is_over
  answer_comes rest answer is_over k same over =
      let came = k.comes.came in
      record {
        whole = h.whole ++ came;
        comes = all_comes came k.comes.consumed;
        head = h.response;
        is = record {
          framing = head.framing;
          later = k.whole;
          head = record {
            reads = subst (λ (l : List ℕ). ReadsResponse (h.whole ++ came) h.response l) (sym k.comes.added) (ReadsResponse-append h.whole h.response middle came h.has.reads);
            short = h.has.short;
            few = h.has.few;
            framed = h.has.framed;
            ends = h.has.ends;
          };
          content = k.has;
        };
        status = same ∙ h.tells.status;
        over = over ∙ ap (λ (t : Bool). not (t && (length rest == 0))) h.tells.persistent;
      }
